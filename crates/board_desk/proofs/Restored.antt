-- Ports that come back to their channels.
use Rattle.std.proofs.Common.{List, Option, None, Some, [], ap, arith, false, length, refl, subst, suc, sym, take, zero, ℕ, ◌++◌, ◌+◌, ◌<◌, ◌∙◌, ◌∷◌, ◌≡◌, ◌≤◌}
use Rattle.std.proofs.lemmas.Option.{same_Some}
use Rattle.std.proofs.Math.Logic.{∥∥₁_elim, ∥∥₁_map, ∥∥₁_prop}
use Rattle.std.proofs.Math.Nat.{ℕ_set}
use Rattle.std.proofs.Props.{props}
use Rattle.split_module.specs.Gathering.{FitAsModule}
use Rattle.split_module.specs.declared.gathering.SplitModule.{SplitModule}
use Rattle.std.specs.Prelude.{Bool, slice_get}
use Rattle.channel_locks.specs.declared.parts_name.PartsName.{Ghosts as PartsGhosts}
use Rattle.channel_locks.specs.PortMakes.{make_of}
use Rattle.channel_locks.specs.Slots.{IsPartWhereDue, IsSlotKept}
use Rattle.channel_log.specs.Log.{LogNote, Told, credits_of, log_tells}
use Rattle.channel_log.specs.ReadLines.{ReadsHaveLines}
use Rattle.channel_log.specs.Seats.{OneLog}
use Rattle.channel_locks.specs.declared.part.Part.{Part}
use Rattle.channel_locks.specs.Stands.{PartStands, PortStands}
use Rattle.channel_port.specs.declared.port.ChannelPort.{Ghosts}
use Rattle.channel_port.specs.declared.stage.Stage.TheVariants.{OnMains}
use Rattle.board_desk.specs.Loans.{ComesBack, IsLent, restated}

-- nothing stands from the end of a list on
pub absent : {X : Type 0} (xs : List X) (i : ℕ) → slice_get xs i ≡ None → length xs ≤ i
absent [] i none = omega arith
absent (x ∷ xs) zero none = absurd (let bad : ⊥ = cc in bad)
absent (x ∷ xs) (suc i) none = let rest = absent xs i none in omega (arith, rest)

-- the last one stands behind the others
pub last_some : {X : Type 0} (xs : List X) (i : ℕ) (x : X) → slice_get xs i ≡ Some x → length xs ≤ i + 1 → xs ≡ take i xs ++ x ∷ []
last_some [] i x at most = absurd (let bad : ⊥ = cc in bad)
last_some (y ∷ []) zero x at most = ap (λ z. z ∷ []) (same_Some y x at)
last_some (y ∷ z ∷ xs) zero x at most = absurd (omega (arith, most))
last_some (y ∷ xs) (suc i) x at most = ap (λ rest. y ∷ rest) (last_some xs i x at (omega (arith, most)))

-- and there is no other where it doesn't stand there
pub last_none : {X : Type 0} (xs : List X) (i : ℕ) → slice_get xs i ≡ None → xs ≡ take i xs ++ []
last_none [] zero none = refl
last_none [] (suc i) none = refl
last_none (y ∷ xs) zero none = absurd (let bad : ⊥ = cc in bad)
last_none (y ∷ xs) (suc i) none = ap (λ rest. y ∷ rest) (last_none xs i none)

module _ {K B : Type 0} (L : Ghosts K) (P : PartsGhosts B) where
  -- what is known of a port that comes back to its channel
  module _ (hold : Option ℕ) (ended : Bool) (number : ℕ) (told : Told) (ports : List K) (port : K) (at : slice_get ports number ≡ Some port) (due : ∥ ComesBack L P hold ended number told ports ∥₁) where
    back : ∥ IsLent L P (restated hold ended (L.view port).waits told) number port ∥₁
    back = ∥∥₁_map due (λ comes. comes port at)

    pub number_back : number ≡ (L.view port).number
    number_back = ∥∥₁_elim back (ℕ_set _ _) (λ lent. sym lent.stands.number)

    pub stage_back : ended ≡ false → (L.view port).stage ≡ OnMains
    stage_back going = ∥∥₁_elim back (hlevel props) (λ lent. lent.stage going)

    -- the part that the port makes again
    pub part_back : (part : Part K L) (log : List LogNote) → log_tells log ≡ restated hold ended (L.view port).waits told → number < P.ports
        → ((base : List (List ℕ)) (log : List LogNote) → PortStands L port number base (log_tells log) → credits_of log ≡ length (L.view port).waits.writes → ended ≡ (log_tells log).ended → PartStands L part number base log)
        → part.port ≡ port → ∥ make_of (L.view port) ≡ P.make ∥₁ → ∥ IsPartWhereDue L P (Some part) number log ∥₁
    part_back part log told_is here stands same made = ∥∥₁_elim made ∥∥₁_prop (λ make. ∥∥₁_map back (λ lent. (
      here,
      record {
        stands = stands P.base log (subst (PortStands L port number P.base) (sym told_is) lent.stands) (ap (λ (t : Told). length t.waits.writes) told_is) (sym (ap (λ (t : Told). t.ended) told_is));
        made = ap (λ (p : K). make_of (L.view p)) same ∙ make;
        reads = subst (ReadsHaveLines P.base) (sym told_is) lent.reads;
      },
    )))

module _ {K : Type 0} (L : Ghosts K) where
  pub fits_lent : (pieces : SplitModule K) → ∥ FitAsModule L pieces ∥₁ → FitAsModule L pieces
  fits_lent pieces fit = ∥∥₁_elim fit (hlevel props) (λ f. f)

-- the seat is the channel's as before
pub slot_back : {K B : Type 0} (L : Ghosts K) (P : PartsGhosts B) (part : Option (Part K L)) (old new : OneLog) (number : ℕ) → old.table ≡ P.logs → old.channel ≡ number → new ≡ record old { log = new.log }
    → ∥ IsPartWhereDue L P part number new.log ∥₁ → IsSlotKept L P part new number
slot_back L P part old new number table channel same due = record {
  table = ap (λ (s : OneLog). s.table) same ∙ table;
  channel_is = ap (λ (s : OneLog). s.channel) same ∙ channel;
  part_is = due;
}
