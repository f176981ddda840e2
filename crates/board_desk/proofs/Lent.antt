-- Ports that their channels lend.
use Rattle.std.proofs.Common.{List, Option, None, Some, [], ap, arith, length, subst, suc, sym, zero, ℕ, ◌++◌, ◌+◌, ◌<◌, ◌∙◌, ◌∷◌, ◌≡◌, ◌≤◌}
use Rattle.std.proofs.Math.Logic.{∥∥₁_elim, ∥∥₁_map}
use Rattle.std.specs.Coded.{le_prop}
use Rattle.std.proofs.Math.Nat.{ℕ_set}
use Rattle.std.specs.Prelude.{min, slice_get, slice_index_or}
use Rattle.std.proofs.lemmas.List.{length_push}
use Rattle.std.proofs.lemmas.Option.{same_Some, slice_get_within}
use Rattle.channel_locks.specs.declared.parts_name.PartsName.{Ghosts as PartsGhosts}
use Rattle.channel_locks.specs.PortMakes.{make_of}
use Rattle.channel_locks.specs.Slots.{IsPartWhereDue}
use Rattle.channel_locks.specs.Unlocked.{port_in}
use Rattle.channel_log.specs.Log.{IsLogOf, LogNote, log_tells}
use Rattle.channel_locks.specs.declared.part.Part.{Part}
use Rattle.channel_port.specs.declared.port.ChannelPort.{Ghosts}
use Rattle.board_desk.specs.Answering.{SameElsewhere, SettlesPart}
use Rattle.board_desk.specs.Loans.{HaveLent, IsLent, IsReadyToLend}

-- what is true of each and of one that is pushed
pushed : {X : Type 0} (P : ℕ → X → Type 0) (xs : List X) (y : X) → ((i : ℕ) (x : X) → slice_get xs i ≡ Some x → P i x) → P (length xs) y → (i : ℕ) (x : X) → slice_get (xs ++ y ∷ []) i ≡ Some x → P i x
pushed P [] y each last zero x at = subst (P zero) (same_Some y x at) last
pushed P [] y each last (suc i) x at = absurd (let bad : ⊥ = cc in bad)
pushed P (z ∷ xs) y each last zero x at = each zero x at
pushed P (z ∷ xs) y each last (suc i) x at = pushed (λ k. P (suc k)) xs y (λ k v there. each (suc k) v there) last i x at

-- a part that was settled has its port
pub settled_port : {K : Type 0} (L : Ghosts K) (old new : Option (Part K L)) → SettlesPart L old new → port_in L new ≡ port_in L old
settled_port L None new settled = ap (port_in L) settled
settled_port L (Some old) new (later, is, same) = ap (port_in L) is ∙ ap (λ port. port ∷ []) same.port

module _ {K B : Type 0} (L : Ghosts K) (P : PartsGhosts B) where
  pub beyond : (part : Option (Part K L)) (number : ℕ) (log : List LogNote) → part ≡ None → ∥ IsPartWhereDue L P part number log ∥₁ → P.ports ≤ number
  beyond part number log none due = ∥∥₁_elim (subst (λ p. ∥ IsPartWhereDue L P p number log ∥₁) none due) le_prop (λ h. h)

  pub within : (part : Option (Part K L)) (it : Part K L) (number : ℕ) (log : List LogNote) → part ≡ Some it → ∥ IsPartWhereDue L P part number log ∥₁ → number < P.ports
  within part it number log is due = ∥∥₁_elim (subst (λ p. ∥ IsPartWhereDue L P p number log ∥₁) is due) le_prop (λ h. h.0)

  -- a channel that the board lacks lends no port
  pub have_none : (logs : List (List LogNote)) (number : ℕ) (ports : List K) → P.ports ≤ number → HaveLent L P logs number ports → HaveLent L P logs (number + 1) ports
  have_none logs number ports none have = let count = have.count in record { count = omega (arith, count, none); made = have.made; each = have.each }

  -- a channel lends its port
  pub have_one : (logs : List (List LogNote)) (number : ℕ) (ports : List K) (part : Part K L) (log : List LogNote) → IsLogOf logs number log → IsReadyToLend L (Some part) log
      → IsPartWhereDue L P (Some part) number log → HaveLent L P logs number ports → HaveLent L P logs (number + 1) (ports ++ part.port ∷ [])
  have_one logs number ports part log of ready due have =
      let count = have.count in
      let here = due.0 in
      let size : length ports ≡ number = omega (arith, count, here) in
      let more = length_push ports part.port in
      let stands = due.1.stands in
      let lent : IsLent L P (log_tells log) number part.port = record {
        stands = stands.port;
        waits = ready.1;
        reads = due.1.reads;
        stage = λ going. part.mains (stands.ended ∙ going);
      } in
      record {
        count = omega (arith, size, more, here);
        made = pushed (λ i port. make_of (L.view port) ≡ P.make) ports part.port have.made due.1.made;
        each = pushed (λ i port. IsLent L P (log_tells (slice_index_or logs i [])) i port) ports part.port have.each
            (subst (λ i. IsLent L P (log_tells (slice_index_or logs i [])) i part.port) (sym size) (subst (λ (l : List LogNote). IsLent L P (log_tells l) number part.port) (sym of.same) lent));
      }

  -- its port is one of the board's
  pub made_part : (lent : Option (Part K L)) (part : Part K L) (port : K) (number : ℕ) (log : List LogNote) → lent ≡ Some part → port ≡ part.port → ∥ IsPartWhereDue L P lent number log ∥₁ → ∥ make_of (L.view port) ≡ P.make ∥₁
  made_part lent part port number log is same due =
      ∥∥₁_map (subst (λ p. ∥ IsPartWhereDue L P p number log ∥₁) is due) (λ h. ap (λ (p : K). make_of (L.view p)) same ∙ h.1.made)

  -- no channel has lent its port
  pub have_none_yet : (logs : List (List LogNote)) (ports : List K) → ports ≡ [] → ∥ HaveLent L P logs 0 ports ∥₁
  have_none_yet logs ports none =
      ∣ record {
        count = (let size = ap length none in omega (arith, size));
        made = λ i port at. absurd (let within = slice_get_within ports i port at in let size = ap length none in omega (arith, within, size));
        each = λ i port at. absurd (let within = slice_get_within ports i port at in let size = ap length none in omega (arith, within, size));
      } ∣₁

  -- what is known of a channel that has not lent its port says nothing of those that have
  pub have_elsewhere : (number : ℕ) (old new : List (List LogNote)) (ports : List K) → SameElsewhere number old new → HaveLent L P old number ports → HaveLent L P new number ports
  have_elsewhere number old new ports same have = record {
    count = have.count;
    made = have.made;
    each = λ i port at.
        let within = slice_get_within ports i port at in
        let count = have.count in
        subst (λ (l : List LogNote). IsLent L P (log_tells l) i port) (sym (same i (λ e. absurd (omega (arith, within, count, e))))) (have.each i port at);
  }

  -- so many have
  pub count_lent : (logs : List (List LogNote)) (number : ℕ) (ports : List K) → ∥ HaveLent L P logs number ports ∥₁ → length ports ≡ min number P.ports
  count_lent logs number ports have = ∥∥₁_elim have (ℕ_set _ _) (λ h. h.count)
