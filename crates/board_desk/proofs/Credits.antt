-- The credits that are out are those of the eight parts.
use Rattle.std.proofs.Common.{List, [], ap, arith, length, refl, sym, suc, zero, ℕ, ◌∙◌, ◌∷◌, ◌≡◌, ◌<◌}
use Rattle.std.proofs.Math.Logic.{∥∥₁_elim}
use Rattle.std.proofs.Math.Nat.{ℕ_set}
use Rattle.std.proofs.lemmas.List.Sums.{sum_by-cons}
use Rattle.std.specs.List.{sum_by}
use Rattle.std.specs.Prelude.{Option, Some, None, slice_index_or}
use Rattle.channel_locks.specs.Slots.{IsPartWhereDue}
use Rattle.channel_locks.specs.declared.parts_name.PartsName.{Ghosts as PartsGhosts}
use Rattle.channel_log.specs.Log.{LogNote, credits_of}
use Rattle.channel_locks.specs.declared.part.Part.{Part}
use Rattle.channel_port.specs.Waits.{Waits}
use Rattle.channel_port.specs.declared.port.ChannelPort.{Ghosts}
use Rattle.nv_machine.specs.State.{Machine}
use Rattle.split_module.proofs.ToldOf.{credits_told}
use Rattle.board_desk.specs.Credits.{AreParts, owed_in}
use Rattle.board_desk.specs.Desk.{AreBoardLogs, DeskStands, DeskView, setup_at}

-- the sums over two lists, whose elements come to the same one by one
same_sums : {X Y : Type 0} (f : X → ℕ) (g : Y → ℕ) (xs : List X) (ys : List Y) (x : X) (y : Y) → length xs ≡ length ys
    → ((i : ℕ) → i < length xs → f (slice_index_or xs i x) ≡ g (slice_index_or ys i y)) → sum_by f xs ≡ sum_by g ys
same_sums f g [] [] x y same each = refl
same_sums f g [] (b ∷ ys) x y same each = absurd (omega (arith, same))
same_sums f g (a ∷ xs) [] x y same each = absurd (omega (arith, same))
same_sums f g (a ∷ xs) (b ∷ ys) x y same each =
    let here : f a ≡ g b = each zero (omega arith) in
    let later : sum_by f xs ≡ sum_by g ys = same_sums f g xs ys x y (omega (arith, same)) (λ i less. each (suc i) (omega (arith, less))) in
    omega (arith, sum_by-cons f a xs, sum_by-cons g b ys, here, later)

module _ {K B : Type 0} (L : Ghosts K) (P : PartsGhosts B) where
  owed : (part : Option (Part K L)) (channel : ℕ) (logs : List (List LogNote)) → AreBoardLogs P.ports logs → IsPartWhereDue L P part channel (slice_index_or logs channel [])
      → credits_of (slice_index_or logs channel []) ≡ owed_in L P part
  owed None channel logs are beyond = ap (λ (w : Waits). length w.writes) (are.none channel beyond)
  owed (Some part) channel logs are due =
      let covered = part.covered in let credits = due.1.stands.credits in
      omega (arith, covered, credits)

  pub adds_up : (desk : DeskView) (m : Machine) (parts : List (Option (Part K L))) → DeskStands P desk m → AreParts L P desk.logs parts → desk.split.out ≡ sum_by (owed_in L P) parts
  adds_up desk m parts s are =
      s.stands.out ∙ sym (credits_told (setup_at P desk) m desk.logs s.stands.told)
      ∙ same_sums credits_of (owed_in L P) desk.logs parts [] None (s.logs_are.eight ∙ sym are.eight)
      (λ i less. let within : i < 8 = let eight = s.logs_are.eight in omega (arith, less, eight) in ∥∥₁_elim (are.each i within) (ℕ_set _ _) (λ due. owed (slice_index_or parts i None) i desk.logs s.logs_are due))
