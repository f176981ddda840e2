use Rattle.std.proofs.Math.Seq.{take-length}
use Rattle.slot_store.proofs.Common.{ℕ, ◌∙◌, ◌≡◌, List, ap, arith, drop, length, length-drop, take}
use Rattle.slot_store.proofs.saving.tail_of.Goals as goal

rest_is : (xs : List ℕ) → length xs ≡ 4096 → take 4095 (drop 1 xs) ≡ drop 1 xs
rest_is xs n = ap (λ (k : ℕ). take k (drop 1 xs)) (let e : 4095 ≡ length (drop 1 xs) = omega (arith, length-drop 1 xs) in e) ∙ take-length (drop 1 xs)

pub returns-clause-tail : goal.returns-clause-tail
returns-clause-tail c = rest_is c.args.header.now (omega arith)
