-- Which ranks had their SRE, after one more command.
use Rattle.std.proofs.Common.{◌≡◌, ℕ, ◌==◌, false, IsTrue, List, [], ◌∷◌, ◌++◌, Some, inl, inr, refl, ap, ◌∙◌}
use Rattle.std.proofs.lemmas.Bool.{and_parts, or_cases, or_left}
use Rattle.chan_core.proofs.Common.{AreAsleep, AreAwake, Checked, Command, IsCandidate, IsNext, Next, OfColumn, OfRank, OfRow, Pending, Read, Stamped, Turn, Write, column_of, is_asleep, is_sre, is_sre_of, rank_of}
use Rattle.ddr4_timing.proofs.FloorLemmas.{is_asleep_push}

pub asleep-more : (c : Checked) (list : List Stamped) (x : Stamped) → AreAsleep c list → AreAsleep c (list ++ x ∷ [])
asleep-more c list x asleep rank within = rw (is_asleep_push rank list x) (or_left (is_asleep rank list) (is_sre_of rank x.cmd) (asleep rank within))

pub awake-more : (c : Checked) (list : List Stamped) (x : Stamped) → is_sre x.cmd ≡ false → AreAwake c list → AreAwake c (list ++ x ∷ [])
awake-more c list x none awake rank within h =
    elim (or_cases (is_asleep rank list) (is_sre_of rank x.cmd) (rw (is_asleep_push rank list x) at h)) [
      | inl before ↦ awake rank within before
      | inr now ↦ let some = (and_parts (is_sre x.cmd) (rank_of x.cmd == rank) now).0 in absurd cc
    ]

candidate-awake : (c : Checked) (list : List Stamped) (pending : List Pending) (clock : ℕ) (turn : Turn) (cmd : Command) → IsCandidate c list pending clock turn cmd → is_sre cmd ≡ false
candidate-awake c list pending clock (OfRank rank) cmd offers = elim offers.kind [ inl e ↦ ap is_sre e | inr e ↦ ap is_sre e ]
candidate-awake c list pending clock (OfColumn p) cmd (i, eligible, may, wants) = ap is_sre wants.1 ∙ elim p.kind as (λ kind. is_sre (column_of kind p.place) ≡ false) [ Read ↦ refl | Write ↦ refl ]
candidate-awake c list pending clock (OfRow p) cmd (i, eligible, may, wants) = elim wants [ inl w ↦ ap is_sre w.1 | inr w ↦ ap is_sre w.2 ]

-- the scheduler sends no rank to sleep
pub chosen-awake : (c : Checked) (list : List Stamped) (pending : List Pending) (now : ℕ) (next : Next) → IsNext c list pending now (Some next) → is_sre next.cmd ≡ false
chosen-awake c list pending now next is = candidate-awake c list pending next.clock is.turn next.cmd is.choice.candidate

-- before any command each rank is awake
pub new-awake : (rank : ℕ) → ¬ IsTrue (is_asleep rank [])
unfolding is_asleep
new-awake rank h = absurd cc
