-- As many writes wait no more as entries were paid for.
use Rattle.std.specs.List.{flat_map}
use Rattle.std.specs.Prelude.{count_by, nat_le, replicate, sum_by}
use Rattle.std.proofs.Common.{cond, eqb}
use Rattle.std.proofs.lemmas.Bool.{cases_order, eq-eqb, le-leb, lt-leb, ne_eqb}
use Rattle.std.proofs.lemmas.Grind.{flat_map-append}
use Rattle.std.proofs.lemmas.List.{length-drop}
use Rattle.std.proofs.lemmas.List.Sums.{count_by-le-length, sum_by-append, sum_by-cons, sum_by-take-le}
use Rattle.energy_budget.specs.declared.action.Action.TheVariants.{CloseGate, OpenGate, Sync, WriteHeader, WritePage}
use Rattle.energy_budget.specs.Actions.{drain_actions, page_actions, save_actions}
use Rattle.channel_port.proofs.Entries.{alone-entries, entries-both, entries-whole, order-entries}
use Rattle.channel_port.specs.Draining.{each_alone, entries_in, is_entry, payments_in}
use Rattle.channel_port.specs.Waits.{is_write_on, writes_on}
use Rattle.channel_port.specs.declared.waiting.Waiting.{Waiting}
use Rattle.slot_store.specs.Tries.{tried}
use Rattle.nv_machine.specs.Losses.{ComesNext, drains_of, steps_of}
use Rattle.nv_machine.proofs.Common.{Action, Bool, DrainOrder, EndsDark, List, Machine, Setup, World, [], ap, append-nil, arith, false, inl, inr, length, refl, suc, true, zero, ℕ, ◌++◌, ◌+◌, ◌∙◌, ◌∷◌, ◌≡◌, ◌≤◌, pending_each}

abbrev one_if : Bool → ℕ
one_if b = cond b 1 0

-- how many are those of this channel or of a later one
abbrev from_channel : ℕ → List Waiting → ℕ
from_channel channel ws = count_by (λ w. nat_le channel w.channel) ws

one_from : (n channel : ℕ) → one_if (eqb channel n) + one_if (nat_le (suc n) channel) ≤ one_if (nat_le n channel)
one_from n channel = elim (cases_order channel n) [
  | inl same ↦
      let here : one_if (eqb channel n) ≡ 1 = ap one_if (eq-eqb channel n same) in
      let past : one_if (nat_le (suc n) channel) ≡ 0 = ap one_if (lt-leb (suc n) channel (omega (arith, same))) in
      let all : one_if (nat_le n channel) ≡ 1 = ap one_if (le-leb n channel (omega (arith, same))) in
      omega (arith, here, past, all)
  | inr (inl less) ↦
      let here : one_if (eqb channel n) ≡ 0 = ap one_if (ne_eqb channel n (λ e. absurd (omega (arith, less, e)))) in
      let past : one_if (nat_le (suc n) channel) ≡ 0 = ap one_if (lt-leb (suc n) channel (omega (arith, less))) in
      omega (arith, here, past)
  | inr (inr more) ↦
      let here : one_if (eqb channel n) ≡ 0 = ap one_if (ne_eqb channel n (λ e. absurd (omega (arith, more, e)))) in
      let past : one_if (nat_le (suc n) channel) ≡ 1 = ap one_if (le-leb (suc n) channel (omega (arith, more))) in
      let all : one_if (nat_le n channel) ≡ 1 = ap one_if (le-leb n channel (omega (arith, more))) in
      omega (arith, here, past, all)
]

-- those of a channel, and those of the later ones
next_from : (n : ℕ) (ws : List Waiting) → writes_on n ws + from_channel (suc n) ws ≤ from_channel n ws
next_from n [] = omega arith
next_from n (w ∷ ws) =
    let here : writes_on n (w ∷ ws) ≡ one_if (eqb w.channel n) + writes_on n ws = sum_by-cons (λ v. cond (is_write_on n v) 1 0) w ws in
    let past : from_channel (suc n) (w ∷ ws) ≡ one_if (nat_le (suc n) w.channel) + from_channel (suc n) ws = sum_by-cons (λ v. cond (nat_le (suc n) v.channel) 1 0) w ws in
    let all : from_channel n (w ∷ ws) ≡ one_if (nat_le n w.channel) + from_channel n ws = sum_by-cons (λ v. cond (nat_le n v.channel) 1 0) w ws in
    omega (arith, here, past, all, one_from n w.channel, next_from n ws)

-- the drains of the first channels have no more entries than writes wait there
drain_entries : (n : ℕ) (ws : List Waiting) → entries_in (flat_map drain_actions (pending_each n ws)) + from_channel n ws ≤ length ws
drain_entries zero ws = omega (arith, count_by-le-length (λ (w : Waiting). nat_le zero w.channel) ws)
drain_entries (suc n) ws =
    let before : List Action = flat_map drain_actions (pending_each n ws) in
    let last : List Action = drain_actions (writes_on n ws) in
    let parts : flat_map drain_actions (pending_each (suc n) ws) ≡ before ++ last =
    flat_map-append drain_actions (pending_each n ws) (writes_on n ws ∷ []) ∙ ap (λ (xs : List Action). before ++ xs) (append-nil last) in
    omega (arith, ap entries_in parts, entries-both before last, entries-whole (writes_on n ws), drain_entries n ws, next_from n ws)

page_entries : (pages : ℕ) (rest : List Action) → entries_in (replicate pages WritePage ++ rest) ≡ entries_in rest
page_entries zero rest = refl
page_entries (suc pages) rest = omega (arith, sum_by-cons (λ a. cond (is_entry a) 1 0) WritePage (replicate pages WritePage ++ rest), page_entries pages rest)

-- and a save has none
save_entries : (pages : ℕ) → entries_in (save_actions pages) ≡ 0
unfolding save_actions page_actions
save_entries pages =
    entries-both (CloseGate ∷ Sync ∷ []) (replicate pages WritePage ++ WriteHeader ∷ Sync ∷ OpenGate ∷ Sync ∷ [])
    ∙ omega (arith, page_entries pages (WriteHeader ∷ Sync ∷ OpenGate ∷ Sync ∷ []))

-- nor has it where steps are made again
tried_entries : (xs : List Action) (tries : List Bool) → entries_in xs ≡ 0 → entries_in (tried xs tries) ≡ 0
tried_entries xs [] none = refl
tried_entries [] (good ∷ tries) none = refl
tried_entries (x ∷ xs) (true ∷ tries) none =
    let all : entries_in (x ∷ xs) ≡ one_if (is_entry x) + entries_in xs = sum_by-cons (λ a. cond (is_entry a) 1 0) x xs in
    omega (arith, all, none, sum_by-cons (λ a. cond (is_entry a) 1 0) x (tried xs tries), tried_entries xs tries (omega (arith, all, none)))
tried_entries (x ∷ xs) (false ∷ tries) none =
    let all : entries_in (x ∷ xs) ≡ one_if (is_entry x) + entries_in xs = sum_by-cons (λ a. cond (is_entry a) 1 0) x xs in
    omega (arith, all, none, sum_by-cons (λ a. cond (is_entry a) 1 0) x (tried (x ∷ xs) tries), tried_entries (x ∷ xs) tries none)

drains_entries : (setup : Setup) (m : Machine) → entries_in (drains_of setup m) ≤ length m.waits.writes
drains_entries setup m = omega (arith, drain_entries setup.shape.channels m.waits.writes)

abbrev sum_entries : List (List Action) → ℕ
sum_entries paid = sum_by entries_in paid

paid_entries : (order : DrainOrder) (setup : Setup) (m : Machine) (tries : List Bool) (paid : List (List Action)) (coming : List Action) → ComesNext order setup m tries paid coming → sum_entries paid ≤ length m.waits.writes
paid_entries order setup m tries paid coming (inl in_drains) =
    let drains = payments_in order (drains_of setup m) in
    omega (arith, ap sum_entries in_drains.1.1, sum_by-take-le entries_in drains in_drains.1.0, order-entries order (drains_of setup m), drains_entries setup m)
paid_entries order setup m tries paid coming (inr behind) =
    let steps = tried (steps_of setup) tries in
    omega (
      arith,
      ap sum_entries behind.0,
      sum_by-append entries_in (payments_in order (drains_of setup m)) (each_alone steps),
      order-entries order (drains_of setup m),
      alone-entries steps,
      tried_entries (steps_of setup) tries (save_entries setup.shape.costs.pages),
      drains_entries setup m,
    )

pub dark_count : (order : DrainOrder) (setup : Setup) (old new : World) (dark : EndsDark order setup old new)
    → length new.machine.waits.writes + sum_entries dark.paid ≡ length old.machine.waits.writes
dark_count order setup old new dark =
    omega (arith, paid_entries order setup old.machine dark.tries dark.paid dark.coming dark.comes, ap length dark.left, length-drop (sum_entries dark.paid) old.machine.waits.writes)
