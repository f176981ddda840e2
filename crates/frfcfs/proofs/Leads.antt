-- From which clock on a rank is in lead, and before which one its requests may have their commands.
use Rattle.std.proofs.Common.{◌≡◌, ◌≢◌, ℕ, ◌+◌, ◌-◌, ◌*◌, ◌<◌, ◌≤◌, ◌^◌, ◌↔◌, min, List, IsTrue, inl, inr, arith, refl, length, get_or, set, get_or-set_same, get_or-set_other, le-div_iff_mul-le}
use Rattle.std.proofs.lemmas.Bool.{cases_eq}
use Rattle.frfcfs.proofs.Common.{Checked, IsEnd, IsInLead, IsLawful, Stamped, is_asleep, last_ref, lead_clock, ref_count}
use Rattle.bank_core.proofs.Refreshes.{refreshes_keep_pace}

pub lead_at : (c : Checked) (list : List Stamped) (rank k lead : ℕ) → lead ≡ (ref_count rank list + 8) * c.timing.t_refi → (IsInLead c.timing list k rank ↔ (lead ≤ k))
lead_at c list rank k lead e =
    let i = le-div_iff_mul-le {k = c.timing.t_refi} {x = ref_count rank list + 8} {y = k} c.in_limits.t_refi.0 in (
      λ h. let l = i.0 (omega (arith, h)) in omega (arith, e, l),
      λ h. let l = i.1 (omega (arith, e, h)) in omega (arith, l),
    )

-- before it is in lead its deadline isn't past
pub rest_in_time : (c : Checked) (list : List Stamped) (rank k : ℕ) → IsLawful c list → (¬ IsInLead c.timing list k rank) → k ≤ last_ref rank list + 9 * c.timing.t_refi
rest_in_time c list rank k lawful rests =
    let i = lead_at c list rank k (lead_clock c.timing list rank) refl in
    grind (arith, i.1, rests, refreshes_keep_pace c.timing c.geometry rank list lawful)

-- the end of a rank's span
pub end_awake : (c : Checked) (list : List Stamped) (rank last lead limit end : ℕ) → lead ≡ (ref_count rank list + 8) * c.timing.t_refi → (¬ IsTrue (is_asleep rank list)) → lead < 2 ^ 64 → limit ≡ min (last + 1) (2 ^ 64 - 1) → end ≡ min lead limit → IsEnd c list rank last end
end_awake c list rank last lead limit end is awake small a e k =
    let i = lead_at c list rank k lead is in (
      λ h. (omega (arith, h, a, e), awake, λ p. let l = i.0 p in absurd (omega (arith, h, a, e, l))),
      λ h. grind (arith, h, i.1, small, a, e),
    )

pub end_asleep : (c : Checked) (list : List Stamped) (rank last : ℕ) → IsTrue (is_asleep rank list) → IsEnd c list rank last 0
end_asleep c list rank last asleep k = (λ h. absurd (omega (arith, h)), λ h. absurd (h.1 asleep))

-- the table of ends, one rank at a time

each_set : (P : ℕ → ℕ → Type 0) (i end k : ℕ) (ends : List ℕ) → i < length ends → P i end → (k ≢ i → P k (get_or ends k 0)) → P k (get_or (set ends i end) k 0)
each_set P i end k ends within here before =
    elim (cases_eq k i) [
      | inl same ↦ rw same (rw (get_or-set_same ends i end 0 within) here)
      | inr other ↦ rw (get_or-set_other ends i k end 0 other) (before other)
    ]

pub ends_set : (c : Checked) (list : List Stamped) (last i end : ℕ) (ends : List ℕ) → i < length ends → IsEnd c list i last end → ((k : ℕ) → k < i → IsEnd c list k last (get_or ends k 0)) → (k : ℕ) → k < i + 1 → IsEnd c list k last (get_or (set ends i end) k 0)
ends_set c list last i end ends within here before k h = each_set (λ k end. IsEnd c list k last end) i end k ends within here (λ other. before k (omega (arith, h, other)))

pub early_set : (limit i end : ℕ) (ends : List ℕ) → i < length ends → end ≤ limit → ((k : ℕ) → get_or ends k 0 ≤ limit) → (k : ℕ) → get_or (set ends i end) k 0 ≤ limit
early_set limit i end ends within here before k = each_set (λ _ end. end ≤ limit) i end k ends within here (λ _. before k)
