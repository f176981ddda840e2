-- The scheduler's next command keeps the margin, and there is one as long as a rank is awake.
use Rattle.std.proofs.Common.{◌≡◌, ◌≢◌, ℕ, ◌+◌, ◌-◌, ◌*◌, ◌≤◌, ◌<◌, ◌⊎◌, ◌^◌, ◌↔◌, Bool, true, false, List, [], ◌∷◌, length, IsTrue, Option, Some, None, inl, inr, arith, refl, sym, subst, ap, ◌∙◌, ◌||◌}
use Rattle.std.proofs.lemmas.Bool.{cases_Bool, cases_lt, cases_eq}
use Rattle.std.proofs.Math.Nat.{lt_of_mul-lt-mul_right}
use Rattle.std.proofs.Math.Seq.{take-append_seam}
use Rattle.frfcfs.proofs.Common.{AreAsleep, Checked, Command, FitsRows, HasTime, IsCandidate, IsInLead, IsLawful, IsNext, IsNotAfter, KeepsMargin, KeepsRows, Kind, Next, OfColumn, OfRank, OfRow, OffersRank, Pending, Place, PreAll, Read, Stamped, Turn, Write, above, act_of, close_clock, column_of, commands_before, floor, is_asleep, is_ref_of, is_sre_of, last_clock, lead_clock, pre_of, rank_of, ref_count, row_time, with_command}
use Rattle.ddr4_timing.proofs.Addresses.{rank_within}
use Rattle.ddr4_timing.proofs.Bounds.{most_gap-PreAll_other, most_gap-Ref_other}
use Rattle.ddr4_timing.proofs.FloorLemmas.{is_asleep_push}
use Rattle.ddr4_timing.proofs.Ready.{ready_lawful, IsLawful-take}
use Rattle.frfcfs.proofs.Leads.{lead_at}
use Rattle.frfcfs.proofs.NextChoice.{next_lawful}
use Rattle.frfcfs.proofs.refreshes.OffersInTime.{IsDue, IsUp, close_due, due, first_offer, refresh-lt}
use Rattle.frfcfs.proofs.refreshes.OwnRefreshes.{after_close, after_ref, calm_time, early}
use Rattle.frfcfs.proofs.refreshes.RefreshCounts.{act_of_other, before_more, before_next, last_clock_push, lead_same, ref_of_other}
use Rattle.frfcfs.proofs.refreshes.RowsClosed.{closed_push}

-- whose command a candidate is: the rank's own, or no REF of the rank, and while the rank is in lead one for another rank

abbrev IsOther : Checked → List Stamped → ℕ → ℕ → Command → Type 0
IsOther c list k rank x = (is_ref_of rank x ≡ false) × (IsInLead c.timing list k rank → rank_of x ≢ rank)

rank_of_offer : (c : Checked) (list : List Stamped) (k rank : ℕ) (x : Command) → OffersRank c list k rank x → rank_of x ≡ rank
rank_of_offer c list k rank x o = elim o.kind [ inl e ↦ ap (λ (y : Command). rank_of y) e | inr e ↦ ap (λ (y : Command). rank_of y) e ]

column_calm : (kind : Kind) (p : Place) (rank : ℕ) → (rank_of (column_of kind p) ≡ p.rank) × (is_ref_of rank (column_of kind p) ≡ false)
column_calm Read p rank = (refl, refl)
column_calm Write p rank = (refl, refl)

of_request : (c : Checked) (list : List Stamped) (k rank at : ℕ) (x y : Command) → x ≡ y → (rank_of y ≡ at) × (is_ref_of rank y ≡ false) → (¬ IsInLead c.timing list k at) → IsOther c list k rank x
of_request c list k rank at x y e calm rests = rw e (calm.1, λ lead same. rests (subst (λ (r : ℕ). IsInLead c.timing list k r) (sym same ∙ calm.0) lead))

source : (c : Checked) (list : List Stamped) (pending : List Pending) (k rank : ℕ) (turn : Turn) (x : Command) → IsCandidate c list pending k turn x → OffersRank c list k rank x ⊎ IsOther c list k rank x
source c list pending k rank (OfRank first) x o =
    elim (cases_eq first rank) [
      | inl same ↦ inl (subst (λ (r : ℕ). OffersRank c list k r x) same o)
      | inr other ↦ let n : rank_of x ≢ rank = λ e. other (sym (rank_of_offer c list k first x o) ∙ e) in inr (ref_of_other rank x n, λ _. n)
    ]
source c list pending k rank (OfColumn p) x o = inr (of_request c list k rank p.place.rank x (column_of p.kind p.place) o.3.1 (column_calm p.kind p.place rank) o.2.rests)
source c list pending k rank (OfRow p) x o =
    inr (elim o.3 [
      | inl e ↦ of_request c list k rank p.place.rank x (act_of p.place) e.1 (refl, refl) o.2.rests
      | inr e ↦ of_request c list k rank p.place.rank x (pre_of p.place) e.2 (refl, refl) o.2.rests
    ])

first_rank : (c : Checked) (list : List Stamped) (pending : List Pending) (k rank : ℕ) (turn : Turn) (x : Command) → IsCandidate c list pending k turn x → IsNotAfter turn (OfRank rank) → (first : ℕ) × (first ≤ rank) × OffersRank c list k first x
first_rank c list pending k rank (OfRank first) x o l = (first, l.number refl, o)
first_rank c list pending k rank (OfColumn p) x o l = absurd (omega (arith, l.class))
first_rank c list pending k rank (OfRow p) x o l = absurd (omega (arith, l.class))

-- the next command behind a list that keeps the margin
module _ (c : Checked) (list : List Stamped) (pending : List Pending) (next : Next) (margin : KeepsMargin c list) (is : IsNext c list pending (last_clock list) (Some next)) where
  lawful : IsLawful c (with_command list next.clock next.cmd)
  lawful = next_lawful c list pending (last_clock list) (2 ^ 63 - 1) next is

  rows : KeepsRows c.geometry list next.cmd
  rows = (ready_lawful c list (record { clock = next.clock; cmd = next.cmd }) lawful).rows

  up : (rank : ℕ) → rank < c.geometry.ranks → (¬ IsTrue (is_asleep rank list)) → IsUp c list rank
  up rank within awake =
      let front = subst (λ (l : List Stamped). IsLawful c l) (take-append_seam list (record { clock = next.clock; cmd = next.cmd } ∷ [])) (IsLawful-take c (with_command list next.clock next.cmd) (length list) lawful) in
      record { lawful = front; within = within; awake = awake; time = margin rank within awake }

  up_from_offer : (rank : ℕ) → OffersRank c list next.clock rank next.cmd → IsUp c list rank
  up_from_offer rank o = up rank o.within (subst (λ (r : ℕ). ¬ IsTrue (is_asleep r list)) (rank_of_offer c list next.clock rank next.cmd o) rows.awake)

  -- it comes no later than the last clock of each rank's command
  by_last : (rank last : ℕ) (x : Command) → IsDue c list rank last x → next.clock ≤ last
  by_last rank last x d =
      let f = first_offer c list rank last x d in
      elim (cases_lt last next.clock) [ inl l ↦ absurd (is.sooner f.0 f.1 (omega (arith, l, f.2)) (OfRank rank) x f.3) | inr h ↦ h ]

  closes : (rank : ℕ) → OffersRank c list next.clock rank next.cmd → next.cmd ≡ PreAll rank → next.clock ≤ close_clock c list rank
  closes rank o e = by_last rank _ _ (close_due c list rank (up_from_offer rank o) (subst (λ (x : Command). FitsRows c.geometry list x) e rows.rows))

  own : (rank : ℕ) → OffersRank c list next.clock rank next.cmd → HasTime c (with_command list next.clock next.cmd) next.clock rank
  own rank o =
      let u = up_from_offer rank o in
      let d = due c list rank u in
      elim o.kind [
        | inl e ↦ rw e (after_ref c list next.clock rank u (subst (λ (x : Command). IsLawful c (with_command list next.clock x)) e lawful) is.from (omega (arith, by_last rank d.0 d.1 d.2, d.2.refresh)))
        | inr e ↦ rw e (after_close c list next.clock rank u is.from (closes rank o e))
      ]

  -- a rank that is in lead then had no more refreshes than any other, since none is past its own last clock
  no_more : (first rank : ℕ) → lead_clock c.timing list first ≤ next.clock → IsUp c list rank → ref_count first list ≤ ref_count rank list
  no_more first rank lead u =
      let d = due c list rank u in
      let l : ref_count first list + 8 < ref_count rank list + 9 = lt_of_mul-lt-mul_right c.timing.t_refi (omega (arith, lead, by_last rank d.0 d.1 d.2, d.2.refresh, refresh-lt c list rank u.within)) in
      omega (arith, l)

  -- A command to another rank leaves one that is in lead a later clock: that rank's PREA comes in this one's time, and with its REF this one may take a clock more.
  later : (rank last : ℕ) (x : Command) → IsUp c list rank → IsDue c list rank last x → is_ref_of rank next.cmd ≡ false → rank_of next.cmd ≢ rank → lead_clock c.timing list rank ≤ next.clock →
      next.clock + 1 + commands_before c list rank ≤ last + commands_before c (with_command list next.clock next.cmd) rank
  later rank last x u d calm other lead =
      let more = before_more c rank next.clock list next.cmd calm in
      elim (cases_lt next.clock (floor c.timing list x)) [
        | inl l ↦ omega (arith, l, d.ready, more)
        | inr g ↦
            let clock = by_last rank last x d in
            let (first, below, o) = first_rank c list pending next.clock rank is.turn next.cmd is.choice.candidate (is.choice.least (OfRank rank) x (d.offers next.clock g lead clock)) in
            let n : first ≢ rank = λ e. other (rank_of_offer c list next.clock first next.cmd o ∙ e) in
            let first_lead = (lead_at c list first next.clock (lead_clock c.timing list first) refl).0 o.lead in
            let same : ref_count first list ≡ ref_count rank list = omega (arith, no_more first rank first_lead u, no_more rank first lead (up_from_offer first o)) in
            elim o.kind [
              | inl e ↦ let m = before_next c rank first next.clock list n o.within same in rw e (omega (arith, clock, m))
              | inr e ↦
                  let close = subst (λ (m : ℕ). next.clock ≤ (m + 8) * c.timing.t_refi + row_time c.timing + (first + above (λ r. ref_count r list) m c.geometry.ranks)) same (closes first o e) in
                  omega (arith, close, below, n, d.close, more)
            ]
      ]

  late : (rank : ℕ) → IsUp c list rank → is_ref_of rank next.cmd ≡ false → rank_of next.cmd ≢ rank → lead_clock c.timing list rank ≤ next.clock → HasTime c (with_command list next.clock next.cmd) next.clock rank
  late rank u calm other lead =
      let same = lead_same c.timing rank next.clock list next.cmd calm in
      let d = due c list rank u in
      calm_time c list next.clock rank next.cmd u is.from calm (omega (arith, later rank d.0 d.1 u d.2 calm other lead, d.2.refresh, same, most_gap-Ref_other c.timing next.cmd rank other))
      (omega (arith, most_gap-PreAll_other c.timing next.cmd rank other)) (λ some.
      let s = close_due c list rank u (λ closed. some (closed_push c.geometry rank list (record { clock = next.clock; cmd = next.cmd }) (act_of_other rank next.cmd other) closed)) in
      omega (arith, later rank _ _ u s calm other lead, same))

  pub next_keeps : KeepsMargin c (with_command list next.clock next.cmd)
  next_keeps rank within awake =
      let x : Stamped = record { clock = next.clock; cmd = next.cmd } in
      let u = up rank within (λ a. awake (is_asleep_push rank list x ∙ ap (λ (b : Bool). b || is_sre_of rank next.cmd) a)) in
      rw (last_clock_push list x) (elim (source c list pending next.clock rank is.turn next.cmd is.choice.candidate) [
        | inl o ↦ own rank o
        | inr s ↦ elim (cases_lt next.clock (lead_clock c.timing list rank)) [
          | inl l ↦ early c list next.clock rank next.cmd u is.from s.0 l
          | inr g ↦ late rank u s.0 (s.1 ((lead_at c list rank next.clock (lead_clock c.timing list rank) refl).1 g)) g
        ]
      ])

  some_awake : ¬ AreAsleep c list
  some_awake all = rows.awake (all (rank_of next.cmd) (rank_within c.geometry next.cmd rows.place))

-- where a rank is awake, a candidate comes
none_asleep : (c : Checked) (list : List Stamped) (pending : List Pending) → KeepsMargin c list → IsLawful c list → last_clock list < 2 ^ 62 → IsNext c list pending (last_clock list) None → AreAsleep c list
none_asleep c list pending m lawful h idle rank within =
    elim (cases_Bool (is_asleep rank list)) [
      | inl asleep ↦ asleep
      | inr off ↦
          let awake : ¬ IsTrue (is_asleep rank list) = λ on. let e : true ≡ false = sym on ∙ off in cc in
          let u : IsUp c list rank = record { lawful = lawful; within = within; awake = awake; time = m rank within awake } in
          let d = due c list rank u in
          let f = first_offer c list rank d.0 d.1 d.2 in
          absurd (idle f.0 f.1 (omega (arith, f.2, d.2.refresh, refresh-lt c list rank within, u.time.refreshed, u.time.past, h, c.in_limits.t_refi.1)) (OfRank rank) d.1 f.3)
    ]

pub none_exactly : (c : Checked) (list : List Stamped) (pending : List Pending) (next : Option Next) → KeepsMargin c list → IsLawful c list → last_clock list < 2 ^ 62 → IsNext c list pending (last_clock list) next → ((next ≡ None) ↔ AreAsleep c list)
none_exactly c list pending None m lawful h n = (λ _. none_asleep c list pending m lawful h n, λ _. refl)
none_exactly c list pending (Some next) m lawful h n = (λ e. absurd cc, λ all. absurd (some_awake c list pending next m n all))
