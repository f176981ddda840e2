-- The one look at each request: a look more, and what is known behind the last.
use Rattle.std.proofs.Common.{◌≡◌, ℕ, ◌+◌, ◌*◌, ◌<◌, ◌≤◌, ◌⊎◌, max, List, Some, None, Bool, IsTrue, true, false, inl, inr, arith, refl, sym, subst, ap, ◌∙◌, get_or, set, length, get_or-set_same, get_or-set_other}
use Rattle.std.proofs.lemmas.Bool.{cases_eq, cases_lt}
use Rattle.ddr4_timing.proofs.FloorLemmas.{floor-Act, floor-Rd, floor-Wr}
use Rattle.ddr4_timing.proofs.Ready.{ready_lawful}
use Rattle.ddr4_timing.specs.Floors.{window}
use Rattle.frfcfs.specs.Candidates.{IsOtherOpen}
use Rattle.frfcfs.specs.Scan.{AreScanned, IsMet, IsNoSooner, IsOlderBetter, IsPassed, WantsAct, flag_of}
use Rattle.frfcfs.specs.Search.{IsEligibleIn, IsFound}
use Rattle.frfcfs.specs.declared.scan.Scan.{Scan}
use Rattle.frfcfs.proofs.BestRequests.{class_offer, class_skip}
use Rattle.frfcfs.proofs.Common.{Act, BankAddress, Best, Checked, Command, Geometry, HasBank, IsBest, IsBetter, IsEligible, IsEnd, IsInGeometry, IsLawful, Kind, LiesIn, Pending, Place, Rd, Read, Stamped, Takes, Timing, WantsColumn, Wr, Write, act_of, bank_at, bank_index, column_of, least_clock, open_row, rank_of}
use Rattle.frfcfs.proofs.HitLemmas.{index_small, one_bank}
use Rattle.frfcfs.proofs.Lists.{one_at}
use Rattle.frfcfs.proofs.Wants.{IsWish, takes_from, wishes_column}

-- the best one, where one more was looked at that takes no sooner, or was offered

pub best_passed : (T : ℕ → ℕ → Type 0) (now limit index : ℕ) (best : Best) → ((k : ℕ) → now ≤ k → T index k → (k < limit) × (best.clock ≤ k)) → IsBest T now limit index best → IsBest T now limit (index + 1) best
best_passed T now limit index best late before = grind (arith, before.found, before.first, late)

-- where the same may be taken
pub best_same : (S T : ℕ → ℕ → Type 0) (now limit end : ℕ) (best : Best) → ((i k : ℕ) → S i k → T i k) → ((i k : ℕ) → T i k → S i k) → IsBest S now limit end best → IsBest T now limit end best
best_same S T now limit end best more less before = record {
  found = λ h. ((before.found h).0, more best.index best.clock (before.found h).1);
  first = λ i k within from t. before.first i k within from (less i k t);
}

-- another, be it older or younger, and others behind it that take no sooner
pub best_joins : (S T : ℕ → ℕ → Type 0) (now limit size index from stop : ℕ) (old new : Best) → IsOlderBetter old index from stop new → IsBest S now limit size old → stop ≤ limit → index < size →
    ((i k : ℕ) → S i k → T i k) → (from < stop → T index from) →
    ((i k : ℕ) → i < size → now ≤ k → T i k → S i k ⊎ ((index ≤ i) × (from ≤ k) × (k < stop))) → IsBest T now limit size new
best_joins S T now limit size index from stop old new better before early within more here each =
    elim better [
      | inl b ↦
          let clock = ap (λ (x : Best). x.clock) b.2 in
          let place = ap (λ (x : Best). x.index) b.2 in
          record {
            found = λ _. rw b.2 (within, here b.0);
            first = λ i k less from_now t. elim (each i k less from_now t) [
              | inl s ↦ let f = before.first i k less from_now s in elim b.1 [
                | inl sooner ↦ (f.0, omega (arith, f.1, sooner, clock), λ same. absurd (omega (arith, same, f.1, sooner, clock)))
                | inr tied ↦ (f.0, omega (arith, f.1, tied.0, clock), λ same. let g : old.index ≤ i = f.2 (omega (arith, same, clock, tied.0)) in omega (arith, g, tied.1, place))
              ]
              | inr late ↦ (omega (arith, late.2, early), omega (arith, late.1, clock), λ _. omega (arith, late.0, place))
            ];
          }
      | inr b ↦ rw b.1 (record {
        found = λ h. ((before.found h).0, more old.index old.clock (before.found h).1);
        first = λ i k less from_now t. elim (each i k less from_now t) [
          | inl s ↦ before.first i k less from_now s
          | inr late ↦ elim b.0 [
            | inl never ↦ absurd (omega (arith, never, late.1, late.2))
            | inr others ↦ elim others [
              | inl later ↦ (omega (arith, late.2, early), omega (arith, later, late.1), λ same. absurd (omega (arith, same, later, late.1)))
              | inr tied ↦ (omega (arith, late.2, early), omega (arith, tied.0, late.1), λ _. omega (arith, tied.1, late.0))
            ]
          ]
        ];
      })
    ]

-- an offer lowers the clock at most
pub offer_less : (old new : Best) (index from end : ℕ) → IsBetter old index from end new → new.clock ≤ old.clock
offer_less old new index from end better = elim better [
  | inl b ↦ let e = ap (λ (x : Best). x.clock) b.1 in omega (arith, b.0, e)
  | inr b ↦ let e = ap (λ (x : Best). x.clock) b.1 in omega (arith, e)
]

pub offer_upto : (old new : Best) (index from end : ℕ) → IsBetter old index from end new → from < end → new.clock ≤ from
offer_upto old new index from end better h = elim better [
  | inl b ↦ let e = ap (λ (x : Best). x.clock) b.1 in omega (arith, e)
  | inr b ↦ let e = ap (λ (x : Best). x.clock) b.1 in omega (arith, b.0, e, h)
]

pub found_offer : (g : Geometry) (pending : List Pending) (now limit index least from end : ℕ) (request : Pending) (old new : Best) → from ≡ max least now → end ≤ limit → IsEligibleIn g pending index request → IsBetter old index from end new →
    IsFound g pending now limit old → IsFound g pending now limit new
found_offer g pending now limit index least from end request old new is early el better before = elim better [
  | inl b ↦ rw b.1 (λ _. (omega (arith, is), (request, el)))
  | inr b ↦ rw b.1 before
]

-- no rule looks at a row or a column

pub act_clock : (t : Timing) (list : List Stamped) (p q : Place) → bank_at p ≡ bank_at q → least_clock t list (act_of p) ≡ least_clock t list (act_of q)
unfolding least_clock
act_clock t list p q e =
    ap (λ (n : ℕ). max n (max (window t p.rank 3 list) 0)) (floor-Act t list (bank_at p) p.row)
    ∙ (ap (λ (b : BankAddress). least_clock t list (Act b 0)) e
    ∙ sym (ap (λ (n : ℕ). max n (max (window t q.rank 3 list) 0)) (floor-Act t list (bank_at q) q.row)))

pub column_clock : (t : Timing) (list : List Stamped) (kind : Kind) (p q : Place) → bank_at p ≡ bank_at q → least_clock t list (column_of kind p) ≡ least_clock t list (column_of kind q)
unfolding least_clock
column_clock t list Read p q e =
    ap (λ (n : ℕ). max n (max 0 0)) (floor-Rd t list (bank_at p) p.column)
    ∙ (ap (λ (b : BankAddress). least_clock t list (Rd b 0)) e
    ∙ sym (ap (λ (n : ℕ). max n (max 0 0)) (floor-Rd t list (bank_at q) q.column)))
column_clock t list Write p q e =
    ap (λ (n : ℕ). max n (max 0 0)) (floor-Wr t list (bank_at p) p.column)
    ∙ (ap (λ (b : BankAddress). least_clock t list (Wr b 0)) e
    ∙ sym (ap (λ (n : ℕ). max n (max 0 0)) (floor-Wr t list (bank_at q) q.column)))

-- none of a bank and a kind has a command sooner than the one that was offered

no_sooner : (Wants : Pending → Command → Type 0) (c : Checked) (list : List Stamped) (pending : List Pending) (now last limit index least from end : ℕ) (request : Pending) (old new : Best) →
    IsLawful c list → from ≡ max least now → end ≤ limit → IsEnd c list request.place.rank last end → IsBetter old index from end new →
    ((other : Pending) (cmd : Command) → bank_at other.place ≡ bank_at request.place → other.kind ≡ request.kind → Wants other cmd → IsInGeometry c.geometry cmd → IsWish Wants c list other cmd × (least ≡ least_clock c.timing list cmd)) →
    IsNoSooner Wants c list pending now last limit (bank_at request.place) request.kind new.clock
no_sooner Wants c list pending now last limit index least from end request old new lawful is early ends better wishes i k other cmd from_now until el at of_kind have wants =
    let ready = ready_lawful c list (record { clock = k; cmd = cmd }) have.lawful in
    let wish = wishes other cmd at of_kind wants ready.rows.place in
    let rank = ap (λ (b : BankAddress). b.rank) at in
    let span = (takes_from Wants c list pending last i least end k other cmd lawful wish.0 el wish.1 (subst (λ (r : ℕ). IsEnd c list r last end) (sym rank) ends)).0 (other, cmd, until, el, have, wants) in
    let upto = offer_upto old new index from end better (omega (arith, is, span.0, span.1, from_now)) in
    (omega (arith, span.1, early), omega (arith, upto, is, span.0, from_now))

-- an ACT is the one command that a request of a closed bank wants
wishes_closed : (c : Checked) (list : List Stamped) (request : Pending) (cmd : Command) → cmd ≡ act_of request.place → open_row (bank_at request.place) list ≡ None → IsInGeometry c.geometry cmd → IsWish (WantsAct list) c list request cmd
wishes_closed c list request cmd is row place = record {
  exact = λ other. (λ w. w.1 ∙ sym is, λ e. (row, e ∙ is));
  place = place;
  rows = rw is row;
  rank = ap rank_of is;
}

-- flags

flag_kept : (flags : List Bool) (n k : ℕ) → n < length flags → IsTrue (get_or flags k false) → IsTrue (get_or (set flags n true) k false)
flag_kept flags n k within h = elim (cases_eq k n) [
  | inl same ↦ rw same (get_or-set_same flags n true false within)
  | inr other ↦ rw (get_or-set_other flags n k true false other) h
]

flag_before : (flags : List Bool) (n k : ℕ) → IsTrue (get_or (set flags n true) k false) → (k ≡ n) ⊎ IsTrue (get_or flags k false)
flag_before flags n k h = elim (cases_eq k n) [
  | inl same ↦ inl same
  | inr other ↦ inr (sym (get_or-set_other flags n k true false other) ∙ h)
]

one_flag : (a b : ℕ) (k m : Kind) → flag_of a k ≡ flag_of b m → (a ≡ b) × (k ≡ m)
one_flag a b Read Read e = (omega (arith, e), refl)
one_flag a b Read Write e = absurd (omega (arith, e))
one_flag a b Write Read e = absurd (omega (arith, e))
one_flag a b Write Write e = (omega (arith, e), refl)

pub flag_small : (a : ℕ) (k : Kind) → a < 64 → flag_of a k < 128
flag_small a Read h = omega (arith, h)
flag_small a Write h = omega (arith, h)

pub clear_flags : (flags : List Bool) (a : ℕ) (k : Kind) → get_or flags (2 * a) false ≡ false → get_or flags (2 * a + 1) false ≡ false → ¬ IsTrue (get_or flags (flag_of a k) false)
clear_flags flags a Read one two h = cc
clear_flags flags a Write one two h = cc

-- what is passed stays so where the bests get better
passed_less : (c : Checked) (list : List Stamped) (pending : List Pending) (now last limit : ℕ) (old new : Scan) (bank : BankAddress) (kind : Kind) → new.bests.column.clock ≤ old.bests.column.clock → new.bests.row.clock ≤ old.bests.row.clock →
    IsPassed c list pending now last limit old bank kind → IsPassed c list pending now last limit new bank kind
passed_less c list pending now last limit old new bank kind columns rows p = record {
  index = p.index;
  request = p.request;
  eligible = p.eligible;
  here = p.here;
  meets = p.meets;
  column = λ i k r cmd from until el at of_kind have wants. let h = p.column i k r cmd from until el at of_kind have wants in (h.0, omega (arith, h.1, columns));
  act = λ i k r cmd from until el at of_kind have wants. let h = p.act i k r cmd from until el at of_kind have wants in (h.0, omega (arith, h.1, rows));
}

-- A request that is of a bank and a kind that was met changes nothing.
pub scan_skip : (c : Checked) (list : List Stamped) (pending : List Pending) (now last limit index : ℕ) (request : Pending) (scan : Scan) → IsEligible pending index request → HasBank c.geometry (bank_at request.place) → IsMet scan (bank_at request.place) request.kind →
    AreScanned c list pending now last limit index scan → AreScanned c list pending now last limit (index + 1) scan
scan_skip c list pending now last limit index request scan el has met before = record {
  column = best_passed (Takes (WantsColumn list) c list pending last) now limit index scan.bests.column (λ k from h. passed.column index k h.0 h.1 from h.2 h.3 (ap (λ (q : Pending). bank_at q.place) (own h.0 h.3)) (ap (λ (q : Pending). q.kind) (own h.0 h.3)) h.4 h.5) before.column;
  act = best_passed (Takes (WantsAct list) c list pending last) now limit index scan.bests.row (λ k from h. passed.act index k h.0 h.1 from h.2 h.3 (ap (λ (q : Pending). bank_at q.place) (own h.0 h.3)) (ap (λ (q : Pending). q.kind) (own h.0 h.3)) h.4 h.5) before.act;
  passed = before.passed;
  hits = λ i q less e lies row. elim (cases_lt i index) [
    | inl l ↦ before.hits i q l e lies row
    | inr g ↦ there i q less e g
  ];
  others = λ i q less e lies other. elim (cases_lt i index) [
    | inl l ↦ before.others i q l e lies other
    | inr g ↦ inl (there i q less e g)
  ];
  noted = before.noted;
  earlier = λ n h. let l = before.earlier n h in omega (arith, l);
}
  where
    passed : IsPassed c list pending now last limit scan (bank_at request.place) request.kind
    passed = before.passed (bank_at request.place) request.kind has met

    own : (q : Pending) → IsEligible pending index q → q ≡ request
    own q e = one_at pending index index q request e.here el.here refl

    there : (i : ℕ) (q : Pending) → i < index + 1 → IsEligible pending i q → index ≤ i → IsMet scan (bank_at q.place) q.kind
    there i q less e g = rw (one_at pending i index q request e.here el.here (omega (arith, less, g))) met

-- One that is offered its command marks its bank and kind.
scan_met : (c : Checked) (list : List Stamped) (pending : List Pending) (now last limit index mark : ℕ) (request : Pending) (old new : Scan) → IsEligible pending index request → HasBank c.geometry (bank_at request.place) →
    mark ≡ flag_of (bank_index (bank_at request.place)) request.kind → length old.met ≡ 128 → new.met ≡ set old.met mark true → new.wanting ≡ old.wanting → new.others ≡ old.others → (¬ IsOtherOpen list request.place) →
    IsBest (Takes (WantsColumn list) c list pending last) now limit (index + 1) new.bests.column → IsBest (Takes (WantsAct list) c list pending last) now limit (index + 1) new.bests.row →
    new.bests.column.clock ≤ old.bests.column.clock → new.bests.row.clock ≤ old.bests.row.clock →
    IsNoSooner (WantsColumn list) c list pending now last limit (bank_at request.place) request.kind new.bests.column.clock → IsNoSooner (WantsAct list) c list pending now last limit (bank_at request.place) request.kind new.bests.row.clock →
    AreScanned c list pending now last limit index old → AreScanned c list pending now last limit (index + 1) new
scan_met c list pending now last limit index mark request old new el has at size met wanting others meets column act columns rows late_column late_act before = record {
  column = column;
  act = act;
  passed = passed;
  hits = λ i q less e lies row. elim (cases_lt i index) [
    | inl l ↦ kept (bank_at q.place) q.kind (before.hits i q l e lies row)
    | inr g ↦ here i q less e g
  ];
  others = λ i q less e lies other. elim (cases_lt i index) [
    | inl l ↦ elim (before.others i q l e lies other) [
      | inl m ↦ inl (kept (bank_at q.place) q.kind m)
      | inr was ↦ inr (rw (wanting, others) was)
    ]
    | inr g ↦ inl (here i q less e g)
  ];
  noted = rw (wanting, others) before.noted;
  earlier = rw (wanting, others) (λ n h. let l = before.earlier n h in omega (arith, l));
}
  where
    small : mark < 128
    small = rw at (flag_small (bank_index (bank_at request.place)) request.kind (index_small c.geometry (bank_at request.place) c.is_small has))

    kept : (bank : BankAddress) (kind : Kind) → IsMet old bank kind → IsMet new bank kind
    kept bank kind m = rw met (flag_kept old.met mark (flag_of (bank_index bank) kind) (omega (arith, small, size)) m)

    here : (i : ℕ) (q : Pending) → i < index + 1 → IsEligible pending i q → index ≤ i → IsMet new (bank_at q.place) q.kind
    here i q less e g = rw (one_at pending i index q request e.here el.here (omega (arith, less, g)), met, ← at) (get_or-set_same old.met mark true false (omega (arith, small, size)))

    own : IsPassed c list pending now last limit new (bank_at request.place) request.kind
    own = record { index = index; request = request; eligible = el; here = refl; meets = meets; column = late_column; act = late_act }

    passed : (bank : BankAddress) (kind : Kind) → HasBank c.geometry bank → IsMet new bank kind → IsPassed c list pending now last limit new bank kind
    passed bank kind lies m = elim (flag_before old.met mark (flag_of (bank_index bank) kind) (subst (λ (flags : List Bool). IsTrue (get_or flags (flag_of (bank_index bank) kind) false)) met m)) [
      | inl same ↦
          let e = one_flag (bank_index bank) (bank_index (bank_at request.place)) kind request.kind (same ∙ at) in
          rw (one_bank c.geometry bank (bank_at request.place) c.is_small lies has e.0, e.1) own
      | inr was ↦ passed_less c list pending now last limit old new bank kind columns rows (before.passed bank kind lies was)
    ]

-- the ACT of one whose bank is closed
pub scan_act : (c : Checked) (list : List Stamped) (pending : List Pending) (now last limit index mark least from end : ℕ) (request : Pending) (cmd : Command) (old new : Scan) → IsLawful c list → LiesIn c.geometry request.place → IsEligible pending index request →
    IsEnd c list request.place.rank last end → end ≤ limit → open_row (bank_at request.place) list ≡ None → cmd ≡ act_of request.place → least ≡ least_clock c.timing list cmd → from ≡ max least now → IsBetter old.bests.row index from end new.bests.row →
    new.bests.column ≡ old.bests.column → mark ≡ flag_of (bank_index (bank_at request.place)) request.kind → length old.met ≡ 128 → new.met ≡ set old.met mark true → new.wanting ≡ old.wanting → new.others ≡ old.others →
    AreScanned c list pending now last limit index old → AreScanned c list pending now last limit (index + 1) new
scan_act c list pending now last limit index mark least from end request cmd old new lawful lies el ends early closed is clock start better column at size met wanting others before =
    scan_met c list pending now last limit index mark request old new el has at size met wanting others (λ other. cc (closed, other.1))
    (rw column (class_skip (WantsColumn list) c list pending now last limit index request old.bests.column el (λ x wants _. absurd (cc (closed, wants.0))) before.column))
    (class_offer (WantsAct list) c list pending now last limit index end least from request cmd old.bests.row new.bests.row lawful (wishes_closed c list request cmd is closed (rw is (has, lies.row))) el ends early clock start better before.act)
    (omega (arith, ap (λ (x : Best). x.clock) column)) (offer_less old.bests.row new.bests.row index from end better)
    (λ i k other x from_now until e same kind have wants. let opened : open_row (bank_at request.place) list ≡ Some other.place.row = subst (λ (b : BankAddress). open_row b list ≡ Some other.place.row) same wants.0 in absurd (cc (closed, opened)))
    (no_sooner (WantsAct list) c list pending now last limit index least from end request old.bests.row new.bests.row lawful start early ends better
    (λ other x same kind wants place. (wishes_closed c list other x wants.1 wants.0 place, clock ∙ (ap (λ (y : Command). least_clock c.timing list y) is ∙ (act_clock c.timing list request.place other.place (sym same) ∙ sym (ap (λ (y : Command). least_clock c.timing list y) wants.1))))))
    before
  where
    has : HasBank c.geometry (bank_at request.place)
    has = record { rank = lies.rank; group = lies.group; bank = lies.bank }

-- the RD or WR of one whose row is open
pub scan_column : (c : Checked) (list : List Stamped) (pending : List Pending) (now last limit index mark least from end : ℕ) (request : Pending) (cmd : Command) (old new : Scan) → IsLawful c list → LiesIn c.geometry request.place → IsEligible pending index request →
    IsEnd c list request.place.rank last end → end ≤ limit → open_row (bank_at request.place) list ≡ Some request.place.row → cmd ≡ column_of request.kind request.place → IsInGeometry c.geometry cmd → least ≡ least_clock c.timing list cmd → from ≡ max least now →
    IsBetter old.bests.column index from end new.bests.column → new.bests.row ≡ old.bests.row → mark ≡ flag_of (bank_index (bank_at request.place)) request.kind → length old.met ≡ 128 → new.met ≡ set old.met mark true → new.wanting ≡ old.wanting → new.others ≡ old.others →
    AreScanned c list pending now last limit index old → AreScanned c list pending now last limit (index + 1) new
scan_column c list pending now last limit index mark least from end request cmd old new lawful lies el ends early opened is place clock start better row at size met wanting others before =
    scan_met c list pending now last limit index mark request old new el has at size met wanting others (λ other. other.2 (cc (opened, other.1)))
    (class_offer (WantsColumn list) c list pending now last limit index end least from request cmd old.bests.column new.bests.column lawful (wishes_column c list request cmd is opened place) el ends early clock start better before.column)
    (rw row (class_skip (WantsAct list) c list pending now last limit index request old.bests.row el (λ x wants _. absurd (cc (opened, wants.0))) before.act))
    (offer_less old.bests.column new.bests.column index from end better) (omega (arith, ap (λ (x : Best). x.clock) row))
    (no_sooner (WantsColumn list) c list pending now last limit index least from end request old.bests.column new.bests.column lawful start early ends better
    (λ other x same kind wants place. (
      wishes_column c list other x wants.1 wants.0 place,
      clock ∙ (ap (λ (y : Command). least_clock c.timing list y) is ∙ (column_clock c.timing list request.kind request.place other.place (sym same)
          ∙ (ap (λ (k : Kind). least_clock c.timing list (column_of k other.place)) (sym kind) ∙ sym (ap (λ (y : Command). least_clock c.timing list y) wants.1)))),
    )))
    (λ i k other x from_now until e same kind have wants. let closed : open_row (bank_at request.place) list ≡ None = subst (λ (b : BankAddress). open_row b list ≡ None) same wants.0 in absurd (cc (closed, opened)))
    before
  where
    has : HasBank c.geometry (bank_at request.place)
    has = record { rank = lies.rank; group = lies.group; bank = lies.bank }
