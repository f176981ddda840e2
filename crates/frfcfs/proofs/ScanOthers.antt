-- The requests that want another row than the open one: those that are noted, and their PRE behind the last look.
use Rattle.std.proofs.Common.{◌≡◌, ℕ, ◌+◌, ◌*◌, ◌<◌, ◌≤◌, ◌⊎◌, ◌↔◌, ◌≢◌, max, List, Some, Bool, IsTrue, false, inl, inr, arith, refl, sym, subst, ap, ◌∙◌, get_or, set, length, get_or-set_same, get_or-set_other, replicate}
use Rattle.std.proofs.lemmas.Bool.{cases_eq, cases_lt}
use Rattle.std.proofs.lemmas.List.{get_or-replicate}
use Rattle.std.proofs.lemmas.Option.{slice_get_within}
use Rattle.ddr4_timing.proofs.Ready.{ready_lawful}
use Rattle.request_notes.specs.BankSets.{Has, IsOneTaken}
use Rattle.frfcfs.specs.Candidates.{IsOtherOpen}
use Rattle.frfcfs.specs.Scan.{AreScanned, IsMet, IsOlderBetter, IsPassed, IsScanFound, WantsAct, WantsRowBut, flag_of}
use Rattle.frfcfs.specs.Search.{IsEligibleIn, IsFound, no_bests}
use Rattle.request_notes.specs.declared.bank_set.BankSet.{BankSet}
use Rattle.frfcfs.specs.declared.scan.Scan.{Scan}
use Rattle.frfcfs.proofs.BestRequests.{best_skip, class_skip}
use Rattle.frfcfs.proofs.Common.{BankAddress, Best, Checked, Command, Geometry, HasBank, IsBest, IsEligible, IsEnd, IsInGeometry, IsLawful, IsUnhit, Kind, Pending, Pre, Stamped, Takes, WantsColumn, WantsRow, bank_at, bank_index, least_clock, open_row, pre_of, rank_of}
use Rattle.frfcfs.proofs.HitLemmas.{WaitsAt, index_small, one_bank}
use Rattle.frfcfs.proofs.Lists.{one_at}
use Rattle.frfcfs.proofs.ScanLemmas.{best_joins, best_same, clear_flags, flag_small}
use Rattle.frfcfs.proofs.Wants.{IsWish, column_place, row_bank, takes_from}

-- before any look

pub scan_none : (c : Checked) (list : List Stamped) (pending : List Pending) (now last limit : ℕ) (scan : Scan) → scan.bests ≡ no_bests limit → scan.met ≡ replicate 128 false → ((bank : ℕ) → ¬ Has scan.wanting bank) → AreScanned c list pending now last limit 0 scan
scan_none c list pending now last limit scan bests met none = record {
  column = rw bests (record { found = λ h. absurd (omega (arith, h)); first = λ i k less from t. absurd (omega (arith, less)) });
  act = rw bests (record { found = λ h. absurd (omega (arith, h)); first = λ i k less from t. absurd (omega (arith, less)) });
  passed = λ bank kind lies m.
      let clear : get_or scan.met (flag_of (bank_index bank) kind) false ≡ false = ap (λ (flags : List Bool). get_or flags (flag_of (bank_index bank) kind) false) met ∙ get_or-replicate 128 (flag_of (bank_index bank) kind) false false (flag_small (bank_index bank) kind (index_small c.geometry bank c.is_small lies)) in
      absurd (cc (clear, m));
  hits = λ i q less el lies row. absurd (omega (arith, less));
  others = λ i q less el lies other. absurd (omega (arith, less));
  noted = λ n q h el. absurd (none n h);
  earlier = λ n h. absurd (none n h);
}

pub found_none : (g : Geometry) (pending : List Pending) (now limit : ℕ) (scan : Scan) → scan.bests ≡ no_bests limit → ((bank : ℕ) → ¬ Has scan.wanting bank) → IsScanFound g pending now limit scan
found_none g pending now limit scan bests none = record {
  bests = rw bests (λ h. absurd (omega (arith, h)), λ h. absurd (omega (arith, h)));
  others = λ n h. absurd (none n h);
}

-- One that isn't eligible, or whose bank isn't there, changes nothing.
pub scan_past : (c : Checked) (list : List Stamped) (pending : List Pending) (now last limit index : ℕ) (scan : Scan) → ¬ WaitsAt c.geometry pending index → AreScanned c list pending now last limit index scan → AreScanned c list pending now last limit (index + 1) scan
scan_past c list pending now last limit index scan never before = record {
  column = best_skip (Takes (WantsColumn list) c list pending last) now limit index scan.bests.column
      (λ k h. never (h.0, h.3, (column_place c.geometry list h.0 h.1 h.5 (ready_lawful c list (record { clock = k; cmd = h.1 }) h.4.lawful).rows.place).0)) before.column;
  act = best_skip (Takes (WantsAct list) c list pending last) now limit index scan.bests.row
      (λ k h. never (h.0, h.3, row_bank c.geometry list pending h.0 h.1 (inl h.5) (ready_lawful c list (record { clock = k; cmd = h.1 }) h.4.lawful).rows.place)) before.act;
  passed = before.passed;
  hits = λ i q less e lies row. before.hits i q (sooner i q less e lies) e lies row;
  others = λ i q less e lies other. before.others i q (sooner i q less e lies) e lies other;
  noted = before.noted;
  earlier = λ n h. let l = before.earlier n h in omega (arith, l);
}
  where
    sooner : (i : ℕ) (q : Pending) → i < index + 1 → IsEligible pending i q → HasBank c.geometry (bank_at q.place) → i < index
    sooner i q less e lies = elim (cases_lt i index) [
      | inl l ↦ l
      | inr g ↦ absurd (never (subst (λ (k : ℕ). WaitsAt c.geometry pending k) (omega (arith, less, g)) (q, e, lies)))
    ]

-- one that wants another row, of a bank of which an older one is noted
pub scan_older : (c : Checked) (list : List Stamped) (pending : List Pending) (now last limit index : ℕ) (request : Pending) (scan : Scan) → IsEligible pending index request → IsOtherOpen list request.place → Has scan.wanting (bank_index (bank_at request.place)) →
    AreScanned c list pending now last limit index scan → AreScanned c list pending now last limit (index + 1) scan
scan_older c list pending now last limit index request scan el other older before = record {
  column = class_skip (WantsColumn list) c list pending now last limit index request scan.bests.column el (λ x wants _. other.2 (cc (other.1, wants.0))) before.column;
  act = class_skip (WantsAct list) c list pending now last limit index request scan.bests.row el (λ x wants _. absurd (cc (other.1, wants.0))) before.act;
  passed = before.passed;
  hits = λ i q less e lies row. elim (cases_lt i index) [
    | inl l ↦ before.hits i q l e lies row
    | inr g ↦ let opened = subst (λ (p : Pending). open_row (bank_at p.place) list ≡ Some p.place.row) (same i q less e g) row in absurd (other.2 (cc (other.1, opened)))
  ];
  others = λ i q less e lies differs. elim (cases_lt i index) [
    | inl l ↦ before.others i q l e lies differs
    | inr g ↦ let l = before.earlier (bank_index (bank_at request.place)) older in inr (rw (same i q less e g) (older, omega (arith, l, g)))
  ];
  noted = before.noted;
  earlier = λ n h. let l = before.earlier n h in omega (arith, l);
}
  where
    same : (i : ℕ) (q : Pending) → i < index + 1 → IsEligible pending i q → index ≤ i → q ≡ request
    same i q less e g = one_at pending i index q request e.here el.here (omega (arith, less, g))

-- one that is noted for its bank

-- the set with one bank more, and the places with that of the bank
pub record IsNoted (bank index : ℕ) (old new : Scan) : Type 0 where
  pub fresh : ¬ Has old.wanting bank
  pub within : bank < length old.others
  pub wanting : (n : ℕ) → (Has new.wanting n ↔ ((n ≡ bank) ⊎ Has old.wanting n))
  pub others : new.others ≡ set old.others bank index

kept : (bank index n : ℕ) (old new : Scan) → IsNoted bank index old new → Has old.wanting n → get_or new.others n 0 ≡ get_or old.others n 0
kept bank index n old new noted was = rw noted.others (get_or-set_other old.others bank n index 0 (λ same. noted.fresh (subst (λ (k : ℕ). Has old.wanting k) same was)))

-- what is noted of a bank then
noted_now : (bank index n : ℕ) (old new : Scan) → IsNoted bank index old new → Has new.wanting n →
    (Has old.wanting n × (get_or new.others n 0 ≡ get_or old.others n 0)) ⊎ ((n ≡ bank) × (get_or new.others n 0 ≡ index))
noted_now bank index n old new noted h = elim ((noted.wanting n).0 h) [
  | inl same ↦ inr (same, rw (noted.others, same) (get_or-set_same old.others bank index 0 noted.within))
  | inr was ↦ inl (was, kept bank index n old new noted was)
]

pub scan_noted : (c : Checked) (list : List Stamped) (pending : List Pending) (now last limit index bank : ℕ) (request : Pending) (old new : Scan) → IsEligible pending index request → IsOtherOpen list request.place →
    bank ≡ bank_index (bank_at request.place) → IsNoted bank index old new → new.bests ≡ old.bests → new.met ≡ old.met →
    AreScanned c list pending now last limit index old → AreScanned c list pending now last limit (index + 1) new
scan_noted c list pending now last limit index bank request old new el other at is bests met before = record {
  column = rw bests (class_skip (WantsColumn list) c list pending now last limit index request old.bests.column el (λ x wants _. other.2 (cc (other.1, wants.0))) before.column);
  act = rw bests (class_skip (WantsAct list) c list pending now last limit index request old.bests.row el (λ x wants _. absurd (cc (other.1, wants.0))) before.act);
  passed = λ b kind lies m. passed b kind (before.passed b kind lies (subst (λ (flags : List Bool). IsTrue (get_or flags (flag_of (bank_index b) kind) false)) met m));
  hits = λ i q less e lies row. elim (cases_lt i index) [
    | inl l ↦ rw met (before.hits i q l e lies row)
    | inr g ↦ let opened = subst (λ (p : Pending). open_row (bank_at p.place) list ≡ Some p.place.row) (same i q less e g) row in absurd (other.2 (cc (other.1, opened)))
  ];
  others = λ i q less e lies differs. elim (cases_lt i index) [
    | inl l ↦ elim (before.others i q l e lies differs) [
      | inl m ↦ inl (rw met m)
      | inr was ↦
          let n = bank_index (bank_at q.place) in
          let stays = kept bank index n old new is was.0 in
          inr ((is.wanting n).1 (inr was.0), omega (arith, stays, was.1))
    ]
    | inr g ↦ inr (rw (same i q less e g, ← at) ((is.wanting bank).1 (inl refl), omega (arith, here, g)))
  ];
  noted = λ n q h e. elim (noted_now bank index n old new is h) [
    | inl stays ↦ before.noted n q stays.0 (subst (λ (k : ℕ). IsEligible pending k q) stays.1 e)
    | inr now ↦
        let own : q ≡ request = one_at pending (get_or new.others n 0) index q request e.here el.here now.1 in
        rw own (other, sym at ∙ sym now.0)
  ];
  earlier = λ n h. elim (noted_now bank index n old new is h) [
    | inl stays ↦ let l = before.earlier n stays.0 in omega (arith, l, stays.1)
    | inr now ↦ omega (arith, now.1)
  ];
}
  where
    here : get_or new.others bank 0 ≡ index
    here = rw is.others (get_or-set_same old.others bank index 0 is.within)

    same : (i : ℕ) (q : Pending) → i < index + 1 → IsEligible pending i q → index ≤ i → q ≡ request
    same i q less e g = one_at pending i index q request e.here el.here (omega (arith, less, g))

    passed : (b : BankAddress) (kind : Kind) → IsPassed c list pending now last limit old b kind → IsPassed c list pending now last limit new b kind
    passed b kind p = record {
      index = p.index;
      request = p.request;
      eligible = p.eligible;
      here = p.here;
      meets = p.meets;
      column = rw bests p.column;
      act = rw bests p.act;
    }

pub found_noted : (g : Geometry) (pending : List Pending) (now limit index bank : ℕ) (request : Pending) (old new : Scan) → IsEligibleIn g pending index request → IsNoted bank index old new → new.bests ≡ old.bests →
    IsScanFound g pending now limit old → IsScanFound g pending now limit new
found_noted g pending now limit index bank request old new el is bests before = record {
  bests = rw bests before.bests;
  others = λ n h. elim (noted_now bank index n old new is h) [
    | inl stays ↦ rw stays.1 (before.others n stays.0)
    | inr now ↦ rw now.1 (request, el)
  ];
}

pub found_older : (g : Geometry) (pending : List Pending) (now limit index least from end : ℕ) (request : Pending) (old new : Best) → from ≡ max least now → IsEligibleIn g pending index request → IsOlderBetter old index from end new → IsFound g pending now limit old → IsFound g pending now limit new
found_older g pending now limit index least from end request old new is el better before = elim better [
  | inl b ↦ rw b.2 (λ _. (omega (arith, is), (request, el)))
  | inr b ↦ rw b.1 before
]

-- behind the last look

abbrev RowsBut : Checked → List Stamped → List Pending → ℕ → BankSet → ℕ → ℕ → Type 0
RowsBut c list pending last left = Takes (WantsRowBut list pending left) c list pending last

-- a bank of which one was met has no PRE
met_none : (c : Checked) (list : List Stamped) (pending : List Pending) (now last limit : ℕ) (scan : Scan) (request : Pending) (kind : Kind) → IsPassed c list pending now last limit scan (bank_at request.place) kind → IsOtherOpen list request.place → ¬ IsUnhit list pending (bank_at request.place)
met_none c list pending now last limit scan request kind p other unhit =
    let opened : open_row (bank_at p.request.place) list ≡ Some other.0 = ap (λ (b : BankAddress). open_row b list) p.here ∙ other.1 in
    elim (cases_eq other.0 p.request.place.row) [
      | inl same ↦ unhit p.index p.request p.eligible p.here (other.1 ∙ ap Some same)
      | inr differs ↦ p.meets (other.0, opened, differs)
    ]

-- A bank of which none is noted has none either.
pub rows_none : (c : Checked) (list : List Stamped) (pending : List Pending) (now last limit : ℕ) (best : Best) (scan : Scan) → AreScanned c list pending now last limit (length pending) scan →
    IsBest (Takes (WantsAct list) c list pending last) now limit (length pending) best → IsBest (RowsBut c list pending last scan.wanting) now limit (length pending) best
rows_none c list pending now last limit best scan s before =
    best_same _ _ now limit (length pending) best (λ i k h. (h.0, h.1, h.2, h.3, h.4, inl h.5))
    (λ i k h. (
      h.0,
      h.1,
      h.2,
      h.3,
      h.4,
      elim h.5 [
        | inl w ↦ w
        | inr w ↦
            let place = (ready_lawful c list (record { clock = k; cmd = h.1 }) h.4.lawful).rows.place in
            let has : HasBank c.geometry (bank_at h.0.place) = subst (λ (x : Command). IsInGeometry c.geometry x) w.2 place in
            elim (s.others i h.0 (slice_get_within pending i h.0 h.3.here) h.3 has w.0) [
              | inl met ↦ absurd (met_none c list pending now last limit scan h.0 h.0.kind (s.passed (bank_at h.0.place) h.0.kind has met) w.0 w.1)
              | inr noted ↦ absurd (w.3 noted.0)
            ]
      ],
    )) before

-- Where no bank is left these are all.
pub rows_all : (c : Checked) (list : List Stamped) (pending : List Pending) (now last limit : ℕ) (left : BankSet) (best : Best) → ((bank : ℕ) → ¬ Has left bank) →
    IsBest (RowsBut c list pending last left) now limit (length pending) best → IsBest (Takes (WantsRow list pending) c list pending last) now limit (length pending) best
rows_all c list pending now last limit left best none before =
    best_same _ _ now limit (length pending) best (λ i k h. (h.0, h.1, h.2, h.3, h.4, elim h.5 [ inl w ↦ inl w | inr w ↦ inr (w.0, w.1, w.2) ]))
    (λ i k h. (h.0, h.1, h.2, h.3, h.4, elim h.5 [ inl w ↦ inl w | inr w ↦ inr (w.0, w.1, w.2, none (bank_index (bank_at h.0.place))) ])) before

-- a bank that is taken out, and one that is left no more
taken_less : (left rest : BankSet) (n m : ℕ) → IsOneTaken left (Some n) rest → ¬ Has left m → ¬ Has rest m
taken_less left rest n m taken none h = none (((taken.2 m).0 h).0)

taken_other : (left rest : BankSet) (n m : ℕ) → IsOneTaken left (Some n) rest → m ≢ n → ¬ Has rest m → ¬ Has left m
taken_other left rest n m taken differs none h = none ((taken.2 m).1 (h, differs))

taken_gone : (left rest : BankSet) (n m : ℕ) → IsOneTaken left (Some n) rest → m ≡ n → ¬ Has rest m
taken_gone left rest n m taken same h = ((taken.2 m).0 h).1 same

-- a bank of which one was met
pub rows_met : (c : Checked) (list : List Stamped) (pending : List Pending) (now last limit n : ℕ) (kind : Kind) (left rest : BankSet) (best : Best) (scan : Scan) → IsOneTaken left (Some n) rest → IsTrue (get_or scan.met (flag_of n kind) false) →
    AreScanned c list pending now last limit (length pending) scan →
    IsBest (RowsBut c list pending last left) now limit (length pending) best → IsBest (RowsBut c list pending last rest) now limit (length pending) best
rows_met c list pending now last limit n kind left rest best scan taken met s before =
    best_same _ _ now limit (length pending) best
    (λ i k h. (h.0, h.1, h.2, h.3, h.4, elim h.5 [ inl w ↦ inl w | inr w ↦ inr (w.0, w.1, w.2, taken_less left rest n (bank_index (bank_at h.0.place)) taken w.3) ]))
    (λ i k h. (
      h.0,
      h.1,
      h.2,
      h.3,
      h.4,
      elim h.5 [
        | inl w ↦ inl w
        | inr w ↦ elim (cases_eq (bank_index (bank_at h.0.place)) n) [
          | inl at ↦
              let place = (ready_lawful c list (record { clock = k; cmd = h.1 }) h.4.lawful).rows.place in
              let has : HasBank c.geometry (bank_at h.0.place) = subst (λ (x : Command). IsInGeometry c.geometry x) w.2 place in
              absurd (met_none c list pending now last limit scan h.0 kind (s.passed (bank_at h.0.place) kind has (rw at met)) w.0 w.1)
          | inr differs ↦ inr (w.0, w.1, w.2, taken_other left rest n (bank_index (bank_at h.0.place)) taken differs w.3)
        ]
      ],
    )) before

-- the PRE is what a request of a bank that none hits wants, where another row is open
wishes_but : (c : Checked) (list : List Stamped) (pending : List Pending) (rest : BankSet) (request : Pending) (cmd : Command) → cmd ≡ pre_of request.place → IsOtherOpen list request.place → IsUnhit list pending (bank_at request.place) →
    ¬ Has rest (bank_index (bank_at request.place)) → IsInGeometry c.geometry cmd → IsWish (WantsRowBut list pending rest) c list request cmd
wishes_but c list pending rest request cmd is other unhit gone place = record {
  exact = λ next. (λ w. elim w [ inl a ↦ absurd (cc (other.1, a.0)) | inr p ↦ p.2 ∙ sym is ], λ e. inr (other, unhit, e ∙ is, gone));
  place = place;
  rows = rw is (λ none. cc (other.1, none));
  rank = ap rank_of is;
}

-- the oldest one of a bank of which none was met is offered its PRE
pub rows_offer : (c : Checked) (list : List Stamped) (pending : List Pending) (now last limit n index least from end : ℕ) (request : Pending) (cmd : Command) (left rest : BankSet) (old new : Best) (scan : Scan) → IsLawful c list → IsOneTaken left (Some n) rest → Has scan.wanting n →
    index ≡ get_or scan.others n 0 → IsEligible pending index request → HasBank c.geometry (bank_at request.place) → get_or scan.met (2 * n) false ≡ false → get_or scan.met (2 * n + 1) false ≡ false → IsEnd c list request.place.rank last end → end ≤ limit →
    cmd ≡ pre_of request.place → least ≡ least_clock c.timing list cmd → from ≡ max least now → IsOlderBetter old index from end new → AreScanned c list pending now last limit (length pending) scan →
    IsBest (RowsBut c list pending last left) now limit (length pending) old → IsBest (RowsBut c list pending last rest) now limit (length pending) new
rows_offer c list pending now last limit n index least from end request cmd left rest old new scan lawful taken wanting at el has read write ends early is clock start better s before =
    best_joins _ _ now limit (length pending) index from end old new better before early (slice_get_within pending index request el.here)
    (λ i k h. (h.0, h.1, h.2, h.3, h.4, elim h.5 [ inl w ↦ inl w | inr w ↦ inr (w.0, w.1, w.2, taken_less left rest n (bank_index (bank_at h.0.place)) taken w.3) ]))
    (λ sooner. own.1 (omega (arith, start), sooner))
    (λ i k less from_now h. elim h.5 [
      | inl w ↦ inl (h.0, h.1, h.2, h.3, h.4, inl w)
      | inr w ↦ elim (cases_eq (bank_index (bank_at h.0.place)) n) [
        | inl same ↦ inr (late i k h w from_now same)
        | inr differs ↦ inl (h.0, h.1, h.2, h.3, h.4, inr (w.0, w.1, w.2, taken_other left rest n (bank_index (bank_at h.0.place)) taken differs w.3))
      ]
    ])
  where
    noted : IsOtherOpen list request.place × (bank_index (bank_at request.place) ≡ n)
    noted = s.noted n request wanting (rw (← at) el)

    -- none of the bank was met
    unmet : (q : Pending) → bank_index (bank_at q.place) ≡ n → ¬ IsMet scan (bank_at q.place) q.kind
    unmet q same m = clear_flags scan.met n q.kind read write (subst (λ (b : ℕ). IsTrue (get_or scan.met (flag_of b q.kind) false)) same m)

    unhit : IsUnhit list pending (bank_at request.place)
    unhit j q e same row =
        unmet q (ap (λ (b : BankAddress). bank_index b) same ∙ noted.1)
        (s.hits j q (slice_get_within pending j q e.here) e (rw same has) (ap (λ (b : BankAddress). open_row b list) same ∙ row))

    wish : IsWish (WantsRowBut list pending rest) c list request cmd
    wish = wishes_but c list pending rest request cmd is noted.0 unhit (taken_gone left rest n (bank_index (bank_at request.place)) taken noted.1) (rw is has)

    own : Takes (WantsRowBut list pending rest) c list pending last index from ↔ ((least ≤ from) × (from < end))
    own = takes_from (WantsRowBut list pending rest) c list pending last index least end from request cmd lawful wish el clock ends

    late : (i k : ℕ) (h : Takes (WantsRowBut list pending rest) c list pending last i k) → (IsOtherOpen list h.0.place × IsUnhit list pending (bank_at h.0.place) × (h.1 ≡ pre_of h.0.place) × ¬ Has rest (bank_index (bank_at h.0.place))) → now ≤ k →
        bank_index (bank_at h.0.place) ≡ n → (index ≤ i) × (from ≤ k) × (k < end)
    late i k h w from_now bank =
        let place = (ready_lawful c list (record { clock = k; cmd = h.1 }) h.4.lawful).rows.place in
        let lies = subst (λ (x : Command). IsInGeometry c.geometry x) w.2 place in
        let same : bank_at h.0.place ≡ bank_at request.place = one_bank c.geometry (bank_at h.0.place) (bank_at request.place) c.is_small lies has (bank ∙ sym noted.1) in
        let alike : h.1 ≡ cmd = w.2 ∙ (ap Pre same ∙ sym is) in
        let span = (takes_from (WantsRowBut list pending rest) c list pending last i least end k h.0 h.1 lawful (wishes_but c list pending rest h.0 h.1 w.2 w.0 w.1 w.3 place) h.3 (clock ∙ ap (λ (x : Command). least_clock c.timing list x) (sym alike))
        (subst (λ (r : ℕ). IsEnd c list r last end) (sym (ap (λ (b : BankAddress). b.rank) same)) ends)).0 h in
        let older : index ≤ i = elim (s.others i h.0 (slice_get_within pending i h.0 h.3.here) h.3 lies w.0) [
          | inl m ↦ absurd (unmet h.0 bank m)
          | inr was ↦ let e = ap (λ (b : ℕ). get_or scan.others b 0) bank in omega (arith, was.1, e, at)
        ] in
        (older, omega (arith, start, span.0, from_now), span.1)
