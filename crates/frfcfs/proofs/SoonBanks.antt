-- The soonest requests by their seqs, where one bank more was looked at.
use Rattle.std.proofs.Common.{◌≡◌, ◌≢◌, ℕ, ◌/◌, ◌%◌, ◌⊎◌, max, List, Option, None, Some, inl, inr, refl, sym, subst, ap, ◌∙◌, arith}
use Rattle.std.proofs.lemmas.Bool.{cases_eq}
use Rattle.request_notes.specs.BankSets.{IsOneTaken}
use Rattle.frfcfs.specs.NotedLook.{IsNoted, IsPast, IsPastOrRead, IsSooner, IsSoonest, TakesBySeq, WantsSeen, address_of}
use Rattle.request_notes.specs.Notes.{IsHit, IsOfBank, IsOldestSeq}
use Rattle.request_notes.specs.declared.bank_set.BankSet.{BankSet}
use Rattle.frfcfs.specs.declared.noted_look.Soon.{Soon}
use Rattle.request_notes.specs.declared.notes.Note.{Note}
use Rattle.frfcfs.proofs.Common.{Act, BankAddress, Checked, Command, IsEligible, IsEnd, IsKeyOf, IsLawful, IsUnhit, Key, Kind, LiesIn, Pending, Place, Pre, Read, Stamped, WantsColumn, WantsRow, Write, act_of, bank_at, bank_index, column_of, least_clock, open_row, pre_of}
use Rattle.frfcfs.proofs.ScanLemmas.{act_clock, column_clock}
use Rattle.frfcfs.proofs.Wants.{IsWish, column_in, wishes_act, wishes_column, wishes_pre}
use Rattle.frfcfs.proofs.KeyRequests.{at_number, free_key, key_free}
use Rattle.frfcfs.proofs.SoonLemmas.{IsOffer, left_gone, left_less, left_other, seen_none, seen_offer}

-- the bank of a number

-- its first place
abbrev pub place_in : ℕ → Place
place_in n = record { channel = 0; rank = n / 16; group = n / 4 % 4; bank = n % 4; row = 0; column = 0 }

abbrev pub number_of : Pending → ℕ
number_of p = bank_index (bank_at p.place)

column_least : (c : Checked) (list : List Stamped) (n least : ℕ) (kind : Kind) (p : Pending) → least ≡ least_clock c.timing list (column_of kind (place_in n)) → address_of n ≡ bank_at p.place → p.kind ≡ kind → least ≡ least_clock c.timing list (column_of p.kind p.place)
column_least c list n least kind p is at own = is ∙ (column_clock c.timing list kind (place_in n) p.place at ∙ ap (λ (k : Kind). least_clock c.timing list (column_of k p.place)) (sym own))

-- an eligible request of the bank whose row is open there has a key that hits the row
hit_key : (c : Checked) (list : List Stamped) (pending : List Pending) (keys : List Key) (last limit n end i : ℕ) (note : Note) (p : Pending) → IsNoted c list pending keys last limit n end note → IsEligible pending i p → number_of p ≡ n → open_row (bank_at p.place) list ≡ Some p.place.row →
    (k : Key) × IsHit keys n note.row p.kind k × (k.seq ≡ p.seq)
hit_key c list pending keys last limit n end i note p noted el at row =
    let (k, of, is, lies) = free_key c.geometry pending keys i p c.is_small noted.keyed el in
    let here = at_number c.geometry p n c.is_small lies at in
    (k, ((of.0, of.1, of.2 ∙ at), sym noted.row ∙ (ap (λ (b : BankAddress). open_row b list) here ∙ (row ∙ ap Some (sym is.row))), is.kind), is.seq)

-- no request of a kind hits the bank's row
no_hit : (c : Checked) (list : List Stamped) (pending : List Pending) (keys : List Key) (last limit n end i : ℕ) (note : Note) (kind : Kind) (p : Pending) → IsNoted c list pending keys last limit n end note → IsOldestSeq (IsHit keys n note.row kind) None → IsEligible pending i p → number_of p ≡ n → p.kind ≡ kind →
    open_row (bank_at p.place) list ≢ Some p.place.row
no_hit c list pending keys last limit n end i note kind p noted none el at own row =
    let (k, hit, e) = hit_key c list pending keys last limit n end i note p noted el at row in
    none k (hit.0, hit.1, hit.2 ∙ own)

-- the oldest one of a kind that hits it is offered its RD or WR
hit_offer : (A B : Pending → Type 0) (c : Checked) (list : List Stamped) (pending : List Pending) (keys : List Key) (last limit n end seq least : ℕ) (note : Note) (kind : Kind) → IsNoted c list pending keys last limit n end note → IsOldestSeq (IsHit keys n note.row kind) (Some seq) →
    least ≡ least_clock c.timing list (column_of kind (place_in n)) → ((p : Pending) → number_of p ≡ n → p.kind ≡ kind → B p) → ((p : Pending) → B p → A p ⊎ ((number_of p ≡ n) × (p.kind ≡ kind))) → IsOffer (WantsColumn list) A B c list pending last seq least end
hit_offer A B c list pending keys last limit n end seq least note kind noted first clock mine only = record {
  index = i;
  request = p;
  cmd = column_of p.kind p.place;
  eligible = found.2;
  own = sym is.seq ∙ first.0.2;
  wish = wishes_column c list p (column_of p.kind p.place) refl row ((column_in c.geometry p.place p.kind).1 (record { rank = lies.rank; group = lies.group; bank = lies.bank }, lies.column));
  clock = column_least c list n least kind p clock here own;
  seen = mine p at own;
  ends = subst (λ (r : ℕ). IsEnd c list r last end) (ap (λ (b : BankAddress). b.rank) here) noted.ends;
  each = λ j q x el wants place seen. elim (only q seen) [
    | inl a ↦ inl a
    | inr h ↦
        let (m, hit, e) = hit_key c list pending keys last limit n end j note q noted el h.0 wants.0 in
        let (l, of, its, lies_too) = free_key c.geometry pending keys j q c.is_small noted.keyed el in
        let there = at_number c.geometry q n c.is_small lies_too h.0 in
        let least_is = column_least c list n least kind q clock there h.1 in
        inr (
          let less = first.1 m (hit.0, hit.1, hit.2 ∙ h.1) in omega (arith, less, e),
          wishes_column c list q x wants.1 wants.0 place,
          least_is ∙ ap (λ (y : Command). least_clock c.timing list y) (sym wants.1),
          ap (λ (b : BankAddress). b.rank) (sym there ∙ here),
        )
  ];
}
  where
    k : Key
    k = first.0.0

    found : (i : ℕ) × (p : Pending) × IsEligible pending i p × IsKeyOf p k × LiesIn c.geometry p.place × (bank_index (bank_at p.place) ≡ n)
    found = key_free c.geometry pending keys n k c.is_small noted.keyed first.0.1.0

    i : ℕ
    i = found.0

    p : Pending
    p = found.1

    is : IsKeyOf p k
    is = found.3

    lies : LiesIn c.geometry p.place
    lies = found.4

    at : number_of p ≡ n
    at = found.5

    here : address_of n ≡ bank_at p.place
    here = at_number c.geometry p n c.is_small lies at

    own : p.kind ≡ kind
    own = sym is.kind ∙ first.0.1.2

    row : open_row (bank_at p.place) list ≡ Some p.place.row
    row = ap (λ (b : BankAddress). open_row b list) (sym here) ∙ (noted.row ∙ (first.0.1.1 ∙ ap Some is.row))

-- some eligible request hits the row, so that none of the bank wants an ACT or a PRE
no_row_wanted : (c : Checked) (list : List Stamped) (pending : List Pending) (keys : List Key) (last limit n end seq i : ℕ) (note : Note) (kind : Kind) (p : Pending) (cmd : Command) → IsNoted c list pending keys last limit n end note → IsOldestSeq (IsHit keys n note.row kind) (Some seq) → IsEligible pending i p →
    number_of p ≡ n → ¬ WantsRow list pending p cmd
no_row_wanted c list pending keys last limit n end seq i note kind p cmd noted first el at wants =
    let (j, q, hits, is, lies, own) = key_free c.geometry pending keys n first.0.0 c.is_small noted.keyed first.0.1.0 in
    let there = at_number c.geometry q n c.is_small lies own in
    let (k, of, its, lies_too) = free_key c.geometry pending keys i p c.is_small noted.keyed el in
    let here = at_number c.geometry p n c.is_small lies_too at in
    let opened : open_row (bank_at p.place) list ≡ Some q.place.row = ap (λ (b : BankAddress). open_row b list) (sym here) ∙ (noted.row ∙ (first.0.1.1 ∙ ap Some is.row)) in
    elim wants [
      | inl act ↦ absurd (cc (act.0, opened))
      | inr pre ↦ pre.1 j q hits (sym there ∙ here) opened
    ]

-- none of the bank's requests hits the row
unhit_bank : (c : Checked) (list : List Stamped) (pending : List Pending) (keys : List Key) (last limit n end i : ℕ) (note : Note) (p : Pending) → IsNoted c list pending keys last limit n end note → note.read ≡ None → note.write ≡ None → IsEligible pending i p → number_of p ≡ n → open_row (bank_at p.place) list ≢ Some p.place.row
unhit_bank c list pending keys last limit n end i note p noted read write el at = of p.kind refl
  where
    of : (kind : Kind) → p.kind ≡ kind → open_row (bank_at p.place) list ≢ Some p.place.row
    of Read own = no_hit c list pending keys last limit n end i note Read p noted (subst (λ (s : Option ℕ). IsOldestSeq (IsHit keys n note.row Read) s) read noted.told.read) el at own
    of Write own = no_hit c list pending keys last limit n end i note Write p noted (subst (λ (s : Option ℕ). IsOldestSeq (IsHit keys n note.row Write) s) write noted.told.write) el at own

-- the ACT or PRE that a request of such a bank wants
abbrev pub row_command_of : Option ℕ → ℕ → Command
row_command_of None n = Act (address_of n) 0
row_command_of (Some row) n = Pre (address_of n)

-- it is the one that it wants, and goes as soon
row_wish : (c : Checked) (list : List Stamped) (pending : List Pending) (keys : List Key) (last limit n end i least : ℕ) (note : Note) (row : Option ℕ) (p : Pending) → IsNoted c list pending keys last limit n end note → note.row ≡ row → note.read ≡ None → note.write ≡ None → IsEligible pending i p →
    LiesIn c.geometry p.place → number_of p ≡ n → least ≡ least_clock c.timing list (row_command_of row n) → (cmd : Command) × IsWish (WantsRow list pending) c list p cmd × (least ≡ least_clock c.timing list cmd)
row_wish c list pending keys last limit n end i least note None p noted is read write el lies at clock =
    let here = at_number c.geometry p n c.is_small lies at in
    let closed : open_row (bank_at p.place) list ≡ None = ap (λ (b : BankAddress). open_row b list) (sym here) ∙ (noted.row ∙ is) in
    (act_of p.place, wishes_act c list pending p (act_of p.place) refl closed (record { rank = lies.rank; group = lies.group; bank = lies.bank }, lies.row), clock ∙ act_clock c.timing list (place_in n) p.place here)
row_wish c list pending keys last limit n end i least note (Some row) p noted is read write el lies at clock =
    let here = at_number c.geometry p n c.is_small lies at in
    let opened : open_row (bank_at p.place) list ≡ Some row = ap (λ (b : BankAddress). open_row b list) (sym here) ∙ (noted.row ∙ is) in
    let differs : row ≢ p.place.row = λ e. unhit_bank c list pending keys last limit n end i note p noted read write el at (opened ∙ ap Some e) in
    (pre_of p.place, wishes_pre c list pending p row (pre_of p.place) refl opened differs unhit (record { rank = lies.rank; group = lies.group; bank = lies.bank }), clock ∙ ap (λ (b : BankAddress). least_clock c.timing list (Pre b)) here)
  where
    unhit : IsUnhit list pending (bank_at p.place)
    unhit j q hits same opened = unhit_bank c list pending keys last limit n end j note q noted read write hits (ap (λ (b : BankAddress). bank_index b) same ∙ at) (ap (λ (b : BankAddress). open_row b list) same ∙ opened)

-- the oldest one of such a bank is offered its ACT or PRE
oldest_offer : (A B : Pending → Type 0) (c : Checked) (list : List Stamped) (pending : List Pending) (keys : List Key) (last limit n end seq least : ℕ) (note : Note) → IsNoted c list pending keys last limit n end note → note.read ≡ None → note.write ≡ None → IsOldestSeq (IsOfBank keys n) (Some seq) →
    least ≡ least_clock c.timing list (row_command_of note.row n) → ((p : Pending) → number_of p ≡ n → B p) → ((p : Pending) → B p → A p ⊎ (number_of p ≡ n)) → IsOffer (WantsRow list pending) A B c list pending last seq least end
oldest_offer A B c list pending keys last limit n end seq least note noted read write first clock mine only =
    let (i, p, el, is, lies, at) = key_free c.geometry pending keys n first.0.0 c.is_small noted.keyed first.0.1 in
    let here = at_number c.geometry p n c.is_small lies at in
    let (cmd, wish, least_is) = row_wish c list pending keys last limit n end i least note note.row p noted refl read write el lies at clock in
    record {
      index = i;
      request = p;
      cmd = cmd;
      eligible = el;
      own = sym is.seq ∙ first.0.2;
      wish = wish;
      clock = least_is;
      seen = mine p at;
      ends = subst (λ (r : ℕ). IsEnd c list r last end) (ap (λ (b : BankAddress). b.rank) here) noted.ends;
      each = λ j q x hits wants place seen. elim (only q seen) [
        | inl a ↦ inl a
        | inr own ↦
            let (m, of, its, lies_too) = free_key c.geometry pending keys j q c.is_small noted.keyed hits in
            let there = at_number c.geometry q n c.is_small lies_too own in
            let (other, wished, soon) = row_wish c list pending keys last limit n end j least note note.row q noted refl read write hits lies_too own clock in
            let same : x ≡ other = (wished.exact x).0 wants in
            inr (
              let less = first.1 m (of.0, of.1, of.2 ∙ own) in let e = its.seq in omega (arith, less, e),
              subst (λ (y : Command). IsWish (WantsRow list pending) c list q y) (sym same) wished,
              soon ∙ ap (λ (y : Command). least_clock c.timing list y) (sym same),
              ap (λ (b : BankAddress). b.rank) (sym there ∙ here),
            )
      ];
    }

-- what was looked at

past_only : (left rest : BankSet) (n : ℕ) (p : Pending) → IsOneTaken left (Some n) rest → IsPast rest p → IsPast left p ⊎ (number_of p ≡ n)
past_only left rest n p taken past = elim (cases_eq (number_of p) n) [
  | inl e ↦ inr e
  | inr differs ↦ inl (left_other left rest n (number_of p) taken differs past)
]

past_writes : (left rest : BankSet) (n : ℕ) (p : Pending) → IsOneTaken left (Some n) rest → IsPast rest p → IsPastOrRead left n p ⊎ ((number_of p ≡ n) × (p.kind ≡ Write))
past_writes left rest n p taken past = elim (past_only left rest n p taken past) [
  | inl was ↦ inl (inl was)
  | inr at ↦ of p.kind refl at
]
  where
    of : (kind : Kind) → p.kind ≡ kind → number_of p ≡ n → IsPastOrRead left n p ⊎ ((number_of p ≡ n) × (p.kind ≡ Write))
    of Read is at = inl (inr (at, is))
    of Write is at = inr (at, is)

past_more : (left rest : BankSet) (n : ℕ) (p : Pending) → IsOneTaken left (Some n) rest → IsPastOrRead left n p → IsPast rest p
past_more left rest n p taken h = elim h [
  | inl past ↦ left_less left rest n (number_of p) taken past
  | inr own ↦ left_gone left rest n (number_of p) taken own.0
]

-- the soonest RD or WR, where a bank's reads were looked at, and then its writes

pub reads_seen : (c : Checked) (list : List Stamped) (pending : List Pending) (keys : List Key) (now last limit n end least from : ℕ) (left : BankSet) (note : Note) (seq : ℕ) (old new : Soon) → IsLawful c list → IsNoted c list pending keys last limit n end note → IsOldestSeq (IsHit keys n note.row Read) (Some seq) →
    least ≡ least_clock c.timing list (column_of Read (place_in n)) → from ≡ max least now → IsSooner old seq from end new → IsSoonest (TakesBySeq (WantsSeen (WantsColumn list) (IsPast left)) c list pending last) now limit old → IsSoonest (TakesBySeq (WantsSeen (WantsColumn list) (IsPastOrRead left n)) c list pending last) now limit new
reads_seen c list pending keys now last limit n end least from left note seq old new lawful noted first clock start better =
    seen_offer (WantsColumn list) (IsPast left) (IsPastOrRead left n) c list pending now last limit seq least from end old new lawful (λ p h. inl h)
    (hit_offer (IsPast left) (IsPastOrRead left n) c list pending keys last limit n end seq least note Read noted first clock (λ p at own. inr (at, own)) (λ p h. h)) noted.early start better

pub writes_seen : (c : Checked) (list : List Stamped) (pending : List Pending) (keys : List Key) (now last limit n end least from : ℕ) (left rest : BankSet) (note : Note) (seq : ℕ) (old new : Soon) → IsLawful c list → IsNoted c list pending keys last limit n end note → IsOldestSeq (IsHit keys n note.row Write) (Some seq) →
    least ≡ least_clock c.timing list (column_of Write (place_in n)) → from ≡ max least now → IsSooner old seq from end new → IsOneTaken left (Some n) rest → IsSoonest (TakesBySeq (WantsSeen (WantsColumn list) (IsPastOrRead left n)) c list pending last) now limit old →
    IsSoonest (TakesBySeq (WantsSeen (WantsColumn list) (IsPast rest)) c list pending last) now limit new
writes_seen c list pending keys now last limit n end least from left rest note seq old new lawful noted first clock start better taken =
    seen_offer (WantsColumn list) (IsPastOrRead left n) (IsPast rest) c list pending now last limit seq least from end old new lawful (λ p h. past_more left rest n p taken h)
    (hit_offer (IsPastOrRead left n) (IsPast rest) c list pending keys last limit n end seq least note Write noted first clock (λ p at own. left_gone left rest n (number_of p) taken at) (λ p h. past_writes left rest n p taken h)) noted.early start better

pub no_reads : (c : Checked) (list : List Stamped) (pending : List Pending) (keys : List Key) (now last limit n end : ℕ) (left : BankSet) (note : Note) (soon : Soon) → IsNoted c list pending keys last limit n end note → IsOldestSeq (IsHit keys n note.row Read) None →
    IsSoonest (TakesBySeq (WantsSeen (WantsColumn list) (IsPast left)) c list pending last) now limit soon → IsSoonest (TakesBySeq (WantsSeen (WantsColumn list) (IsPastOrRead left n)) c list pending last) now limit soon
no_reads c list pending keys now last limit n end left note soon noted none =
    seen_none (WantsColumn list) (IsPast left) (IsPastOrRead left n) c list pending now last limit soon (λ p h. inl h)
    (λ i p cmd el wants place h. elim h [ inl past ↦ past | inr own ↦ absurd (no_hit c list pending keys last limit n end i note Read p noted none el own.0 own.1 wants.0) ])

pub no_writes : (c : Checked) (list : List Stamped) (pending : List Pending) (keys : List Key) (now last limit n end : ℕ) (left rest : BankSet) (note : Note) (soon : Soon) → IsNoted c list pending keys last limit n end note → IsOldestSeq (IsHit keys n note.row Write) None → IsOneTaken left (Some n) rest →
    IsSoonest (TakesBySeq (WantsSeen (WantsColumn list) (IsPastOrRead left n)) c list pending last) now limit soon → IsSoonest (TakesBySeq (WantsSeen (WantsColumn list) (IsPast rest)) c list pending last) now limit soon
no_writes c list pending keys now last limit n end left rest note soon noted none taken =
    seen_none (WantsColumn list) (IsPastOrRead left n) (IsPast rest) c list pending now last limit soon (λ p h. past_more left rest n p taken h)
    (λ i p cmd el wants place h. elim (past_writes left rest n p taken h) [ inl past ↦ past | inr own ↦ absurd (no_hit c list pending keys last limit n end i note Write p noted none el own.0 own.1 wants.0) ])

-- the soonest ACT or PRE, of a bank whose row is hit
pub rows_hit : (c : Checked) (list : List Stamped) (pending : List Pending) (keys : List Key) (now last limit n end seq : ℕ) (left rest : BankSet) (note : Note) (kind : Kind) (soon : Soon) → IsNoted c list pending keys last limit n end note → IsOldestSeq (IsHit keys n note.row kind) (Some seq) → IsOneTaken left (Some n) rest →
    IsSoonest (TakesBySeq (WantsSeen (WantsRow list pending) (IsPast left)) c list pending last) now limit soon → IsSoonest (TakesBySeq (WantsSeen (WantsRow list pending) (IsPast rest)) c list pending last) now limit soon
rows_hit c list pending keys now last limit n end seq left rest note kind soon noted first taken =
    seen_none (WantsRow list pending) (IsPast left) (IsPast rest) c list pending now last limit soon (λ p h. left_less left rest n (number_of p) taken h)
    (λ i p cmd el wants place h. elim (past_only left rest n p taken h) [ inl past ↦ past | inr at ↦ absurd (no_row_wanted c list pending keys last limit n end seq i note kind p cmd noted first el at wants) ])

-- both, of a bank whose row none hits

pub columns_none : (c : Checked) (list : List Stamped) (pending : List Pending) (keys : List Key) (now last limit n end : ℕ) (left rest : BankSet) (note : Note) (soon : Soon) → IsNoted c list pending keys last limit n end note → note.read ≡ None → note.write ≡ None → IsOneTaken left (Some n) rest →
    IsSoonest (TakesBySeq (WantsSeen (WantsColumn list) (IsPast left)) c list pending last) now limit soon → IsSoonest (TakesBySeq (WantsSeen (WantsColumn list) (IsPast rest)) c list pending last) now limit soon
columns_none c list pending keys now last limit n end left rest note soon noted read write taken =
    seen_none (WantsColumn list) (IsPast left) (IsPast rest) c list pending now last limit soon (λ p h. left_less left rest n (number_of p) taken h)
    (λ i p cmd el wants place h. elim (past_only left rest n p taken h) [ inl past ↦ past | inr at ↦ absurd (unhit_bank c list pending keys last limit n end i note p noted read write el at wants.0) ])

pub rows_seen : (c : Checked) (list : List Stamped) (pending : List Pending) (keys : List Key) (now last limit n end seq least from : ℕ) (left rest : BankSet) (note : Note) (old new : Soon) → IsLawful c list → IsNoted c list pending keys last limit n end note → note.read ≡ None → note.write ≡ None → IsOldestSeq (IsOfBank keys n) (Some seq) →
    least ≡ least_clock c.timing list (row_command_of note.row n) → from ≡ max least now → IsSooner old seq from end new → IsOneTaken left (Some n) rest →
    IsSoonest (TakesBySeq (WantsSeen (WantsRow list pending) (IsPast left)) c list pending last) now limit old → IsSoonest (TakesBySeq (WantsSeen (WantsRow list pending) (IsPast rest)) c list pending last) now limit new
rows_seen c list pending keys now last limit n end seq least from left rest note old new lawful noted read write first clock start better taken =
    seen_offer (WantsRow list pending) (IsPast left) (IsPast rest) c list pending now last limit seq least from end old new lawful (λ p h. left_less left rest n (number_of p) taken h)
    (oldest_offer (IsPast left) (IsPast rest) c list pending keys last limit n end seq least note noted read write first clock (λ p at. left_gone left rest n (number_of p) taken at) (λ p h. past_only left rest n p taken h)) noted.early start better

pub rows_gone : (c : Checked) (list : List Stamped) (pending : List Pending) (keys : List Key) (now last limit n end : ℕ) (left rest : BankSet) (note : Note) (soon : Soon) → IsNoted c list pending keys last limit n end note → IsOldestSeq (IsOfBank keys n) None → IsOneTaken left (Some n) rest →
    IsSoonest (TakesBySeq (WantsSeen (WantsRow list pending) (IsPast left)) c list pending last) now limit soon → IsSoonest (TakesBySeq (WantsSeen (WantsRow list pending) (IsPast rest)) c list pending last) now limit soon
rows_gone c list pending keys now last limit n end left rest note soon noted none taken =
    seen_none (WantsRow list pending) (IsPast left) (IsPast rest) c list pending now last limit soon (λ p h. left_less left rest n (number_of p) taken h)
    (λ i p cmd el wants place h. elim (past_only left rest n p taken h) [
      | inl past ↦ past
      | inr at ↦ let (k, of, is, lies) = free_key c.geometry pending keys i p c.is_small noted.keyed el in absurd (none k (of.0, of.1, of.2 ∙ at))
    ])
