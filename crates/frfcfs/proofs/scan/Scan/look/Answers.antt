use Rattle.std.proofs.Common.{◌≡◌, ℕ, Some, None, ap, ◌∙◌, sym, subst, arith, refl, length, get_or}
use Rattle.request_notes.specs.BankSets.{Has}
use Rattle.frfcfs.specs.Scan.{flag_of}
use Rattle.frfcfs.proofs.Common.{BankAddress, Command, HasBank, IsEnd, Kind, act_of, bank_at, bank_index, column_of, least_clock, open_row, place_of}
use Rattle.frfcfs.proofs.KeyLemmas.{key_bank, key_flag, key_index, key_small}
use Rattle.frfcfs.proofs.ScanLemmas.{act_clock, column_clock, found_offer, scan_act, scan_column, scan_skip}
use Rattle.frfcfs.proofs.ScanOthers.{found_noted, scan_noted, scan_older}
use Rattle.frfcfs.proofs.Wants.{column_in}
use Rattle.frfcfs.proofs.scan.Scan.look.Goals as goal

pub flag-mark-requires : goal.flag-mark-requires
flag-mark-requires c = key_small c.args.banks.now.checked.geometry c.args.key.now c.args.banks.now.checked.is_small c.requires

pub returns-then-self-mark-clause-scanned : goal.returns-then-self-mark-clause-scanned
returns-then-self-mark-clause-scanned c list pending request last limit s ends early el is lies before =
    let b = c.args.banks.now.checked in
    let mark : c.flag-mark.result ≡ flag_of (bank_index (bank_at request.place)) request.kind = c.flag-mark.ensures ∙ key_flag b.geometry request c.args.key.now b.is_small lies is in
    let has : HasBank b.geometry (bank_at request.place) = record { rank = lies.rank; group = lies.group; bank = lies.bank } in
    scan_skip b list pending c.args.now last limit c.args.index request c.args.self.now el has (rw (← mark) c.if-self-mark.true) before

pub returns-in-None-clause-found : goal.returns-in-None-clause-found
returns-in-None-clause-found c pending request limit early el is lies before =
    let g = c.args.banks.now.checked.geometry in
    let has : HasBank g (bank_at request.place) = record { rank = lies.rank; group = lies.group; bank = lies.bank } in record {
      bests = (before.bests.0, found_offer g pending c.args.now limit c.args.index c.least_clock-clock.result c.max.result _ request _ _ c.max.ensures (early _) (el, has) c.offer.ensures before.bests.1);
      others = before.others;
    }

pub returns-in-None-clause-scanned : goal.returns-in-None-clause-scanned
returns-in-None-clause-scanned c list pending request last limit s ends early el is lies before =
    let b = c.args.banks.now.checked in
    let key = c.args.key.now in
    let bank = key_bank b.geometry request key b.is_small lies is in
    let at : c.bank_address-at.result ≡ bank_at request.place = c.bank_address-at.ensures ∙ bank in
    let mark : c.flag-mark.result ≡ flag_of (bank_index (bank_at request.place)) request.kind = c.flag-mark.ensures ∙ key_flag b.geometry request key b.is_small lies is in
    let row : open_row (bank_at request.place) list ≡ None = cc (c.open_row.ensures list s, at) in
    let size : length c.args.self.now.met ≡ 128 = omega arith in
    let clock : c.least_clock-clock.result ≡ least_clock b.timing list (act_of request.place) =
    c.least_clock-clock.ensures list s ∙ (ap (λ (x : Command). least_clock b.timing list x) c.act.ensures ∙ act_clock b.timing list (place_of key) request.place bank) in
    scan_act b list pending c.args.now last limit c.args.index c.flag-mark.result c.least_clock-clock.result c.max.result _ request (act_of request.place) c.args.self.now _ s.lawful lies el
    (subst (λ (x : BankAddress). IsEnd b list request.place.rank last (get_or c.args.ends.now x.rank 0)) (sym at) (ends request.place.rank lies.rank)) (early _) row refl clock c.max.ensures c.offer.ensures refl mark size refl refl refl before

pub returns-then-row-key-clause-found : goal.returns-then-row-key-clause-found
returns-then-row-key-clause-found c pending request limit early el is lies before =
    let g = c.args.banks.now.checked.geometry in
    let has : HasBank g (bank_at request.place) = record { rank = lies.rank; group = lies.group; bank = lies.bank } in record {
      bests = (found_offer g pending c.args.now limit c.args.index c.least_clock-clock-then-row-key.result c.max-then-row-key.result _ request _ _ c.max-then-row-key.ensures (early _) (el, has) c.offer-then-row-key.ensures before.bests.0, before.bests.1);
      others = before.others;
    }

pub returns-then-row-key-clause-scanned : goal.returns-then-row-key-clause-scanned
returns-then-row-key-clause-scanned c list pending request last limit s ends early el is lies before =
    let b = c.args.banks.now.checked in
    let key = c.args.key.now in
    let bank = key_bank b.geometry request key b.is_small lies is in
    let at : c.bank_address-at.result ≡ bank_at request.place = c.bank_address-at.ensures ∙ bank in
    let mark : c.flag-mark.result ≡ flag_of (bank_index (bank_at request.place)) request.kind = c.flag-mark.ensures ∙ key_flag b.geometry request key b.is_small lies is in
    let has : HasBank b.geometry (bank_at request.place) = record { rank = lies.rank; group = lies.group; bank = lies.bank } in
    let row : open_row (bank_at request.place) list ≡ Some request.place.row = cc (c.open_row.ensures list s, at, is.row) in
    let place = (column_in b.geometry request.place request.kind).1 (has, lies.column) in
    let size : length c.args.self.now.met ≡ 128 = omega arith in
    let clock : c.least_clock-clock-then-row-key.result ≡ least_clock b.timing list (column_of request.kind request.place) =
    c.least_clock-clock-then-row-key.ensures list s
    ∙ (ap (λ (x : Command). least_clock b.timing list x) c.column.ensures
    ∙ (column_clock b.timing list key.kind (place_of key) request.place bank ∙ ap (λ (kind : Kind). least_clock b.timing list (column_of kind request.place)) is.kind)) in
    scan_column b list pending c.args.now last limit c.args.index c.flag-mark.result c.least_clock-clock-then-row-key.result c.max-then-row-key.result _ request (column_of request.kind request.place) c.args.self.now _ s.lawful lies el
    (subst (λ (x : BankAddress). IsEnd b list request.place.rank last (get_or c.args.ends.now x.rank 0)) (sym at) (ends request.place.rank lies.rank)) (early _) row refl place clock c.max-then-row-key.ensures c.offer-then-row-key.ensures refl mark size
    refl refl refl before

pub has-requires : goal.has-requires
has-requires c = key_small c.args.banks.now.checked.geometry c.args.key.now c.args.banks.now.checked.is_small c.requires

pub add-requires : goal.add-requires
add-requires c = key_small c.args.banks.now.checked.geometry c.args.key.now c.args.banks.now.checked.is_small c.requires

pub returns-then-not-has-clause-found : goal.returns-then-not-has-clause-found
returns-then-not-has-clause-found c pending request limit early el is lies before =
    let b = c.args.banks.now.checked in
    let has : HasBank b.geometry (bank_at request.place) = record { rank = lies.rank; group = lies.group; bank = lies.bank } in
    let size : length c.args.self.now.others ≡ 64 = omega arith in
    let small = key_small b.geometry c.args.key.now b.is_small c.requires in
    found_noted b.geometry pending c.args.now limit c.args.index c.args.key.now.bank request c.args.self.now _ (el, has)
    (record { fresh = λ h. absurd (cc (c.if-not-has.ensures.1 h)); within = omega (arith, size, small); wanting = c.add.ensures; others = refl }) refl before

pub returns-then-not-has-clause-scanned : goal.returns-then-not-has-clause-scanned
returns-then-not-has-clause-scanned c list pending request last limit s ends early el is lies before =
    let b = c.args.banks.now.checked in
    let key = c.args.key.now in
    let at : c.bank_address-at.result ≡ bank_at request.place = c.bank_address-at.ensures ∙ key_bank b.geometry request key b.is_small lies is in
    let row : open_row (bank_at request.place) list ≡ Some c.in-Some.row = cc (c.open_row.ensures list s, at) in
    let size : length c.args.self.now.others ≡ 64 = omega arith in
    let small = key_small b.geometry key b.is_small c.requires in
    scan_noted b list pending c.args.now last limit c.args.index key.bank request c.args.self.now _ el (c.in-Some.row, row, λ e. c.if-row-key.false (e ∙ sym is.row)) (key_index b.geometry request key b.is_small lies is)
    (record { fresh = λ h. absurd (cc (c.if-not-has.ensures.1 h)); within = omega (arith, size, small); wanting = c.add.ensures; others = refl }) refl refl before

pub returns-else-not-has-clause-scanned : goal.returns-else-not-has-clause-scanned
returns-else-not-has-clause-scanned c list pending request last limit s ends early el is lies before =
    let b = c.args.banks.now.checked in
    let key = c.args.key.now in
    let at : c.bank_address-at.result ≡ bank_at request.place = c.bank_address-at.ensures ∙ key_bank b.geometry request key b.is_small lies is in
    let row : open_row (bank_at request.place) list ≡ Some c.in-Some.row = cc (c.open_row.ensures list s, at) in
    let older = subst (λ (n : ℕ). Has c.args.self.now.wanting n) (key_index b.geometry request key b.is_small lies is) (c.if-not-has.ensures.0 refl) in
    scan_older b list pending c.args.now last limit c.args.index request c.args.self.now el (c.in-Some.row, row, λ e. c.if-row-key.false (e ∙ sym is.row)) older before
