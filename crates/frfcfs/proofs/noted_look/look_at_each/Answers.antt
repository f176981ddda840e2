use Rattle.std.proofs.Common.{◌≡◌, ap, arith, get_or, refl, subst, sym, ◌∙◌}
use Rattle.frfcfs.specs.NotedLook.{address_of}
use Rattle.request_notes.specs.Notes.{note_of}
use Rattle.frfcfs.proofs.Common.{BankAddress, HasBank, IsEnd, limit_of, open_row}
use Rattle.frfcfs.proofs.SoonEnds.{all_end, all_start}
use Rattle.frfcfs.proofs.noted_look.look_at_each.Goals as goal

pub loop-bank-init : goal.loop-bank-init
loop-bank-init c = rw c.saturating_add.ensures (record {
  within = λ n h. h;
  found = λ keys noted. (λ less. absurd (omega (arith, less)), λ less. absurd (omega (arith, less)));
  soonest = λ list pending keys s ends are noted. all_start c.args.banks.now.checked list pending keys c.args.now c.args.last (limit_of c.args.last) c.args.notes.now _ refl refl are noted;
})

pub loop-bank-preserved-then-is_hit : goal.loop-bank-preserved-then-is_hit
loop-bank-preserved-then-is_hit c =
    let b = c.args.banks.now.checked in
    let notes = c.args.notes.now in
    let n = c.in-Some.bank in
    let taken = c.in-Some.ensures in
    let before = c.loop-bank.invariant in
    let has : HasBank b.geometry (address_of n) = (c.requires.there n taken.0 (before.within n taken.1)).0 in
    let at : c.address_of-at.result ≡ address_of n = c.address_of-at.ensures in
    let same : c.open_row.result ≡ (note_of notes n).row = grind (arith, c.ne.ensures, c.if-ne.false) in record {
      within = λ m h. before.within m ((taken.2 m).0 h).0;
      found = λ keys noted. c.look_at_hits.ensures.found keys n (limit_of c.args.last) (noted.each n taken.0) (c.requires.early _) (before.found keys noted);
      soonest = λ list pending keys s ends are noted.
          let end = subst (λ (a : BankAddress). IsEnd b list (address_of n).rank c.args.last (get_or c.args.ends.now a.rank 0)) (sym at) (ends (address_of n).rank has.rank) in
          let row : open_row (address_of n) list ≡ (note_of notes n).row = ap (λ (a : BankAddress). open_row a list) (sym at) ∙ (sym (c.open_row.ensures list s) ∙ same) in
          c.look_at_hits.ensures.soonest list pending keys c.args.last (limit_of c.args.last) n c.loop-bank.left c.take_one.new.self s
          (record { keyed = are; told = noted.each n taken.0; there = has; row = row; ends = end; early = c.requires.early _ }) at taken (before.soonest list pending keys s ends are noted);
    }

pub loop-bank-preserved : goal.loop-bank-preserved
loop-bank-preserved c =
    let b = c.args.banks.now.checked in
    let notes = c.args.notes.now in
    let n = c.in-Some.bank in
    let taken = c.in-Some.ensures in
    let before = c.loop-bank.invariant in
    let has : HasBank b.geometry (address_of n) = (c.requires.there n taken.0 (before.within n taken.1)).0 in
    let at : c.address_of-at.result ≡ address_of n = c.address_of-at.ensures in
    let same : c.open_row.result ≡ (note_of notes n).row = grind (arith, c.ne.ensures, c.if-ne.false) in record {
      within = λ m h. before.within m ((taken.2 m).0 h).0;
      found = λ keys noted. c.look_at_oldest.ensures.found keys n (limit_of c.args.last) (noted.each n taken.0) (c.requires.early _) (before.found keys noted);
      soonest = λ list pending keys s ends are noted.
          let end = subst (λ (a : BankAddress). IsEnd b list (address_of n).rank c.args.last (get_or c.args.ends.now a.rank 0)) (sym at) (ends (address_of n).rank has.rank) in
          let row : open_row (address_of n) list ≡ (note_of notes n).row = ap (λ (a : BankAddress). open_row a list) (sym at) ∙ (sym (c.open_row.ensures list s) ∙ same) in
          c.look_at_oldest.ensures.soonest list pending keys c.args.last (limit_of c.args.last) n c.loop-bank.left c.take_one.new.self s
          (record { keyed = are; told = noted.each n taken.0; there = has; row = row; ends = end; early = c.requires.early _ }) at taken (before.soonest list pending keys s ends are noted);
    }

pub returns-clause-soonest : goal.returns-clause-soonest
returns-clause-soonest c list pending keys s ends are noted =
    all_end c.args.banks.now.checked list pending c.args.now c.args.last (limit_of c.args.last) c.loop-bank.left c.loop-bank.look c.in_default.ensures (c.loop-bank.invariant.soonest list pending keys s ends are noted)
