use Rattle.std.proofs.Common.{◌≡◌, List, None, ap, ◌∙◌, sym, get_or, set}
use Rattle.std.proofs.lemmas.Option.{slice_get-get_or}
use Rattle.gap_list.specs.Bounded.{Bounded}
use Rattle.chan_core.specs.Reads.{answered_with}
use Rattle.chan_core.proofs.Common.{OpenRead}
use Rattle.chan_core.proofs.reads.answer.Goals as goal

pub index_of_seq-index-requires-clause-rise : goal.index_of_seq-index-requires-clause-rise
index_of_seq-index-requires-clause-rise c = rw c.as_slice.ensures c.requires.rise

pub index_of_seq-index-requires-clause-waits : goal.index_of_seq-index-requires-clause-waits
index_of_seq-index-requires-clause-waits c = rw c.as_slice.ensures c.requires.waits

pub returns-clause-answers : goal.returns-clause-answers
returns-clause-answers c =
    let reads = c.args.reads.now.items in
    let index = c.index_of_seq-index.result in
    let none : OpenRead = record { serial = 0; seq = 0; line = 0; cell = 0; at = 0; bytes = None } in
    let read = get_or reads index none in
    let found = rw c.as_slice.ensures at c.index_of_seq-index.ensures in
    let there = slice_get-get_or reads index none found.within in
    let same : get_or c.as_slice-2.result.now index none ≡ read = ap (λ (xs : List OpenRead). get_or xs index none) c.as_slice-2.ensures in (
      index,
      read,
      there,
      found.is read there,
      sym (ap (λ (r : OpenRead). r.serial) same),
      ap (λ (l : Bounded OpenRead). l.items) c.set.ensures ∙ ap (λ (r : OpenRead). set reads index (answered_with c.args.bytes r)) same,
    )
