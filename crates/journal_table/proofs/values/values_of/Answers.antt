use Rattle.std.proofs.Common.{◌≡◌, ◌∙◌, ◌+◌, ◌-◌, ◌<◌, ◌^◌, List, ℕ, ap, arith, length, subst, sym}
use Rattle.std.specs.Prelude.{Bool, true, false, Some, if◌then◌else◌, slice_get}
use Rattle.journal_lines.proofs.Reading.{length-places}
use Rattle.journal_log.specs.Log.{Holds, Log}
use Rattle.journal_lines.specs.Indexed.{IsIndexOf}
use Rattle.table_log.specs.Changes.{Put, Remove}
use Rattle.journal_table.specs.Parts.{change_of}
use Rattle.journal_table.specs.declared.record.Parts.{Parts}
use Rattle.journal_table.proofs.Reading.{IsShort, ReadSoFar, all_read, no_table, one_read}
use Rattle.journal_table.proofs.Standing.{from_ok, from_some}
use Rattle.journal_table.proofs.values.values_of.Goals as goal

short_change : (parts : Parts) → length parts.key.now < 2 ^ 64 → IsShort (change_of parts)
short_change parts short = by_flag parts.is_put
  where
    by_flag : (put : Bool) → IsShort (if put then Put parts.key.now parts.value.now else Remove parts.key.now)
    by_flag true = short
    by_flag false = short

pub returns-in_default-read_record-clause-none : goal.returns-in_default-read_record-clause-none
returns-in_default-read_record-clause-none c = λ same log index holds table is.
    let there = from_some (λ bytes. (log : Log) → IsIndexOf c.args.journal.now.index log → Holds c.args.memory.now log → slice_get log.records (c.loop-number.number - log.gone) ≡ Some bytes.items)
    c.in-Ok-Some.field-0 c.in-Ok-Some.bytes c.in-Ok-Some.field-0-is c.in-Ok-Some.ensures.some in
    no_table log table (c.loop-number.number - log.gone) c.in-Ok-Some.bytes.items is (there log index holds)
    (λ change short spelled. c.in_default-read_record.ensures.none change short (c.deref.ensures.value ∙ spelled))

pub loop-number-preserved : goal.loop-number-preserved
loop-number-preserved c = record {
  above = omega (arith, c.loop-number.invariant.above);
  read = λ log index holds.
      let there = from_some (λ bytes. (log : Log) → IsIndexOf c.args.journal.now.index log → Holds c.args.memory.now log → slice_get log.records (c.loop-number.number - log.gone) ≡ Some bytes.items)
      c.in-Ok-Some.field-0 c.in-Ok-Some.bytes c.in-Ok-Some.field-0-is c.in-Ok-Some.ensures.some in
      let next = one_read log c.loop-number.values c.apply.new.values (c.loop-number.number - log.gone) c.in-Ok-Some.bytes.items (change_of c.in-Some.parts) (c.loop-number.invariant.read log index holds)
      (there log index holds) (sym c.deref.ensures.value ∙ c.in-Some.ensures.some) (short_change c.in-Some.parts c.in-Some.ensures.short)
      (from_ok c.apply.result (sym c.is_err.ensures.value ∙ c.if-is_err.false) c.apply.ensures) in
      subst (λ (n : ℕ). ReadSoFar c.apply.new.values log n) (let e : c.loop-number.number - log.gone + 1 ≡ c.loop-number.number + 1 - log.gone = omega (arith, c.loop-number.invariant.above, index.gone) in e) next;
}

pub returns-clause-ok : goal.returns-clause-ok
returns-clause-ok c = λ log index holds.
    all_read log c.loop-number.values (c.loop-number.number - log.gone) (c.loop-number.invariant.read log index holds)
    (omega (arith, c.loop-number.invariant.above, c.loop-number-test.false, c.end-number-end.ensures, index.gone, ap (λ (places : List ℕ). length places) index.places, length-places c.args.journal.now.index.lines log.first log.records))
