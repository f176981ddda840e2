use Rattle.std.proofs.Common.{length, ap, arith, sym, ◌∙◌}
use Rattle.std.proofs.lemmas.Bool.{eq-eqb, eqb-true}
use Rattle.chan_core.proofs.Alone.{leaves-all, leaves-writes}
use Rattle.chan_core.proofs.channel_memory.lose_reads.Goals as goal

pub returns-then-is_empty-clause-waiting : goal.returns-then-is_empty-clause-waiting
returns-then-is_empty-clause-waiting c =
    let none = eqb-true _ _ (sym c.is_empty.ensures ∙ c.if-is_empty.true) in
    leaves-all c.args.reads.now.items c.args.waiting.now (omega (arith, none, ap length c.as_slice.ensures))

pub returns-clause-waiting : goal.returns-clause-waiting
returns-clause-waiting c =
    let did = c.keep_writes.ensures in
    leaves-writes c.args.reads.now.items c.args.waiting.now c.keep_writes.new.self
    (λ none. absurd (let empty = c.is_empty.ensures ∙ eq-eqb _ _ (omega (arith, none, ap length c.as_slice.ensures)) in cc)) did.requests did.next did.most
