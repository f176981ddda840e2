use Rattle.std.proofs.Common.{◌≡◌, ◌∙◌, ◌+◌, List, length, ap, inl, refl, subst, sym}
use Rattle.crash_table.specs.declared.table.Block.{Block}
use Rattle.crash_table.specs.declared.table.OutcomeCount.{OutcomeCount}
use Rattle.crash_table.specs.Blocks.{JoinsBlock}
use Rattle.crash_table.proofs.Blocks.{joins_last}
use Rattle.crash_table.proofs.table.put_line.Goals as goal

pub returns-in-Some : goal.returns-in-Some
returns-in-Some c =
    let before : Block = c.index_mut.result.now in
    let size : length c.args.blocks.now.items ≡ c.in-Some.place + 1 = sym (ap (λ (blocks : List Block). length blocks) c.deref.ensures.value) ∙ c.in-Some.ensures.0 in
    let joins : JoinsBlock c.args.line c.args.rows.items before c.join.new.self =
    subst (λ (rows : List OutcomeCount). JoinsBlock c.args.line rows before c.join.new.self) c.deref-in-Some.ensures.value c.join.ensures in
    joins_last c.args.line c.args.rows.items c.args.blocks.now.items c.in-Some.place before c.join.new.self size c.index_mut.ensures.value joins

pub returns-in_ok-push-in-None : goal.returns-in_ok-push-in-None
returns-in_ok-push-in-None c = inl (record { block = record { first = c.args.line; last = c.args.line; rows = c.args.rows }; is = c.in_ok-push-in-None.ensures.items; first = refl; last = refl; holds = refl })
