use Rattle.std.proofs.Common.{◌∙◌, [], ◌∷◌, ◌++◌, ap}
use Rattle.command_trace.specs.declared.entry.Located.{Located}
use Rattle.trace_statistics.proofs.ListSteps.{list_more}
use Rattle.trace_statistics.proofs.lists.take_list.Goals as goal

pub loop-command-preserved : goal.loop-command-preserved
loop-command-preserved c = record {
  follows = c.take.ensures.follows;
  lawful = c.take.ensures.lawful c.loop-command.invariant.lawful;
  rules = c.take.ensures.rules;
  given = list_more c.args.channel c.args.commands.now c.loop-command.command-index _ _ _ _ c.loop-command-test.true c.loop-command.invariant.given
      (c.take.ensures.adds ∙ ap (λ (x : Located). c.loop-command.measured.check.given.items ++ x ∷ []) c.located.ensures);
}
