use Rattle.std.proofs.Common.{List, [], ◌∷◌, ◌++◌, ℕ, ap, ◌∙◌}
use Rattle.ddr4_timing.specs.declared.command.Stamped.{Stamped}
use Rattle.auto_precharge.specs.Unfolding.{settled}
use Rattle.auto_precharge.proofs.Settling.{not_early}
use Rattle.auto_precharge.proofs.full_list.FullList.take.Goals as goal

pub returns-then-admits : goal.returns-then-admits
returns-then-admits c u lists may =
    let behind = settled c.args.next.now.command.clock u in
    let listed = c.in_ok-settle.ensures u lists in
    record {
      commands = c.in_ok-push.ensures.items ∙ ap (λ (l : List Stamped). l ++ c.args.next.now.command ∷ []) listed.commands;
      lines = c.in_ok-push-2.ensures.items ∙ ap (λ (l : List ℕ). l ++ c.args.next.now.line ∷ []) listed.lines;
      stands = c.go.ensures behind listed.stands (not_early c.args.rules.now.timing c.args.rules.now.geometry behind.list c.args.next.now.command may.next);
    }

pub returns-else-admits : goal.returns-else-admits
returns-else-admits c u lists may =
    let behind = settled c.args.next.now.command.clock u in
    let listed = c.in_ok-settle.ensures u lists in
    let admits = c.if-admits.ensures.next behind listed.stands in
    absurd (let yes = admits.1 (may.next, may.is_open) in cc)
