use Rattle.arm_state.specs.declared.mode.Mode.TheVariants.{Disarming}
use Rattle.module_core.proofs.Common.{IsMemory, memory_of, subst, sym, ℕ, false}
use Rattle.module_core.specs.Fronts.{FrontMoves}
use Rattle.module_core.proofs.ToldFronts.{saves_all}
use Rattle.nv_machine.specs.Moves.{disarming}
use Rattle.module_core.proofs.module.Module.begin_disarming.Goals as goal

pub returns-clause-step : goal.returns-clause-step
returns-clause-step g c = λ m h.
    let L = g.K.ChannelPort in let old = c.args.self.now in
    saves_all L old _ m h Disarming false c.hold.ensures.held c.hold.ensures.keeps
    (subst (λ (lines : ℕ). FrontMoves lines m old.front (disarming m) c.begin_disarming.new.self) c.lines.ensures
    (c.begin_disarming.ensures.moves m h.front (subst (λ (lines : ℕ). IsMemory lines (memory_of m)) (sym c.lines.ensures) h.memory)))
