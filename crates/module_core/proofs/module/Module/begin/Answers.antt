use Rattle.module_core.proofs.Common.{IsMemory, begun, is_armed, memory_of, subst, sym, ℕ}
use Rattle.module_core.specs.Fronts.{FrontMoves}
use Rattle.module_core.proofs.ToldFronts.{saves_all}
use Rattle.module_core.proofs.module.Module.begin.Goals as goal

pub returns-clause-step : goal.returns-clause-step
returns-clause-step g c = λ m h.
    let L = g.K.ChannelPort in let old = c.args.self.now in
    let all = saves_all L old _ m h m.mode (is_armed m.mode) c.hold.ensures.held c.hold.ensures.keeps
    (subst (λ (lines : ℕ). FrontMoves lines m old.front (begun m) c.begin_save.new.self) c.lines.ensures (c.begin_save.ensures.moves m h.front (subst (λ (lines : ℕ). IsMemory lines (memory_of m)) (sym c.lines.ensures) h.memory))) in
    record { later = all.later; step = all.step; matches = all.matches; moves = all.moves }
