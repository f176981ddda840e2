use Rattle.std.proofs.Common.{◌++◌, ◌-◌, ◌^◌, [], ◌∷◌, Some, subst, sym}
use Rattle.std.proofs.lemmas.Result.{on_ok_weaker}
use Rattle.nv_script.specs.declared.line.ScriptLine.TheVariants as line
use Rattle.crash_table.specs.Standings.{GoesOnBy}
use Rattle.crash_table.specs.Stops.{stopped}
use Rattle.crash_table.specs.declared.stop.Stop.{Stop}
use Rattle.crash_table.proofs.Standings.{on_further}
use Rattle.crash_table.proofs.standing.Standing.stop.Goals as goal

pub returns-in_ok-go_on-in-Dark-2-clause-goes : goal.returns-in_ok-go_on-in-Dark-2-clause-goes
returns-in_ok-go_on-in-Dark-2-clause-goes g c =
    on_ok_weaker c.go_on-in-Dark-2.result (λ later.
    subst (λ (stop : Stop). GoesOnBy (stopped c.args.line stop) c.args.self.now c.go_on-in-Dark-2.new.self) (sym c.in-Dark.is)
    (on_further (line.OneFault (2 ^ 64 - 1) ∷ line.Fuse (Some c.in-Dark.calls) ∷ []) (c.args.line ∷ []) c.args.self.now c.go_on-in-Dark.new.self c.go_on-in-Dark-2.new.self
    (on_further (line.OneFault (2 ^ 64 - 1) ∷ []) (line.Fuse (Some c.in-Dark.calls) ∷ []) c.args.self.now c.go_on.new.self c.go_on-in-Dark.new.self c.in_ok-go_on-in-Dark.ensures.goes
    c.in_ok-go_on-in-Dark-2.ensures.goes)
    later)) c.go_on-in-Dark-2.ensures.goes
