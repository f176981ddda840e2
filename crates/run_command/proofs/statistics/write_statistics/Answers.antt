use Rattle.std.proofs.Common.{◌≡◌, ℕ, ◌<◌, List, arith, length, min, subst}
use Rattle.std.specs.Io.KnownBytes.{Appends}
use Rattle.trace_statistics.specs.Telling.{TellsBelow}
use Rattle.trace_statistics.proofs.Writing.{wrote_more, wrote_nothing}
use Rattle.run_command.specs.Lives.{TellsLifeAt}
use Rattle.run_command.proofs.Written.{life_told}
use Rattle.run_command.proofs.statistics.write_statistics.Goals as goal

pub loop-index-init : goal.loop-index-init
loop-index-init g c = wrote_nothing (TellsLifeAt c.args.rules.now c.args.is_json c.args.lives.now c.args.waits.now) (g.W.Write.contents c.args.writer.now)

pub loop-index-preserved : goal.loop-index-preserved
loop-index-preserved g c =
    let contents = g.W.Write.contents in
    let i = c.loop-index.index in
    let lives = c.args.lives.now in
    let waits = c.args.waits.now in
    let in_lives : i < length lives = omega (arith, c.min-index-end.ensures, c.loop-index-test.true) in
    let in_waits : i < length waits = omega (arith, c.min-index-end.ensures, c.loop-index-test.true) in
    wrote_more (TellsLifeAt c.args.rules.now c.args.is_json lives waits) i (contents c.args.writer.now) (contents c.loop-index.writer) (contents c.write_life_statistics.new.writer) _
    (life_told c.args.rules.now c.args.is_json lives waits i c.index-lives-index.result _ _ in_lives in_waits c.index-lives-index.is c.in-Ok.ensures.1) c.in-Ok.ensures.2 c.loop-index.invariant

pub returns : goal.returns
returns g c =
    let contents = g.W.Write.contents in
    let all : c.loop-index.index ≡ min (length c.args.lives.now) (length c.args.waits.now) = omega (arith, c.min-index-end.ensures, c.loop-index-test.false, c.loop-index.auto.index-end) in
    subst (λ (n : ℕ). (text : List ℕ) × TellsBelow (TellsLifeAt c.args.rules.now c.args.is_json c.args.lives.now c.args.waits.now) n text
    × Appends (contents c.args.writer.now) (contents c.loop-index.writer) text) all c.loop-index.invariant
