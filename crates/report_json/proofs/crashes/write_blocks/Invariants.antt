use Rattle.std.specs.Prelude.{take}
use Rattle.std.specs.Io.KnownBytes.{Appends}
use Rattle.report_json.specs.Crashes.{blocks_in}
use Rattle.report_json.proofs.crashes.write_blocks.Given as goal

abbrev pub invariant-loop-block : goal.invariant-loop-block
invariant-loop-block g l =
    Appends (g.W.Write.contents l.initial.writer) (g.W.Write.contents l.writer) (blocks_in l.is_json (take l.block-index l.blocks))
