use Rattle.std.proofs.Common.{ℕ, List, OnOk, Option, option_map, subst, sym}
use Rattle.std.specs.Borrow.{Bor}
use Rattle.std.specs.Io.KnownBytes.{Appends}
use Rattle.command_line.specs.Help.{version_text}
use Rattle.command_line.proofs.help.write_version.Goals as goal

pub returns-in-None : goal.returns-in-None
returns-in-None g c =
    subst (λ (built : Option (Bor (List ℕ))). OnOk c.writeln-in-None.result (Appends (g.W.Write.contents c.args.writer.now) (g.W.Write.contents c.writeln-in-None.new.self)
    (version_text c.args.version.now (option_map (λ words. words.now) built)))) (sym c.in-None.is) c.writeln-in-None.ensures.bytes
