use Rattle.std.proofs.Common.{OnOk, sym, subst}
use Rattle.std.proofs.lemmas.Result.{on_ok_weaker}
use Rattle.nv_profile.specs.declared.reading.Numbers.{Numbers}
use Rattle.command_line.specs.Profile.{TellsNumbers}
use Rattle.command_line.proofs.profile.write_numbers.Goals as goal

pub returns-in-Module : goal.returns-in-Module
returns-in-Module g c =
    subst (λ (numbers : Numbers). OnOk c.write_meaning.result (TellsNumbers c.args.is_json numbers (g.W.Write.contents c.args.writer.now) (g.W.Write.contents c.write_meaning.new.writer)))
    (sym c.in-Module.is) (on_ok_weaker c.write_meaning.result (λ told. (c.of.result, c.of.ensures, told)) c.write_meaning.ensures)

pub returns-in-Commands : goal.returns-in-Commands
returns-in-Commands g c =
    subst (λ (numbers : Numbers). OnOk c.write_command_meaning.result (TellsNumbers c.args.is_json numbers (g.W.Write.contents c.args.writer.now) (g.W.Write.contents c.write_command_meaning.new.writer)))
    (sym c.in-Commands.is) (on_ok_weaker c.write_command_meaning.result (λ told. (c.of-in-Commands.result, c.of-in-Commands.ensures, told)) c.write_command_meaning.ensures)
