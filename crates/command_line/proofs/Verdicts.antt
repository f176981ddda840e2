-- What a check tells, as it is written out.
use Rattle.std.proofs.Common.{◌≡◌, ◌++◌, ℕ, Bool, false, List, [], Option, refl, subst, sym}
use Rattle.std.proofs.KnownBytes.{Appends-kept, Appends-nil, Appends-trans}
use Rattle.std.specs.Io.KnownBytes.{Appends, Keeps}
use Rattle.std.specs.declared.process.ExitCode.{ExitCode}
use Rattle.command_line.specs.Check.{HasVerdict, IsJudged, IsReadAs, TellsCounts}
use Rattle.command_line.specs.declared.check.Asked.{Asked}
use Rattle.command_trace.specs.Channels.{FollowsAll}
use Rattle.command_trace.specs.Sources.{bytes_of}
use Rattle.command_trace.specs.Traces.{AreCommandsOf}
use Rattle.command_trace.specs.declared.reading.Form.{Form}
use Rattle.command_trace.specs.declared.source.Source.{Source}
use Rattle.command_trace.specs.declared.trace_check.TraceCheck.{TraceCheck}
use Rattle.ddr4_timing.specs.declared.timing.CommandRules.{CommandRules}

-- it stays told where a writer writes out what it has taken
pub verdict_kept : (rules : CommandRules) (source : Source) (asked : Asked) (code : ExitCode) (old mid new : Option (List ℕ))
    → HasVerdict rules source asked code old mid → Keeps mid new → HasVerdict rules source asked code old new
verdict_kept rules source asked code old mid new it kept = record {
  form = it.form;
  check = it.check;
  read_as = it.read_as;
  reads = it.reads;
  follows = it.follows;
  verdicts = it.verdicts;
  judged = it.judged;
  statistics = it.statistics;
  counted = it.counted;
  told = Appends-kept old mid new (it.verdicts ++ it.statistics) it.told kept;
}

-- what was judged and told, with the numbers that were written behind it
pub verdict_with : (rules : CommandRules) (source : Source) (asked : Asked) (code : ExitCode) (form : Form) (check : TraceCheck) (old mid new : Option (List ℕ)) (numbers : List ℕ)
    → IsReadAs asked.form asked.others form → AreCommandsOf form (bytes_of source) check.given.items → FollowsAll rules check
    → TellsCounts asked.stats asked.is_json rules check.given.items numbers → Appends mid new numbers
    → (text : List ℕ) × IsJudged rules form (bytes_of source) check asked code text × Appends old mid text → HasVerdict rules source asked code old new
verdict_with rules source asked code form check old mid new numbers read_as reads follows counted behind it = record {
  form = form;
  check = check;
  read_as = read_as;
  reads = reads;
  follows = follows;
  verdicts = it.0;
  judged = it.1;
  statistics = numbers;
  counted = counted;
  told = Appends-trans old mid new it.0 numbers it.2 behind;
}

-- with none
pub verdict_alone : (rules : CommandRules) (source : Source) (asked : Asked) (code : ExitCode) (form : Form) (check : TraceCheck) (old new : Option (List ℕ))
    → IsReadAs asked.form asked.others form → AreCommandsOf form (bytes_of source) check.given.items → FollowsAll rules check → asked.stats ≡ false
    → (text : List ℕ) × IsJudged rules form (bytes_of source) check asked code text × Appends old new text → HasVerdict rules source asked code old new
verdict_alone rules source asked code form check old new read_as reads follows off it =
    verdict_with rules source asked code form check old new new [] read_as reads follows
    (subst (λ (stats : Bool). TellsCounts stats asked.is_json rules check.given.items []) (sym off) refl) (Appends-nil new) it
