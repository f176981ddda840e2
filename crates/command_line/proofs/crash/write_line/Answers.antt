use Rattle.std.proofs.Common.{List, ℕ, subst, take}
use Rattle.std.proofs.KnownBytes.{Appends-trans}
use Rattle.crash_table.specs.Counting.{IsCountOf}
use Rattle.crash_table.specs.Outcomes.{AreTried}
use Rattle.crash_table.specs.declared.tried.Tried.{Tried}
use Rattle.ddr4_timing.specs.Limits.{lines_of}
use Rattle.nv_profile.specs.declared.profile.Profile.{Profile}
use Rattle.nv_script.specs.declared.line.ScriptLine.{ScriptLine}
use Rattle.report_json.specs.Crashes.{counts_in}
use Rattle.command_line.specs.Crash.{IsReadFrom}
use Rattle.command_line.proofs.crash.write_line.Goals as goal

pub returns : goal.returns
returns g c =
    let asked = c.args.asked.now in
    let script = c.in_ok-script.script in
    let lines : List ScriptLine = script.lines.items in
    let place : ℕ = c.in-Some.place in
    let line : ScriptLine = c.index.result.now in
    let tried : List Tried = c.in_ok-tried.tried.items in
    let by : Profile → List ScriptLine → ScriptLine → Type 0 =
    λ profile before line. AreTried (lines_of profile.checked.geometry) before line tried in
    let behind : by asked.profile (take place lines) line =
    subst (λ (some : List ScriptLine). by asked.profile (take place some) line) c.deref-2.ensures.value
    (subst (λ (profile : Profile). by profile (take place c.deref-2.result.now) line) c.new-trials.ensures c.in_ok-tried.ensures.tried) in
    let stops = c.in_ok-write_stops.ensures in
    record {
      script = script;
      read = subst (λ (text : List ℕ). IsReadFrom asked.profile.checked.geometry text script) c.deref.ensures.value
          (c.in_ok-script.ensures.lines, c.in_ok-script.ensures.numbers);
      place = place;
      line = line;
      numbered = c.in-Some.ensures.asked;
      tried = tried;
      are = subst (λ (line : ScriptLine). by asked.profile (take place lines) line) c.index.ensures behind;
      counts = c.of.result;
      counted = subst (λ (some : List Tried). IsCountOf some c.of.result) c.deref-4.ensures.value c.of.ensures;
      stops = stops.0;
      told = Appends-trans (g.W.Write.contents c.args.writer.now) (g.W.Write.contents c.write_stops.new.writer) (g.W.Write.contents c.write_counts.new.writer)
          stops.0 (counts_in c.args.form.is_json c.of.result) stops.1 c.in_ok-write_counts.ensures;
    }
