use Rattle.std.proofs.Common.{◌∙◌, sym, subst, All, Option}
use Rattle.ddr4_timing.specs.Limits.{lines_of}
use Rattle.nv_profile.specs.declared.profile.Profile.{Profile}
use Rattle.nv_script.specs.Line.{NamesChannelOf}
use Rattle.save_device.specs.Device.{IsSettled}
use Rattle.save_device.specs.Memory.{state_of}
use Rattle.save_device.specs.declared.memory.MemoryDevice.{MemoryDevice}
use Rattle.script_runner.specs.Ended.{Kept}
use Rattle.script_runner.specs.Runs.{AreAllNoted, IsRunOn}
use Rattle.nv_session.specs.Living.{IsShapeFor}
use Rattle.script_runner.specs.Wiring.{IsWiredFor, WiredMaps, wired_shape}
use Rattle.script_runner.proofs.Chains.{lives_in_chain}
use Rattle.script_runner.proofs.Ended.{all_lives}
use Rattle.script_runner.proofs.Kept.{kept_told}
use Rattle.script_runner.proofs.running.do_lines_on.Goals as goal

pub answer_lines-requires : goal.answer_lines-requires
answer_lines-requires g c =
    let Names : Profile → Type 0 = λ profile. All (NamesChannelOf profile.checked.geometry) c.args.lines.now in
    record { names = subst Names (sym c.over-session.ensures.profile) c.requires.lines; book = c.requires.book }

pub over-session-requires-clause-fits : goal.over-session-requires-clause-fits
over-session-requires-clause-fits g c = λ map.
    subst (λ (w : WiredMaps _). IsShapeFor c.args.profile.now (wired_shape g.M.LineMap w map)) (sym c.with_commands-wiring.ensures) (c.new.ensures.fits map)

pub returns-clause-runs : goal.returns-clause-runs
returns-clause-runs g c =
    let made = c.over-session.ensures in let wiring = c.new.ensures in let first = c.over-session.result in let last = c.answer_lines.new.session in
    let before = g.R.Report.answers c.args.report.now in let after = g.R.Report.answers c.answer_lines.new.report in
    let kept : Option Kept = c.answer_lines.new.book in
    let noted : AreAllNoted (lines_of c.args.profile.now.checked.geometry) c.args.lines.now before after kept first last =
    subst (λ (profile : Profile). AreAllNoted (lines_of profile.checked.geometry) c.args.lines.now before after kept first last) made.profile c.in_ok-answer_lines.ensures.done in
    let done = noted.done in
    let run : IsRunOn _ _ (IsWiredFor c.args.lines_map.now c.args.xor_map.now c.args.profile.now) c.args.profile.now (state_of c.args.device).bytes c.args.lines.now before after c.into_device.result = record {
      first = first;
      last = last;
      begins = record {
        profile_is = made.profile;
        wired = subst (λ (w : WiredMaps _). IsWiredFor c.args.lines_map.now c.args.xor_map.now c.args.profile.now w) (sym (made.wires ∙ c.with_commands-wiring.ensures))
            (record { lines_map_is = wiring.lines_map; xor_map_is = wiring.xor_map; profile_is = wiring.profile; numbers = wiring.costs; retries = wiring.retries });
        settled = subst (λ (device : MemoryDevice). IsSettled (state_of device)) (sym made.device) c.requires.settled;
        life = made.life;
        bytes_are = cc;
        passes = made.passes;
        level = made.gauge;
        leak = made.leak;
      };
      done = done;
      rules = c.note_last.ensures.rules;
      lives = lives_in_chain done.all.answered.story first last done.does;
      device_is = cc;
    } in
    record { run = run; lists = all_lives done.all.answered.story first last kept c.note_last.new.book noted.ended c.note_last.ensures.notes }

pub returns-clause-kept : goal.returns-clause-kept
returns-clause-kept g c = kept_told _ _ _ _ _ _ _ _ c.note_last.new.book _ (returns-clause-runs g c)
