use Rattle.std.proofs.Common.{◌∙◌, ◌<◌, ℕ, rules, refl, sym, ap, subst}
use Rattle.ddr4_timing.specs.Limits.{lines_of}
use Rattle.nv_profile.specs.declared.profile.Profile.{Profile}
use Rattle.nv_session.specs.Sessions.{line_count_in}
use Rattle.script_runner.proofs.Runs.{does_begin, does_grow, does_end, does_idle}
use Rattle.script_runner.proofs.script.answer_line.Goals as goal

pub loop-turn-init : goal.loop-turn-init
loop-turn-init g c = record {
  profile = refl;
  unrefused = refl;
  continued = λ earlier was. was;
  turns = does_begin (line_count_in c.args.session.now) c.args.line (g.R.Report.answers c.args.report.now) c.args.session.now;
}

pub returns-then-not-is_busy-clause-done : goal.returns-then-not-is_busy-clause-done
returns-then-not-is_busy-clause-done g c =
    let answers = g.R.Report.answers in let old = c.args.session.now in let mid = c.loop-turn.session in
    does_idle (line_count_in old) c.args.line (line_count_in mid) (ap (λ (profile : Profile). lines_of profile.checked.geometry) c.loop-turn.invariant.profile) c.loop-turn._turn
    c.in_ok-answer.answer (answers c.args.report.now) (answers c.loop-turn.report) (answers c.answer.new.self) old mid c.answer_of.new.session
    c.loop-turn.invariant.turns c.in_ok-answer.ensures.truly c.in_ok-answer.ensures.does (record { profile = c.answer_of.ensures.profile; wires = c.answer_of.ensures.wires }) c.in_ok-answer-2.ensures.taken
    (sym c.is_busy.ensures ∙ c.if-not-is_busy.true) (subst (λ (n : ℕ). c.loop-turn._turn < n) c.turns_of-turn-end.ensures c.loop-turn-test.true)

pub loop-turn-preserved : goal.loop-turn-preserved
loop-turn-preserved g c =
    let answers = g.R.Report.answers in let old = c.args.session.now in let mid = c.loop-turn.session in
    record {
      profile = c.answer_of.ensures.profile ∙ c.loop-turn.invariant.profile;
      unrefused = c.in_ok-answer-2.ensures.unrefused ∙ c.loop-turn.invariant.unrefused;
      continued = λ earlier was. c.in_ok-answer-2.ensures.continued earlier (c.loop-turn.invariant.continued earlier was);
      turns = does_grow (line_count_in old) c.args.line (line_count_in mid) (ap (λ (profile : Profile). lines_of profile.checked.geometry) c.loop-turn.invariant.profile) c.loop-turn._turn
          c.in_ok-answer.answer (answers c.args.report.now) (answers c.loop-turn.report) (answers c.answer.new.self) old mid c.answer_of.new.session
          c.loop-turn.invariant.turns c.in_ok-answer.ensures.truly c.in_ok-answer.ensures.does (record { profile = c.answer_of.ensures.profile; wires = c.answer_of.ensures.wires }) c.in_ok-answer-2.ensures.taken (sym c.is_busy.ensures ∙ c.if-not-is_busy.false);
    }

pub returns-clause-done : goal.returns-clause-done
returns-clause-done g c =
    does_end (line_count_in c.args.session.now) c.args.line c.loop-turn._turn (g.R.Report.answers c.args.report.now) (g.R.Report.answers c.loop-turn.report)
    c.args.session.now c.loop-turn.session c.loop-turn.invariant.turns (search rules)
