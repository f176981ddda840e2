use Rattle.std.proofs.Common.{◌≡◌, ◌∙◌, get_or, length, refl, sym, ap, subst, rules}
use Rattle.script_runner.proofs.Common.{All-get_or, line_count_in, moment_in}
use Rattle.ddr4_timing.specs.Limits.{lines_of}
use Rattle.nv_profile.specs.declared.profile.Profile.{Profile}
use Rattle.nv_script.specs.Line.{NamesChannelOf}
use Rattle.nv_script.specs.declared.line.ScriptLine.TheVariants.{Format}
use Rattle.script_runner.specs.Story.{AreCutShort}
use Rattle.script_runner.proofs.Results.{if_err_so}
use Rattle.script_runner.proofs.Ended.{notes_begin, notes_grow, notes_end}
use Rattle.script_runner.proofs.Stories.{through_cut}
use Rattle.script_runner.proofs.script.answer_lines.Goals as goal

pub answer_line-requires : goal.answer_line-requires
answer_line-requires g c =
    let lines = c.args.lines.now in let index = c.loop-line.line-index in
    let Names : Profile → Type 0 = λ profile. NamesChannelOf profile.checked.geometry (get_or lines index Format) in
    record {
      line = subst Names (sym c.loop-line.invariant.profile)
          (All-get_or (NamesChannelOf c.args.session.now.profile.checked.geometry) lines index Format c.loop-line-test.true c.requires.names);
    }

pub loop-line-init : goal.loop-line-init
loop-line-init g c = record {
  profile = refl;
  unrefused = refl;
  continued = λ earlier was. was;
  done = notes_begin (line_count_in c.args.session.now) (g.R.Report.answers c.args.report.now) c.args.session.now (g.B.LifeBook.kept c.args.book.now) c.requires.book;
}

pub loop-line-preserved : goal.loop-line-preserved
loop-line-preserved g c =
    let answers = g.R.Report.answers in let kept = g.B.LifeBook.kept in let old = c.args.session.now in let mid = c.loop-line.session in
    record {
      profile = c.answer_line.ensures.profile ∙ c.loop-line.invariant.profile;
      unrefused = c.in_ok-answer_line.ensures.unrefused ∙ c.loop-line.invariant.unrefused;
      continued = λ earlier was. c.in_ok-answer_line.ensures.continued earlier (c.loop-line.invariant.continued earlier was);
      done = notes_grow (line_count_in old) (line_count_in mid) (ap (λ (profile : Profile). lines_of profile.checked.geometry) c.loop-line.invariant.profile) c.args.lines.now c.loop-line.line-index Format
          (answers c.args.report.now) (answers c.loop-line.report) (answers c.answer_line.new.report) (kept c.loop-line.book) (kept c.note_line.new.book) old mid c.answer_line.new.session
          c.loop-line-test.true c.loop-line.invariant.done c.in_ok-answer_line.ensures.done c.note_line.ensures.notes c.note_line.ensures.rules;
    }

pub returns-in_err-answer_line-clause-cut : goal.returns-in_err-answer_line-clause-cut
returns-in_err-answer_line-clause-cut g c =
    let answers = g.R.Report.answers in let old = c.args.session.now in let mid = c.loop-line.session in
    if_err_so c.from_residual.result (AreCutShort (line_count_in old) c.args.lines.now (answers c.args.report.now) (answers c.answer_line.new.report))
    (through_cut g.K.ChannelPort (line_count_in old) (line_count_in mid) (ap (λ (profile : Profile). lines_of profile.checked.geometry) c.loop-line.invariant.profile) c.args.lines.now c.loop-line.line-index Format
    (answers c.args.report.now) (answers c.loop-line.report) (answers c.answer_line.new.report) (moment_in mid)
    c.loop-line-test.true c.loop-line.invariant.done.done.through c.in_err-answer_line.ensures.part)

pub returns-clause-done : goal.returns-clause-done
returns-clause-done g c =
    let answers = g.R.Report.answers in
    let all : c.loop-line.line-index ≡ length c.args.lines.now = search rules in
    notes_end (line_count_in c.args.session.now) c.args.lines.now c.loop-line.line-index (answers c.args.report.now) (answers c.loop-line.report) (g.B.LifeBook.kept c.loop-line.book) c.args.session.now c.loop-line.session all c.loop-line.invariant.done
