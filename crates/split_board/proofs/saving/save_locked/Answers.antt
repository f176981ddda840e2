use Rattle.std.proofs.Common.{◌∙◌, refl, subst, sym}
use Rattle.std.specs.Option.{unwrap_or}
use Rattle.board_desk.specs.Calling.{save_begin_course, save_step_course}
use Rattle.board_desk.specs.Locking.{CallsWhole}
use Rattle.split_board.proofs.saving.save_locked.Goals as goal

pub returns-in-Begin : goal.returns-in-Begin
returns-in-Begin g c =
    let called = c.whole.ensures in
    record {
      before = c.in-Some.desk;
      after = called.after;
      old_is = c.in-Some.is;
      new_is = called.new_is;
      saves = record {
        turn = λ m stands. sym c.in-Begin.is ∙ c.saver_turn.ensures m stands;
        steps = subst (λ desk. CallsWhole g.K.ChannelPort g.D.SaveDevice g.E.Energy g.B.BoardName g.B.PartsName (save_begin_course c.whole.result) desk called.after)
            (λ i. unwrap_or ((sym called.old_is ∙ c.in-Some.is) i) called.before) called.calls;
      };
    }

pub returns-in-Step : goal.returns-in-Step
returns-in-Step g c =
    let called = c.whole-in-Step.ensures in
    record {
      before = c.in-Some.desk;
      after = called.after;
      old_is = c.in-Some.is;
      new_is = called.new_is;
      saves = record {
        turn = λ m stands. sym c.in-Step.is ∙ c.saver_turn.ensures m stands;
        steps = subst (λ desk. CallsWhole g.K.ChannelPort g.D.SaveDevice g.E.Energy g.B.BoardName g.B.PartsName (save_step_course c.whole-in-Step.result) desk called.after)
            (λ i. unwrap_or ((sym called.old_is ∙ c.in-Some.is) i) called.before) called.calls;
      };
    }

pub returns-in-Rest : goal.returns-in-Rest
returns-in-Rest g c = record {
  before = c.in-Some.desk;
  after = c.in-Some.desk;
  old_is = c.in-Some.is;
  new_is = c.in-Some.is;
  saves = record { turn = λ m stands. sym c.in-Rest.is ∙ c.saver_turn.ensures m stands; steps = refl };
}

pub returns-in-End : goal.returns-in-End
returns-in-End g c = record {
  before = c.in-Some.desk;
  after = c.in-Some.desk;
  old_is = c.in-Some.is;
  new_is = c.in-Some.is;
  saves = record { turn = λ m stands. sym c.in-End.is ∙ c.saver_turn.ensures m stands; steps = refl };
}
