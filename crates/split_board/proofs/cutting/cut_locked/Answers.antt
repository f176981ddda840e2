use Rattle.std.proofs.Common.{◌∙◌, ℕ, ap, refl, subst, sym}
use Rattle.std.specs.Option.{unwrap_or}
use Rattle.line_memory.specs.History.{Recorded, cut_at}
use Rattle.board_hosts.specs.Ending.{AreChecked}
use Rattle.split_board.proofs.cutting.cut_locked.Goals as goal

pub returns-in-Ok : goal.returns-in-Ok
returns-in-Ok g c =
    let called = c.whole-from.ensures in let checked = c.in-Ok.ensures.checked in let told = c.in-Ok.told in
    let from = called.tells.0 in
    record {
      before = called.before;
      after = called.after;
      old_is = called.old_is;
      new_is = called.new_is;
      cuts = (
        subst (λ desk. AreChecked desk.split.front.terms.start desk.history c.args.receipts.now c.args.answers.now (record told { from = desk.history.start }))
            (λ i. unwrap_or ((sym c.in-Some.is ∙ called.old_is) i) c.in-Some.desk)
            (record { starts = refl; past = checked.past; counted = checked.counted; stand = checked.stand; borne_out = checked.borne_out }),
        sym (ap (λ (r : Recorded). r.start) called.tells.1),
        called.tells.1 ∙ ap (λ (n : ℕ). cut_at n called.before.history) from,
        called.calls,
      );
    }

pub returns-in-Err : goal.returns-in-Err
returns-in-Err g c = record {
  before = c.in-Some.desk;
  after = c.in-Some.desk;
  old_is = c.in-Some.is;
  new_is = c.in-Some.is;
  cuts = (c.in-Err.ensures.stranger, refl);
}
