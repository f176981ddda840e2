use Rattle.std.proofs.Common.{◌≡◌, ℕ, ◌+◌, All, arith, refl, subst}
use Rattle.board_hosts.specs.Ending.{IsBorneOutOrPast, StandsOrIsPast, past_among}
use Rattle.board_hosts.proofs.checking.check.Goals as goal

pub returns-clause-checked : goal.returns-clause-checked
returns-clause-checked c =
    let history = c.args.history.now in let receipts = c.args.receipts.now in let answers = c.args.answers.now in
    let below = c.past_below-below.ensures in let none = c.in_default.ensures in
    let past : ℕ = c.past_receipts-past.result + c.past_answers-seen.result in
    record {
      starts = c.start.ensures;
      past = subst (λ (b : ℕ). past ≡ past_among b receipts answers) below (rw (c.past_receipts-past.ensures.count, c.past_answers-seen.ensures.count) refl);
      counted = omega (arith, c.past_receipts-past.ensures.few, c.past_answers-seen.ensures.few);
      stand = subst (λ (b : ℕ). All (StandsOrIsPast b history) receipts) below none.receipts;
      borne_out = subst (λ (b : ℕ). All (IsBorneOutOrPast b history) answers) below none.answers;
    }
