use Rattle.std.proofs.Common.{◌≡◌, ◌∙◌, ◌-◌, ℕ, ap, arith, drop, refl, subst}
use Rattle.journal_lines.specs.Places.{IsBehind}
use Rattle.journal_lines.proofs.Calling.{places-cut}
use Rattle.journal_lines.proofs.index.Index.truncate.Goals as goal

pub returns-clause-is : goal.returns-clause-is
returns-clause-is c = λ log is.
    let cut : c.args.upto - c.args.self.now.gone ≡ c.args.upto - log.gone = ap (λ (n : ℕ). c.args.upto - n) is.gone in
    let behind : IsBehind c.args.self.now.lines log (c.args.upto - log.gone) c.behind-first.result.first c.behind-first.result.used =
    subst (λ (n : ℕ). IsBehind c.args.self.now.lines log n c.behind-first.result.first c.behind-first.result.used) cut (c.behind-first.ensures.is log is (omega (arith, c.requires.above))) in
    record {
      gone = refl;
      first = behind.place;
      used = behind.others;
      places = c.drop_front.ensures
          ∙ ap (λ (n : ℕ). drop n c.args.self.now.places.items) cut
          ∙ ap (drop (c.args.upto - log.gone)) is.places
          ∙ places-cut c.args.self.now.lines log.first log.records (c.args.upto - log.gone);
    }
