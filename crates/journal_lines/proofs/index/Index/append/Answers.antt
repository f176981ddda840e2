use Rattle.std.proofs.Common.{◌≡◌, ◌∙◌, ◌+◌, ◌-◌, ◌%◌, ◌++◌, ◌∷◌, [], ℕ, List, ap, arith, sym}
use Rattle.journal_log.specs.Lines.{sizes_of}
use Rattle.journal_log.proofs.Spelling.{sizes-push}
use Rattle.journal_lines.proofs.Reading.{places-push}
use Rattle.journal_lines.proofs.index.Index.append.Goals as goal

pub returns-clause-is : goal.returns-clause-is
returns-clause-is c = λ log is.
    let at : c.args.self.now.first + c.args.self.now.used ≡ log.first + sizes_of log.records = omega (arith, is.first, is.used) in
    record {
      gone = is.gone;
      first = is.first;
      used = omega (arith, is.used, c.record_size.ensures, sizes-push log.records c.args.bytes.now);
      places = c.push_back_reserved.ensures.items
          ∙ ap (λ (n : ℕ). c.args.self.now.places.items ++ n % (c.args.self.now.lines - 1) ∷ []) at
          ∙ ap (λ (ps : List ℕ). ps ++ (log.first + sizes_of log.records) % (c.args.self.now.lines - 1) ∷ []) is.places
          ∙ sym (places-push c.args.self.now.lines log.first log.records c.args.bytes.now);
    }
