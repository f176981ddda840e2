use Rattle.std.proofs.Common.{◌≡◌, false, true, List, [], ◌∷◌, ◌++◌, subst, sym, ◌∙◌}
use Rattle.ddr4_timing.specs.Command.{is_column}
use Rattle.auto_precharge.specs.Unfolding.{Stands, Unfolded}
use Rattle.auto_precharge.proofs.Settling.{none_column, some_column, went_closing}
use Rattle.auto_precharge.proofs.unfolding.Unfolding.go.Goals as goal

pub returns-then-not-next : goal.returns-then-not-next
returns-then-not-next c u s early =
    let plain : c.args.next.now.closes ≡ false = cc in
    record {
      keeps = c.issue.ensures.kept u.list s.keeps early;
      closings = rw plain s.closings;
      from = rw plain s.from;
      placed = rw plain s.placed;
      quiet = rw plain s.quiet;
    }

pub returns-in-Some : goal.returns-in-Some
returns-in-Some c u s early =
    let closes : c.args.next.now.closes ≡ true = cc in
    let column = some_column c.args.next.now.command.cmd c.in-Some.at (sym c.in-Some.is ∙ c.column_bank.ensures) in
    let behind : Unfolded = record { list = u.list ++ c.args.next.now.command ∷ []; lines = u.lines ++ c.args.next.now.line ∷ []; waiting = u.waiting } in
    let stands = c.await_close.ensures behind (record { keeps = c.issue.ensures.kept u.list s.keeps early; closings = s.closings; from = s.from; placed = s.placed; quiet = s.quiet }) in
    subst (λ (v : Unfolded). Stands c.args.rules.now c.await_close.new.self v)
    (sym (went_closing c.args.rules.now.timing u c.args.next.now c.in-Some.at closes column.0 column.1)) stands

pub returns-in_default : goal.returns-in_default
returns-in_default c u s early =
    let closes : c.args.next.now.closes ≡ true = cc in
    let other : is_column c.args.next.now.command.cmd ≡ false = none_column c.args.next.now.command.cmd (sym c.in_default.is ∙ c.column_bank.ensures) in
    record {
      keeps = c.issue.ensures.kept u.list s.keeps early;
      closings = rw (closes, other) s.closings;
      from = rw (closes, other) s.from;
      placed = rw (closes, other) s.placed;
      quiet = rw (closes, other) s.quiet;
    }
