use Rattle.std.proofs.Common.{◌≡◌, Some, None, arith, ap, inl, inr}
use Rattle.frfcfs.proofs.Common.{Checked, WantsColumn, WantsRow, bank_at, open_row}
use Rattle.frfcfs.proofs.BestRequests.{class_offer, class_skip}
use Rattle.frfcfs.proofs.HitLemmas.{clear_unhit, set_hit}
use Rattle.frfcfs.proofs.Wants.{act_row, column_in, column_place, no_row, wishes_act, wishes_column, wishes_pre}
use Rattle.frfcfs.proofs.best.Bests.look.Goals as goal

pub returns-then-request-geometry-clause-best : goal.returns-then-request-geometry-clause-best
returns-then-request-geometry-clause-best c list pending last limit s hits ends early el before =
    let b = c.args.banks.now.checked in
    let request = c.args.request.now in
    let row : open_row (bank_at request.place) list ≡ None = cc (c.open_row.ensures list s) in
    let wish = wishes_act b list pending request c.act.result c.act.ensures row (rw c.act.ensures (c.requires, omega (arith, ap (λ (x : Checked). x.geometry.rows) c.checked.ensures))) in record {
      column = class_skip (WantsColumn list) b list pending c.args.now last limit c.args.index request _ el (λ cmd wants _. absurd (cc (row, wants.0))) before.column;
      row = class_offer (WantsRow list pending) b list pending c.args.now last limit c.args.index c.args.end _ _ request c.act.result _ _ s.lawful wish el ends early (c.least_clock-clock.ensures list s) c.max.ensures c.offer.ensures before.row;
    }

pub returns-else-request-geometry-clause-best : goal.returns-else-request-geometry-clause-best
returns-else-request-geometry-clause-best c list pending last limit s hits ends early el before =
    let b = c.args.banks.now.checked in
    let request = c.args.request.now in
    let row : open_row (bank_at request.place) list ≡ None = cc (c.open_row.ensures list s) in record {
      column = class_skip (WantsColumn list) b list pending c.args.now last limit c.args.index request _ el (λ cmd wants _. absurd (cc (row, wants.0))) before.column;
      row = class_skip (WantsRow list pending) b list pending c.args.now last limit c.args.index request _ el
          (λ cmd wants place. absurd (omega (arith, act_row b.geometry list pending request cmd row wants place, ap (λ (x : Checked). x.geometry.rows) c.checked.ensures))) before.row;
    }

pub returns-then-request-geometry-2-clause-best : goal.returns-then-request-geometry-2-clause-best
returns-then-request-geometry-2-clause-best c list pending last limit s hits ends early el before =
    let b = c.args.banks.now.checked in
    let request = c.args.request.now in
    let row : open_row (bank_at request.place) list ≡ Some request.place.row = cc (c.open_row.ensures list s) in
    let place = (column_in b.geometry request.place request.kind).1 (c.requires, omega (arith, ap (λ (x : Checked). x.geometry.columns) c.checked.ensures)) in record {
      column = class_offer (WantsColumn list) b list pending c.args.now last limit c.args.index c.args.end _ _ request c.column.result _ _ s.lawful (wishes_column b list request c.column.result c.column.ensures row (rw c.column.ensures place)) el ends early
          (c.least_clock-clock-then-request-geometry-2.ensures list s) c.max-then-request-geometry-2.ensures c.offer-then-request-geometry-2.ensures before.column;
      row = class_skip (WantsRow list pending) b list pending c.args.now last limit c.args.index request _ el (λ cmd wants _. no_row list pending request cmd row wants) before.row;
    }

pub returns-else-request-geometry-2-clause-best : goal.returns-else-request-geometry-2-clause-best
returns-else-request-geometry-2-clause-best c list pending last limit s hits ends early el before =
    let b = c.args.banks.now.checked in
    let request = c.args.request.now in
    let row : open_row (bank_at request.place) list ≡ Some request.place.row = cc (c.open_row.ensures list s) in record {
      column = class_skip (WantsColumn list) b list pending c.args.now last limit c.args.index request _ el
          (λ cmd wants place. absurd (omega (arith, (column_place b.geometry list request cmd wants place).1, ap (λ (x : Checked). x.geometry.columns) c.checked.ensures))) before.column;
      row = class_skip (WantsRow list pending) b list pending c.args.now last limit c.args.index request _ el (λ cmd wants _. no_row list pending request cmd row wants) before.row;
    }

pub returns-then-not-hits-index-clause-best : goal.returns-then-not-hits-index-clause-best
returns-then-not-hits-index-clause-best c list pending last limit s hits ends early el before =
    let b = c.args.banks.now.checked in
    let request = c.args.request.now in
    let row : open_row (bank_at request.place) list ≡ Some c.in-Some.row = cc (c.open_row.ensures list s) in
    let unhit = clear_unhit b.geometry list pending c.args.hits.now (bank_at request.place) hits c.requires (cc) in
    let wish = wishes_pre b list pending request c.in-Some.row c.pre.result c.pre.ensures row c.if-row-request.false unhit (rw c.pre.ensures c.requires) in record {
      column = class_skip (WantsColumn list) b list pending c.args.now last limit c.args.index request _ el (λ cmd wants _. c.if-row-request.false (cc (row, wants.0))) before.column;
      row = class_offer (WantsRow list pending) b list pending c.args.now last limit c.args.index c.args.end _ _ request c.pre.result _ _ s.lawful wish el ends early
          (c.least_clock-clock-then-not-hits-index.ensures list s) c.max-then-not-hits-index.ensures c.offer-then-not-hits-index.ensures before.row;
    }

pub returns-else-not-hits-index-clause-best : goal.returns-else-not-hits-index-clause-best
returns-else-not-hits-index-clause-best c list pending last limit s hits ends early el before =
    let b = c.args.banks.now.checked in
    let request = c.args.request.now in
    let row : open_row (bank_at request.place) list ≡ Some c.in-Some.row = cc (c.open_row.ensures list s) in
    let hit = set_hit b.geometry list pending c.args.hits.now (bank_at request.place) hits c.requires (cc) in record {
      column = class_skip (WantsColumn list) b list pending c.args.now last limit c.args.index request _ el (λ cmd wants _. c.if-row-request.false (cc (row, wants.0))) before.column;
      row = class_skip (WantsRow list pending) b list pending c.args.now last limit c.args.index request _ el (λ cmd wants _. elim wants [ inl w ↦ absurd (cc (row, w.0)) | inr w ↦ hit w.1 ]) before.row;
    }
