use Rattle.std.proofs.Common.{◌≡◌, false, List, Option, None, refl, slice_index_or, sym, ap, ◌∙◌}
use Rattle.ddr4_timing.specs.Command.{bank_of}
use Rattle.ddr4_timing.specs.Places.{bank_index}
use Rattle.ddr4_timing.specs.declared.place.BankAddress.{BankAddress}
use Rattle.auto_precharge.specs.declared.waiting.Closing.{Closing}
use Rattle.auto_precharge.proofs.Settling.{none_column, none_told, some_column}
use Rattle.auto_precharge.proofs.unfolding.Unfolding.admits.Goals as goal

pub returns-then-not-self-clause-next : goal.returns-then-not-self-clause-next
returns-then-not-self-clause-next c u s =
    let next = c.if-not-ready.ensures.next u.list s.keeps in
    let none : c.args.self.now.waits ≡ false = cc in
    (λ _. (next.0 refl, λ _. s.quiet none _), λ _. refl)

pub returns-in-Some-clause-next : goal.returns-in-Some-clause-next
returns-in-Some-clause-next c u s =
    let next = c.if-not-ready.ensures.next u.list s.keeps in
    let column = some_column c.args.x.now.cmd c.in-Some.at (sym c.in-Some.is ∙ c.column_bank.ensures) in
    let slot : c.closing_of.result ≡ slice_index_or u.waiting (bank_index (bank_of c.args.x.now.cmd)) None =
    c.closing_of.ensures
    ∙ ap (λ (l : List (Option Closing)). slice_index_or l (bank_index c.in-Some.at) None) s.closings
    ∙ ap (λ (b : BankAddress). slice_index_or u.waiting (bank_index b) None) column.1 in
    let told = none_told c.closing_of.result c.is_none.result c.is_none.ensures in
    (λ e. (next.0 refl, λ _. sym slot ∙ told.0 e), λ h. told.1 (slot ∙ h.1 column.0))

pub returns-in-None-clause-next : goal.returns-in-None-clause-next
returns-in-None-clause-next c u s =
    let next = c.if-not-ready.ensures.next u.list s.keeps in
    let other = none_column c.args.x.now.cmd (sym c.in-None.is ∙ c.column_bank.ensures) in
    (λ _. (next.0 refl, λ column. absurd cc), λ _. refl)
