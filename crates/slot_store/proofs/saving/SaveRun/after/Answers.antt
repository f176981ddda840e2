use Rattle.std.proofs.Common.{if◌then◌else◌}
use Rattle.std.proofs.lemmas.Bool.Decides.{Decides-ltb}
use Rattle.slot_store.proofs.Common.{ℕ, ◌*◌, ◌+◌, ◌<◌, ◌∙◌, ◌≡◌, Bool, Header, Page, Step, ap, arith, step_after, sym}
use Rattle.slot_store.proofs.saving.SaveRun.after.Goals as goal

after_the_last : (lines k : ℕ) (next : Step) → next ≡ Page k → lines < 64 * (k + 2) → step_after lines next ≡ Header
after_the_last lines k next at last = ap (step_after lines) at ∙ ap (λ (b : Bool). if b then Header else Page (k + 1)) ((Decides-ltb lines (64 * (k + 2))).1 last)

pub returns-else-page-self-clause-after : goal.returns-else-page-self-clause-after
returns-else-page-self-clause-after c =
    let run = c.args.self.now in sym (after_the_last run.plan.lines c.in-Page.page run.next c.in-Page.is (omega (arith, c.if-page-self.false)))

pub returns-in-SyncBody-clause-after : goal.returns-in-SyncBody-clause-after
returns-in-SyncBody-clause-after c = ap (step_after c.args.self.now.plan.lines) (sym c.in-SyncBody.is)
