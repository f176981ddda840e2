use Rattle.sha2.specs.Hashers.{Holds256}
use Rattle.save_image.specs.Body.{bytes_of}
use Rattle.slot_store.specs.Steps.{lines_before}
use Rattle.slot_store.proofs.Common.{ℕ, List, SavingAt, SlotHas, Step, false, refl, step_after, subst, sym, take}
use Rattle.slot_store.proofs.Digested.{digested_on}
use Rattle.slot_store.proofs.Going.{saving_again, saving_next, stop_within}
use Rattle.slot_store.proofs.Standing.{stands_again, stands_next}
use Rattle.slot_store.proofs.Stops.{in_slot}
use Rattle.slot_store.proofs.saving.SaveRun.step.Goals as goal

pub returns-in-Err-clause-call : goal.returns-in-Err-clause-call
returns-in-Err-clause-call g c = rw c.in-Err.is at c.call.ensures

pub returns-in-Err-clause-outside : goal.returns-in-Err-clause-outside
returns-in-Err-clause-outside g c = let run = c.args.self.now in let made = c.call.ensures in in_slot run.plan made.digest run.next c.args.page.now made.size c.told-page run.place made.makes.outside

pub returns-in-Err-clause-next : goal.returns-in-Err-clause-next
returns-in-Err-clause-next g c = record { plan = refl; next = refl; tried = refl; failures = c.saturating_add-self.ensures }

pub returns-in-Err-clause-has : goal.returns-in-Err-clause-has
returns-in-Err-clause-has g c = λ memory lines gives has.
    let S = g.D.SaveDevice in let run = c.args.self.now in
    let made = rw c.in-Err.is at c.call.ensures in
    (stands_again run.plan memory made.digest c.args.page.now (S.state c.args.device.now) (S.state c.call.new.device) made.size c.told-page c.requires run.next run.tried has.0 made.makes, has.1)

pub returns-in-Err-clause-saving : goal.returns-in-Err-clause-saving
returns-in-Err-clause-saving g c = λ candidates old memory gives s.
    let S = g.D.SaveDevice in let run = c.args.self.now in
    let made = rw c.in-Err.is at c.call.ensures in
    (saving_again candidates old run.plan memory made.digest c.args.page.now (S.state c.args.device.now) (S.state c.call.new.device) made.size c.told-page run.next run.tried run.place s.0 made.makes, s.1)

pub returns-in-Err-clause-any_moment : goal.returns-in-Err-clause-any_moment
returns-in-Err-clause-any_moment g c = λ candidates old memory s.
    let S = g.D.SaveDevice in let run = c.args.self.now in
    let made = c.call.ensures in
    stop_within candidates old run.plan memory made.digest c.args.page.now (S.state c.args.device.now) (S.state c.call.new.device) made.size c.told-page run.next run.tried _ run.place s.0 made.makes

pub returns-in-Ok-clause-call : goal.returns-in-Ok-clause-call
returns-in-Ok-clause-call g c = rw c.in-Ok.is at c.call.ensures

pub returns-in-Ok-clause-outside : goal.returns-in-Ok-clause-outside
returns-in-Ok-clause-outside g c = let run = c.args.self.now in let made = c.call.ensures in in_slot run.plan made.digest run.next c.args.page.now made.size c.told-page run.place made.makes.outside

pub returns-in-Ok-clause-next : goal.returns-in-Ok-clause-next
returns-in-Ok-clause-next g c = record { plan = refl; next = c.after-self.ensures.after; tried = refl; failures = refl }

pub returns-in-Ok-clause-has : goal.returns-in-Ok-clause-has
returns-in-Ok-clause-has g c = λ memory lines gives has.
    let S = g.D.SaveDevice in let run = c.args.self.now in let after = S.state c.call.new.device in
    let made = rw c.in-Ok.is at c.call.ensures in
    let digested : Holds256 c.digest_written.new.hasher (bytes_of (take (lines_before run.plan.lines (step_after run.plan.lines run.next)) memory)) =
    subst (λ (bytes : List ℕ). Holds256 c.digest_written.new.hasher bytes) (digested_on run.plan.lines memory run.plan.capacity c.args.page.now run.next run.place gives)
    (c.digest_written.ensures (bytes_of (take (lines_before run.plan.lines run.next) memory)) has.1) in (
      subst (λ (step : Step). SlotHas run.plan memory step false after) (sym c.after-self.ensures.after)
          (stands_next run.plan memory made.digest c.args.page.now (S.state c.args.device.now) after made.size c.told-page c.requires run.next run.tried run.place lines gives (made.own memory lines has.1) has.0 made.makes),
      subst (λ (step : Step). Holds256 c.digest_written.new.hasher (bytes_of (take (lines_before run.plan.lines step) memory))) (sym c.after-self.ensures.after) digested,
    )

pub returns-in-Ok-clause-saving : goal.returns-in-Ok-clause-saving
returns-in-Ok-clause-saving g c = λ candidates old memory gives s.
    let S = g.D.SaveDevice in let run = c.args.self.now in let after = S.state c.call.new.device in
    let made = rw c.in-Ok.is at c.call.ensures in
    let digested : Holds256 c.digest_written.new.hasher (bytes_of (take (lines_before run.plan.lines (step_after run.plan.lines run.next)) memory)) =
    subst (λ (bytes : List ℕ). Holds256 c.digest_written.new.hasher bytes) (digested_on run.plan.lines memory run.plan.capacity c.args.page.now run.next run.place gives)
    (c.digest_written.ensures (bytes_of (take (lines_before run.plan.lines run.next) memory)) s.1) in (
      subst (λ (step : Step). SavingAt candidates old run.plan memory step false after) (sym c.after-self.ensures.after)
          (saving_next candidates old run.plan memory made.digest c.args.page.now (S.state c.args.device.now) after made.size c.told-page run.next run.tried run.place gives (made.own memory s.0.lines s.1) s.0 made.makes),
      subst (λ (step : Step). Holds256 c.digest_written.new.hasher (bytes_of (take (lines_before run.plan.lines step) memory))) (sym c.after-self.ensures.after) digested,
    )

pub returns-in-Ok-clause-any_moment : goal.returns-in-Ok-clause-any_moment
returns-in-Ok-clause-any_moment g c = λ candidates old memory s.
    let S = g.D.SaveDevice in let run = c.args.self.now in
    let made = c.call.ensures in
    stop_within candidates old run.plan memory made.digest c.args.page.now (S.state c.args.device.now) (S.state c.call.new.device) made.size c.told-page run.next run.tried _ run.place s.0 made.makes
