use Rattle.std.proofs.Common.{rules, ◌≡◌, ◌∙◌}
use Rattle.std.proofs.lemmas.Result.{IfErr-weaker, on_ok_weaker}
use Rattle.run_command.specs.Stored.{size_for}
use Rattle.run_command.proofs.Stores.{on_ok, ran_whole, runs_on_store, spared_so, stays}
use Rattle.run_command.proofs.stored.run_on_store.Goals as goal

pub returns-clause-stored : goal.returns-clause-stored
returns-clause-stored g c =
    let is : c.device_size-size.result ≡ size_for c.args.profile.now = search rules in
    on_ok_weaker c.leave.result (λ left old was new now.
    runs_on_store _ _ _ _ _ _ _ _ _ _ c.device_size-size.result _ old new c.flush.ensures.answers is (c.in_ok-bytes.ensures.is old was) c.in_ok-device.ensures.runs (left new now)) c.leave.ensures.left

pub returns-clause-spared : goal.returns-clause-spared
returns-clause-spared g c =
    let is : c.device_size-size.result ≡ size_for c.args.profile.now = search rules in
    IfErr-weaker c.leave.result _ _ (λ why. spared_so why _ _ _ _ (λ same. same ∙ c.in_ok-bytes.ensures.same) (λ left old was new now.
    runs_on_store _ _ _ _ _ _ _ _ _ _ c.device_size-size.result _ old new c.flush.ensures.answers is (c.in_ok-bytes.ensures.is old was) c.in_ok-device.ensures.runs (left new now))) c.leave.ensures.spared

pub returns-in_err-flush-clause-spared : goal.returns-in_err-flush-clause-spared
returns-in_err-flush-clause-spared g c = stays c.from_residual-in_err-flush.result _ _ c.in_ok-bytes.ensures.same

pub returns-clause-whole : goal.returns-clause-whole
returns-clause-whole g c = on_ok c.leave.result (ran_whole _ _ _ _ _ _ _ _ _ _ _ c.flush.ensures.answers c.in_ok-device.ensures.runs)

pub returns-clause-continued : goal.returns-clause-continued
returns-clause-continued g c = on_ok c.leave.result (λ earlier was. c.flush.ensures.continued earlier (c.in_ok-device.ensures.continued earlier was))
