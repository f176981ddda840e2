use Rattle.std.proofs.Common.{rules, ◌≡◌, ◌+◌, ◌∷◌, ◌++◌, [], ℕ, suc, All, List, ap, arith, get_or, subst, sym, take, ◌∙◌}
use Rattle.std.proofs.Math.Seq.{take-suc}
use Rattle.std.proofs.lemmas.List.{take_all}
use Rattle.std.proofs.lemmas.List.Elements.{All-append, All-cons, All-nil}
use Rattle.energy_budget.specs.Costs.{AreReckonedFor}
use Rattle.chan_core.specs.State.{ChannelState}
use Rattle.drain_core.specs.AtOnce.{CanDrainAt}
use Rattle.drain_core.specs.Standing.{CanDrain}
use Rattle.bench_timing.proofs.side_by_side.can_all_drain.Goals as goal

pub loop-channel-preserved : goal.loop-channel-preserved
loop-channel-preserved c =
    let P = CanDrainAt c.args.costs.now in
    let channels = c.args.channels.now in
    let i = c.loop-channel.channel-index in
    let s : ChannelState = c.channel-item.result in
    let here : get_or channels i s ≡ s = search rules in
    let reckoned : AreReckonedFor s.checked c.args.costs.now = search rules in
    let can : CanDrain s.checked s.commands = search rules in
    let one : i + 1 ≡ suc i = omega arith in
    let more : take (i + 1) channels ≡ take i channels ++ get_or channels i s ∷ [] = ap (λ (n : ℕ). take n channels) one ∙ take-suc channels i s c.loop-channel-test.true in
    subst (λ (xs : List ChannelState). All P xs) (sym more)
    (All-append P (take i channels) (get_or channels i s ∷ []) c.loop-channel.invariant (All-cons P (get_or channels i s) [] (subst P (sym here) (reckoned, can)) (All-nil P)))

pub returns : goal.returns
returns c _ =
    subst (λ (xs : List ChannelState). All (CanDrainAt c.args.costs.now) xs) (take_all c.loop-channel.channel-index c.args.channels.now c.loop-channel-test.false)
    c.loop-channel.invariant
