use Rattle.std.proofs.Common.{◌≡◌, ◌<◌, ◌∙◌, ℕ, suc, ◌+◌, arith, rules, refl, sym, subst, ap}
use Rattle.nv_machine.specs.State.{Setup}
use Rattle.nv_session.proofs.Common.{ComesAlone, WorksEach}
use Rattle.nv_session.proofs.Turning.{no_work, one_work}
use Rattle.nv_session.proofs.turns.work_each.Goals as goal

pub loop-channel-init : goal.loop-channel-init
loop-channel-init g c = record { setup = refl; comes = no_work g.K.ChannelPort c.args.running.now }

pub work-requires : goal.work-requires
work-requires g c =
    subst (λ (n : ℕ). c.loop-channel.channel < n) (c.requires ∙ sym (ap (λ (s : Setup). s.shape.channels) c.loop-channel.invariant.setup)) c.loop-channel-test.true

pub loop-channel-preserved : goal.loop-channel-preserved
loop-channel-preserved g c =
    let inv = c.loop-channel.invariant in let channel : ℕ = c.loop-channel.channel in
    let one_more : suc channel ≡ channel + 1 = omega arith in
    record {
      setup = c.work.ensures.setup ∙ inv.setup;
      comes = subst (λ (n : ℕ). ComesAlone g.K.ChannelPort (WorksEach n) c.args.running.now c.work.new.self) one_more
          (one_work g.K.ChannelPort channel c.work.result c.args.running.now c.loop-channel.running c.work.new.self inv.setup inv.comes c.work.ensures.answers);
    }

pub returns-clause-comes : goal.returns-clause-comes
returns-clause-comes g c =
    let all : c.loop-channel.channel ≡ c.args.channels = search rules in
    subst (λ (n : ℕ). ComesAlone g.K.ChannelPort (WorksEach n) c.args.running.now c.loop-channel.running) all c.loop-channel.invariant.comes

pub returns-clause-setup : goal.returns-clause-setup
returns-clause-setup g c = c.loop-channel.invariant.setup
