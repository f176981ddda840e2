use Rattle.module_core.proofs.Common.{◌∙◌, ◌≡◌, ap, assembly, false, has_ended, is_backed, refl, sym, true}
use Rattle.module_core.proofs.HonestCalls.{ended_setup}
use Rattle.module_core.proofs.LostModules.{answers_closed, answers_unsaved, ended_unbacked}
use Rattle.module_core.proofs.module.Module.begin_loss.Goals as goal

pub returns-then-has_ended-clause-over : goal.returns-then-has_ended-clause-over
returns-then-has_ended-clause-over g c = λ order device.
    let L = g.K.ChannelPort in let it = c.args.self.now in
    let ended : has_ended it.front.mode ≡ true = sym c.has_ended.ensures ∙ (let e : c.has_ended.result ≡ true = cc in e) in
    record {
      each = answers_closed L order it device (g.E.Energy.gauge c.args.energy.now) ended;
      covered = tt;
      honest = λ found image before told first answered gauge was few on. absurd (ended_unbacked it.front.mode ended on);
      setup = refl;
    }

pub returns-then-not-is_backed-clause-over : goal.returns-then-not-is_backed-clause-over
returns-then-not-is_backed-clause-over g c = λ order device.
    let L = g.K.ChannelPort in let it = c.args.self.now in let told = c.end_mains.ensures in
    let on : has_ended it.front.mode ≡ false = sym c.has_ended.ensures ∙ (let e : c.has_ended.result ≡ false = cc in e) in
    let calm : is_backed it.front.mode ≡ false = sym c.is_backed.ensures ∙ (let e : c.is_backed.result ≡ false = cc in e) in
    record {
      each = λ m stands.
          answers_unsaved L (assembly it device (g.E.Energy.gauge c.args.energy.now)) m stands order c.end_mains.new.self told.ends told.none told.newest told.closed told.unsettled
          (ap has_ended (sym stands.matches.front.mode) ∙ on) (ap is_backed (sym stands.matches.front.mode) ∙ calm);
      covered = tt;
      honest = λ found image before told first answered gauge was few backed. let both : true ≡ false = sym backed ∙ calm in absurd (let bad : ⊥ = cc in bad);
      setup = ended_setup L it.front.reading it c.end_mains.new.self told.ends;
    }
