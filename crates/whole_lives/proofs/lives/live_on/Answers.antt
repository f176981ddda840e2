use Rattle.std.proofs.Common.{◌∙◌, List, ap, map, sym}
use Rattle.energy_budget.specs.Meter.{meter_gauge}
use Rattle.nv_machine.specs.declared.events.Reply.{Reply}
use Rattle.save_device.specs.Memory.{state_of}
use Rattle.whole_lives.specs.Events.{answer_of}
use Rattle.whole_lives.proofs.lives.live_on.Goals as goal

pub returns-clause-lives : goal.returns-clause-lives
returns-clause-lives c = record {
  replies = c.in-Ok.replies.items;
  are = c.in-Ok-answers_of.ensures ∙ ap (λ (replies : List Reply). map answer_of replies) c.deref.ensures.value;
  lives = record {
    costs = c.with_retries-costs.result;
    reckoned = c.with_retries-costs.ensures.profile c.args.profile.now.checked c.of.ensures.profile;
    old = state_of c.in-Some.device;
    new = state_of c.wild_life-lived.new.device;
    gauge = meter_gauge c.with-gauge.result;
    began = c.in-Some.ensures;
    ended = sym c.in-Ok-bytes_of.ensures;
    showed = c.with-gauge.ensures.level;
    survives = c.in-Ok.ensures.survives;
  };
}
