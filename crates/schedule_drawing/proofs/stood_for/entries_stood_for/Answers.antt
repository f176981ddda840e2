use Rattle.std.proofs.Common.{◌≡◌, ◌∙◌, ℕ, ◌++◌, List, ap, arith, inl, inr, subst, sym}
use Rattle.std.proofs.lemmas.Bool.{cases_lt}
use Rattle.auto_precharge.specs.Unfolding.{IsLawfulTrace}
use Rattle.command_trace.specs.Channels.{issued_to}
use Rattle.ddr4_timing.specs.declared.command.Stamped.{Stamped}
use Rattle.command_trace.specs.declared.entry.ChannelCommand.{ChannelCommand}
use Rattle.schedule_drawing.specs.Entries.{entries_to, stood_for}
use Rattle.schedule_drawing.proofs.StoodFor.{stood_more}
use Rattle.schedule_drawing.proofs.stood_for.entries_stood_for.Goals as goal

pub loop-channel-preserved : goal.loop-channel-preserved
loop-channel-preserved c = (
  c.in_ok-add_list.ensures
      ∙ ap (λ (l : List Stamped). c.loop-channel.entries.items ++ entries_to c.loop-channel.channel l) (c.deref.ensures.value ∙ c.in_ok-list.ensures.is)
      ∙ ap (λ (l : List ChannelCommand). l ++ entries_to c.loop-channel.channel (stood_for c.args.rules.now c.args.found.now c.loop-channel.channel)) c.loop-channel.invariant.0
      ∙ sym (stood_more c.args.rules.now c.args.found.now c.loop-channel.channel),
  λ k below. elim (cases_lt k c.loop-channel.channel) [
    | inl before ↦ c.loop-channel.invariant.1 k before
    | inr last ↦
        let same : c.loop-channel.channel ≡ k = omega arith in
        subst (λ (n : ℕ). IsLawfulTrace c.args.rules.now (issued_to n c.args.found.now)) same c.in_ok-list.ensures.lawful
  ],
)
