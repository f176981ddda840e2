use Rattle.std.proofs.Common.{◌≡◌, ℕ, refl, subst, inl, inr, arith}
use Rattle.std.proofs.lemmas.Bool.{cases_lt}
use Rattle.auto_precharge.specs.Unfolding.{IsLawfulTrace}
use Rattle.command_trace.specs.Channels.{issued_to}
use Rattle.command_trace.proofs.trace_check.TraceCheck.are_lawful.Goals as goal

pub returns-then-not-is_lawful : goal.returns-then-not-is_lawful
returns-then-not-is_lawful c all =
    (λ e. absurd cc, λ lawful. absurd (let is = (c.if-not-is_lawful.ensures all).1 (lawful c.loop-channel.channel c.loop-channel-test.true) in cc))

pub loop-channel-preserved : goal.loop-channel-preserved
loop-channel-preserved c all channel below = elim (cases_lt channel c.loop-channel.channel) [
  | inl before ↦ c.loop-channel.invariant all channel before
  | inr last ↦
      let same : c.loop-channel.channel ≡ channel = omega arith in
      subst (λ (n : ℕ). IsLawfulTrace c.args.rules.now (issued_to n c.args.self.now.given.items)) same ((c.if-not-is_lawful.ensures all).0 refl)
]

pub returns : goal.returns
returns c all = (λ _ channel below. c.loop-channel.invariant all channel (omega arith), λ _. refl)
