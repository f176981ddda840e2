-- Commands one after another.
use Rattle.std.proofs.Common.{◌≡◌, List, [], ◌∷◌, ◌++◌, refl, ap, subst, ◌∙◌, append_assoc}
use Rattle.chan_core.proofs.Common.{ChannelState, Done, IssuesChoice, IssuesChoices, KeepsBelow, Stamped, after_commands, channel_memory}

-- a run goes on by one command
pub IssuesChoices-more : (old mid new : ChannelState) (xs : List Stamped) (done : Done) → IssuesChoices old xs mid → IssuesChoice mid done new → IssuesChoices old (xs ++ done.command ∷ []) new
IssuesChoices-more old mid new [] done same issues = (done, new, subst (λ (s : ChannelState). IssuesChoice s done new) same issues, refl, refl)
IssuesChoices-more old mid new (x ∷ xs) done (first, next, step, is, rest) issues = (first, next, step, is, IssuesChoices-more next mid new xs done rest issues)

-- what a run has issued
pub record HasRun (old : ChannelState) (xs : List Stamped) (new : ChannelState) : Type 0 where
  pub issues : IssuesChoices old xs new
  pub commands : new.commands ≡ old.commands ++ xs
  pub memory : channel_memory new ≡ channel_memory old
  pub below : KeepsBelow old new
  pub rest : new ≡ after_commands old new

pub run-more : (old mid new : ChannelState) (xs : List Stamped) (done : Done) → HasRun old xs mid → IssuesChoice mid done new → channel_memory new ≡ channel_memory mid → KeepsBelow mid new → new ≡ after_commands mid new → HasRun old (xs ++ done.command ∷ []) new
run-more old mid new xs done ran issues memory below rest = record {
  issues = IssuesChoices-more old mid new xs done ran.issues issues;
  commands = ap (λ (s : ChannelState). s.commands) issues.same ∙ ap (λ (ys : List Stamped). ys ++ done.command ∷ []) ran.commands ∙ append_assoc old.commands xs (done.command ∷ []);
  memory = memory ∙ ran.memory;
  below = λ n hold. below n (ap (λ (s : ChannelState). s.hold) ran.rest ∙ hold) ∙ ran.below n hold;
  rest = rest ∙ ap (λ (s : ChannelState). after_commands s new) ran.rest;
}
