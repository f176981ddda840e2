use Rattle.live_command.proofs.live_named.Goals as goal

pub returns-in-Ok-clause-named : goal.returns-in-Ok-clause-named
returns-in-Ok-clause-named g c = (c.in_ok-profile.profile, c.in_ok-profile.ensures.named)
