use Rattle.std.proofs.Common.{rules}
use Rattle.std.proofs.lemmas.Fn.{filter_same}
use Rattle.schedule_drawing.proofs.schedule.Schedule.show.Goals as goal

pub returns-clause-flaws : goal.returns-clause-flaws
returns-clause-flaws c = filter_same _ _ _ (λ x b f' k. search rules) _ _ c.retain-2.ensures.filtered

pub returns-clause-events : goal.returns-clause-events
returns-clause-events c = filter_same _ _ _ (λ x b f' k. search rules) _ _ c.retain.ensures.filtered
