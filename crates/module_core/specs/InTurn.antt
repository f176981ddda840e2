-- What calls of a module come to, one after another.
use Rattle.std.specs.Prelude.{◌≡◌, List}
use Rattle.energy_budget.specs.Charging.{RisesTo}
use Rattle.channel_port.specs.declared.port.ChannelPort.{Ghosts}
use Rattle.nv_machine.specs.declared.events.Event.{Event}
use Rattle.nv_machine.specs.declared.events.Reply.{Reply}
use Rattle.module_core.specs.Stands.{Assembly, Answers, AnswersAll, setup_of}

module _ {K : Type 0} (L : Ghosts K) where
  -- Between two calls nothing has changed but the gauge, which may have been charged.
  pub record IsCharged (old new : Assembly L) : Type 0 where
    pub gauge : RisesTo old.gauge new.gauge
    pub is : new ≡ record old { gauge = new.gauge }

  -- one call
  pub record AnswersCall (event : Event) (reply : Reply) (old new : Assembly L) : Type 0 where
    pub answers : Answers L event reply old new
    pub setup : setup_of L new.it ≡ setup_of L old.it

  -- calls in turn, between which the gauge may be charged
  pub record AnswersCalls (events : List Event) (replies : List Reply) (old new : Assembly L) : Type 0 where
    pub answers : AnswersAll L events replies old new
    pub setup : setup_of L new.it ≡ setup_of L old.it
