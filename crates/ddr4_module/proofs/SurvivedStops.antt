-- A stop among the events of a module ends a life, and that is survived; and which events are for a module of so many channels.
use Rattle.std.proofs.Common.{◌≡◌, ◌<◌, ℕ, List, [], refl, subst, sym}
use Rattle.save_image.specs.Image.{Image}
use Rattle.slot_store.specs.declared.head.Head.{Head}
use Rattle.channel_port.specs.declared.port.ChannelPort.{Ghosts}
use Rattle.nv_machine.specs.declared.events.Event.{Event}
use Rattle.nv_machine.specs.declared.events.Event.TheVariants as events
use Rattle.nv_machine.specs.declared.events.Reply.{Reply}
use Rattle.nv_machine.specs.Lives.{IsLeftAt, moments_since}
use Rattle.nv_machine.proofs.SurvivedLives.{survived}
use Rattle.module_core.specs.ModuleLives.{HasAnswered, module_life}
use Rattle.module_core.specs.declared.module.Module.{Module}
use Rattle.module_core.specs.Stands.{Assembly, IsForChannels, setup_of}
use Rattle.module_core.proofs.ModulesLive.{lives_anywhere}
use Rattle.ddr4_module.specs.WildLives.{Beginning, OutlivesStop, WorksWithin}

module _ {K : Type 0} (L : Ghosts K) where
  -- what the life of a module began with
  abbrev pub beginning_of : Head → Image → Assembly L → Beginning
  beginning_of found image old = record { setup = setup_of L old.it; slot = found.newest.slot; image = image; device = old.device; gauge = old.gauge }

  pub survives_stop : (found : Head) (image : Image) (events : List Event) (replies : List Reply) (old new : Assembly L) → HasAnswered L found image events replies old new
      → (bytes : List ℕ) → IsLeftAt (moments_since old.device new.device) bytes → OutlivesStop (beginning_of found image old) events replies bytes
  survives_stop found image events replies old new answered bytes left =
      let e = lives_anywhere L found image events replies old new answered bytes left in
      record {
        life = module_life L found image e.front e.told old e.last e.unanswered bytes;
        began = record { setup = refl; slot = refl; image = refl; device = refl; gauge = refl };
        front = record { rest = e.rest; untold = e.untold; parts = e.parts; told = e.told_are };
        left = refl;
        run = e.run;
        lived = e.lived;
        survived = survived (module_life L found image e.front e.told old e.last e.unanswered bytes) [] e.lived;
      }

  -- the works of a module of so many channels name its channels
  pub works_within : (it : Module K L) (channels : ℕ) → (setup_of L it).shape.channels ≡ channels → (event : Event) → WorksWithin channels event → IsForChannels L it event
  works_within it channels is (events.Write write) within = within
  works_within it channels is (events.Read line) within = within
  works_within it channels is (events.Collect ticket) within = within
  works_within it channels is (events.Work channel) within = subst (λ (n : ℕ). channel < n) (sym is) within
  works_within it channels is events.Sense within = within
  works_within it channels is events.Arm within = within
  works_within it channels is events.Disarm within = within
  works_within it channels is events.SaveBegin within = within
  works_within it channels is events.SaveStep within = within
  works_within it channels is events.Lose within = within
