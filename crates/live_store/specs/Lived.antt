-- A whole life on a device, and what was said of it.
use Rattle.std.specs.Prelude.{◌≡◌, ℕ, List, ◌∷◌, ◌++◌}
use Rattle.ddr4_timing.specs.declared.timing.Geometry.{Geometry}
use Rattle.ddr4_timing.specs.Limits.{lines_of}
use Rattle.save_device.specs.Device.{DeviceState}
use Rattle.channel_port.specs.declared.port.ChannelPort.{Ghosts}
use Rattle.module_core.specs.Stands.{Assembly}
use Rattle.nv_script.specs.declared.answer.Answer.{Answer}
use Rattle.live_store.specs.declared.talk.Said.{Said}
use Rattle.live_store.specs.declared.talk.Said.TheVariants as said
use Rattle.live_store.specs.Lives.{TakesTurns}
use Rattle.live_store.specs.Starts.{Begins}
use Rattle.live_store.specs.Talks.{AreSaidToHeard, turns_in}

-- A life began on this device. It was said first with what, and then, line by line, what it answered: these are all its turns, and
-- they left the device so. What was said is to what was heard.
pub record LivesOn {K : Type 0} (L : Ghosts K) (geometry : Geometry) (old new : DeviceState) (heard listened : List (List ℕ)) (before after : List Said) : Type 0 where
  pub answer : Answer
  pub more : List Said
  pub told : after ≡ before ++ said.Began answer ∷ more
  pub first : Assembly L
  pub last : Assembly L
  pub begins : Begins L (lines_of geometry) answer old.bytes first
  pub takes : TakesTurns L (turns_in more) first last
  pub to : AreSaidToHeard geometry heard listened more
  pub device : last.device ≡ new
