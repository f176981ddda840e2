-- What a life begins over.
use Rattle.std.specs.Prelude.{◌≡◌, ℕ, [], None}
use Rattle.save_image.specs.Image.{Image}
use Rattle.save_device.specs.Device.{DeviceState}
use Rattle.slot_store.specs.Rest.{IsAtRestOn}
use Rattle.channel_port.specs.declared.port.ChannelPort.{Ghosts}
use Rattle.channel_port.specs.Waits.{nothing}
use Rattle.channel_set.specs.declared.set.ChannelSet.{ChannelSet}
use Rattle.channel_port.specs.declared.stage.Stage.TheVariants.{OnMains}
use Rattle.channel_set.specs.Set.{AreAt, shape_of, view_of}
use Rattle.channel_set.specs.Carrying.{CarriesAll}
use Rattle.slot_store.specs.declared.head.Head.{Head}
use Rattle.nv_machine.specs.Opening.{new_life}
use Rattle.nv_machine.specs.State.{Setup, Machine}

-- the machine at the beginning of a life with what was found
abbrev pub opened_with : Head → Image → Machine
opened_with found image = new_life found.newest.slot found.closed image

module _ {K : Type 0} (L : Ghosts K) where
  -- nothing was asked of the channels yet
  pub record AreUnasked (channels : ChannelSet K L) : Type 0 where
    pub waits : (view_of L channels).waits ≡ nothing
    pub hold : (view_of L channels).hold ≡ None
    pub mains : AreAt L OnMains channels

  abbrev pub setup_with : ChannelSet K L → ℕ → Setup
  setup_with channels trail = record { shape = shape_of L channels; trail = trail }

  -- The channels began with this image's memory, and the device is at rest on the image, as a restore that found it leaves
  -- the device.
  pub record BeginsOn (channels : ChannelSet K L) (found : Head) (image : Image) (device : DeviceState) : Type 0 where
    pub generation : image.generation ≡ found.newest.generation
    pub count : image.count ≡ found.count
    pub carries : CarriesAll L channels image.memory image.count []
    pub rest : IsAtRestOn found.newest.slot image (shape_of L channels).lines found.closed device
