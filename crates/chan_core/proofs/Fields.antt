-- The fields of a channel whose contents are right, as its answers cite them.
use Rattle.chan_core.specs.declared.channel_memory.ChannelMemory.TheInside.{Inside}
use Rattle.chan_core.specs.Inside.{IsInside}

-- the fields that are known to be right
abbrev pub fields_of : {m : Inside} → IsInside m → Inside
fields_of {m = m} is = m
