-- The contents of a channel, by its fields.
use Rattle.std.specs.Prelude.{◌≤◌}
use Rattle.chan_core.specs.declared.channel_memory.ChannelMemory.TheInside.{Inside}
use Rattle.chan_core.specs.Contents.{Contents, AreContents}

abbrev pub contents_of : Inside → Contents
contents_of m = record {
  checked = m.checked;
  channel = m.channel;
  array = m.array.items;
  queue = m.queue;
  waiting = m.waiting;
  reads = m.reads.items;
  most_reads = m.most_reads;
  serial = m.serial;
  hold = m.hold;
  commands = m.issued.items;
  phase = m.phase;
}

-- they are contents, and there is room for all reads
pub record IsInside (m : Inside) : Type 0 where
  pub are : AreContents (contents_of m)
  pub room_for_reads : m.most_reads ≤ m.reads.most
