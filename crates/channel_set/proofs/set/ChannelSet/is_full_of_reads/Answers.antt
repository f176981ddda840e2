use Rattle.channel_set.proofs.Common.{refl, ◌∙◌, length}
use Rattle.std.proofs.lemmas.Option.{slice_get_read}
use Rattle.channel_set.proofs.Counted.{full-of-reads-there}
use Rattle.channel_set.proofs.set.ChannelSet.is_full_of_reads.Goals as goal

pub returns : goal.returns
returns g c =
    let channels = c.args.self.now in
    let at = slice_get_read channels.ports.items (length channels.ports.items) c.args.channel c.index.result.now refl c.requires c.index.ensures in
    c.is_full_of_reads.ensures ∙ full-of-reads-there g.K.ChannelPort channels.terms channels.ports.items channels.are g.met.K.ChannelPort.own_reads c.args.channel c.index.result.now at
