use Rattle.std.proofs.Common.{length, subst}
use Rattle.channel_set.specs.declared.set.ChannelSet.{ChannelSet}
use Rattle.ddr4_port.specs.Port.{AreLawful, PortState}
use Rattle.script_runner.proofs.Lawful.{each_lawful}
use Rattle.script_runner.proofs.book.CommandBookLifeBookDdr4Port.end.Goals as goal

pub returns-then-is_open-clause-rules : goal.returns-then-is_open-clause-rules
returns-then-is_open-clause-rules g c =
    let channels = c.args.life.now.channels in
    each_lawful (λ (port : PortState). port.channel.commands) channels.terms.checked channels.ports.items
    (subst (λ (set : ChannelSet PortState _). AreLawful (length set.ports.items) set.terms.checked set.ports.items) c.channels-channels.ensures c.keep_rules.ensures)

pub returns-else-is_open-clause-rules : goal.returns-else-is_open-clause-rules
returns-else-is_open-clause-rules g c =
    let channels = c.args.life.now.channels in
    each_lawful (λ (port : PortState). port.channel.commands) channels.terms.checked channels.ports.items
    (subst (λ (set : ChannelSet PortState _). AreLawful (length set.ports.items) set.terms.checked set.ports.items) c.channels-channels.ensures c.keep_rules.ensures)
