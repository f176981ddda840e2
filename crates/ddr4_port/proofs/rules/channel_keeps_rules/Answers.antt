use Rattle.std.proofs.Common.{◌≡◌, ◌∙◌, ap, subst, sym}
use Rattle.std.proofs.lemmas.Option.{same_Some}
use Rattle.std.specs.Option.{option_map}
use Rattle.ddr4_timing.specs.Lawful.{IsLawful}
use Rattle.ddr4_port.proofs.Common.{ChannelState, Checked, PortState}
use Rattle.ddr4_port.proofs.rules.channel_keeps_rules.Goals as goal

pub returns-in-Some : goal.returns-in-Some
returns-in-Some g c port at =
    let channels = c.args.channels.now in
    let found = c.in-Some.port.now in
    let is : found ≡ port = same_Some found port (ap (option_map (λ p. p.now)) (sym c.in-Some.is) ∙ c.port.ensures ∙ at) in
    let own : IsLawful found.channel.checked found.channel.commands = subst (λ (s : ChannelState). IsLawful s.checked s.commands) c.channel.ensures c.always.ensures.lawful in
    subst (λ (k : Checked). IsLawful k port.channel.commands) (channels.are.each c.args.number port at).checked (subst (λ (p : PortState). IsLawful p.channel.checked p.channel.commands) is own)
