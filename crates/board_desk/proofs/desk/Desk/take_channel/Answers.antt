-- The first channel of a list is settled for good, and lends its port.
use Rattle.std.proofs.Common.{◌≡◌, ◌∙◌, ◌∷◌, ◌++◌, ap, map, subst}
use mathlib.Core.List.{append_assoc}
use Rattle.std.specs.Global.{Global}
use Rattle.std.specs.Prelude.{Vec}
use Rattle.channel_locks.specs.Slots.{IsSlotKept}
use Rattle.channel_locks.specs.Unlocked.{port_in, ports_in}
use Rattle.board_desk.proofs.Frames.{have_settled}
use Rattle.board_desk.proofs.Lent.{settled_port}
use Rattle.board_desk.proofs.Taken.{count_taken, first_number, first_taken, next_numbers, ports_taken}
use Rattle.board_desk.proofs.Wholly.{module_lent, settled_ready}
use Rattle.board_desk.proofs.desk.Desk.take_channel.Given.{Over}
use Rattle.board_desk.proofs.desk.Desk.take_channel.Goals.{After-remove-channel}
use Rattle.board_desk.proofs.desk.Desk.take_channel.Goals as goal

module _ (g : Over) (c : After-remove-channel g) where
  taken : c.args.channels.now.items ≡ c.remove-channel.result ∷ c.remove-channel.new.self.items
  taken = first_taken c.args.channels.now.items c.remove-channel.new.self.items c.remove-channel.result c.requires.some c.remove-channel.ensures.value c.remove-channel.ensures.items

  here : c.remove-channel.result.number ≡ c.args.number
  here = first_number g.K.ChannelPort g.B.PartsName c.args.channels.now.items c.remove-channel.new.self.items c.remove-channel.result taken c.args.number c.requires.numbered

pub returns-clause-count : goal.returns-clause-count
returns-clause-count g c =
    let at = goal.at.returns-clause-count g c in
    count_taken g.K.ChannelPort g.B.PartsName c.args.channels.now.items c.remove-channel.new.self.items c.remove-channel.result (taken g at.After-remove-channel)

pub returns-clause-numbered : goal.returns-clause-numbered
returns-clause-numbered g c =
    let at = goal.at.returns-clause-numbered g c in
    next_numbers g.K.ChannelPort g.B.PartsName c.args.channels.now.items c.remove-channel.new.self.items c.remove-channel.result (taken g at.After-remove-channel) c.args.number c.requires.numbered

pub lend-requires-clause-kept : goal.lend-requires-clause-kept
lend-requires-clause-kept g c =
    let at = goal.at.lend-requires-clause-kept g c in
    let channel = c.settle.new.channel in
    subst (λ k. IsSlotKept g.K.ChannelPort g.B.PartsName channel.part channel.seat k) (c.settle.ensures.number ∙ here g at.After-remove-channel) channel.kept

pub lend-requires-clause-ready : goal.lend-requires-clause-ready
lend-requires-clause-ready g c = settled_ready g.K.ChannelPort _ _ _ c.settle.ensures.settled

pub lend-requires-clause-have : goal.lend-requires-clause-have
lend-requires-clause-have g c =
    let at = goal.at.lend-requires-clause-have g c in
    let did = c.settle.ensures in
    have_settled g.K.ChannelPort g.D.SaveDevice g.E.Energy g.B.BoardName g.B.PartsName c.args.number c.args.self.now c.settle.new.self c.settle.new.self c.remove-channel.result c.settle.new.channel (here g at.After-remove-channel)
    did.settles did.same did.elsewhere did.part c.requires.have

pub returns-clause-ports : goal.returns-clause-ports
returns-clause-ports g c =
    let L = g.K.ChannelPort in
    let at = goal.at.returns-clause-ports g c in
    let rest = c.remove-channel.new.self.items in
    let later = c.settle.new.channel.part in
    let room = c.args.self.now.room.items in
    let others = ports_in L (map (λ channel. channel.part) rest) in
    ap (λ ports. ports ++ others) (c.lend.ensures.port ∙ ap (λ (v : Vec g.row.K.Denot Global). v.items ++ port_in L later) c.settle.ensures.same.room)
    ∙ append_assoc room (port_in L later) others
    ∙ ap (λ ports. room ++ ports) (ports_taken L g.B.PartsName c.args.channels.now.items rest c.remove-channel.result (taken g at.After-remove-channel) later (settled_port L c.remove-channel.result.part later c.settle.ensures.part))

pub returns-clause-same : goal.returns-clause-same
returns-clause-same g c = module_lent g.K.ChannelPort g.D.SaveDevice g.E.Energy g.B.BoardName g.B.PartsName c.args.self.now c.settle.new.self c.lend.new.self c.settle.ensures.same c.lend.ensures.same
