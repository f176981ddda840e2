-- A write at its line's channel.
use Rattle.std.proofs.Common.{◌≡◌, ◌∙◌, ℕ, ap, subst, sym}
use Rattle.board_desk.specs.Answering.{IsAskedFor}
use Rattle.channel_locks.specs.declared.locked_channel.LockedChannel.{LockedChannel}
use Rattle.split_board.specs.Hosts.{LentForWrite}
use Rattle.split_board.proofs.Leaving.{write_leaves}
use Rattle.split_board.proofs.board.Board.write_at.Given.{Over}
use Rattle.split_board.proofs.board.Board.write_at.Goals.{After-deref_mut-2}
use Rattle.split_board.proofs.board.Board.write_at.Goals as goal

abbrev Channel : Over → Type 0
Channel g = LockedChannel g.row.K.Denot g.row.B.Denot g.K.ChannelPort g.B.PartsName

module _ (g : Over) (c : After-deref_mut-2 g) where
  -- the lock lent the channel of the line
  number : c.deref_mut-2.result.now.number ≡ c.args.channel
  number = ap (λ (it : Channel g). it.number) c.deref_mut-2.ensures.value ∙ c.take-lent.ensures

pub write_in-requires : goal.write_in-requires
write_in-requires g c =
    let at = goal.at.write_in-requires g c in
    record { asked = subst (λ (n : ℕ). IsAskedFor g.B.PartsName.make c.args.write.line n) (sym (number g at.After-deref_mut-2)) c.requires.asked }

pub returns-clause-writes : goal.returns-clause-writes
returns-clause-writes g c =
    let at = goal.at.returns-clause-writes g c in
    let channel = c.deref_mut-2.result.now in
    let did = c.write_in.ensures in
    subst (λ (n : ℕ). LentForWrite g.K.ChannelPort g.D.SaveDevice g.E.Energy g.B.BoardName g.B.PartsName n c.args.write c.write_in.result c.args.host.now c.write_in.new.host) (number g at.After-deref_mut-2)
    (record {
      before = c.in-Some.desk;
      after = c.write_in.new.self;
      writes = did.writes;
      part = channel.part;
      lent = (channel.seat.log, channel.kept.part_is);
      left = c.write_in.new.channel.part;
      leaves = write_leaves g.K.ChannelPort c.write_in.result channel.part c.write_in.new.channel.part did.puts did.keeps;
    })
