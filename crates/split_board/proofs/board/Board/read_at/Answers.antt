-- A line that is read at its channel.
use Rattle.std.proofs.Common.{◌≡◌, ◌∙◌, ℕ, ap, refl, subst, sym}
use Rattle.board_desk.specs.Answering.{IsAskedFor, IsTicketOf}
use Rattle.channel_locks.specs.declared.locked_channel.LockedChannel.{LockedChannel}
use Rattle.split_board.proofs.board.Board.read_at.Given.{Over}
use Rattle.split_board.proofs.board.Board.read_at.Goals.{After-deref_mut-2}
use Rattle.split_board.proofs.board.Board.read_at.Goals as goal

abbrev Channel : Over → Type 0
Channel g = LockedChannel g.row.K.Denot g.row.B.Denot g.K.ChannelPort g.B.PartsName

module _ (g : Over) (c : After-deref_mut-2 g) where
  -- the lock lent the channel of the line
  number : c.deref_mut-2.result.now.number ≡ c.args.channel
  number = ap (λ (it : Channel g). it.number) c.deref_mut-2.ensures.value ∙ c.take-lent.ensures

  asked : IsAskedFor g.B.PartsName.make c.args.line c.deref_mut-2.result.now.number
  asked = subst (λ (n : ℕ). IsAskedFor g.B.PartsName.make c.args.line n) (sym number) c.requires.asked

pub read_in-requires : goal.read_in-requires
read_in-requires g c = let at = goal.at.read_in-requires g c in record { asked = asked g at.After-deref_mut-2 }

pub served-got-requires : goal.served-got-requires
served-got-requires g c = subst (λ (n : ℕ). IsTicketOf n c.in-Ok.field-0.got) (sym (ap (λ (it : Channel g). it.number) c.deref_mut-in-Ok.ensures.value ∙ c.read_in.ensures.number)) c.in-Ok.ensures.ticket

pub returns-in-Ok-clause-read : goal.returns-in-Ok-clause-read
returns-in-Ok-clause-read g c =
    let at = goal.at.returns-in-Ok-clause-read g c in
    record {
      channel = c.deref_mut-2.result.now.number;
      asked = asked g at.After-deref_mut-2;
      first = c.in-Ok.field-0.got;
      lent = record {
        before = c.in-Some.desk;
        after = c.read_in.new.self;
        reads = c.in-Ok.ensures.ok;
        counted = c.in-Ok.ensures.at;
        part = c.deref_mut-2.result.now.part;
        lent = (c.deref_mut-2.result.now.seat.log, c.deref_mut-2.result.now.kept.part_is);
        left = c.read_in.new.channel.part;
        leaves = c.in-Ok.ensures.reads;
      };
      serves = c.served-got.ensures.serves;
    }

pub returns-in-Err-clause-read : goal.returns-in-Err-clause-read
returns-in-Err-clause-read g c =
    let at = goal.at.returns-in-Err-clause-read g c in
    record {
      channel = c.deref_mut-2.result.now.number;
      at = c.in-Some.desk.split.front.accepted;
      asked = asked g at.After-deref_mut-2;
      lent = record {
        before = c.in-Some.desk;
        after = c.read_in.new.self;
        reads = c.in-Err.ensures.err;
        counted = refl;
        part = c.deref_mut-2.result.now.part;
        lent = (c.deref_mut-2.result.now.seat.log, c.deref_mut-2.result.now.kept.part_is);
        left = c.read_in.new.channel.part;
        leaves = c.in-Err.ensures.keeps;
      };
    }
