-- A line that was asked for at its channel.
use Rattle.std.proofs.Common.{◌≡◌, ◌∙◌, ℕ, Option, Result, Ok, Err, IfOk, IfErr, ap, refl, subst, sym}
use Rattle.arm_state.specs.declared.refusal.ReadRefusal.{ReadRefusal}
use Rattle.board_desk.specs.Answering.{DeskAnswers, DoneWithLent, IsAskedFor, KeepsPort, ReadsLine}
use Rattle.board_desk.specs.Views.{desk_of}
use Rattle.board_desk.specs.declared.desk.Desk.{Desk}
use Rattle.channel_locks.specs.Lent.{IsLentBy}
use Rattle.channel_locks.specs.declared.parts_name.PartsName.{Ghosts as PartsGhosts}
use Rattle.channel_locks.specs.declared.part.Part.{Part}
use Rattle.channel_port.specs.declared.port.ChannelPort.{Ghosts}
use Rattle.energy_budget.specs.declared.energy.Energy.{Ghosts as GaugeGhosts}
use Rattle.nv_machine.specs.declared.events.Event.TheVariants as events
use Rattle.nv_machine.specs.declared.events.Reply.TheVariants as replies
use Rattle.board_hosts.specs.declared.board_name.BoardName.{Ghosts as BoardGhosts}
use Rattle.board_hosts.specs.declared.host.GotAt.{GotAt}
use Rattle.save_device.specs.declared.device.SaveDevice.{Ghosts as DeviceGhosts}
use Rattle.split_board.specs.Hosts.{AnswersAskAtBoard}
use Rattle.channel_locks.specs.declared.locked_channel.LockedChannel.{LockedChannel}
use Rattle.split_board.proofs.board.Board.ask_at.Given.{Over}
use Rattle.split_board.proofs.board.Board.ask_at.Goals.{After-deref_mut-2}
use Rattle.split_board.proofs.board.Board.ask_at.Goals as goal

module _ {K D E B : Type 0} (L : Ghosts K) (M : DeviceGhosts D) (N : GaugeGhosts E) (O : BoardGhosts B) (P : PartsGhosts B) where
  -- what the desk answered is what the board answers
  answers : (channel line : ℕ) (before after : Desk K D E B L M N O P) (part left : Option (Part K L)) → IsLentBy L P channel part → (result : Result GotAt ReadRefusal) → IsAskedFor P.make line channel
      → IfOk result (λ r. DeskAnswers P channel (events.Read line) (replies.Read (Ok r.got)) (desk_of L M N O P before) (desk_of L M N O P after))
      → IfErr result (λ refusal. DeskAnswers P channel (events.Read line) (replies.Read (Err refusal)) (desk_of L M N O P before) (desk_of L M N O P after))
      → IfOk result (λ r. r.at ≡ before.split.front.accepted)
      → IfOk result (λ r. DoneWithLent L (ReadsLine L line channel r) part left) → IfErr result (λ _. DoneWithLent L (KeepsPort L) part left)
      → AnswersAskAtBoard L M N O P line result
  answers channel line before after part left lent (Ok r) asked ok err at reads keeps =
      record { channel = channel; asked = asked; lent = record { before = before; after = after; reads = ok; counted = at; part = part; lent = lent; left = left; leaves = reads } }
  answers channel line before after part left lent (Err refusal) asked ok err at reads keeps =
      record {
        channel = channel;
        at = before.split.front.accepted;
        asked = asked;
        lent = record { before = before; after = after; reads = err; counted = refl; part = part; lent = lent; left = left; leaves = keeps };
      }

abbrev Channel : Over → Type 0
Channel g = LockedChannel g.row.K.Denot g.row.B.Denot g.K.ChannelPort g.B.PartsName

module _ (g : Over) (c : After-deref_mut-2 g) where
  -- the lock lent the channel of the line
  number : c.deref_mut-2.result.now.number ≡ c.args.channel
  number = ap (λ (it : Channel g). it.number) c.deref_mut-2.ensures.value ∙ c.take-lent.ensures

  asked : IsAskedFor g.B.PartsName.make c.args.line c.deref_mut-2.result.now.number
  asked = subst (λ (n : ℕ). IsAskedFor g.B.PartsName.make c.args.line n) (sym number) c.requires.asked

pub read_in-requires : goal.read_in-requires
read_in-requires g c = let at = goal.at.read_in-requires g c in record { asked = asked g at.After-deref_mut-2 }

pub returns-clause-asked : goal.returns-clause-asked
returns-clause-asked g c =
    let at = goal.at.returns-clause-asked g c in
    let did = c.read_in.ensures in
    let channel = c.deref_mut-2.result.now in
    answers g.K.ChannelPort g.D.SaveDevice g.E.Energy g.B.BoardName g.B.PartsName channel.number c.args.line
    c.in-Some.desk c.read_in.new.self channel.part c.read_in.new.channel.part (channel.seat.log, channel.kept.part_is) c.read_in.result (asked g at.After-deref_mut-2) did.ok did.err did.at did.reads did.keeps
