-- What a host's write and read at a board come to.
use Rattle.std.specs.Prelude.{◌≡◌, ◌⊎◌, ℕ, List, Option, Result, Ok, Err}
use Rattle.line_memory.specs.declared.Write.{Write}
use Rattle.save_device.specs.declared.device.SaveDevice.{Ghosts as DeviceGhosts}
use Rattle.energy_budget.specs.declared.energy.Energy.{Ghosts as GaugeGhosts}
use Rattle.arm_state.specs.declared.refusal.ReadRefusal.{ReadRefusal}
use Rattle.arm_state.specs.declared.refusal.WriteRefusal.{WriteRefusal}
use Rattle.channel_port.specs.declared.answers.Collected.TheVariants.{Data}
use Rattle.channel_port.specs.declared.answers.Got.{Got}
use Rattle.channel_port.specs.declared.answers.Got.TheVariants.{Now, Later}
use Rattle.channel_port.specs.declared.answers.Ticket.{Ticket}
use Rattle.channel_locks.specs.declared.part.Part.{Part}
use Rattle.channel_port.specs.declared.port.ChannelPort.{Ghosts}
use Rattle.channel_locks.specs.declared.parts_name.PartsName.{Ghosts as PartsGhosts}
use Rattle.channel_locks.specs.Lent.{IsLentBy, LentRoom}
use Rattle.nv_machine.specs.declared.events.Event.TheVariants as events
use Rattle.nv_machine.specs.declared.events.Reply.TheVariants as replies
use Rattle.board_hosts.specs.declared.board_name.BoardName.{Ghosts as BoardGhosts}
use Rattle.board_hosts.specs.declared.host.GotAt.{GotAt}
use Rattle.board_hosts.specs.declared.host.Receipt.{Receipt}
use Rattle.board_hosts.specs.Client.{Client}
use Rattle.board_desk.specs.declared.desk.Desk.{Desk}
use Rattle.board_desk.specs.Answering.{DeskAnswers, DoneWithLent, IsAskedFor, KeepsPort, PutsWrite, ReadsLine}
use Rattle.board_desk.specs.Hosting.{HostWritesAtDesk}
use Rattle.board_desk.specs.Views.{desk_of}
use Rattle.split_board.specs.Turns.{AwaitsOwn, LooksFor, ServesFirst}
use Rattle.split_board.specs.declared.claim.Asked.{Asked}
use Rattle.split_board.specs.declared.claim.Asked.TheVariants as asked

-- behind how many writes it was asked
abbrev pub asked_at : {B : Type 0} → Asked B → ℕ
asked_at (asked.Now seen) = seen.at
asked_at (asked.Later claim) = claim.at

module _ {K : Type 0} (L : Ghosts K) where
  -- What a write with this answer left of what its channel's lock lent: an accepted one waits there. No command was issued.
  abbrev pub WritesLent : Result Receipt WriteRefusal → Option (Part K L) → Option (Part K L) → Type 0
  WritesLent (Ok receipt) old new = DoneWithLent L (PutsWrite L receipt.number) old new
  WritesLent (Err refusal) old new = DoneWithLent L (KeepsPort L) old new

  -- What a read of a line with this answer left: a ticket is open there. No command was issued.
  abbrev pub ReadsLent : ℕ → ℕ → Result Got ReadRefusal → ℕ → Option (Part K L) → Option (Part K L) → Type 0
  ReadsLent channel line (Ok got) at old new = DoneWithLent L (ReadsLine L line channel (record { got = got; at = at })) old new
  ReadsLent channel line (Err refusal) at old new = DoneWithLent L (KeepsPort L) old new

module _ {K D E B : Type 0} (L : Ghosts K) (M : DeviceGhosts D) (N : GaugeGhosts E) (O : BoardGhosts B) (P : PartsGhosts B) where
  -- Under the board's lock and this channel's a write was answered so.
  pub record LentForWrite (channel : ℕ) (write : Write) (result : Result Receipt WriteRefusal) (host told : Client) : Type 0 where
    pub before : Desk K D E B L M N O P
    pub after : Desk K D E B L M N O P
    pub writes : HostWritesAtDesk L M N O P channel write result host told before after
    pub part : Option (Part K L)
    pub lent : IsLentBy L P channel part
    pub left : Option (Part K L)
    pub leaves : WritesLent L result part left

  -- Room was made on the line's channel under that channel's lock alone, and then the write was answered so.
  pub record WritesAtBoard (write : Write) (result : Result Receipt WriteRefusal) (host told : Client) : Type 0 where
    pub channel : ℕ
    pub asked : IsAskedFor P.make write.line channel
    pub room : LentRoom L P channel
    pub lent : LentForWrite channel write result host told

  -- Under the board's lock and this channel's a read had this answer, behind so many accepted writes.
  pub record LentForRead (channel line : ℕ) (answer : Result Got ReadRefusal) (at : ℕ) : Type 0 where
    pub before : Desk K D E B L M N O P
    pub after : Desk K D E B L M N O P
    pub reads : DeskAnswers P channel (events.Read line) (replies.Read answer) (desk_of L M N O P before) (desk_of L M N O P after)
    pub counted : at ≡ before.split.front.accepted
    pub part : Option (Part K L)
    pub lent : IsLentBy L P channel part
    pub left : Option (Part K L)
    pub leaves : ReadsLent L channel line answer at part left

  -- a line was asked for at its channel, and this was answered there
  pub record AsksAtBoard (line : ℕ) (told : Got) (at : ℕ) : Type 0 where
    pub channel : ℕ
    pub asked : IsAskedFor P.make line channel
    pub lent : LentForRead channel line (Ok told) at

  -- A line was read at its channel, and served where it had to wait.
  pub record ReadsAtBoard (line : ℕ) (told : Got) (at : ℕ) : Type 0 where
    pub channel : ℕ
    pub asked : IsAskedFor P.make line channel
    pub first : Got
    pub lent : LentForRead channel line (Ok first) at
    pub serves : ServesFirst L P line at first told

  -- the read of a line was refused at its channel
  pub record RefusedAtBoard (line : ℕ) (refusal : ReadRefusal) : Type 0 where
    pub channel : ℕ
    pub at : ℕ
    pub asked : IsAskedFor P.make line channel
    pub lent : LentForRead channel line (Err refusal) at

  -- a line that was asked for had this answer at its channel
  abbrev pub AnswersAskAtBoard : ℕ → Result GotAt ReadRefusal → Type 0
  AnswersAskAtBoard line (Ok r) = AsksAtBoard line r.got r.at
  AnswersAskAtBoard line (Err refusal) = RefusedAtBoard line refusal

  -- The same, told as the line that was seen, or as a claim to it.
  abbrev pub TellsAskAtBoard : ℕ → Result (Asked B) ReadRefusal → Type 0
  TellsAskAtBoard line (Ok (asked.Now seen)) = (seen.line ≡ line) × AsksAtBoard line (Now seen.data) seen.at
  TellsAskAtBoard line (Ok (asked.Later claim)) = (claim.line ≡ line) × AsksAtBoard line (Later claim.ticket) claim.at
  TellsAskAtBoard line (Err refusal) = RefusedAtBoard line refusal

  -- a read of a line had this answer at the line's channel
  abbrev pub AnswersReadAtBoard : ℕ → Result GotAt ReadRefusal → Type 0
  AnswersReadAtBoard line (Ok r) = ReadsAtBoard line r.got r.at
  AnswersReadAtBoard line (Err refusal) = RefusedAtBoard line refusal

  -- its bytes were told at once, or its ticket had them later, as those of this line behind so many writes
  abbrev pub HasReadLine : ℕ → List ℕ → ℕ → Type 0
  HasReadLine line bytes at = ReadsAtBoard line (Now bytes) at ⊎ ((ticket : Ticket) × ReadsAtBoard line (Later ticket) at × LooksFor L P ticket (Data line bytes at))

  -- it was refused, or was lost while it waited
  abbrev pub HasLostLine : ℕ → ReadRefusal → Type 0
  HasLostLine line refusal =
      RefusedAtBoard line refusal ⊎ ((ticket : Ticket) × (at : ℕ) × ReadsAtBoard line (Later ticket) at × AwaitsOwn L P ticket line at (Err refusal))
