-- A call of a whole module, by who takes the channels' locks one behind another.
use Rattle.std.specs.Prelude.{◌≡◌, ℕ, suc, ◌+◌, ◌<◌, ◌≤◌, ◌++◌, List, [], ◌∷◌, length, map, min, slice_index_or, vec_capacity, Option, Some}
use Rattle.arm_state.specs.Modes.{has_ended}
use Rattle.arm_state.specs.declared.loss.Loss.{Loss}
use Rattle.atomic_table.specs.Seated.{TableId}
use Rattle.channel_locks.specs.declared.parts_name.PartsName.{Ghosts as PartsGhosts}
use Rattle.channel_locks.specs.Lent.{IsLentBy}
use Rattle.channel_locks.specs.Unlocked.{issued_by, ports_in}
use Rattle.channel_log.specs.Seats.{AllLogs}
use Rattle.channel_locks.specs.declared.part.Part.{Part}
use Rattle.channel_port.specs.declared.port.ChannelPort.{Ghosts}
use Rattle.energy_budget.specs.declared.energy.Energy.{Ghosts as GaugeGhosts}
use Rattle.line_memory.specs.History.{Recorded}
use Rattle.board_hosts.specs.SeenMarks.{SeenMarks}
use Rattle.module_core.specs.Draining.{WhereDrained}
use Rattle.board_hosts.specs.declared.board_name.BoardName.{Ghosts as BoardGhosts}
use Rattle.save_device.specs.declared.device.SaveDevice.{Ghosts as DeviceGhosts}
use Rattle.worker_turns.specs.declared.Gate.{Ghosts as GateGhosts}
use Rattle.board_desk.specs.Asking.{CameBy, pieces_with}
use Rattle.board_desk.specs.Calling.{Course, loss_course}
use Rattle.board_desk.specs.Desk.{DeskView}
use Rattle.board_desk.specs.Loans.{HaveBack, HaveLent}
use Rattle.board_desk.specs.Losing.{DrainsBehind, LedAtOnce, LosesWhole, WhereUndrained}
use Rattle.board_desk.specs.Views.{desk_of}
use Rattle.board_desk.specs.Whole.{SameWorld, SettlesAll, WholeAnswers}
use Rattle.board_desk.specs.declared.desk.Desk.{Desk}
use Rattle.board_desk.specs.declared.pieces.RecordedPieces.{RecordedPieces}

module _ {K D E B : Type 0} (L : Ghosts K) (M : DeviceGhosts D) (N : GaugeGhosts E) (O : BoardGhosts B) (P : PartsGhosts B) where
  -- the locks of the channels from this one on lent these, in order
  abbrev pub AreLentFrom : ℕ → List (Option (Part K L)) → Type 0
  AreLentFrom channel [] = Unit {0}
  AreLentFrom channel (part ∷ parts) = IsLentBy L P channel part × AreLentFrom (suc channel) parts

  -- A call of the whole module was this to the life. None of the channels that the eight locks lent for it has issued a command in it.
  pub record CallsWhole (course : Course) (old new : Desk K D E B L M N O P) : Type 0 where
    pub answers : WholeAnswers P course (desk_of L M N O P old) (desk_of L M N O P new)
    pub parts : List (Option (Part K L))
    pub eight : length parts ≡ 8
    pub lent : AreLentFrom 0 parts
    pub left : List (Option (Part K L))
    pub issued : issued_by L left ≡ issued_by L parts

  -- the same of what lies behind the board's lock, with what the call's answer tells of the record
  pub record CallsLocked (course : Course) (told : ℕ → Recorded → Recorded → Type 0) (old new : Option (Desk K D E B L M N O P)) : Type 0 where
    pub before : Desk K D E B L M N O P
    pub after : Desk K D E B L M N O P
    pub old_is : old ≡ Some before
    pub new_is : new ≡ Some after
    pub calls : CallsWhole course before after
    pub tells : told before.split.front.saved before.history after.history

  -- Mains were lost: it was this to the life, and all drains were paid for before the first of them. Where they were paid for, the gate
  -- that was given was asked before the drain of each channel, and what the eight locks lent has the ports that these drains leave.
  -- Where no drain was begun no channel has issued a command.
  pub record LosesAtDesk {G : Type 0} (H : GateGhosts G) (gate : G) (lost : Loss) (old new : Desk K D E B L M N O P) : Type 0 where
    pub answers : WholeAnswers P (loss_course lost) (desk_of L M N O P old) (desk_of L M N O P new)
    pub loses : LosesWhole P lost (desk_of L M N O P old) (desk_of L M N O P new)
    pub parts : List (Option (Part K L))
    pub eight : length parts ≡ 8
    pub lent : AreLentFrom 0 parts
    pub left : List (Option (Part K L))
    pub issued : WhereUndrained lost (issued_by L left ≡ issued_by L parts)
    pub drains : WhereDrained lost (DrainsBehind L H gate (ports_in L parts) (ports_in L left))

  -- the same of what lies behind the board's lock
  pub record LosesLocked {G : Type 0} (H : GateGhosts G) (gate : G) (lost : Loss) (old new : Option (Desk K D E B L M N O P)) : Type 0 where
    pub before : Desk K D E B L M N O P
    pub after : Desk K D E B L M N O P
    pub old_is : old ≡ Some before
    pub new_is : new ≡ Some after
    pub loses : LosesAtDesk H gate lost before after

  abbrev pub APieces : Type 0
  APieces = RecordedPieces K D E B

  -- Behind a call that left these pieces, and knew so much of the channels, those from a number on have their ports back. Nothing else
  -- of the pieces has changed.
  pub record HaveComeBack (number : ℕ) (done : APieces) (first : AllLogs) (rest : APieces) (known : AllLogs) : Type 0 where
    pub front : rest.pieces.front ≡ done.pieces.front
    pub terms : rest.pieces.terms ≡ done.pieces.terms
    pub device : rest.device ≡ done.device
    pub energy : rest.energy ≡ done.energy
    pub history : rest.history ≡ done.history
    pub table : known.table ≡ first.table
    pub count : length rest.pieces.ports.items ≡ min number P.ports
    pub room : P.ports ≤ vec_capacity rest.pieces.ports
    pub back : HaveBack L done.pieces.terms.hold (has_ended done.pieces.front.front.mode) done.pieces.ports.items first.logs number rest.pieces.ports.items known.logs

  -- what a call tells of the pieces that it found and left, with no command issued
  pub record CallTells (told : ℕ → Recorded → Recorded → Type 0) (asked done : APieces) : Type 0 where
    pub tells : told asked.pieces.front.front.saved asked.history done.history
    pub issued : map L.issued done.pieces.ports.items ≡ map L.issued asked.pieces.ports.items

  -- the same of a loss of mains
  pub record LossTells {G : Type 0} (H : GateGhosts G) (gate : G) (lost : Loss) (asked done : APieces) : Type 0 where
    pub led : LedAtOnce L M N P lost asked done
    pub issued : WhereUndrained lost (map L.issued done.pieces.ports.items ≡ map L.issued asked.pieces.ports.items)
    pub drains : WhereDrained lost (DrainsBehind L H gate asked.pieces.ports.items done.pieces.ports.items)

  -- A call for which the channels from a number on lent their ports, where those below it had lent theirs; and those have them back.
  -- Of the pieces that it found and left this is told.
  pub record CalledFrom (number : ℕ) (course : Course) (Tells : APieces → APieces → Type 0) (old : DeskView) (ports : List K) (rest : APieces)
      (words : TableId) (marks : SeenMarks) (written : ℕ) (logs : TableId) (known : AllLogs) : Type 0 where
    pub asked : APieces
    pub done : APieces
    pub first : AllLogs
    pub settles : SettlesAll P old (pieces_with L M N P asked first.logs)
    pub same : SameWorld P old (pieces_with L M N P asked first.logs)
    pub front : asked.pieces.front.front ≡ old.split.front
    pub record_is : asked.history ≡ old.history
    pub before : (channel : ℕ) → channel < number → slice_index_or first.logs channel [] ≡ slice_index_or old.logs channel []
    pub came : CameBy L M N P O course asked done words marks written logs first
    pub have : ∥ HaveLent L P first.logs 8 asked.pieces.ports.items ∥₁
    pub tells : Tells asked done
    pub back : HaveComeBack number done first rest known
    pub parts : List (Option (Part K L))
    pub all : length parts + number ≡ 8
    pub lent : AreLentFrom number parts
    pub lends : asked.pieces.ports.items ≡ ports ++ ports_in L parts
    pub left : List (Option (Part K L))
    pub leaves : done.pieces.ports.items ≡ rest.pieces.ports.items ++ ports_in L left
