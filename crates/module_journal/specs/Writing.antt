-- What a module accepted in some of its calls.
use Rattle.std.specs.Prelude.{◌≡◌, ◌≤◌, ℕ, List, [], ◌∷◌, length, take, ◌++◌, Err}
use Rattle.line_memory.specs.declared.Write.{Write}
use Rattle.save_device.specs.Device.{DeviceState}
use Rattle.energy_budget.specs.Gauge.{Gauge}
use Rattle.arm_state.specs.declared.refusal.WriteRefusal.{WriteRefusal}
use Rattle.channel_port.specs.declared.port.ChannelPort.{Ghosts}
use Rattle.nv_machine.specs.declared.events.Event.{Event}
use Rattle.nv_machine.specs.declared.events.Reply.{Reply}
use Rattle.nv_machine.specs.declared.events.Reply.TheVariants as replies
use Rattle.module_core.specs.declared.module.Module.{Module}
use Rattle.module_core.specs.InTurn.{AnswersCalls}
use Rattle.module_core.specs.Stands.{assembly}
use Rattle.journal_log.specs.Log.{Log}
use Rattle.journal_log.specs.Calls.{Call, call_writes, lines_before_head, log_after}
use Rattle.journal_lines.specs.declared.index.Index.{Index}
use Rattle.journal_lines.specs.Indexed.{IsIndexOf}
use Rattle.nv_machine.specs.Rising.{accepted_in}

-- behind a call an index is of the journal behind it, whatever journal it was of
abbrev pub IsIndexBehind : Call → Index → Index → Type 0
IsIndexBehind call old new = (log : Log) → IsIndexOf old log → IsIndexOf new (log_after old.lines log call)

module _ {K : Type 0} (L : Ghosts K) where
  -- Calls in turn, of which the accepted writes are these.
  pub record Accepts (device : DeviceState) (gauge : Gauge) (writes : List Write) (old new : Module K L) : Type 0 where
    pub events : List Event
    pub replies : List Reply
    pub paired : length events ≡ length replies
    pub calls : AnswersCalls L events replies (assembly old device gauge) (assembly new device gauge)
    pub are : accepted_in events replies ≡ writes

  -- whatever the device and the gauge are
  abbrev pub HasWritten : List Write → Module K L → Module K L → Type 0
  HasWritten writes old new = (device : DeviceState) (gauge : Gauge) → Accepts device gauge writes old new

  -- The same, and the last of the calls had this answer.
  pub record EndsWith (reply : Reply) (writes : List Write) (old new : Module K L) : Type 0 where
    pub written : HasWritten writes old new
    pub last : (device : DeviceState) (gauge : Gauge) → (told : List Reply) × ((written device gauge).replies ≡ told ++ reply ∷ [])

  -- A first part of a call's writes, without the head; the write behind them was refused.
  pub record StopsShort (refusal : WriteRefusal) (lines : ℕ) (log : Log) (call : Call) (old new : Module K L) : Type 0 where
    pub made : ℕ
    pub few : made ≤ length (lines_before_head call)
    pub ends : EndsWith (replies.Write (Err refusal)) (take made (call_writes lines log call)) old new

  -- the same of whatever journal it is the index of
  abbrev pub IsRefused : WriteRefusal → Index → Call → Module K L → Module K L → Type 0
  IsRefused refusal index call old new = (log : Log) → IsIndexOf index log → StopsShort refusal index.lines log call old new

  -- All writes of a call are accepted, and this is the answer to the head's.
  abbrev pub IsMade : Reply → Index → Call → Module K L → Module K L → Type 0
  IsMade reply index call old new = (log : Log) → IsIndexOf index log → EndsWith reply (call_writes index.lines log call) old new
