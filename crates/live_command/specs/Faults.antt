-- How the program tells of a life that didn't begin, or that ended early.
use Rattle.std.specs.Prelude.{◌≡◌, ◌⊎◌, String}
use Rattle.std.specs.declared.alloc.Global.{Global}
use Rattle.command_faults.specs.Exit.{IsOfOutput}
use Rattle.command_faults.specs.declared.fault.ProgramFault.{ProgramFault}
use Rattle.command_faults.specs.declared.fault.ProgramFault.TheVariants.{Memory, Store}
use Rattle.live_store.specs.declared.fault.LiveFault.{LiveFault}
use Rattle.live_store.specs.declared.fault.LiveFault.TheVariants as live
use Rattle.live_store.specs.declared.talk.TalkFault.TheVariants as talk

-- what is wrong with a store, in words, or no memory for them
abbrev pub IsOfStore : ProgramFault → Type 0
IsOfStore fault = ((why : String Global) × (fault ≡ Store why)) ⊎ (fault ≡ Memory)

-- the fault that the program tells
abbrev pub IsFaultOf : LiveFault → ProgramFault → Type 0
IsFaultOf live.Memory fault = fault ≡ Memory
IsFaultOf (live.Talk talk.Memory) fault = fault ≡ Memory
IsFaultOf (live.Talk talk.Reader) fault = IsOfOutput fault
IsFaultOf (live.Talk talk.Writer) fault = IsOfOutput fault
IsFaultOf (live.Open why) fault = IsOfStore fault
IsFaultOf (live.Restore why) fault = IsOfStore fault
IsFaultOf live.Format fault = IsOfStore fault
