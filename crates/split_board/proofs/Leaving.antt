-- What a channel's lock lent, and what a host's call left of it.
use Rattle.std.proofs.Common.{Err, IfErr, IfOk, Ok, Option, Result}
use Rattle.arm_state.specs.declared.refusal.WriteRefusal.{WriteRefusal}
use Rattle.channel_locks.specs.declared.part.Part.{Part}
use Rattle.channel_port.specs.declared.port.ChannelPort.{Ghosts}
use Rattle.board_hosts.specs.declared.host.Receipt.{Receipt}
use Rattle.board_desk.specs.Answering.{DoneWithLent, KeepsPort, PutsWrite}
use Rattle.split_board.specs.Hosts.{WritesLent}

pub write_leaves : {K : Type 0} (L : Ghosts K) (result : Result Receipt WriteRefusal) (part left : Option (Part K L)) → IfOk result (λ r. DoneWithLent L (PutsWrite L r.number) part left) → IfErr result (λ _. DoneWithLent L (KeepsPort L) part left)
    → WritesLent L result part left
write_leaves L (Ok receipt) part left puts keeps = puts
write_leaves L (Err refusal) part left puts keeps = keeps
