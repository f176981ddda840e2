-- And any thread may share it.
use denote.RattleType.{RattleType}
use denote.Param.Send.{IsSend, IsSync, part_keyless}
use Rattle.ghost_trace.specs.contracts.Trace.{the_row}

send : (X : RattleType) → IsSend (the_row X)
send X = record { owned = λ d vs. ((λ vss. (tt, ((λ uss. (tt, tt)), tt))), tt); leaving = λ k f vs. tt }

pub sync : (X : RattleType) → IsSync (the_row X)
sync X = record { shared = λ d b o κ q. part_keyless (the_row X) (send X) q d b o }
