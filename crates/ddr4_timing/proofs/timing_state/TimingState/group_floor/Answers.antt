use Rattle.std.proofs.Common.{◌≡◌, arith}
use Rattle.ddr4_timing.proofs.GroupFloors.{group_floor, joined}
use Rattle.ddr4_timing.proofs.timing_state.TimingState.group_floor.Goals as goal
use Rattle.ddr4_timing.proofs.timing_state.TimingState.group_floor.Goals.{in-Act, in-Pre, in-Rd, in-Wr}

pub returns : goal.returns
returns c list at number clock s place rank group cell =
    let value : c.max-2.result ≡ group_floor c.args.self.now c.args.rank c.args.group c.args.kind = elim c.match-kind.branch [
      | in-Act w ↦ rw w.in-Act.is (omega (arith, c.max-2.ensures, w.floor-is, w.max.ensures, w.max-floor.ensures))
      | in-Pre w ↦ rw w.in-Pre.is (omega (arith, c.max-2.ensures, w.floor-is))
      | in-Rd w ↦ rw w.in-Rd.is (omega (arith, c.max-2.ensures, w.floor-is, w.max-floor-in-Rd.ensures))
      | in-Wr w ↦ rw w.in-Wr.is (omega (arith, c.max-2.ensures, w.floor-is, w.max-in-Wr.ensures, w.max-floor-in-Wr.ensures))
    ] in
    rw (value, ← rank, ← group) (joined c.args.t.now c.args.g.now c.args.self.now list at c.args.kind number clock s place cell)
