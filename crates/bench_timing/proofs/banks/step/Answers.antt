use Rattle.std.proofs.Common.{◌≡◌, ◌+◌, ◌*◌, ap, ◌∙◌, arith}
use Rattle.ddr4_timing.specs.Command.{rank_of}
use Rattle.ddr4_timing.specs.Lawful.{last_ref}
use Rattle.ddr4_timing.proofs.Addresses.{rank_within}
use Rattle.bench_timing.proofs.banks.step.Goals as goal

pub deadline-last-requires : goal.deadline-last-requires
deadline-last-requires c = rw c.rank.ensures (rank_within _ c.args.cmd c.in_ok-clock.ensures.place)

pub issue-requires-clause-ready : goal.issue-requires-clause-ready
issue-requires-clause-ready c = record {
  lawful = λ list s.
      let t = c.args.banks.now.checked.timing.t_refi in
      let last : c.deadline-last.result ≡ last_ref (rank_of c.args.cmd) list + 9 * t = c.deadline-last.ensures list s ∙ ap (λ r. last_ref r list + 9 * t) c.rank.ensures in
      (c.in_ok-clock.ensures.exact list s c.in_ok-clock.clock).1 (omega arith, omega (arith, last));
}
