use Rattle.std.proofs.Common.{refl, arith, leb-true, le-leb}
use Rattle.ddr4_timing.proofs.Lawfulness.{admits_from, lawful_from, next_ready, ready_next}
use Rattle.ddr4_timing.proofs.timing_state.TimingState.ready.Goals as goal

pub returns-then-not-keeps_rows-clause-next : goal.returns-then-not-keeps_rows-clause-next
returns-then-not-keeps_rows-clause-next c list s =
    (λ e. absurd cc, λ h. (c.if-not-keeps_rows.ensures.rows list s).1 (next_ready c.args.t.now c.args.g.now c.requires.limits list _ h).rows)

pub returns-then-not-keeps_rows-clause-exact : goal.returns-then-not-keeps_rows-clause-exact
returns-then-not-keeps_rows-clause-exact c list s =
    (λ e. absurd cc, λ h. (c.if-not-keeps_rows.ensures.rows list s.ranks).1 (next_ready c.args.t.now c.args.g.now c.requires.limits list _ (admits_from _ _ list _ h)).rows)

pub returns-then-clock-least_clock-clause-next : goal.returns-then-clock-least_clock-clause-next
returns-then-clock-least_clock-clause-next c list s =
    (λ e. absurd cc, λ h. let r = next_ready c.args.t.now c.args.g.now c.requires.limits list _ h in absurd (omega (arith, c.least_clock.ensures list s, r.clock)))

pub returns-then-clock-least_clock-clause-exact : goal.returns-then-clock-least_clock-clause-exact
returns-then-clock-least_clock-clause-exact c list s =
    (λ e. absurd cc, λ h. let r = next_ready c.args.t.now c.args.g.now c.requires.limits list _ (admits_from _ _ list _ h) in absurd (omega (arith, c.least_clock.ensures list s.ranks, r.clock)))

pub returns-clause-next : goal.returns-clause-next
returns-clause-next c list s =
    let least = c.least_clock.ensures list s in
    let deadline = rw c.rank.ensures at (c.rank-2.ensures list 0 s).refreshes.deadline in (
      λ e. ready_next c.args.t.now c.args.g.now list _ (record {
        rows = (c.if-not-keeps_rows.ensures.rows list s).0 refl;
        clock = omega (arith, least);
        in_time = omega (arith, leb-true c.args.clock _ e, deadline);
      }),
      λ h. let r = next_ready c.args.t.now c.args.g.now c.requires.limits list _ h in le-leb c.args.clock _ (omega (arith, deadline, r.in_time)),
    )

pub returns-clause-exact : goal.returns-clause-exact
returns-clause-exact c list s =
    let least = c.least_clock.ensures list s.ranks in
    let deadline = rw c.rank.ensures at (c.rank-2.ensures list 0 s.ranks).refreshes.deadline in (
      λ e. lawful_from c.args.t.now c.args.g.now list _ s.lawful (ready_next c.args.t.now c.args.g.now list _ (record {
        rows = (c.if-not-keeps_rows.ensures.rows list s.ranks).0 refl;
        clock = omega (arith, least);
        in_time = omega (arith, leb-true c.args.clock _ e, deadline);
      })),
      λ h. let r = next_ready c.args.t.now c.args.g.now c.requires.limits list _ (admits_from _ _ list _ h) in le-leb c.args.clock _ (omega (arith, deadline, r.in_time)),
    )
