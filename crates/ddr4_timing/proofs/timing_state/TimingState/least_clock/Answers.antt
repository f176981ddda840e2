use Rattle.std.proofs.Common.{ℕ, ap, subst, ◌∙◌, arith, slice_index_or}
use Rattle.ddr4_timing.proofs.Common.{Command, RankStands, least_clock, rank_of}
use Rattle.ddr4_timing.proofs.timing_state.TimingState.least_clock.Goals as goal

pub returns-in-Pre : goal.returns-in-Pre
returns-in-Pre c list s = rw c.in-Pre.is (c.clock_to-in-Pre.ensures 0 list s)

pub returns-in-PreAll : goal.returns-in-PreAll
unfolding least_clock
returns-in-PreAll c list s =
    let r = c.rank.ensures ∙ ap (λ (x : Command). rank_of x) c.in-PreAll.is in
    let here = subst (λ (n : ℕ). RankStands c.args.t.now c.args.g.now list c.args.self.now.next c.args.self.now.write (slice_index_or c.args.self.now.columns c.rank.result 0) n c.rank-rank.result.now) r (c.rank-rank.ensures list 0 s) in
    rw c.in-PreAll.is (omega (arith, c.max.ensures, here.pre_all))

pub returns-in-Ref : goal.returns-in-Ref
unfolding least_clock
returns-in-Ref c list s =
    let r = c.rank.ensures ∙ ap (λ (x : Command). rank_of x) c.in-Ref.is in
    let here = subst (λ (n : ℕ). RankStands c.args.t.now c.args.g.now list c.args.self.now.next c.args.self.now.write (slice_index_or c.args.self.now.columns c.rank.result 0) n c.rank-rank.result.now) r (c.rank-rank.ensures list 0 s) in
    rw c.in-Ref.is (omega (arith, c.max-in-Ref.ensures, c.max-in-Ref-2.ensures, here.refresh, here.refreshes.next))

pub returns-in-Sre : goal.returns-in-Sre
unfolding least_clock
returns-in-Sre c list s =
    let r = c.rank.ensures ∙ ap (λ (x : Command). rank_of x) c.in-Sre.is in
    let here = subst (λ (n : ℕ). RankStands c.args.t.now c.args.g.now list c.args.self.now.next c.args.self.now.write (slice_index_or c.args.self.now.columns c.rank.result 0) n c.rank-rank.result.now) r (c.rank-rank.ensures list 0 s) in
    rw c.in-Sre.is (omega (arith, c.max-in-Sre.ensures, here.sleep))
