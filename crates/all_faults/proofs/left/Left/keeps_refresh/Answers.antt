use Rattle.std.proofs.Common.{◌≡◌, ◌<◌, ◌≤◌, ◌-◌, ◌*◌, ℕ, IsTrue, arith, ap, rules, ◌∙◌}
use Rattle.std.specs.List.{slice_index_or}
use Rattle.ddr4_timing.specs.Command.{is_ref, rank_of}
use Rattle.ddr4_timing.specs.Lawful.{last_ref, ref_count}
use Rattle.ddr4_timing.proofs.Addresses.{rank_within}
use Rattle.all_faults.proofs.LeftLemmas.{refresh_told}
use Rattle.all_faults.proofs.left.Left.keeps_refresh.Goals as goal

pub returns-else-not-is_ref : goal.returns-else-not-is_ref
returns-else-not-is_ref c list left =
    let x = c.args.x.now in
    let here : rank_of x.cmd < c.args.c.now.geometry.ranks = rank_within c.args.c.now.geometry x.cmd c.requires in
    let is : c.rank-rank.result ≡ rank_of x.cmd = c.rank-rank.ensures in
    let last : slice_index_or c.args.self.now.last c.rank-rank.result 0 ≡ last_ref (rank_of x.cmd) list = ap (λ (n : ℕ). slice_index_or c.args.self.now.last n 0) is ∙ left.last (rank_of x.cmd) 0 here in
    let refs : slice_index_or c.args.self.now.refs c.rank-rank.result 0 ≡ ref_count (rank_of x.cmd) list = ap (λ (n : ℕ). slice_index_or c.args.self.now.refs n 0) is ∙ left.refs (rank_of x.cmd) 0 here in
    let in_time : x.clock - last_ref (rank_of x.cmd) list ≤ 9 * c.args.c.now.timing.t_refi = omega (arith, last) in
    let ref : IsTrue (is_ref x.cmd) = search rules in
    refresh_told c.args.c.now.timing list x _ (omega arith) in_time refs ref
