use Rattle.std.proofs.Common.{◌≡◌, ◌+◌, ◌∙◌, IsTrue, ap, arith, rules, le-div_iff_mul-le}
use Rattle.std.proofs.lemmas.Bool.{lt-ltb, ltb-true}
use Rattle.ddr4_timing.specs.Command.{is_ref, rank_of}
use Rattle.ddr4_timing.specs.Lawful.{last_ref, ref_count}
use Rattle.ddr4_timing.proofs.fault.keeps_refresh.Goals as goal

pub returns-then-saturating_sub-rules : goal.returns-then-saturating_sub-rules
returns-then-saturating_sub-rules c = search rules

pub returns-else-not-is_ref : goal.returns-else-not-is_ref
returns-else-not-is_ref c =
    let before = c.args.before.now in
    let own = c.rank-rank.ensures in
    let last : c.last_ref.result ≡ last_ref (rank_of c.args.x.now.cmd) before = c.last_ref.ensures ∙ ap (λ r. last_ref r before) own in
    let count : c.ref_count.result ≡ ref_count (rank_of c.args.x.now.cmd) before = c.ref_count.ensures.count ∙ ap (λ r. ref_count r before) own in
    let due = le-div_iff_mul-le {k = c.args.rules.now.timing.t_refi} {x = ref_count (rank_of c.args.x.now.cmd) before + 1} {y = c.args.x.now.clock} c.args.rules.now.in_limits.t_refi.0 in
    let ref : IsTrue (is_ref c.args.x.now.cmd) = cc in (
      λ e. record { in_time = omega (arith, last); not_early = λ _. due.0 (let less = ltb-true _ _ e in omega (arith, less, count)) },
      λ k. lt-ltb _ _ (let least = due.1 (k.not_early ref) in omega (arith, least, count)),
    )
