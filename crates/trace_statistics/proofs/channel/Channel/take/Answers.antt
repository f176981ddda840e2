use Rattle.std.proofs.Common.{◌∙◌, ℕ, ap, max, refl, rules, sym}
use Rattle.trace_statistics.specs.Numbers.{latest}
use Rattle.trace_statistics.proofs.Channels.{rank_old, rank_small, ranks_more}
use Rattle.trace_statistics.proofs.Counting.{last_clock_more, latest_more, numbers_more}
use Rattle.trace_statistics.proofs.channel.Channel.take.Goals as goal

pub returns : goal.returns
returns c list s =
    let more = latest_more list c.args.next.now in
    let small = rank_small c.args.rules.now.geometry c.args.next.now.command.cmd c.args.rules.now.few_banks c.requires in
    record {
      ranks = rw more
          (ranks_more c.args.self.now.ranks (latest list) c.args.next.now c.rank-rank.result _ (search rules) c.rank-rank.ensures small
          (c.take-phase.ensures.stands (latest list) (rank_old c.args.self.now.ranks (latest list) c.args.next.now c.rank-rank.result _ c.rank-rank.ensures small s.ranks)) s.ranks);
      total = rw more
          (numbers_more _ (latest list) c.args.next.now _ _ _ refl
          (c.take-phase.ensures.found (latest list) (rank_old c.args.self.now.ranks (latest list) c.args.next.now c.rank-rank.result _ c.rank-rank.ensures small s.ranks)) c.take.ensures s.total);
      shared = rw more (c.take-2.ensures (latest list) s.shared);
      last = c.max-self.ensures ∙ ap (λ (n : ℕ). max n c.args.next.now.command.clock) s.last ∙ sym (last_clock_more list c.args.next.now);
    }
