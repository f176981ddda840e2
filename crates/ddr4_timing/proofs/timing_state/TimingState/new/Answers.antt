use Rattle.std.proofs.Common.{◌<◌, arith}
use Rattle.std.proofs.lemmas.List.{get_or-replicate}
use Rattle.ddr4_timing.proofs.timing_state.TimingState.new.Goals as goal

pub returns : goal.returns
returns c = record {
  lawful = λ rule first second x s. absurd cc;
  ranks = λ rank column none h.
      let small : rank < 8 = let r = c.requires.few.ranks in omega (arith, h, r) in
      rw (get_or-replicate 8 rank 0 column small, get_or-replicate 8 rank c.new.result none small) (c.new.ensures c.args.g.now rank c.requires.few);
}
