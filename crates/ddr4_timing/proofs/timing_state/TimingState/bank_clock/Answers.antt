use Rattle.std.proofs.Common.{ap, ◌∙◌, arith, slice_index_or}
use Rattle.std.proofs.lemmas.List.{get_or_default}
use Rattle.ddr4_timing.specs.TimingState.{cell_of}
use Rattle.ddr4_timing.proofs.Common.{RankState, slot_of}
use Rattle.ddr4_timing.proofs.timing_state.TimingState.bank_clock.Goals as goal

pub returns : goal.returns
returns c none cells =
    c.bank_clock.ensures cells
    ∙ ap (λ (r : RankState). cell_of c.args.kind (slice_index_or r.banks (slot_of c.args.at) cells)) (get_or_default c.args.self.now.ranks c.args.at.rank _ none (let few = c.requires.few.ranks in let bank = c.requires.bank.rank in omega (arith, few, bank)))
