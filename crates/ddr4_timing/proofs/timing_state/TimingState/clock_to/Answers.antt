use Rattle.std.proofs.Common.{refl, ◌∙◌}
use Rattle.ddr4_timing.proofs.timing_state.TimingState.clock_to.Goals as goal

pub returns : goal.returns
returns c number list s = c.max.ensures ∙ c.group_floor.ensures list c.args.at number c.bank_clock.result s c.requires.bank refl refl c.bank_clock.ensures
