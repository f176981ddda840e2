use Rattle.ddr4_timing.proofs.timing_state.TimingState.rank.Goals as goal

pub returns : goal.returns
returns c list column s = s c.args.rank column _ c.requires.rank
