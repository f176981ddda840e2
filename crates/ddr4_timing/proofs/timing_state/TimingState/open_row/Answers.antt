use Rattle.std.proofs.Common.{refl, ◌∙◌}
use Rattle.ddr4_timing.specs.declared.cells.BankCells.{BankCells}
use Rattle.ddr4_timing.proofs.timing_state.TimingState.open_row.Goals as goal

pub returns : goal.returns
returns c list s =
    let bank : BankCells = record { act = 0; column = 0; pre = 0 } in
    c.open_row.ensures ∙ ((c.rank.ensures list 0 s).banks c.args.at bank 0 c.requires.bank refl).row
