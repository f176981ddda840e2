use Rattle.std.proofs.Common.{◌∙◌, ◌<◌, ℕ, false, Option, None, replicate, ap, arith}
use Rattle.std.specs.List.{slice_index_or}
use Rattle.std.proofs.lemmas.List.{get_or-replicate}
use Rattle.ddr4_timing.specs.Lawful.{is_asleep, last_ref, open_row, ref_count}
use Rattle.ddr4_timing.specs.Places.{slot_of}
use Rattle.all_faults.specs.declared.left.Banks.{Banks}
use Rattle.all_faults.proofs.LeftLemmas.{slot_below}
use Rattle.all_faults.proofs.left.Left.new.Goals as goal

pub returns : goal.returns
unfolding open_row last_ref ref_count is_asleep
returns c = record {
  rows = λ at here bank banks.
      let none : Option ℕ = None in
      let empty : Banks = record { rows = replicate 16 none } in
      let rank : at.rank < 8 = omega (arith, here.rank, c.args.c.now.few_banks.ranks) in
      ap (λ (row : Banks). slice_index_or row.rows (slot_of at) bank) (get_or-replicate 8 at.rank empty banks rank)
      ∙ get_or-replicate 16 (slot_of at) none bank (slot_below c.args.c.now.geometry at c.args.c.now.few_banks here);
  last = λ rank none here. get_or-replicate 8 rank 0 none (omega (arith, here, c.args.c.now.few_banks.ranks));
  refs = λ rank none here. get_or-replicate 8 rank 0 none (omega (arith, here, c.args.c.now.few_banks.ranks));
  asleep = λ rank none here. get_or-replicate 8 rank false none (omega (arith, here, c.args.c.now.few_banks.ranks));
}
