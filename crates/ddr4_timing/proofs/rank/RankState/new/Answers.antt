use Rattle.std.proofs.Common.{refl, arith}
use Rattle.std.proofs.lemmas.List.{get_or-replicate}
use Rattle.ddr4_timing.proofs.Common.{BankCells, floor, greatest, is_asleep, last_ref, open_row, ref_count, slot_of, window}
use Rattle.ddr4_timing.proofs.Addresses.{has_room, slot_small}
use Rattle.ddr4_timing.proofs.rank.RankState.new.Goals as goal

pub returns : goal.returns
unfolding floor window greatest open_row last_ref ref_count is_asleep
returns c g rank few = record {
  banks = λ at bank none h e.
      let slot = has_room g at few h in
      let zeros : BankCells = record { act = 0; column = 0; pre = 0 } in
      rw (get_or-replicate 16 (slot_of at) zeros bank (slot_small at slot), get_or-replicate 4 at.group 0 none slot.group) (record { row = c.new.ensures at; act = refl; rd = refl; wr = refl; pre = refl });
  pre_all = refl;
  refresh = refl;
  sleep = refl;
  windows = record { fourth = refl; third = refl; second = refl; last = refl };
  refreshes = record { next = omega arith; deadline = omega arith };
  asleep = refl;
}
