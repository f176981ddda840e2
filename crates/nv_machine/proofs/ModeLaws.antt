-- Which modes are of which kind, and what the end of a save makes of them.
use Rattle.nv_machine.proofs.Common.{arith, false, true, ◌≡◌, has_ended, is_armed, is_backed, is_disarming, mode_after, Mode, Move}

pub is_armed_mode : (mode : Mode) → is_armed mode ≡ true → mode ≡ Mode.Armed
is_armed_mode mode on = grind arith

pub is_disarmed : (mode : Mode) → is_armed mode ≡ false → has_ended mode ≡ false → is_disarming mode ≡ false → mode ≡ Mode.Disarmed
is_disarmed mode off runs calm = grind arith

pub armed_runs : (mode : Mode) → is_armed mode ≡ true → has_ended mode ≡ false
armed_runs mode on = grind arith

pub failed_armed : (mode : Mode) → is_armed (mode_after Move.FailSave mode) ≡ is_armed mode
failed_armed mode = grind arith

pub failed_backed : (mode : Mode) → is_backed (mode_after Move.FailSave mode) ≡ is_backed mode
failed_backed mode = grind arith

pub failed_ended : (mode : Mode) → has_ended (mode_after Move.FailSave mode) ≡ has_ended mode
failed_ended mode = grind arith

pub ended_armed : (mode : Mode) → is_armed (mode_after Move.EndSave mode) ≡ is_armed mode
ended_armed mode = grind arith

pub ended_backed : (mode : Mode) → is_backed (mode_after Move.EndSave mode) ≡ is_armed mode
ended_backed mode = grind arith

pub ended_ended : (mode : Mode) → has_ended (mode_after Move.EndSave mode) ≡ has_ended mode
ended_ended mode = grind arith
