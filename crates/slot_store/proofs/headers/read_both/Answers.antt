use Rattle.save_device.proofs.ReadRuns.{reads_stop}
use Rattle.slot_store.specs.Told.{AreReadings, header_at, header_of_reading, in_slot}
use Rattle.slot_store.specs.declared.headers.Readings.{Readings}
use Rattle.slot_store.proofs.Common.{ℕ, ◌∙◌, ◌≡◌, Bool, First, List, Moment, OnlyReads, Second, Slot, ap, arith, body_in, false, on_err, reads_on, slot_state, sym, told, true}
use Rattle.slot_store.proofs.headers.read_both.Goals as goal

-- both slots, of which the second was read after the first
are_readings : (lines : ℕ) (seen later : List ℕ) (readings : Readings) → later ≡ seen → slot_state lines First seen ≡ told readings.first (body_in lines First seen) → header_at lines First seen ≡ header_of_reading readings.first
    → slot_state lines Second later ≡ told readings.second (body_in lines Second later) → header_at lines Second later ≡ header_of_reading readings.second → AreReadings lines seen readings
are_readings lines seen later readings same first first_header second second_header = record {
  state = λ slot. by_slot slot;
  header = λ slot. by_header slot;
}
  where
    by_slot : (slot : Slot) → slot_state lines slot seen ≡ told (in_slot readings slot) (body_in lines slot seen)
    by_slot First = first
    by_slot Second = ap (λ (bytes : List ℕ). slot_state lines Second bytes) (sym same) ∙ second ∙ ap (λ (bytes : List ℕ). told readings.second (body_in lines Second bytes)) same

    by_header : (slot : Slot) → header_at lines slot seen ≡ header_of_reading (in_slot readings slot)
    by_header First = first_header
    by_header Second = ap (λ (bytes : List ℕ). header_at lines Second bytes) (sym same) ∙ second_header

pub returns-in_err-first-clause-reads : goal.returns-in_err-first-clause-reads
returns-in_err-first-clause-reads g c =
    let S = g.D.SaveDevice in let old = S.state c.args.device.now in let new = S.state c.read_slot.new.device in
    on_err c.from_residual.result (λ (good : Bool). OnlyReads 2 good old new) c.from_residual.ensures.0 (reads_stop 1 2 old new (omega arith) c.in_err-first.ensures.reads)

pub returns-in_err-second-clause-reads : goal.returns-in_err-second-clause-reads
returns-in_err-second-clause-reads g c =
    let S = g.D.SaveDevice in let old = S.state c.args.device.now in let mid = S.state c.read_slot.new.device in let new = S.state c.read_slot-2.new.device in
    on_err c.from_residual-in_err-second.result (λ (good : Bool). OnlyReads 2 good old new) c.from_residual-in_err-second.ensures.0 (reads_on 1 1 false old mid new c.in_ok-first.ensures.reads c.in_err-second.ensures.reads)

pub returns-clause-readings : goal.returns-clause-readings
returns-clause-readings g c =
    let S = g.D.SaveDevice in let seen : List ℕ = (S.state c.args.device.now).bytes in let later : List ℕ = (S.state c.read_slot.new.device).bytes in
    let same : later ≡ seen = ap (λ (moment : Moment). moment.bytes) c.in_ok-first.ensures.reads.same in
    are_readings c.args.lines seen later (record { first = c.in_ok-first.first; second = c.in_ok-second.second }) same c.in_ok-first.ensures.state c.in_ok-first.ensures.header c.in_ok-second.ensures.state c.in_ok-second.ensures.header

pub returns-clause-reads : goal.returns-clause-reads
returns-clause-reads g c =
    let S = g.D.SaveDevice in
    reads_on 1 1 true (S.state c.args.device.now) (S.state c.read_slot.new.device) (S.state c.read_slot-2.new.device) c.in_ok-first.ensures.reads c.in_ok-second.ensures.reads
