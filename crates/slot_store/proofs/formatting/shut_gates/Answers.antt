use Rattle.std.proofs.Common.{OnOk, is_ok}
use Rattle.std.specs.Bool.{OnTrue}
use Rattle.save_device.proofs.CallLists.{one_call}
use Rattle.save_device.proofs.Rows.{same_rows}
use Rattle.slot_store.specs.Formatted.{HasShutGates}
use Rattle.slot_store.proofs.Common.{[], ◌∙◌, ◌∷◌, ◌≡◌, Bool, Err, HasSize, IsSettled, MakesCalls, Ok, Result, Sync, Write, and_then, calls_on, false, first_fails, on_err, overwritten, slot_size, subst, sym}
use Rattle.slot_store.proofs.FirstSave.{both_shut, on_any_ok}
use Rattle.slot_store.proofs.Stops.{sized_within}
use Rattle.slot_store.proofs.formatting.shut_gates.Goals as goal

when_ok : {T E : Type 0} (r : Result T E) (P : Type 0) → OnTrue (is_ok r) P → OnOk r P
when_ok (Ok v) P p = p
when_ok (Err e) P p = tt

pub returns-in_err-write_at-clause-calls : goal.returns-in_err-write_at-clause-calls
returns-in_err-write_at-clause-calls g c =
    let S = g.D.SaveDevice in let old = (S.state c.args.device.now).calls in let new = (S.state c.write_at.new.self).calls in
    on_err c.from_residual.result (λ (good : Bool). MakesCalls (Write ∷ Write ∷ Sync ∷ []) good old new) c.from_residual.ensures.0 (first_fails Write (Write ∷ Sync ∷ []) old new c.in_err-write_at.ensures.call.counted)

pub returns-in_err-write_at-clause-any_moment : goal.returns-in_err-write_at-clause-any_moment
returns-in_err-write_at-clause-any_moment g c =
    let S = g.D.SaveDevice in let lines = c.args.lines in
    sized_within lines (S.state c.args.device.now) (S.state c.write_at.new.self) c.write_at.ensures.call.time c.requires.size (c.write_at.ensures.outside.size ∙ c.requires.size)

pub returns-in_err-write_at-2-clause-calls : goal.returns-in_err-write_at-2-clause-calls
returns-in_err-write_at-2-clause-calls g c =
    let S = g.D.SaveDevice in let old = (S.state c.args.device.now).calls in let mid = (S.state c.write_at.new.self).calls in let new = (S.state c.write_at-2.new.self).calls in
    on_err c.from_residual-in_err-write_at-2.result (λ (good : Bool). MakesCalls (Write ∷ Write ∷ Sync ∷ []) good old new) c.from_residual-in_err-write_at-2.ensures.0
    (calls_on (Write ∷ []) (Write ∷ Sync ∷ []) false old mid new c.in_ok-write_at.ensures.call.counted (first_fails Write (Sync ∷ []) mid new c.in_err-write_at-2.ensures.call.counted))

pub returns-in_err-write_at-2-clause-any_moment : goal.returns-in_err-write_at-2-clause-any_moment
returns-in_err-write_at-2-clause-any_moment g c =
    let S = g.D.SaveDevice in let lines = c.args.lines in let old = S.state c.args.device.now in let mid = S.state c.write_at.new.self in let new = S.state c.write_at-2.new.self in
    let one : HasSize lines mid = c.write_at.ensures.outside.size ∙ c.requires.size in let two : HasSize lines new = c.write_at-2.ensures.outside.size ∙ one in
    and_then old mid new (sized_within lines old mid c.write_at.ensures.call.time c.requires.size one) (sized_within lines mid new c.write_at-2.ensures.call.time one two)

pub returns-clause-shut : goal.returns-clause-shut
returns-clause-shut g c =
    let S = g.D.SaveDevice in let lines = c.args.lines in let old = S.state c.args.device.now in let one = S.state c.write_at.new.self in let two = S.state c.write_at-2.new.self in let new = S.state c.sync.new.self in
    let second : two.bytes ≡ overwritten one.bytes (slot_size lines) (0 ∷ []) = rw (← c.slot_size.ensures) c.in_ok-write_at-2.ensures.done in
    let gates : HasShutGates lines old.bytes two.bytes = both_shut lines old.bytes one.bytes two.bytes c.requires.size c.in_ok-write_at.ensures.done second in
    on_any_ok c.sync.result (HasShutGates lines old.bytes new.bytes) (subst (HasShutGates lines old.bytes) (sym (same_rows two.bytes new.bytes c.sync.ensures.outside)) gates)

pub returns-clause-calls : goal.returns-clause-calls
returns-clause-calls g c =
    let S = g.D.SaveDevice in let old = (S.state c.args.device.now).calls in let one = (S.state c.write_at.new.self).calls in let two = (S.state c.write_at-2.new.self).calls in let new = (S.state c.sync.new.self).calls in
    calls_on (Write ∷ []) (Write ∷ Sync ∷ []) _ old one new c.in_ok-write_at.ensures.call.counted
    (calls_on (Write ∷ []) (Sync ∷ []) _ one two new c.in_ok-write_at-2.ensures.call.counted (one_call Sync _ two new c.sync.ensures.call.counted))

pub returns-clause-any_moment : goal.returns-clause-any_moment
returns-clause-any_moment g c =
    let S = g.D.SaveDevice in let lines = c.args.lines in let old = S.state c.args.device.now in let one = S.state c.write_at.new.self in let two = S.state c.write_at-2.new.self in let new = S.state c.sync.new.self in
    let first : HasSize lines one = c.write_at.ensures.outside.size ∙ c.requires.size in let second : HasSize lines two = c.write_at-2.ensures.outside.size ∙ first in
    and_then old two new
    (and_then old one two (sized_within lines old one c.write_at.ensures.call.time c.requires.size first) (sized_within lines one two c.write_at-2.ensures.call.time first second))
    (sized_within lines two new c.sync.ensures.call.time second (c.sync.ensures.outside.size ∙ second))

pub returns-clause-settled : goal.returns-clause-settled
returns-clause-settled g c = when_ok c.sync.result (IsSettled (g.D.SaveDevice.state c.sync.new.self)) c.sync.ensures.settled

pub returns-clause-size : goal.returns-clause-size
returns-clause-size g c = c.sync.ensures.outside.size ∙ c.write_at-2.ensures.outside.size ∙ c.write_at.ensures.outside.size ∙ c.requires.size
