use Rattle.line_memory.specs.Memory.{zero_lines}
use Rattle.save_device.proofs.CallLists.{more_planned}
use Rattle.slot_store.specs.Steps.{format_calls, page_calls}
use Rattle.slot_store.specs.declared.source.BrokenOff.TheVariants as broken
use Rattle.slot_store.proofs.Common.{[], ℕ, ◌∙◌, ◌∷◌, ◌≡◌, Bool, BrokenOff, CallsFor, DeviceState, Done, Err, IsMemory, LeavesOnly, MakesCalls, Plan, SlotHas, Step, Sync, Write, and_then, calls_left, calls_on, device_size, false, length, on_err, refl, step_on, subst, sym, true, zero_lines-IsMemory}
use Rattle.slot_store.proofs.FirstSave.{IsFirstPlan, KeepsSecond, formatted_bytes, formatted_rest, gates_keep, keeps_second, shut_first}
use Rattle.slot_store.proofs.StepsMade.{calls_failed, only_faults}
use Rattle.slot_store.proofs.formatting.format.Goals as goal

pub returns-in_err-shut_gates-clause-calls : goal.returns-in_err-shut_gates-clause-calls
returns-in_err-shut_gates-clause-calls g c =
    let S = g.D.SaveDevice in let old = (S.state c.args.device.now).calls in let new = (S.state c.shut_gates.new.device).calls in
    on_err c.from_residual.result (λ (good : Bool). MakesCalls (format_calls c.args.lines) good old new) c.from_residual.ensures.0
    (more_planned (Write ∷ Write ∷ Sync ∷ []) (page_calls c.args.lines 0) old new c.in_err-shut_gates.ensures.calls)

pub finish-requires-clause-lines : goal.finish-requires-clause-lines
finish-requires-clause-lines g c = (zero_lines-IsMemory c.args.lines).size ∙ sym c.behind_shut_gates-run.ensures.lines

pub returns-in_default-clause-calls : goal.returns-in_default-clause-calls
returns-in_default-clause-calls g c =
    let S = g.D.SaveDevice in let begun = c.behind_shut_gates-run.ensures in let run = c.behind_shut_gates-run.result in let told = c.in_default.ensures in
    let old = (S.state c.args.device.now).calls in let mid = (S.state c.shut_gates.new.device).calls in let new = (S.state c.finish.new.device).calls in
    let why : c.in_default.field-0 ≡ broken.Fault = only_faults (step_on run) c.in_default.field-0 _ _ _ told.asks in
    let calls : MakesCalls (calls_left run.plan.closed run.plan.lines run.next) false mid new =
    calls_failed (calls_left run.plan.closed run.plan.lines run.next) _ mid new (subst (λ (w : BrokenOff). CallsFor (calls_left run.plan.closed run.plan.lines run.next) (Err w) told.made mid new) why told.calls) in
    calls_on (Write ∷ Write ∷ Sync ∷ []) (page_calls c.args.lines 0) false old mid new c.in_ok-shut_gates.ensures.calls (rw (begun.lines, begun.next) at calls)

pub returns-in_default-clause-any_moment : goal.returns-in_default-clause-any_moment
returns-in_default-clause-any_moment g c =
    let S = g.D.SaveDevice in let mid = S.state c.shut_gates.new.device in let new = S.state c.finish.new.device in
    and_then (S.state c.args.device.now) mid new c.in_ok-shut_gates.ensures.any_moment
    (subst (λ (n : ℕ). LeavesOnly mid new (λ image. length image ≡ device_size n)) c.behind_shut_gates-run.ensures.lines c.in_default.ensures.tries.size)

pub returns : goal.returns
returns g c =
    let S = g.D.SaveDevice in let lines : ℕ = c.args.lines in let begun = c.behind_shut_gates-run.ensures in let run = c.behind_shut_gates-run.result in let at = c.finish.new.self in let gates = c.in_ok-shut_gates.ensures in let told = c.in-Ok.ensures in
    let old : DeviceState = S.state c.args.device.now in let mid : DeviceState = S.state c.shut_gates.new.device in let new : DeviceState = S.state c.finish.new.device in
    let plan : IsFirstPlan lines run.plan = record { slot = begun.slot; generation = begun.generation; count = begun.count; clear = begun.clear; lines_are = begun.lines } in
    let same : IsFirstPlan lines at.plan = subst (λ (p : Plan). IsFirstPlan lines p) (sym told.stands.plan) plan in
    let memory : IsMemory run.plan.lines (zero_lines lines) = subst (λ (n : ℕ). IsMemory n (zero_lines lines)) (sym begun.lines) (zero_lines-IsMemory lines) in
    let shut : SlotHas run.plan (zero_lines lines) run.next run.tried mid = subst (λ (next : Step). SlotHas run.plan (zero_lines lines) next run.tried mid) (sym begun.next) (shut_first lines run.plan plan mid gates.shut.first gates.settled, refl) in
    let done : SlotHas at.plan (zero_lines lines) Done at.tried new = subst (λ (next : Step). SlotHas at.plan (zero_lines lines) next at.tried new) told.ends (told.tries.has memory (shut, begun.digested (zero_lines lines))).0 in
    let keeps : KeepsSecond lines old.bytes new.bytes = keeps_second lines run.plan plan old.bytes mid.bytes new.bytes told.tries.outside (gates_keep lines old.bytes mid.bytes gates.shut) in
    record {
      head = refl;
      formatted = formatted_bytes lines at.plan same at.tried old new c.requires.size done keeps;
      settled = done.2;
      at_rest = formatted_rest lines at.plan same at.tried old new c.requires.size done keeps;
      calls = calls_on (Write ∷ Write ∷ Sync ∷ []) (page_calls lines 0) true old.calls mid.calls new.calls gates.calls (rw (begun.lines, begun.next) at told.calls);
      size = keeps.size ∙ c.requires.size;
      any_moment = and_then old mid new gates.any_moment (subst (λ (n : ℕ). LeavesOnly mid new (λ image. length image ≡ device_size n)) begun.lines told.tries.size);
    }
