-- The parts of a step of a save.
use Rattle.nv_machine.specs.Machine.{Calls, MadeStep, MayStep, SaveStepStep, is_made, waits_at}
use Rattle.nv_machine.specs.declared.events.StepReply.{StepReply}
use Rattle.save_image.specs.Body.{page_of}
use Rattle.module_core.proofs.Common.{[], ℕ, ◌∙◌, ◌∷◌, ◌≡◌, Bool, ForSome, GivesPage, List, Machine, NoneBelow, Page, Plan, ReadsLevel, RunningSave, Setup, Step, WaitsFrom, World, ap, closed_before, false, hold_at, is_low, read_as, refl, rules, step_call, GaugeCall}

-- the machine's step, of what the module did after the reading
pub whole_step : (setup : Setup) (old new : World) (save : RunningSave) (reading : ℕ) (reply : StepReply) → MayStep old.machine save → ReadsLevel GaugeCall.Tick old.gauge reading new.gauge → is_low setup (read_as reading old.machine) ≡ false
    → Calls (step_call old.machine.store.closed save.next ∷ []) (is_made reply) old new → MadeStep setup save reply (read_as reading old.machine) new.machine → SaveStepStep setup reply old new
whole_step setup old new save reading reply ready reads enough calls did = search rules

-- A page of the arrays is that page of the image, where nothing that the page is to have waits and all else is held.
pub gives : (array memory : List (List ℕ)) (m : Machine) (count end : ℕ) (next : Step) (page : List ℕ) → GivesPage array next page → waits_at m count next ≡ false → ForSome (hold_at count next) (λ n. WaitsFrom n end m.waits.writes)
    → (NoneBelow count m.waits.writes → WaitsFrom count end m.waits.writes → array ≡ memory) → GivesPage memory next page
gives array memory m count end (Page k) page given none held is = given ∙ ap (page_of k) (is none (held count refl))
gives array memory m count end next page given none held is = tt

-- the call of a step, by what the plan and the machine know of the gate
pub same_call : (plan : Plan) (closed : Bool) (next : Step) (tried : Bool) → closed ≡ closed_before plan next tried → step_call plan.closed next ≡ step_call closed next
same_call plan closed next tried shut = search rules
