use Rattle.std.proofs.Common.{Option}
use Rattle.channel_set.proofs.Settling.{settled}
use Rattle.slot_store.specs.Runs.{tried_of}
use Rattle.slot_store.specs.Steps.{reach_of}
use Rattle.module_saves.specs.Saves.{IsReadyFor, StoreMoves}
use Rattle.module_core.specs.Stands.{saved_after}
use Rattle.nv_machine.proofs.Guarded.{memory_made}
use Rattle.nv_machine.proofs.Leaving.{left_within}
use Rattle.nv_machine.specs.Machine.{MadeStep, SaveStepStep, is_made, must_wait}
use Rattle.nv_machine.specs.Moves.{disarming}
use Rattle.nv_machine.specs.declared.events.Event.TheVariants as events
use Rattle.nv_machine.specs.declared.events.Reply.TheVariants as replies
use Rattle.nv_machine.specs.declared.events.StepReply.TheVariants as step
use Rattle.module_core.proofs.Common.{[], if◌then◌else◌, ℕ, ◌+◌, ◌∙◌, ◌∷◌, ◌≡◌, ◌≤◌, ◌⊎◌, Bool, CallKind, DeviceState, ForSome, Gauge, GivesPage, Holds, IsAmong, List, Machine, MakesCalls, Matches, NoneBelow, RunningSave, SaveRun, Setup, Step, Waiting, Waits, WaitsFrom, World, ap, assembly, base_of_life, false, hold_of, is_low, length, lines_of_module, next_of, plan_of, read_as, refl, restored, rules, setup_of, start_of_life, step_call, subst, sym, true, view_of, weaker}
use Rattle.module_core.proofs.Applying.{alone, asked, issues_none, same_lines, unissued, unmoved}
use Rattle.module_saves.proofs.Knowing.{holds_moved}
use Rattle.module_saves.proofs.RunningSaves.{none_runs, save_runs, the_run}
use Rattle.module_core.proofs.SavePages.{gives, same_call, whole_step}
use Rattle.module_core.proofs.module.Module.save_step.Goals as goal

pub page_of_step-page-requires : goal.page_of_step-page-requires
page_of_step-page-requires g c =
    let L = g.K.ChannelPort in let old = c.args.self.now in let now = c.take_reading.new.self in
    let same : lines_of_module L now ≡ lines_of_module L old = same_lines L old now c.take_reading.ensures.setup in
    subst (λ (lines : ℕ). reach_of c.in-Some.step ≤ lines) (sym same) (c.in-Some.ensures.place (lines_of_module L old) old.running c.in-Some.step refl)

pub returns-in_default-clause-answers : goal.returns-in_default-clause-answers
returns-in_default-clause-answers g c = search (rules, unmoved, none_runs)

pub returns-then-must_wait-clause-answers : goal.returns-then-must_wait-clause-answers
returns-then-must_wait-clause-answers g c =
    unmoved g.K.ChannelPort events.SaveStep (replies.SaveStep step.Waiting) c.args.self.now (g.D.SaveDevice.state c.args.device.now) (g.E.Energy.gauge c.args.energy.now) (λ m h.
    let s = save_runs m.store.saving c.args.self.now.front.saves.saving c.in-Some.step h.front.saving (sym c.next.ensures.is ∙ c.in-Some.is) in
    let waits : must_wait m s.0 ≡ true = sym (c.must_wait.ensures m s.0 h s.1 s.2) ∙ (let e : c.must_wait.result ≡ true = cc in e) in
    (s.0, s.1, waits, refl)) refl refl (λ m h. tt) (unissued g.K.ChannelPort c.args.self.now.channels)

pub returns-then-take_reading-clause-answers : goal.returns-then-take_reading-clause-answers
returns-then-take_reading-clause-answers g c =
    let L = g.K.ChannelPort in let device : DeviceState = g.D.SaveDevice.state c.args.device.now in let before : Gauge = g.E.Energy.gauge c.args.energy.now in let later : Gauge = g.E.Energy.gauge c.tick-reading.new.self in
    let setup : Setup = setup_of L c.args.self.now in let reading : ℕ = c.tick-reading.result in
    alone L events.SaveStep (replies.SaveStep step.Turned)
    c.args.self.now c.take_reading.new.self device before later c.take_reading.ensures.setup (λ m h.
    let s = save_runs m.store.saving c.args.self.now.front.saves.saving c.in-Some.step h.front.saving (sym c.next.ensures.is ∙ c.in-Some.is) in
    let ready : must_wait m s.0 ≡ false = sym (c.must_wait.ensures m s.0 h s.1 s.2) ∙ (let e : c.must_wait.result ≡ false = cc in e) in
    let t = c.take_reading.ensures.step m h in let low : is_low setup (read_as reading m) ≡ true = t.step.0 ∙ (let e : c.take_reading.result ≡ true = cc in e) in
    let turned : t.later ≡ disarming (read_as reading m) = t.step.1 ∙ ap (λ (b : Bool). if b then disarming (read_as reading m) else read_as reading m) low in record {
      later = t.later;
      step = (s.0, record { runs = s.1; ready = ready }, reading, c.tick-reading.ensures, low, ap (λ (x : Machine). record { machine = x; device = device; gauge = later }) turned);
      matches = t.matches;
      moves = t.moves;
    }) c.take_reading.ensures.saved refl (λ m h. tt) c.take_reading.ensures.issued

pub returns-clause-answers : goal.returns-clause-answers
returns-clause-answers g c = λ m stands.
    let L = g.K.ChannelPort in let S = g.D.SaveDevice in let h = stands.matches in let old = c.args.self.now in let device : DeviceState = S.state c.args.device.now in let device' : DeviceState = S.state c.make_step.new.device in
    let before : Gauge = g.E.Energy.gauge c.args.energy.now in let later : Gauge = g.E.Energy.gauge c.tick-reading.new.self in
    let setup : Setup = setup_of L old in let lines : ℕ = lines_of_module L old in let reading : ℕ = c.tick-reading.result in let read : Machine = read_as reading m in let now = c.take_reading.new.self in
    let s = save_runs m.store.saving old.front.saves.saving c.in-Some.step h.front.saving (sym c.next.ensures.is ∙ c.in-Some.is) in let save : RunningSave = s.0 in let count : ℕ = save.made.count in
    let ready : must_wait m save ≡ false = sym (c.must_wait.ensures m save h s.1 s.2) ∙ (let e : c.must_wait.result ≡ false = cc in e) in
    let t = c.take_reading.ensures.step m h in let high : is_low setup read ≡ false = t.step.0 ∙ (let e : c.take_reading.result ≡ false = cc in e) in
    let still : t.later ≡ read = t.step.1 ∙ ap (λ (b : Bool). if b then disarming read else read) high in
    let h' : Matches L now read = subst (λ (x : Machine). Matches L now x) still t.matches in
    let moves : StoreMoves lines m.store old.front.saves read.store now.front.saves = subst (λ (x : Machine). StoreMoves lines m.store old.front.saves x.store now.front.saves) still t.moves in
    let holds' : Holds lines m.store now.front.saves.saving device = holds_moved lines m.store device old.front.saves now.front.saves m.store moves h.front.knows stands.holds in
    let same : lines_of_module L now ≡ lines = same_lines L old now c.take_reading.ensures.setup in
    let array : List (List ℕ) = (view_of L now.channels).array in let writes : (view_of L now.channels).waits.writes ≡ m.waits.writes = ap (λ (w : Waits). w.writes) h'.carried.waits in
    let end : ℕ = start_of_life m.life + length m.life.writes in
    let pages : NoneBelow count m.waits.writes → WaitsFrom count end m.waits.writes → array ≡ save.made.memory = λ none all.
    settled L now.channels (base_of_life m.life) (start_of_life m.life) m.life.writes h'.carried.carries count g.met.K.ChannelPort.settled
    (subst (λ (w : List Waiting). NoneBelow count w) (sym writes) none) (subst (λ (w : List Waiting). WaitsFrom count end w) (sym writes) all)
    ∙ sym (memory_made m save stands.guarded s.1) in
    let page : GivesPage save.made.memory save.next c.page_of_step-page.result =
    gives array save.made.memory m count end save.next c.page_of_step-page.result (subst (λ (x : Step). GivesPage array x c.page_of_step-page.result) (sym s.2) c.page_of_step-page.ensures) ready
    (subst (λ (o : Option RunningSave). ForSome (hold_of o) (λ k. WaitsFrom k end m.waits.writes)) s.1 h.carried.held) pages in
    let ready' : IsReadyFor (lines_of_module L now) m.store save now.front.saves c.page_of_step-page.result device = record { runs = s.1; gives = page; knows = h'.front.knows; holds = subst (λ (k : ℕ). Holds k m.store now.front.saves.saving device) (sym same) holds' } in
    let made = c.make_step.ensures.made read save ready' h' in let n : Machine = made.later in
    let the = the_run (lines_of_module L now) m.store device save m.store.saving now.front.saves.saving s.1 ready'.holds in let run : SaveRun = the.0 in
    let call_is : step_call (plan_of run).closed (next_of run) ≡ step_call m.store.closed save.next =
    ap (step_call (plan_of run).closed) the.2.next ∙ same_call (plan_of run) m.store.closed save.next (tried_of run) the.2.shut in
    let oldw : World = record { machine = m; device = device; gauge = before } in let neww : World = record { machine = n; device = device'; gauge = later } in
    let step : SaveStepStep setup c.make_step.result oldw neww = whole_step setup oldw neww save reading c.make_step.result (record { runs = s.1; ready = ready }) c.tick-reading.ensures high
    (subst (λ (k : CallKind). MakesCalls (k ∷ []) (is_made c.make_step.result) device.calls device'.calls) call_is (c.make_step.ensures.call run the.1))
    (subst (λ (x : Setup). MadeStep x save c.make_step.result read n) c.take_reading.ensures.setup made.step) in
    asked L events.SaveStep (replies.SaveStep c.make_step.result) (assembly old device before) (assembly c.make_step.new.self device' later) (c.make_step.ensures.setup ∙ c.take_reading.ensures.setup) m stands n step (c.make_step.ensures.saved ∙ ap (saved_after (replies.SaveStep c.make_step.result)) c.take_reading.ensures.saved) made.matches
    (subst (λ (k : ℕ). Holds k n.store c.make_step.new.self.front.saves.saving device') same made.reaches.holds) tt (issues_none L old.channels now.channels c.make_step.new.self.channels c.take_reading.ensures.issued c.make_step.ensures.issued)
    (weaker device device' (λ image either guarded.
    left_within setup events.SaveStep (replies.SaveStep c.make_step.result) oldw neww step stands.guarded refl refl (restored lines image)
    (subst (λ (k : ℕ). IsAmong m.store.maybe (restored k image) ⊎ IsAmong n.store.maybe (restored k image)) same either))
    made.reaches.moments)
