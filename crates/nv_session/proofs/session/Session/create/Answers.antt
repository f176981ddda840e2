use Rattle.std.proofs.Common.{◌∙◌, ℕ, List, true, false, inl, inr, refl, ap, sym, subst}
use Rattle.std.proofs.lemmas.Grind.{merely}
use Rattle.nv_session.proofs.Common.{DeviceState, ModuleStands, assembly, device_state, first_image, life_begins}
use Rattle.nv_session.proofs.Common.{lines_of, meter_gauge}
use Rattle.line_memory.specs.Memory.{IsMemory, zero_lines}
use Rattle.line_memory.proofs.MemoryLaws.{zero_lines-IsMemory}
use Rattle.save_device.specs.Calls.{MakesCalls}
use Rattle.slot_store.specs.Formatted.{first_head}
use Rattle.slot_store.specs.Steps.{format_calls}
use Rattle.module_core.specs.Opening.{opened_with}
use Rattle.nv_session.proofs.Beginning.{begins_formatted, is_capacity}
use Rattle.nv_session.proofs.Faults.{calls_count, counts_alike}
use Rattle.nv_session.proofs.session.Session.create.Goals as goal
use Rattle.nv_session.proofs.session.Session.create.Goals.{In-Ok-open}

pub format-requires-clause-capacity : goal.format-requires-clause-capacity
format-requires-clause-capacity g c = let it = c.args.self.now in is_capacity it.profile (g.A.Wires.shape it.wires it.profile.map) c.lines-lines.result (it.fits it.profile.map) c.lines-lines.ensures.is

pub open-requires-clause-memory : goal.open-requires-clause-memory
open-requires-clause-memory g c =
    let lines : ℕ = lines_of c.args.self.now.profile.checked.geometry in
    subst (λ (memory : List (List ℕ)). IsMemory lines memory) (sym (c.in-Ok.ensures ∙ ap zero_lines c.lines-lines.ensures.is)) (zero_lines-IsMemory lines)

-- the life that was opened is a new one
formatted_life : (g : _) (c : In-Ok-open g)
    → ModuleStands g.K.ChannelPort c.in-Ok-open.life (device_state c.format.new.device) (opened_with first_head (first_image (lines_of c.args.self.now.profile.checked.geometry)))
formatted_life g c =
    begins_formatted g.K.ChannelPort c.in-Ok-open.life (lines_of c.args.self.now.profile.checked.geometry) c.lines-lines.result c.in-Ok-format.head c.in-Ok.memory.items (device_state c.format.new.device) c.in-Ok-open.ensures.begins
    c.in-Ok-format.ensures.head
    c.lines-lines.ensures.is c.in-Ok.ensures c.in-Ok-format.ensures.at_rest

pub begin-requires-clause-cut : goal.begin-requires-clause-cut
begin-requires-clause-cut g c = let new = formatted_life g (goal.at.begin-requires-clause-cut g c).In-Ok-open in new.matches.front.cut ∙ sym new.saved

pub begin-requires-clause-lives : goal.begin-requires-clause-lives
begin-requires-clause-lives g c =
    merely (life_begins g.K.ChannelPort first_head (first_image (lines_of c.args.self.now.profile.checked.geometry))
    (assembly c.in-Ok-open.life (device_state c.format.new.device) (meter_gauge c.args.self.now.gauge)) (formatted_life g (goal.at.begin-requires-clause-lives g c).In-Ok-open))

pub returns-clause-begins : goal.returns-clause-begins
returns-clause-begins g c =
    let L = g.K.ChannelPort in let life = c.in-Ok-open.life in let lines : ℕ = lines_of c.args.self.now.profile.checked.geometry in
    record {
      it = life;
      runs = c.begin.ensures.life;
      over = c.in-Ok-open.ensures.setup;
      holds = subst (λ (d : DeviceState). ModuleStands L life d (opened_with first_head (first_image lines))) (sym c.begin.ensures.device) (formatted_life g (goal.at.returns-clause-begins g c).In-Ok-open);
    }

pub returns-in_default-format-clause-faults : goal.returns-in_default-format-clause-faults
returns-in_default-format-clause-faults g c =
    calls_count (format_calls c.lines-lines.result) false (device_state c.args.self.now.device) (device_state c.format.new.device) c.in_default-format.ensures.calls

pub returns-in_default-open-clause-faults : goal.returns-in_default-open-clause-faults
returns-in_default-open-clause-faults g c =
    calls_count (format_calls c.lines-lines.result) true (device_state c.args.self.now.device) (device_state c.format.new.device) c.in-Ok-format.ensures.calls

pub returns-clause-faults : goal.returns-clause-faults
returns-clause-faults g c =
    let old = device_state c.args.self.now.device in let formatted = device_state c.format.new.device in
    counts_alike false old formatted (device_state c.begin.new.self.device) c.begin.ensures.device (calls_count (format_calls c.lines-lines.result) true old formatted c.in-Ok-format.ensures.calls)

pub returns-clause-issued : goal.returns-clause-issued
returns-clause-issued g c = record { it = c.in-Ok-open.life; runs = c.begin.ensures.life; checked_is = c.in-Ok-open.ensures.checked; none = c.in-Ok-open.ensures.issued }

pub returns-in_default-clause-calls : goal.returns-in_default-clause-calls
returns-in_default-clause-calls g c = inl refl

pub returns-in_default-format-clause-calls : goal.returns-in_default-format-clause-calls
returns-in_default-format-clause-calls g c =
    subst (λ (n : ℕ). MakesCalls (format_calls n) false (device_state c.args.self.now.device).calls (device_state c.format.new.device).calls) c.lines-lines.ensures.is c.in_default-format.ensures.calls

pub returns-in_default-open-clause-calls : goal.returns-in_default-open-clause-calls
returns-in_default-open-clause-calls g c =
    inr (subst (λ (n : ℕ). MakesCalls (format_calls n) true (device_state c.args.self.now.device).calls (device_state c.format.new.device).calls) c.lines-lines.ensures.is c.in-Ok-format.ensures.calls)

pub returns-clause-calls : goal.returns-clause-calls
returns-clause-calls g c =
    let old = device_state c.args.self.now.device in let lines : ℕ = lines_of c.args.self.now.profile.checked.geometry in
    subst (λ (d : DeviceState). MakesCalls (format_calls lines) true old.calls d.calls) (sym c.begin.ensures.device)
    (subst (λ (n : ℕ). MakesCalls (format_calls n) true old.calls (device_state c.format.new.device).calls) c.lines-lines.ensures.is c.in-Ok-format.ensures.calls)
