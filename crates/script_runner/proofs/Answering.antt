-- The answers to calls of a session on the life that runs are true.
use Rattle.std.proofs.Common.{◌≡◌, ◌∙◌, ℕ, ◌≤◌, List, [], ◌∷◌, ◌++◌, Result, Ok, Err, Option, Some, None, refl, sym, ap, subst, arith}
use Rattle.std.specs.Option.{option_map}
use Rattle.script_runner.proofs.Common.{Answer, AnswersTruly, Gauge, Ghosts, GoesOnBy, IsKeptBy, IsOfLine, IsOneEvent}
use Rattle.script_runner.proofs.Common.{IsTrueBy, IsWork, Ledger, LivesOn, Machine, MatchOption, Module, ScriptLine}
use Rattle.script_runner.proofs.Common.{SessionAt, Setup, Tale, accepted_by, append-nil, grown, known_behind}
use Rattle.script_runner.proofs.Common.{session_at, told_by}
use Rattle.ddr4_timing.specs.declared.command.Stamped.{Stamped}
use Rattle.line_memory.specs.declared.Write.{Write}
use Rattle.arm_state.specs.declared.mode.Mode.{Mode}
use Rattle.arm_state.specs.declared.refusal.ArmRefusal.{ArmRefusal}
use Rattle.arm_state.specs.declared.refusal.ArmRefusal.TheVariants as refusals
use Rattle.arm_state.specs.declared.refusal.ArmReply.{ArmReply}
use Rattle.arm_state.specs.declared.refusal.ArmReply.TheVariants as arm
use Rattle.arm_state.specs.declared.refusal.DisarmReply.{DisarmReply}
use Rattle.arm_state.specs.declared.refusal.DisarmReply.TheVariants as disarm
use Rattle.line_memory.specs.Memory.{line_of}
use Rattle.nv_machine.specs.Headline.{paused}
use Rattle.nv_machine.specs.declared.events.Accepted.{Accepted}
use Rattle.arm_state.specs.declared.refusal.WriteRefusal.{WriteRefusal}
use Rattle.arm_state.specs.declared.refusal.ReadRefusal.{ReadRefusal}
use Rattle.nv_machine.specs.declared.events.StepReply.{StepReply}
use Rattle.nv_machine.specs.declared.events.StepReply.TheVariants as step
use Rattle.arm_state.specs.declared.loss.Loss.{Loss}
use Rattle.arm_state.specs.declared.loss.Loss.TheVariants as loss
use Rattle.nv_machine.specs.declared.events.Event.{Event}
use Rattle.nv_machine.specs.declared.events.Event.TheVariants as events
use Rattle.nv_machine.specs.declared.events.Reply.{Reply}
use Rattle.nv_machine.specs.declared.events.Reply.TheVariants as replies
use Rattle.nv_machine.specs.Rising.{added}
use Rattle.nv_machine.specs.Survival.{told_mark}
use Rattle.nv_machine.proofs.EachEvent.{event_adds}
use Rattle.nv_session.specs.declared.turns.LineSeen.{LineSeen}
use Rattle.nv_session.specs.declared.turns.LineSeen.TheVariants as seen
use Rattle.nv_session.specs.Turns.{SeesLine, SameWrites, GoesOnSaving, MakesOneStep}
use Rattle.nv_session.proofs.SaveSteps.{waits_keep}
use Rattle.nv_script.specs.declared.line.ScriptLine.TheVariants as line
use Rattle.nv_script.specs.declared.answer.Answer.TheVariants as answer
use Rattle.script_runner.specs.Replies.{write_told, read_told, work_told, step_told, save_told, arm_told, disarm_told}
use Rattle.script_runner.proofs.Later.{IsStep, Later, later, of_one, of_last}
use Rattle.script_runner.proofs.Bearing.{GoneOn, goes_truly, kept_all, kept_memory, stays_quiet}

-- what is told of every ledger that the machine keeps
abbrev pub IsTrueIn : Answer → Machine → Type 0
IsTrueIn given m = (lines : ℕ) (ledger : Ledger) → IsKeptBy lines ledger m → IsTrueBy lines given ledger

-- what is true by any ledger
abbrev pub IsTrueAnyway : Answer → Type 0
IsTrueAnyway given = (lines : ℕ) (ledger : Ledger) → IsTrueBy lines given ledger

module _ {K : Type 0} (L : Ghosts K) where
  -- one event went on
  gone_one : (Told : Setup → Tale) (event : Event) (reply : Reply) (asked : ScriptLine) (given : Answer) (m : Machine) (new : SessionAt L)
      (then : Later L Told m new) → then.went.events ≡ event ∷ [] → then.went.replies ≡ reply ∷ [] → added event reply ≡ accepted_by asked given
      → told_by given ≤ told_mark reply → (IsStep then.setup event reply m then.n → IsTrueIn given m) → GoneOn L asked given m new
  gone_one Told event reply asked given m new then is_event is_reply adds told holds =
      let is : IsStep then.setup event reply m then.n = then.went.one event reply is_event is_reply in
      let mark : told_mark reply ≤ then.n.life.persisted = of_one (λ (r : Reply). told_mark r ≤ then.n.life.persisted) then.went.replies reply is_reply then.went.marks in
      record {
        it = then.it;
        runs = then.runs;
        n = then.n;
        stands = then.stands;
        opened = then.went.rises.opened;
        writes = event_adds then.setup event reply (paused is.before (record { machine = m; device = is.device; gauge = is.before.gauge })) (paused is.behind (record { machine = then.n; device = is.device'; gauge = is.behind.gauge })) is.step is.guarded
            ∙ ap (λ (ws : List Write). m.life.writes ++ ws) adds;
        rises = then.went.rises.persisted;
        told = omega (arith, told, mark);
        most = then.went.most;
        holds = holds is;
      }

  -- events that accepted no write went on
  gone_same : (Told : Setup → Tale) (asked : ScriptLine) (given : Answer) (m : Machine) (new : SessionAt L)
      (then : Later L Told m new) → SameWrites m then.n → [] ≡ accepted_by asked given → told_by given ≤ then.n.life.persisted → IsTrueIn given m
      → GoneOn L asked given m new
  gone_same Told asked given m new then same adds told holds = record {
    it = then.it;
    runs = then.runs;
    n = then.n;
    stands = then.stands;
    opened = same.opened;
    writes = same.writes ∙ sym (append-nil m.life.writes) ∙ ap (λ (ws : List Write). m.life.writes ++ ws) adds;
    rises = then.went.rises.persisted;
    told = told;
    most = then.went.most;
    holds = holds;
  }

  -- where no life runs none does afterwards, and the device is the same
  stays_none : (Told : Setup → Tale) (old new : SessionAt L) → GoesOnBy L Told old new → old.life ≡ None → (new.life ≡ None) × (new.device ≡ old.device)
  stays_none Told old new goes none =
      let same : new ≡ old = subst (λ (life : Option (Module K L)). MatchOption life (new ≡ old) (λ it. LivesOn L Told it old new)) none goes in
      (ap (λ (at : SessionAt L). at.life) same ∙ none, ap (λ (at : SessionAt L). at.device) same)

  -- an answer to one event that asks for nothing to be shown of it
  plain_one : (lines : ℕ) (event : Event) (reply : Reply) (asked : ScriptLine) (given : Answer) (old new : SessionAt L)
      → IsOfLine asked given → ((known : Option Ledger) → known_behind asked given known ≡ option_map (grown asked given) known)
      → added event reply ≡ accepted_by asked given → accepted_by asked given ≡ [] → told_by given ≤ told_mark reply → (old.life ≡ None → told_by given ≡ 0) → IsTrueAnyway given
      → GoesOnBy L (λ setup. IsOneEvent event reply) old new → AnswersTruly L lines asked given old new
  plain_one lines event reply asked given old new of behind adds none told rests holds goes =
      let Told : Setup → Tale = λ setup. IsOneEvent event reply in
      goes_truly L lines asked given old new of behind
      (λ it m is stands.
      let then = later L Told old new it m is stands goes in
      gone_one Told event reply asked given m new then then.went.told.0 then.went.told.1 adds told (λ is lines ledger kept. holds lines ledger))
      (stays_quiet L asked given old new (stays_none Told old new goes) none rests holds)

  pub write_truly : (lines : ℕ) (write : Write) (result : Result Accepted WriteRefusal) (refusal : WriteRefusal) (old new : SessionAt L)
      → (old.life ≡ None → result ≡ Err refusal) → GoesOnBy L (λ setup. IsOneEvent (events.Write write) (replies.Write result)) old new
      → AnswersTruly L lines (line.Write write) (write_told result) old new
  write_truly lines write (Ok accepted) refused old new rests goes =
      let event : Event = events.Write write in let reply : Reply = replies.Write (Ok accepted) in let Told : Setup → Tale = λ setup. IsOneEvent event reply in
      goes_truly L lines (line.Write write) (write_told (Ok accepted)) old new tt (λ known. refl)
      (λ it m is stands.
      let then = later L Told old new it m is stands goes in
      gone_one Told event reply (line.Write write) (write_told (Ok accepted)) m new then then.went.told.0 then.went.told.1 refl (omega arith)
      (λ done lines ledger kept. (done.step.1.1.number ∙ sym (kept_all lines ledger m kept), omega (arith, kept.told, then.went.rises.persisted, done.step.1.1.mark))))
      (λ none. let e = rests none in absurd cc)
  write_truly lines write (Err refusal) refused old new rests goes =
      plain_one lines (events.Write write) (replies.Write (Err refusal)) (line.Write write) (write_told (Err refusal)) old new tt (λ known. refl) refl refl
      (omega arith) (λ none. refl) (λ lines ledger. tt) goes

  pub read_truly : (lines at : ℕ) (result : Result LineSeen ReadRefusal) (refusal : ReadRefusal) (old new : SessionAt L)
      → (old.life ≡ None → result ≡ Err refusal) → GoesOnBy L (λ setup. SeesLine setup at result) old new → AnswersTruly L lines (line.Read at) (read_told at result) old new
  read_truly lines at (Ok (seen.Content bytes)) refused old new rests goes =
      let Told : Setup → Tale = λ setup. SeesLine setup at (Ok (seen.Content bytes)) in
      goes_truly L lines (line.Read at) (answer.Content at bytes) old new refl (λ known. refl)
      (λ it m is stands.
      let then = later L Told old new it m is stands goes in
      gone_same Told (line.Read at) (answer.Content at bytes) m new then (waits_keep m then.n then.went.told.2) refl (omega arith)
      (λ lines ledger kept. then.went.told.1 ∙ ap (λ (memory : List (List ℕ)). line_of memory at) (kept_memory lines ledger m kept)))
      (λ none. let e = rests none in absurd cc)
  read_truly lines at (Ok seen.Waiting) refused old new rests goes =
      let Told : Setup → Tale = λ setup. SeesLine setup at (Ok seen.Waiting) in
      goes_truly L lines (line.Read at) (answer.ReadWaiting at) old new refl (λ known. refl)
      (λ it m is stands.
      let then = later L Told old new it m is stands goes in
      gone_same Told (line.Read at) (answer.ReadWaiting at) m new then (waits_keep m then.n then.went.told.2) refl (omega arith) (λ lines ledger kept. tt))
      (λ none. let e = rests none in absurd cc)
  read_truly lines at (Err refusal) refused old new rests goes =
      let Told : Setup → Tale = λ setup. SeesLine setup at (Err refusal) in
      goes_truly L lines (line.Read at) (read_told at (Err refusal)) old new tt (λ known. refl)
      (λ it m is stands.
      let then = later L Told old new it m is stands goes in
      gone_same Told (line.Read at) (read_told at (Err refusal)) m new then
      (record { opened = ap (λ (x : Machine). x.life.opened) then.went.told.1; writes = ap (λ (x : Machine). x.life.writes) then.went.told.1 }) refl (omega arith)
      (λ lines ledger kept. tt))
      (stays_quiet L (line.Read at) (read_told at (Err refusal)) old new (stays_none Told old new goes) refl (λ none. refl) (λ lines ledger. tt))

  work_goes : (lines channel most : ℕ) (result : Option Stamped) (given : Answer) (old new : SessionAt L)
      → IsOfLine (line.Work channel most) given → ((known : Option Ledger) → known_behind (line.Work channel most) given known ≡ option_map (grown (line.Work channel most) given) known)
      → accepted_by (line.Work channel most) given ≡ [] → told_by given ≡ 0 → IsTrueAnyway given
      → GoesOnBy L (λ setup. IsWork channel result) old new → AnswersTruly L lines (line.Work channel most) given old new
  work_goes lines channel most result given old new of behind adds told holds goes =
      let Told : Setup → Tale = λ setup. IsWork channel result in
      goes_truly L lines (line.Work channel most) given old new of behind
      (λ it m is stands.
      let then = later L Told old new it m is stands goes in
      gone_one Told (events.Work channel) (replies.Work then.went.told.done) (line.Work channel most) given m new
      then then.went.told.one.0 then.went.told.one.1 (sym adds) (omega (arith, told)) (λ is lines ledger kept. holds lines ledger))
      (stays_quiet L (line.Work channel most) given old new (stays_none Told old new goes) adds (λ none. told) holds)

  pub work_truly : (lines channel most : ℕ) (result : Option Stamped) (old new : SessionAt L) → GoesOnBy L (λ setup. IsWork channel result) old new
      → AnswersTruly L lines (line.Work channel most) (work_told channel result) old new
  work_truly lines channel most (Some command) old new goes =
      work_goes lines channel most (Some command) (answer.Issued channel command) old new refl (λ known. refl) refl refl (λ lines ledger. tt) goes
  work_truly lines channel most None old new goes =
      work_goes lines channel most None (answer.Idle channel) old new refl (λ known. refl) refl refl (λ lines ledger. tt) goes

  -- what an answer is true by doesn't rest on the gauge
  pub regauged : (lines : ℕ) (asked : ScriptLine) (given : Answer) (old new : SessionAt L) (gauge : Gauge) → AnswersTruly L lines asked given (session_at old.life old.device gauge) new
      → AnswersTruly L lines asked given old new
  regauged lines asked given old new gauge truly known bears = truly known (λ ledger is. let b = bears ledger is in record { runs = b.runs; m = b.m; back = b.back; kept = b.kept })

  pub sense_truly : (lines level reading : ℕ) (mode : Option Mode) (old new : SessionAt L) → GoesOnBy L (λ setup. IsOneEvent events.Sense (replies.Sense reading)) old new
      → AnswersTruly L lines (line.Sense level) (answer.Level reading mode) old new
  sense_truly lines level reading mode old new goes =
      plain_one lines events.Sense (replies.Sense reading) (line.Sense level) (answer.Level reading mode) old new tt (λ known. refl) refl refl (omega arith) (λ none. refl) (λ lines ledger. tt) goes

  arm_plain : (lines : ℕ) (result : Result ArmReply ArmRefusal) (given : Answer) (old new : SessionAt L)
      → IsOfLine line.Arm given → ((known : Option Ledger) → known_behind line.Arm given known ≡ option_map (grown line.Arm given) known) → accepted_by line.Arm given ≡ [] → told_by given ≡ 0
      → IsTrueAnyway given → GoesOnBy L (λ setup. IsOneEvent events.Arm (replies.Arm result)) old new → AnswersTruly L lines line.Arm given old new
  arm_plain lines result given old new of behind adds told holds goes =
      plain_one lines events.Arm (replies.Arm result) line.Arm given old new of behind (sym adds) adds (omega (arith, told)) (λ none. told) holds goes

  pub arm_truly : (lines : ℕ) (result : Result ArmReply ArmRefusal) (old new : SessionAt L) → GoesOnBy L (λ setup. IsOneEvent events.Arm (replies.Arm result)) old new
      → AnswersTruly L lines line.Arm (arm_told result) old new
  arm_truly lines (Ok arm.Armed) old new goes = arm_plain lines (Ok arm.Armed) answer.Armed old new tt (λ known. refl) refl refl (λ lines ledger. tt) goes
  arm_truly lines (Ok arm.AlreadyArmed) old new goes = arm_plain lines (Ok arm.AlreadyArmed) answer.ArmedAlready old new tt (λ known. refl) refl refl (λ lines ledger. tt) goes
  arm_truly lines (Err refusals.Device) old new goes = arm_plain lines (Err refusals.Device) answer.ArmFault old new tt (λ known. refl) refl refl (λ lines ledger. tt) goes
  arm_truly lines (Err (refusals.NeedEnergy need has)) old new goes = arm_plain lines (Err (refusals.NeedEnergy need has)) (answer.ArmRefused (refusals.NeedEnergy need has)) old new tt (λ known. refl) refl refl (λ lines ledger. tt) goes
  arm_truly lines (Err refusals.SaveRunning) old new goes = arm_plain lines (Err refusals.SaveRunning) (answer.ArmRefused refusals.SaveRunning) old new tt (λ known. refl) refl refl (λ lines ledger. tt) goes
  arm_truly lines (Err refusals.Unsettled) old new goes = arm_plain lines (Err refusals.Unsettled) (answer.ArmRefused refusals.Unsettled) old new tt (λ known. refl) refl refl (λ lines ledger. tt) goes
  arm_truly lines (Err refusals.Disarming) old new goes = arm_plain lines (Err refusals.Disarming) (answer.ArmRefused refusals.Disarming) old new tt (λ known. refl) refl refl (λ lines ledger. tt) goes
  arm_truly lines (Err refusals.Closed) old new goes = arm_plain lines (Err refusals.Closed) (answer.ArmRefused refusals.Closed) old new tt (λ known. refl) refl refl (λ lines ledger. tt) goes
  arm_truly lines (Err refusals.Spent) old new goes = arm_plain lines (Err refusals.Spent) (answer.ArmRefused refusals.Spent) old new tt (λ known. refl) refl refl (λ lines ledger. tt) goes

  disarm_plain : (lines : ℕ) (result : Result DisarmReply ArmRefusal) (given : Answer) (old new : SessionAt L) → IsOfLine line.Disarm given
      → ((known : Option Ledger) → known_behind line.Disarm given known ≡ option_map (grown line.Disarm given) known) → accepted_by line.Disarm given ≡ [] → told_by given ≡ 0 → IsTrueAnyway given
      → GoesOnBy L (λ setup. IsOneEvent events.Disarm (replies.Disarm result)) old new → AnswersTruly L lines line.Disarm given old new
  disarm_plain lines result given old new of behind adds told holds goes =
      plain_one lines events.Disarm (replies.Disarm result) line.Disarm given old new of behind (sym adds) adds (omega (arith, told)) (λ none. told) holds goes

  pub disarm_truly : (lines : ℕ) (result : Result DisarmReply ArmRefusal) (old new : SessionAt L) → GoesOnBy L (λ setup. IsOneEvent events.Disarm (replies.Disarm result)) old new
      → AnswersTruly L lines line.Disarm (disarm_told result) old new
  disarm_truly lines (Ok disarm.Disarming) old new goes = disarm_plain lines (Ok disarm.Disarming) answer.Disarming old new tt (λ known. refl) refl refl (λ lines ledger. tt) goes
  disarm_truly lines (Ok disarm.AlreadyDisarmed) old new goes = disarm_plain lines (Ok disarm.AlreadyDisarmed) answer.DisarmedAlready old new tt (λ known. refl) refl refl (λ lines ledger. tt) goes
  disarm_truly lines (Err refusal) old new goes = disarm_plain lines (Err refusal) (answer.DisarmRefused refusal) old new tt (λ known. refl) refl refl (λ lines ledger. tt) goes

  -- an answer to steps of a save, which accept no write
  saves_truly : (lines : ℕ) (asked : ScriptLine) (given : Answer) (result : Result StepReply ArmRefusal) (old new : SessionAt L)
      (Told : Setup → Tale) → ((setup : Setup) (es : List Event) (rs : List Reply) (m n : Machine) → Told setup es rs m n → GoesOnSaving result es rs m n)
      → IsOfLine asked given → ((known : Option Ledger) → known_behind asked given known ≡ option_map (grown asked given) known) → accepted_by asked given ≡ [] → (old.life ≡ None → told_by given ≡ 0) → IsTrueAnyway given
      → ((m n : Machine) (es : List Event) (rs : List Reply) → GoesOnSaving result es rs m n → ((r : Reply) (before : List Reply) → rs ≡ before ++ r ∷ [] → told_mark r ≤ n.life.persisted) → told_by given ≤ n.life.persisted)
      → GoesOnBy L Told old new → AnswersTruly L lines asked given old new
  saves_truly lines asked given result old new Told tells of behind adds rests holds told goes =
      goes_truly L lines asked given old new of behind
      (λ it m is stands.
      let then = later L Told old new it m is stands goes in
      let saving : GoesOnSaving result then.went.events then.went.replies m then.n = tells then.setup then.went.events then.went.replies m then.n then.went.told in
      gone_same Told asked given m new then saving.same (sym adds)
      (told m then.n then.went.events then.went.replies saving
      (λ r before is. of_last (λ (x : Reply). told_mark x ≤ then.n.life.persisted) then.went.replies before r is then.went.marks))
      (λ lines ledger kept. holds lines ledger))
      (stays_quiet L asked given old new (stays_none Told old new goes) adds rests holds)

  -- the same of an answer that tells of no persistent write
  saves_plain : (lines : ℕ) (asked : ScriptLine) (given : Answer) (result : Result StepReply ArmRefusal) (old new : SessionAt L)
      (Told : Setup → Tale) → ((setup : Setup) (es : List Event) (rs : List Reply) (m n : Machine) → Told setup es rs m n → GoesOnSaving result es rs m n)
      → IsOfLine asked given → ((known : Option Ledger) → known_behind asked given known ≡ option_map (grown asked given) known) → accepted_by asked given ≡ [] → told_by given ≡ 0 → IsTrueAnyway given
      → GoesOnBy L Told old new → AnswersTruly L lines asked given old new
  saves_plain lines asked given result old new Told tells of behind adds none holds goes =
      saves_truly lines asked given result old new Told tells of behind adds (λ rests. none) holds (λ m n es rs saving mark. omega (arith, none)) goes

  pub save_truly : (lines : ℕ) (result : Result StepReply ArmRefusal) (old new : SessionAt L) → (old.life ≡ None → result ≡ Err refusals.Closed) → GoesOnBy L (λ setup. GoesOnSaving result) old new
      → AnswersTruly L lines line.Save (save_told result) old new
  save_truly lines (Ok (step.Saved generation count)) old new rests goes =
      saves_truly lines line.Save (answer.Saved generation count) (Ok (step.Saved generation count)) old new (λ setup. GoesOnSaving (Ok (step.Saved generation count))) (λ setup es rs m n told. told)
      tt (λ known. refl) refl (λ none. let e = rests none in absurd cc) (λ lines ledger. tt) (λ m n es rs saving mark. mark (replies.SaveStep (step.Saved generation count)) saving.last.1 saving.last.3) goes
  save_truly lines (Ok (step.Did made)) old new rests goes =
      saves_plain lines line.Save answer.Waiting (Ok (step.Did made)) old new (λ setup. GoesOnSaving (Ok (step.Did made))) (λ setup es rs m n told. told) tt (λ known. refl) refl refl (λ lines ledger. tt) goes
  save_truly lines (Ok step.Waiting) old new rests goes =
      saves_plain lines line.Save answer.Waiting (Ok step.Waiting) old new (λ setup. GoesOnSaving (Ok step.Waiting)) (λ setup es rs m n told. told) tt (λ known. refl) refl refl (λ lines ledger. tt) goes
  save_truly lines (Ok step.NoSave) old new rests goes =
      saves_plain lines line.Save answer.Waiting (Ok step.NoSave) old new (λ setup. GoesOnSaving (Ok step.NoSave)) (λ setup es rs m n told. told) tt (λ known. refl) refl refl (λ lines ledger. tt) goes
  save_truly lines (Ok step.Turned) old new rests goes =
      saves_plain lines line.Save answer.StepDisarming (Ok step.Turned) old new (λ setup. GoesOnSaving (Ok step.Turned)) (λ setup es rs m n told. told) tt (λ known. refl) refl refl (λ lines ledger. tt) goes
  save_truly lines (Ok step.Retry) old new rests goes =
      saves_plain lines line.Save answer.Waiting (Ok step.Retry) old new (λ setup. GoesOnSaving (Ok step.Retry)) (λ setup es rs m n told. told) tt (λ known. refl) refl refl (λ lines ledger. tt) goes
  save_truly lines (Ok step.Fault) old new rests goes =
      saves_plain lines line.Save answer.SaveFault (Ok step.Fault) old new (λ setup. GoesOnSaving (Ok step.Fault)) (λ setup es rs m n told. told) tt (λ known. refl) refl refl (λ lines ledger. tt) goes
  save_truly lines (Err refusal) old new rests goes =
      saves_plain lines line.Save (answer.SaveRefused refusal) (Err refusal) old new (λ setup. GoesOnSaving (Err refusal)) (λ setup es rs m n told. told) tt (λ known. refl) refl refl (λ lines ledger. tt) goes

  pub step_truly : (lines : ℕ) (result : Result StepReply ArmRefusal) (old new : SessionAt L) → (old.life ≡ None → result ≡ Err refusals.Closed) → GoesOnBy L (λ setup. MakesOneStep result) old new
      → AnswersTruly L lines line.Step (step_told result) old new
  step_truly lines (Ok (step.Saved generation count)) old new rests goes =
      saves_truly lines line.Step (answer.Saved generation count) (Ok (step.Saved generation count)) old new (λ setup. MakesOneStep (Ok (step.Saved generation count))) (λ setup es rs m n told. told.goes_on)
      tt (λ known. refl) refl (λ none. let e = rests none in absurd cc) (λ lines ledger. tt) (λ m n es rs saving mark. mark (replies.SaveStep (step.Saved generation count)) saving.last.1 saving.last.3) goes
  step_truly lines (Ok (step.Did made)) old new rests goes =
      saves_plain lines line.Step (answer.Stepped made) (Ok (step.Did made)) old new (λ setup. MakesOneStep (Ok (step.Did made))) (λ setup es rs m n told. told.goes_on) tt (λ known. refl) refl refl (λ lines ledger. tt) goes
  step_truly lines (Ok step.Waiting) old new rests goes =
      saves_plain lines line.Step answer.Waiting (Ok step.Waiting) old new (λ setup. MakesOneStep (Ok step.Waiting)) (λ setup es rs m n told. told.goes_on) tt (λ known. refl) refl refl (λ lines ledger. tt) goes
  step_truly lines (Ok step.NoSave) old new rests goes =
      saves_plain lines line.Step answer.Waiting (Ok step.NoSave) old new (λ setup. MakesOneStep (Ok step.NoSave)) (λ setup es rs m n told. told.goes_on) tt (λ known. refl) refl refl (λ lines ledger. tt) goes
  step_truly lines (Ok step.Turned) old new rests goes =
      saves_plain lines line.Step answer.StepDisarming (Ok step.Turned) old new (λ setup. MakesOneStep (Ok step.Turned)) (λ setup es rs m n told. told.goes_on) tt (λ known. refl) refl refl (λ lines ledger. tt) goes
  step_truly lines (Ok step.Retry) old new rests goes =
      saves_plain lines line.Step answer.StepRetry (Ok step.Retry) old new (λ setup. MakesOneStep (Ok step.Retry)) (λ setup es rs m n told. told.goes_on) tt (λ known. refl) refl refl (λ lines ledger. tt) goes
  step_truly lines (Ok step.Fault) old new rests goes =
      saves_plain lines line.Step answer.SaveFault (Ok step.Fault) old new (λ setup. MakesOneStep (Ok step.Fault)) (λ setup es rs m n told. told.goes_on) tt (λ known. refl) refl refl (λ lines ledger. tt) goes
  step_truly lines (Err refusal) old new rests goes =
      saves_plain lines line.Step (answer.SaveRefused refusal) (Err refusal) old new (λ setup. MakesOneStep (Err refusal)) (λ setup es rs m n told. told.goes_on) tt (λ known. refl) refl refl (λ lines ledger. tt) goes

  lose_plain : (lines : ℕ) (result : Loss) (old new : SessionAt L) → told_by (answer.Lost result) ≤ told_mark (replies.Lose result) → (old.life ≡ None → told_by (answer.Lost result) ≡ 0)
      → GoesOnBy L (λ setup. IsOneEvent events.Lose (replies.Lose result)) old new → AnswersTruly L lines line.Lose (answer.Lost result) old new
  lose_plain lines result old new told rests goes =
      plain_one lines events.Lose (replies.Lose result) line.Lose (answer.Lost result) old new tt (λ known. refl) refl refl told rests (λ lines ledger. tt) goes

  pub lose_truly : (lines : ℕ) (result : Loss) (old new : SessionAt L) → (old.life ≡ None → result ≡ loss.Closed)
      → GoesOnBy L (λ setup. IsOneEvent events.Lose (replies.Lose result)) old new → AnswersTruly L lines line.Lose (answer.Lost result) old new
  lose_truly lines (loss.Saved generation count) old new rests goes = lose_plain lines (loss.Saved generation count) old new (omega arith) (λ none. let e = rests none in absurd cc) goes
  lose_truly lines loss.Unsaved old new rests goes = lose_plain lines loss.Unsaved old new (omega arith) (λ none. refl) goes
  lose_truly lines loss.Dark old new rests goes = lose_plain lines loss.Dark old new (omega arith) (λ none. refl) goes
  lose_truly lines loss.Fault old new rests goes = lose_plain lines loss.Fault old new (omega arith) (λ none. refl) goes
  lose_truly lines loss.Closed old new rests goes = lose_plain lines loss.Closed old new (omega arith) (λ none. refl) goes
