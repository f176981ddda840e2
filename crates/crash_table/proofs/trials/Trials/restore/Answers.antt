use Rattle.std.proofs.Common.{◌≡◌, ◌∙◌, ℕ, List, ap, subst, sym}
use Rattle.ddr4_timing.specs.Limits.{lines_of}
use Rattle.nv_profile.specs.declared.profile.Profile.{Profile}
use Rattle.nv_script.specs.declared.answer.Answer.{Answer}
use Rattle.save_device.specs.Device.{IsSettled}
use Rattle.save_device.specs.Memory.{state_of}
use Rattle.save_device.specs.declared.memory.MemoryDevice.{MemoryDevice}
use Rattle.nv_session.specs.Living.{device_state}
use Rattle.nv_session.specs.Sessions.{line_count_in, moment_in, setup_over}
use Rattle.script_runner.specs.Replies.{restore_told}
use Rattle.crash_table.specs.Outcomes.{IsRestoreOf}
use Rattle.crash_table.proofs.Behind.{restores_bytes}
use Rattle.crash_table.proofs.trials.Trials.restore.Goals as goal

pub returns-clause-restores : goal.returns-clause-restores
returns-clause-restores c =
    let session = c.over-session.result in let made = c.over-session.ensures in let restored = c.restore.ensures in
    let size : ℕ = lines_of c.args.self.now.profile.now.checked.geometry in
    let given : Answer = restore_told c.restore.result in
    let row : List ℕ = (device_state session.device).bytes in
    let settled : IsSettled (device_state session.device) = subst (λ (d : MemoryDevice). IsSettled (state_of d)) (sym made.device) c.in_ok-device.ensures.settled in
    let of : IsRestoreOf (line_count_in session) row given =
    restores_bytes _ (line_count_in session) (setup_over session session.profile.map) c.restore.result (moment_in session) (moment_in c.restore.new.self) made.life settled restored.finds restored.keeps restored.none in
    let of_profile : IsRestoreOf size row given = subst (λ (profile : Profile). IsRestoreOf (lines_of profile.checked.geometry) row given) made.profile of in
    let same : row ≡ c.args.bytes.items = ap (λ (d : MemoryDevice). (state_of d).bytes) made.device ∙ c.in_ok-device.ensures.row in
    subst (λ (answer : Answer). IsRestoreOf size c.args.bytes.items answer) (sym c.restore_answer.ensures) (subst (λ (bytes : List ℕ). IsRestoreOf size bytes given) same of_profile)
