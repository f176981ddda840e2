-- What is told of an answer to a line of a script.
use Rattle.std.specs.Prelude.{ℕ, List, [], ◌∷◌, ◌++◌, codes, Option, Some, None}
use Rattle.arm_state.specs.declared.loss.Loss.{Loss}
use Rattle.arm_state.specs.declared.loss.Loss.TheVariants as loss
use Rattle.arm_state.specs.declared.mode.Mode.{Mode}
use Rattle.arm_state.specs.declared.mode.Mode.TheVariants as mode
use Rattle.slot_store.specs.declared.plan.Step.{Step}
use Rattle.slot_store.specs.declared.plan.Step.TheVariants as step
use Rattle.slot_store.specs.declared.restoring.Verdict.{Verdict}
use Rattle.slot_store.specs.declared.restoring.Verdict.TheVariants as verdict
use Rattle.nv_script.specs.declared.answer.Answer.{Answer}
use Rattle.nv_script.specs.declared.answer.Answer.TheVariants as answer
use Rattle.serde_json.specs.Data.{object}
use Rattle.serde_json.specs.Written.{compact_text}
use Rattle.answer_json.specs.Commands.{issued_pieces}
use Rattle.answer_json.specs.Lines.{line_text}
use Rattle.answer_json.specs.Refusals.{arm_refused, read_refused, restore_refused, write_refused}
use Rattle.answer_json.specs.Told.{Piece, says, counts, names, holds, members_by}

-- `none` where no life runs
abbrev pub mode_name : Option Mode → List ℕ
mode_name None = codes "none"
mode_name (Some mode.Disarmed) = codes "disarmed"
mode_name (Some mode.Armed) = codes "armed"
mode_name (Some mode.Disarming) = codes "disarming"
mode_name (Some mode.Stranded) = codes "stranded"
mode_name (Some mode.Closing) = codes "closing"
mode_name (Some mode.Saved) = codes "saved"

abbrev pub verdict_name : Verdict → List ℕ
verdict_name verdict.Complete = codes "Complete"
verdict_name (verdict.PossibleLoss after) = codes "PossibleLoss"

abbrev pub image_pieces : ℕ → ℕ → List Piece
image_pieces generation count = counts (codes "generation") generation ∷ counts (codes "count") count ∷ []

abbrev pub step_pieces : Step → List Piece
step_pieces step.Close = names (codes "step") (codes "close") ∷ []
step_pieces (step.Page page) = names (codes "step") (codes "page") ∷ counts (codes "page") page ∷ []
step_pieces step.Header = names (codes "step") (codes "header") ∷ []
step_pieces step.Open = names (codes "step") (codes "open") ∷ []
step_pieces _ = names (codes "step") (codes "sync") ∷ []

abbrev pub loss_pieces : Loss → List Piece
loss_pieces (loss.Saved generation count) = names (codes "outcome") (codes "saved") ∷ image_pieces generation count
loss_pieces loss.Unsaved = names (codes "outcome") (codes "unsaved") ∷ []
loss_pieces loss.Dark = names (codes "outcome") (codes "dark") ∷ []
loss_pieces loss.Fault = names (codes "outcome") (codes "fault") ∷ []
loss_pieces loss.Closed = names (codes "outcome") (codes "already") ∷ []

abbrev pub fuse_pieces : Option ℕ → List Piece
fuse_pieces (Some calls) = counts (codes "calls") calls ∷ []
fuse_pieces None = names (codes "calls") (codes "off") ∷ []

abbrev pub fault_pieces : List ℕ → List Piece
fault_pieces call = says (codes "fault") ∷ names (codes "call") call ∷ []

-- its kind: a word for each form of a line
abbrev pub kind_of : Answer → List ℕ
kind_of answer.Formatted = codes "formatted"
kind_of (answer.Accepted number mark) = codes "accepted"
kind_of (answer.Content line bytes) = codes "line"
kind_of (answer.ReadWaiting line) = codes "read_waiting"
kind_of (answer.Issued channel command) = codes "command"
kind_of (answer.Idle channel) = codes "idle"
kind_of (answer.Level reading mode) = codes "level"
kind_of answer.Armed = codes "armed"
kind_of answer.ArmedAlready = codes "armed_already"
kind_of answer.Disarming = codes "disarming"
kind_of answer.DisarmedAlready = codes "disarmed_already"
kind_of (answer.Saved generation count) = codes "saved"
kind_of answer.Waiting = codes "waiting"
kind_of answer.StepDisarming = codes "step_disarming"
kind_of answer.StepRetry = codes "step_retry"
kind_of (answer.Stepped step) = codes "step"
kind_of (answer.Lost loss) = codes "lost"
kind_of (answer.Lie units) = codes "lie"
kind_of (answer.Fuse calls) = codes "fuse"
kind_of (answer.OneFault call) = codes "onefault"
kind_of (answer.Restored generation count verdict) = codes "restored"
kind_of (answer.Mark mark) = codes "mark"
kind_of (answer.WriteRefused refusal) = codes "refused"
kind_of (answer.ReadRefused refusal) = codes "refused"
kind_of (answer.ArmRefused refusal) = codes "refused"
kind_of (answer.DisarmRefused refusal) = codes "refused"
kind_of (answer.SaveRefused refusal) = codes "refused"
kind_of (answer.RestoreRefused error) = codes "refused"
kind_of answer.FormatFault = codes "fault"
kind_of answer.ArmFault = codes "fault"
kind_of answer.SaveFault = codes "fault"

-- the parts of its line
abbrev pub answer_pieces : Answer → List Piece
answer_pieces answer.Formatted = says (codes "formatted") ∷ []
answer_pieces (answer.Accepted number mark) = says (codes "accepted") ∷ counts (codes "number") number ∷ says (codes "mark") ∷ counts (codes "mark") mark ∷ []
answer_pieces (answer.Content line bytes) = says (codes "line") ∷ counts (codes "line") line ∷ says (codes "=") ∷ holds (codes "bytes") bytes ∷ []
answer_pieces (answer.ReadWaiting line) = says (codes "read") ∷ counts (codes "line") line ∷ says (codes "waiting") ∷ []
answer_pieces (answer.Issued channel command) = issued_pieces channel command
answer_pieces (answer.Idle channel) = counts (codes "channel") channel ∷ says (codes "idle") ∷ []
answer_pieces (answer.Level reading mode) = says (codes "level") ∷ counts (codes "reading") reading ∷ names (codes "mode") (mode_name mode) ∷ []
answer_pieces answer.Armed = says (codes "armed") ∷ []
answer_pieces answer.ArmedAlready = says (codes "armed") ∷ says (codes "already") ∷ []
answer_pieces answer.Disarming = says (codes "disarming") ∷ []
answer_pieces answer.DisarmedAlready = says (codes "disarmed") ∷ says (codes "already") ∷ []
answer_pieces (answer.Saved generation count) = says (codes "saved") ∷ image_pieces generation count
answer_pieces answer.Waiting = says (codes "waiting") ∷ []
answer_pieces answer.StepDisarming = says (codes "step") ∷ says (codes "disarming") ∷ []
answer_pieces answer.StepRetry = says (codes "step") ∷ says (codes "retry") ∷ []
answer_pieces (answer.Stepped step) = says (codes "step") ∷ step_pieces step
answer_pieces (answer.Lost loss) = says (codes "lost") ∷ loss_pieces loss
answer_pieces (answer.Lie units) = says (codes "lie") ∷ counts (codes "units") units ∷ []
answer_pieces (answer.Fuse calls) = says (codes "fuse") ∷ fuse_pieces calls
answer_pieces (answer.OneFault call) = says (codes "onefault") ∷ counts (codes "call") call ∷ []
answer_pieces (answer.Restored generation count verdict) = says (codes "restored") ∷ image_pieces generation count ++ names (codes "verdict") (verdict_name verdict) ∷ []
answer_pieces (answer.Mark mark) = says (codes "mark") ∷ counts (codes "mark") mark ∷ []
answer_pieces (answer.WriteRefused refusal) = write_refused refusal
answer_pieces (answer.ReadRefused refusal) = read_refused refusal
answer_pieces (answer.ArmRefused refusal) = arm_refused (codes "arm") refusal
answer_pieces (answer.DisarmRefused refusal) = arm_refused (codes "disarm") refusal
answer_pieces (answer.SaveRefused refusal) = arm_refused (codes "save") refusal
answer_pieces (answer.RestoreRefused error) = restore_refused error
answer_pieces answer.FormatFault = fault_pieces (codes "format")
answer_pieces answer.ArmFault = fault_pieces (codes "arm")
answer_pieces answer.SaveFault = fault_pieces (codes "save")

-- the text of its line
abbrev pub answer_line : Answer → List ℕ
answer_line answer = line_text (answer_pieces answer)

-- its object as a text without spaces
abbrev pub answer_text : Answer → List ℕ
answer_text answer = compact_text (object (members_by (kind_of answer) (answer_pieces answer)))
