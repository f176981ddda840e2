-- The commands that a script tells, and those that its channels have issued.
use Rattle.std.specs.Prelude.{◌≡◌, ◌≢◌, ◌==◌, ℕ, ◌<◌, Bool, true, false, if◌then◌else◌, List, [], ◌∷◌, ◌++◌, All, length, None, Some}
use Rattle.std.specs.List.{flat_map}
use Rattle.ddr4_timing.specs.Lawful.{IsLawful}
use Rattle.ddr4_timing.specs.declared.command.Stamped.{Stamped}
use Rattle.channel_port.specs.declared.port.ChannelPort.{Ghosts}
use Rattle.module_core.specs.IssuedRuns.{issued_on}
use Rattle.module_core.specs.declared.module.Module.{Module}
use Rattle.nv_script.specs.declared.line.ScriptLine.{ScriptLine}
use Rattle.nv_script.specs.declared.line.ScriptLine.TheVariants as line
use Rattle.nv_script.specs.declared.answer.Answer.{Answer}
use Rattle.nv_script.specs.declared.answer.Answer.TheVariants as answer
use Rattle.nv_session.specs.declared.session.Session.{Session}
use Rattle.nv_session.specs.declared.wires.Wires as wires
use Rattle.script_runner.specs.Doing.{DoesAll}
use Rattle.script_runner.specs.Story.{Exchange}

-- the command that an answer tells of a channel, if it tells one
abbrev pub issue_told : ℕ → Answer → List Stamped
issue_told channel (answer.Issued worked command) = if worked == channel then command ∷ [] else []
issue_told channel given = []

-- those that answers tell of it, in turn
abbrev pub issues_told : ℕ → List Answer → List Stamped
issues_told channel answers = flat_map (issue_told channel) answers

-- all answers of a story
abbrev pub answers_in : List Exchange → List Answer
answers_in story = flat_map (λ exchange. exchange.answers) story

-- whether a line begins a life
abbrev pub begins_life : ScriptLine → Bool
begins_life line.Format = true
begins_life (line.Restore pick map) = true
begins_life asked = false

-- Whether the answers to a line tell all commands that its life's channels issue by it. Reads and saves may work channels
-- untold, and a loss of mains may drain them.
abbrev pub tells_all : ScriptLine → Bool
tells_all line.Format = false
tells_all (line.Restore pick map) = false
tells_all (line.Read at) = false
tells_all line.Save = false
tells_all line.Lose = false
tells_all asked = true

-- The last life of a story: it began with this line and this answer, and lines that tell all came behind.
pub record IsToldWhole (story : List Exchange) (rest : List Exchange) : Type 0 where
  pub before : List Exchange
  pub begin : Exchange
  pub given : Answer
  pub is : story ≡ before ++ begin ∷ rest
  pub begins : begins_life begin.asked ≡ true
  pub answered : begin.answers ≡ given ∷ []
  pub tells : All (λ exchange. tells_all exchange.asked ≡ true) rest

-- what each channel of a life has issued keeps the timing rules of its profile
abbrev pub LifeKeepsRules : {K : Type 0} (L : Ghosts K) → Module K L → Type 0
LifeKeepsRules L it = (channel : ℕ) → channel < length it.channels.ports.items → IsLawful it.channels.terms.checked (issued_on L it.channels channel)

module _ {K A : Type 0} {L : Ghosts K} {W : wires.Ghosts A K} where
  -- Each channel of the life that runs is of the session's profile, and has issued the commands that these answers tell of it, in
  -- turn, and no other.
  pub record HasToldAll (answers : List Answer) (session : Session K A L W) (it : Module K L) : Type 0 where
    pub checked : it.channels.terms.checked ≡ session.profile.checked
    pub lists : (channel : ℕ) → channel < length it.channels.ports.items → issued_on L it.channels channel ≡ issues_told channel answers

  -- what each channel of the life that runs has issued keeps the timing rules of its profile
  abbrev pub KeepsRules : Session K A L W → Type 0
  KeepsRules session = (it : Module K L) → session.life ≡ Some it → LifeKeepsRules L it

-- so it is behind a story whose last life was told whole
abbrev pub TellsItsLists : (K A : Type 0) (L : Ghosts K) (W : wires.Ghosts A K) → Type 0
TellsItsLists K A L W =
    (story rest : List Exchange) (first last : Session K A L W) → IsToldWhole story rest → DoesAll story first last
    → (it : Module K L) → last.life ≡ Some it → HasToldAll (answers_in rest) last it

-- So the commands that were told of each channel then keep the timing rules of the profile, where the channels' lists do.
abbrev pub TellsLawfully : (K A : Type 0) (L : Ghosts K) (W : wires.Ghosts A K) → Type 0
TellsLawfully K A L W =
    (story rest : List Exchange) (first last : Session K A L W) → IsToldWhole story rest → DoesAll story first last
    → KeepsRules last → last.life ≢ None → (channel : ℕ) → channel < last.profile.checked.geometry.channels
    → IsLawful last.profile.checked (issues_told channel (answers_in rest))
