-- The lives of a run, and what the channels of each have issued.
use Rattle.std.specs.Prelude.{◌≡◌, ℕ, ◌+◌, true, if◌then◌else◌, List, [], ◌∷◌, ◌++◌, Option, Some, None, length, map}
use Rattle.ddr4_timing.specs.declared.command.Stamped.{Stamped}
use Rattle.channel_port.specs.declared.port.ChannelPort.{Ghosts}
use Rattle.channel_set.specs.Issuing.{issued_in}
use Rattle.module_core.specs.declared.module.Module.{Module}
use Rattle.nv_script.specs.declared.answer.Answer.{Answer}
use Rattle.nv_script.specs.declared.answer.Answer.TheVariants as answer
use Rattle.nv_script.specs.declared.line.ScriptLine.{ScriptLine}
use Rattle.nv_session.specs.declared.session.Session.{Session}
use Rattle.nv_session.specs.declared.wires.Wires as wires
use Rattle.script_runner.specs.Doing.{DoesEach}
use Rattle.script_runner.specs.Issued.{KeepsRules, begins_life}
use Rattle.script_runner.specs.Story.{Exchange}

-- of each life the list of each of its channels
abbrev pub Lives : Type 0
Lives = List (List (List Stamped))

-- What is kept of a run: the lists of its lives; and before each line, and at the end, how many commands each channel of the life that
-- ran had issued, with an empty list where none ran
pub record Kept : Type 0 where
  pub lives : Lives
  pub counts : List (List ℕ)

-- How many lives an answer tells to begin, and how many answers do.
abbrev pub begun_by : Answer → ℕ
begun_by answer.Formatted = 1
begun_by (answer.Restored generation count verdict) = 1
begun_by other = 0

abbrev pub lives_told : List Answer → ℕ
lives_told [] = 0
lives_told (given ∷ later) = begun_by given + lives_told later

-- What is kept of a run of these lines, by the answers that followed those before: as many lives as they tell to begin; and counts before
-- each line, and at the end.
pub record IsKeptOf (asked : List ScriptLine) (before after : List Answer) (kept : Kept) : Type 0 where
  pub given : List Answer
  pub grown_by : after ≡ before ++ given
  pub lives : length kept.lives ≡ lives_told given
  pub counts : length kept.counts ≡ length asked + 1

-- nothing yet
abbrev pub nothing : Kept
nothing = record { lives = []; counts = [] }

-- lives alone, and counts alone
abbrev pub of_lives : Lives → Kept
of_lives lives = record { lives = lives; counts = [] }

abbrev pub of_counts : List ℕ → Kept
of_counts counts = record { lives = []; counts = counts ∷ [] }

-- the one, and then the other
abbrev pub joined : Kept → Kept → Kept
joined first later = record { lives = first.lives ++ later.lives; counts = first.counts ++ later.counts }

-- who keeps what a run leaves has this too, or keeps nothing any more
abbrev pub Notes : Kept → Option Kept → Option Kept → Type 0
Notes more old None = Unit {0}
Notes more None (Some new) = ⊥
Notes more (Some old) (Some new) = new ≡ joined old more

-- the lists of a life, if there is one
abbrev pub lists_if : {K : Type 0} (L : Ghosts K) → Option (Module K L) → Lives
lists_if L None = []
lists_if L (Some it) = issued_in L it.channels ∷ []

-- how many commands each of its channels has issued
abbrev pub counts_if : {K : Type 0} (L : Ghosts K) → Option (Module K L) → List ℕ
counts_if L None = []
counts_if L (Some it) = map length (issued_in L it.channels)

module _ {K A : Type 0} {L : Ghosts K} {W : wires.Ghosts A K} where
  -- those of the life that runs, if one does
  abbrev pub lists_in : Session K A L W → Lives
  lists_in session = lists_if L session.life

  abbrev pub counts_in : Session K A L W → List ℕ
  counts_in session = counts_if L session.life

  -- those of the life that a line ends
  abbrev pub ended_by : ScriptLine → Session K A L W → Lives
  ended_by asked old = if begins_life asked then lists_in old else []

  -- what is kept before a line, and at the end
  abbrev pub kept_before : ScriptLine → Session K A L W → Kept
  kept_before asked old = joined (of_counts (counts_in old)) (of_lives (ended_by asked old))

  abbrev pub kept_last : Session K A L W → Kept
  kept_last last = joined (of_lives (lists_in last)) (of_counts (counts_in last))

  -- Lines are done, in turn, and this is kept of them: the lives that they ended, and the counts before each of them. What the channels
  -- of a life that ended had issued keeps the timing rules.
  abbrev pub EndLives : List Exchange → Session K A L W → Session K A L W → Kept → Type 0
  EndLives [] old new kept = (new ≡ old) × (kept ≡ nothing)
  EndLives (exchange ∷ later) old new kept =
      (mid : Session K A L W) × (rest : Kept) × DoesEach exchange.asked exchange.answers old mid × (begins_life exchange.asked ≡ true → KeepsRules old)
      × (kept ≡ joined (kept_before exchange.asked old) rest) × EndLives later mid new rest

  -- all that is kept of a run: the life that runs at its end too, and the counts then
  abbrev pub AreLives : List Exchange → Session K A L W → Session K A L W → Kept → Type 0
  AreLives story first last kept = (before : Kept) × EndLives story first last before × (kept ≡ joined before (kept_last last))
