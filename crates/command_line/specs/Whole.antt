-- The answers of a script, with all commands of its lives among them.
use Rattle.std.specs.Prelude.{◌≡◌, ◌==◌, ◌<◌, ◌≤◌, ℕ, List, [], ◌∷◌, ◌++◌, Bool, true, false, if◌then◌else◌, count_by, drop, filter, flat_map, get_or, length, map, min, take}
use Rattle.ddr4_timing.specs.declared.command.Stamped.{Stamped}
use Rattle.nv_script.specs.declared.answer.Answer.{Answer}
use Rattle.nv_script.specs.declared.answer.Answer.TheVariants as answer
use Rattle.script_runner.specs.Ended.{Lives}
use Rattle.command_line.specs.declared.whole.Part.{Part}
use Rattle.command_line.specs.declared.whole.Part.TheVariants.{Command, Begins, Other}
use Rattle.command_line.specs.declared.whole.Whole.{Whole}

-- what an answer is to the commands of lives
abbrev pub part_of : Answer → Part
part_of (answer.Issued channel command) = Command channel command
part_of answer.Formatted = Begins
part_of (answer.Restored generation count verdict) = Begins
part_of other = Other

abbrev pub is_other : Part → Bool
is_other (Command channel command) = false
is_other Begins = true
is_other Other = true

abbrev pub is_begun : Part → Bool
is_begun (Command channel command) = false
is_begun Begins = true
is_begun Other = false

-- the command of a channel that is told, if one is
abbrev pub command_in : ℕ → Part → List Stamped
command_in channel (Command number command) = if number == channel then command ∷ [] else []
command_in channel Begins = []
command_in channel Other = []

abbrev pub told_on : ℕ → List Answer → List Stamped
told_on channel answers = flat_map (λ one. command_in channel (part_of one)) answers

-- the answers that tell no command
abbrev pub others_in : List Answer → List Answer
others_in answers = filter (λ one. is_other (part_of one)) answers

-- how many lives they tell to begin
abbrev pub lives_begun : List Answer → ℕ
lives_begun answers = count_by (λ one. is_begun (part_of one)) answers

-- the commands of a channel in lives
abbrev pub commands_on : ℕ → Lives → List Stamped
commands_on channel lives = flat_map (λ life. get_or life channel []) lives

-- where a life begins, all commands of the lives before it are told, and no others
abbrev pub AreToldByLife : Lives → List Answer → Type 0
AreToldByLife lives whole =
    (k : ℕ) (d : Answer) → k < length whole → part_of (get_or whole k d) ≡ Begins
    → (channel : ℕ) → told_on channel (take k whole) ≡ commands_on channel (take (lives_begun (take k whole)) lives)

-- These answers are given as they stand, all but their commands; and of each channel the commands of the lives that begin are told,
-- each in its life, in their order.
pub record HasAllCommands (lives : Lives) (given whole : List Answer) : Type 0 where
  pub others : others_in whole ≡ others_in given
  pub commands : (channel : ℕ) → told_on channel whole ≡ commands_on channel (take (lives_begun given) lives)
  pub by_life : AreToldByLife lives whole

-- the commands of a channel of the life that runs
abbrev pub channel_in : Whole → ℕ → List Stamped
channel_in whole channel = get_or (map (λ commands. commands.items) whole.channels.now) channel []

-- So it is so far, but for the commands of the life that runs which aren't told yet.
pub record IsSoFar (lives : Lives) (given : List Answer) (whole : Whole) : Type 0 where
  pub lives_are : whole.lives.now ≡ lives
  pub sizes : length whole.told.items ≡ length whole.channels.now
  pub begun : whole.begun ≡ min (lives_begun given) (length lives)
  pub begins : lives_begun whole.answers.items ≡ lives_begun given
  pub others : others_in whole.answers.items ≡ others_in given
  pub commands : (channel : ℕ) → told_on channel whole.answers.items ++ drop (get_or whole.told.items channel 0) (channel_in whole channel) ≡ commands_on channel (take whole.begun lives)
  pub by_life : AreToldByLife lives whole.answers.items

-- the commands from one place to another have no later clock, and the one there has
pub record AreUpTo (last low high : ℕ) (commands : List Stamped) : Type 0 where
  pub clocks : (k : ℕ) (d : Stamped) → low ≤ k → k < high → (get_or commands k d).clock ≤ last
  pub next : (d : Stamped) → high < length commands → last < (get_or commands high d).clock
