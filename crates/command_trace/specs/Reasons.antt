-- Why a rule doesn't hold of a command, in numbers and in words.
use Rattle.std.specs.Prelude.{◌≡◌, ◌≢◌, ℕ, ◌+◌, ◌-◌, ◌*◌, ◌<◌, ◌^◌, List, IsTrue, codes}
use Rattle.ddr4_timing.specs.Command.{rank_of}
use Rattle.ddr4_timing.specs.Gaps.{gap}
use Rattle.ddr4_timing.specs.Lawful.{IsInGeometry, is_asleep, last_ref, ref_count}
use Rattle.ddr4_timing.specs.declared.command.Command.{Command}
use Rattle.ddr4_timing.specs.declared.command.Command.TheVariants.{Act, Rd, Wr, Pre, PreAll, Ref, Sre}
use Rattle.ddr4_timing.specs.declared.command.Stamped.{Stamped}
use Rattle.ddr4_timing.specs.declared.rules.Rule.{Rule}
use Rattle.ddr4_timing.specs.declared.rules.Rule.TheVariants as rules
use Rattle.ddr4_timing.specs.declared.timing.CommandRules.{CommandRules}
use Rattle.ddr4_timing.specs.declared.timing.Geometry.{Geometry}
use Rattle.ddr4_timing.specs.declared.timing.Timing.{Timing}
use Rattle.command_trace.specs.declared.asked.Asked.{Asked}
use Rattle.command_trace.specs.declared.reason.Reason.{Reason}
use Rattle.command_trace.specs.declared.reason.Reason.TheVariants as why

-- the clocks are those of the rule, where it asks for something
abbrev pub Asks : Timing → Rule → Command → Command → Asked → Type 0
Asks t rule a b asked = (between : List Stamped) → gap t rule a between b ≢ 0 → asked.clocks ≡ gap t rule a between b

-- how the command wants the banks
abbrev pub rows_wanted : Command → List ℕ
rows_wanted (Act at row) = codes "its bank closed"
rows_wanted (Rd at column) = codes "its bank open"
rows_wanted (Wr at column) = codes "its bank open"
rows_wanted (Pre at) = codes "its bank open"
rows_wanted (PreAll rank) = codes "a bank of its rank open"
rows_wanted (Ref rank) = codes "every bank of its rank closed"
rows_wanted (Sre rank) = codes "every bank of its rank closed"

-- what a command that breaks the rule on rows lacks, the first of three
pub record IsWanted (g : Geometry) (before : List Stamped) (x : Command) (words : List ℕ) : Type 0 where
  pub place : ¬ IsInGeometry g x → words ≡ codes "a place of the geometry"
  pub awake : IsInGeometry g x → IsTrue (is_asleep (rank_of x) before) → words ≡ codes "a rank that is awake"
  pub rows : IsInGeometry g x → ¬ IsTrue (is_asleep (rank_of x) before) → words ≡ rows_wanted x

-- how long the rank's last REF is ago
abbrev pub since_ref : List Stamped → Stamped → ℕ
since_ref before x = x.clock - last_ref (rank_of x.cmd) before

-- the number of a further REF of the rank
abbrev pub next_ref : List Stamped → Command → ℕ
next_ref before x = ref_count (rank_of x) before + 1

-- the reason of a rule, of the command b and, where the rule is on two, of the earlier command a
abbrev pub IsReasonOf : CommandRules → Rule → List Stamped → Stamped → Stamped → Reason → Type 0
IsReasonOf r rule before a b (why.Order first second) =
    (rule ≡ rules.Order) × (first ≡ a.clock) × (second ≡ b.clock)
IsReasonOf r rule before a b (why.Gap of asked first second) =
    (of ≡ rule) × Asks r.timing rule a.cmd b.cmd asked × (first ≡ a) × (second ≡ b)
IsReasonOf r rule before a b (why.Rows command wanted) =
    (rule ≡ rules.Rows) × (command ≡ b.cmd) × IsWanted r.geometry before b.cmd wanted.now
IsReasonOf r rule before a b (why.Closing command) = (rule ≡ rules.Rows) × (command ≡ b.cmd)
IsReasonOf r rule before a b (why.Late most passed) =
    (rule ≡ rules.Refi) × (most ≡ 9 * r.timing.t_refi) × (passed ≡ since_ref before b) × (most < passed)
IsReasonOf r rule before a b (why.Early count least clock) =
    (rule ≡ rules.Refi) × (count ≡ next_ref before b.cmd) × (clock ≡ b.clock)
    × (count * r.timing.t_refi < 2 ^ 64 → least ≡ count * r.timing.t_refi)
