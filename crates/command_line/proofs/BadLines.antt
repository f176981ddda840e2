-- A script without bad lines.
use Rattle.std.proofs.Common.{◌≡◌, ◌∙◌, ◌==◌, ◌↔◌, ◌<◌, ℕ, Bool, true, false, true≢false, List, [], ◌∷◌, length, if◌then◌else◌, sym, arith}
use Rattle.std.proofs.lemmas.Bool.Decides.{nat_tests}
use Rattle.ddr4_timing.specs.declared.timing.Geometry.{Geometry}
use Rattle.nv_script.specs.Texts.{text_lines}
use Rattle.script_report.specs.declared.lint.BadLine.{BadLine}
use Rattle.script_report.specs.BadLines.{AreBadLines, IsBadLine}
use Rattle.command_line.proofs.Statuses.{status_tells}

bad_counts : (line : BadLine) (more : List BadLine) → (length (line ∷ more) == 0) ≡ false
bad_counts line more = let some : 0 < length (line ∷ more) = omega arith in grind (arith, nat_tests)

some_bad : (geometry : Geometry) (text : List ℕ) (line : BadLine) (more : List BadLine) → AreBadLines geometry text (line ∷ more) → AreBadLines geometry text [] → ⊥
some_bad geometry text line more are none =
    let one : IsBadLine geometry (text_lines text) line.number = are.are 0 line.number (omega arith) in
    let there = none.each line.number one in
    let below : there.0 < 0 = there.1 in
    absurd (omega (arith, below))

empty_tells : (geometry : Geometry) (text : List ℕ) (bad : List BadLine) (test : Bool) → AreBadLines geometry text bad → test ≡ (length bad == 0)
    → ((test ≡ true) ↔ AreBadLines geometry text [])
empty_tells geometry text [] test are is = (λ yes. are, λ none. is)
empty_tells geometry text (line ∷ more) test are is =
    let no : test ≡ false = is ∙ bad_counts line more in
    (λ yes. absurd (true≢false (sym yes ∙ no)), λ none. absurd (some_bad geometry text line more are none))

-- the status by whether there are bad lines tells whether the script has one
pub bad_status : (geometry : Geometry) (text : List ℕ) (bad : List BadLine) (test : Bool) (status : ℕ) → AreBadLines geometry text bad → test ≡ (length bad == 0)
    → status ≡ (if test then 0 else 1) → ((status ≡ 0) ↔ AreBadLines geometry text [])
bad_status geometry text bad test status are is told =
    status_tells (AreBadLines geometry text []) status test told (empty_tells geometry text bad test are is)
