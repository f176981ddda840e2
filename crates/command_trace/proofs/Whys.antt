-- What is told of a command that may not follow a list.
use Rattle.std.proofs.Common.{◌≡◌, ◌↔◌, ℕ, ◌+◌, ◌<◌, ◌≤◌, List, [], ◌∷◌, ◌++◌, length, Option, Some, None, IfSome, IsNone, slice_get, slice_index, get_or, take, unwrap_or, refl, ap, ◌∙◌, sym, arith}
use Rattle.std.proofs.Math.Seq.{take-append_seam}
use Rattle.std.proofs.lemmas.List.{take_all, take_more}
use Rattle.ddr4_timing.specs.declared.command.Stamped.{Stamped}
use Rattle.ddr4_timing.specs.declared.timing.CommandRules.{CommandRules}
use Rattle.auto_precharge.specs.Unfolding.{IsLawfulTrace, settled, unfolded}
use Rattle.auto_precharge.specs.declared.issued.Issued.{Issued}
use Rattle.command_trace.specs.Faults.{EndsAtFault, IsWhy}
use Rattle.command_trace.specs.declared.diagnosis.Diagnosis.{Diagnosis}
use Rattle.command_trace.specs.declared.diagnosis.NumberedCommand.{NumberedCommand}

-- the command at an index of a list, where it is there
pub first_told : (list : List Stamped) (lines : List ℕ) (at : ℕ) (o : Option NumberedCommand) (second : NumberedCommand)
    → IfSome o (λ it. (slice_get list at ≡ Some it.command) × (it.line ≡ slice_index lines at)) → (IsNone o ↔ (length list ≤ at)) → at < length list
    → (slice_get list at ≡ Some (unwrap_or o second).command) × ((unwrap_or o second).line ≡ slice_index lines at)
first_told list lines at None second some none within = absurd (let past = none.0 refl in omega (arith, past, within))
first_told list lines at (Some it) second some none within = some

-- the last of a list
last_at : (before : List Issued) (x d : Issued) → get_or (before ++ x ∷ []) (length before) d ≡ x
last_at [] x d = refl
last_at (y ∷ before) x d = last_at before x d

pub last_of : (found before : List Issued) (x d : Issued) → found ≡ before ++ x ∷ [] → get_or found (length before) d ≡ x
last_of found before x d e =
    ap (λ (l : List Issued). get_or l (length before) d) e ∙ last_at before x d

pub front_of : (found before : List Issued) (x : Issued) → found ≡ before ++ x ∷ [] → take (length before) found ≡ before
front_of found before x e = ap (λ (l : List Issued). take (length before) l) e ∙ take-append_seam before (x ∷ [])

-- the commands before the last, and the last
pub parted : (found : List Issued) (index : ℕ) (last : Issued) → length found ≡ index + 1 → get_or found index last ≡ last → found ≡ take index found ++ last ∷ []
parted found index last size is =
    sym (take_all (index + 1) found (omega (arith, size))) ∙ take_more found index last (omega (arith, size))
    ∙ ap (λ (x : Issued). take index found ++ x ∷ []) is

-- why the last may not follow lawful ones
pub ends_at : (r : CommandRules) (found before : List Issued) (last : Issued) (told : Option Diagnosis) → found ≡ before ++ last ∷ [] → IsLawfulTrace r before
    → IfSome told (IsWhy r (settled last.command.clock (unfolded r.timing before)) last) → IfSome told (EndsAtFault r found)
ends_at r found before last None is lawful why = tt
ends_at r found before last (Some d) is lawful why = record { before = before; last = last; found_is = is; lawful = lawful; why = why }
