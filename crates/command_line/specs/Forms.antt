-- The form of a trace that words ask for.
use Rattle.std.specs.Prelude.{◌≡◌, ℕ, List, Option, None, Some}
use Rattle.command_trace.specs.declared.reading.Form.{Form}
use Rattle.command_trace.specs.declared.reading.Form.TheVariants.{Foreign}
use Rattle.trace_forms.specs.Forms.{IsFormOf, IsFormOfColumns}
use Rattle.trace_forms.specs.declared.form.ForeignForm.{ForeignForm}

-- by its name, or by its columns; none where neither is given, and never by both
abbrev pub IsFormAsked : Option (List ℕ) → Option (List ℕ) → Option Form → Type 0
IsFormAsked None None form = form ≡ None
IsFormAsked (Some name) None form = (found : ForeignForm) × (form ≡ Some (Foreign found)) × IsFormOf name found
IsFormAsked None (Some names) form = (found : ForeignForm) × (form ≡ Some (Foreign found)) × IsFormOfColumns names found
IsFormAsked (Some name) (Some names) form = ⊥
