-- Steps that are tried in turn, each until it goes well: of each try it is said whether it did.
use Rattle.std.specs.Prelude.{ℕ, zero, suc, ◌<◌, Bool, true, false, not, if◌then◌else◌, List, [], ◌∷◌}
use Rattle.save_device.specs.declared.calls.Call.{Call}
use Rattle.save_device.specs.declared.calls.CallKind.{CallKind}
use Rattle.save_device.specs.Calls.{called}

-- how many of the tries went well, and so how many steps were made
abbrev pub goods : List Bool → ℕ
goods [] = zero
goods (true ∷ tries) = suc (goods tries)
goods (false ∷ tries) = goods tries

-- how many failed
abbrev pub fails : List Bool → ℕ
fails [] = zero
fails (true ∷ tries) = fails tries
fails (false ∷ tries) = suc (fails tries)

-- whether the coming step was tried and failed, where it was before or wasn't
abbrev pub is_failed : Bool → List Bool → Bool
is_failed before [] = before
is_failed before (good ∷ tries) = is_failed (not good) tries

-- how many steps were tried
abbrev pub steps_reached : List Bool → ℕ
steps_reached tries = if is_failed false tries then suc (goods tries) else goods tries

-- each try, from the n-th step on, is of one of so many steps
abbrev pub StepsBelow : ℕ → List Bool → ℕ → Type 0
StepsBelow count [] n = Unit {0}
StepsBelow count (true ∷ tries) n = (n < count) × StepsBelow count tries (suc n)
StepsBelow count (false ∷ tries) n = (n < count) × StepsBelow count tries n

-- Of a list with one element for each step: the elements of the tries. That of a step that failed comes again.
abbrev pub tried : {X : Type 0} → List X → List Bool → List X
tried xs [] = []
tried [] (good ∷ tries) = []
tried (x ∷ xs) (true ∷ tries) = x ∷ tried xs tries
tried (x ∷ xs) (false ∷ tries) = x ∷ tried (x ∷ xs) tries

-- the calls of the tries, where the steps have these
abbrev pub calls_tried : List CallKind → List Bool → List Call
calls_tried kinds [] = []
calls_tried [] (good ∷ tries) = []
calls_tried (kind ∷ kinds) (true ∷ tries) = called kind true ∷ calls_tried kinds tries
calls_tried (kind ∷ kinds) (false ∷ tries) = called kind false ∷ calls_tried (kind ∷ kinds) tries
