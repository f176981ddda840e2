-- Calls that were made.
use Rattle.std.specs.Prelude.{◌≡◌, ℕ, Bool, not, true, false, List, [], ◌∷◌, ◌++◌, map, count_by}
use Rattle.save_device.specs.declared.calls.Call.{Call}
use Rattle.save_device.specs.declared.calls.CallKind.{CallKind}

-- a call of this kind, which went well or not
abbrev pub called : CallKind → Bool → Call
called kind good = record { kind = kind; is_good = good }

-- how many of these calls failed
abbrev pub faults_in : List Call → ℕ
faults_in calls = count_by (λ call. not call.is_good) calls

-- these calls, all of which went well
abbrev pub all_good : List CallKind → List Call
all_good kinds = map (λ kind. called kind true) kinds

-- of these calls the first ones went well, the next one failed, and no further one was made
pub record StopAtFault (kinds : List CallKind) (old new : List Call) : Type 0 where
  pub done : List CallKind
  pub fails : CallKind
  pub rest : List CallKind
  pub in_order : kinds ≡ done ++ fails ∷ rest
  pub made : new ≡ old ++ all_good done ++ called fails false ∷ []

-- exactly these calls were made, in their order, up to the first that failed: good says that none did
abbrev pub MakesCalls : List CallKind → Bool → List Call → List Call → Type 0
MakesCalls kinds true old new = new ≡ old ++ all_good kinds
MakesCalls kinds false old new = StopAtFault kinds old new
