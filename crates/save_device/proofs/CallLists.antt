-- Calls that were made one after another.
use Rattle.std.proofs.Common.{◌≡◌, ◌+◌, Bool, true, false, not, List, [], ◌∷◌, ◌++◌, refl, sym, ◌∙◌, ap, arith, append_assoc}
use Rattle.std.specs.Prelude.{cond, Result, Ok, Err, IsErr, is_ok}
use Rattle.std.proofs.lemmas.List.{map-append, append-nil}
use Rattle.std.proofs.lemmas.List.Sums.{sum_by-append}
use Rattle.save_device.specs.declared.calls.Call.{Call}
use Rattle.save_device.specs.declared.calls.CallKind.{CallKind}
use Rattle.save_device.specs.Calls.{called, faults_in, all_good, MakesCalls}

-- calls that went well, and then further ones
pub calls_on : (done rest : List CallKind) (good : Bool) (old mid new : List Call) → mid ≡ old ++ all_good done → MakesCalls rest good mid new → MakesCalls (done ++ rest) good old new
calls_on done rest true old mid new first then =
    then ∙ ap (λ (calls : List Call). calls ++ all_good rest) first ∙ append_assoc old (all_good done) (all_good rest)
    ∙ ap (λ (calls : List Call). old ++ calls) (sym (map-append (λ kind. called kind true) done rest))
calls_on done rest false old mid new first then = record {
  done = done ++ then.done;
  fails = then.fails;
  rest = then.rest;
  in_order = ap (λ (kinds : List CallKind). done ++ kinds) then.in_order ∙ sym (append_assoc done then.done (then.fails ∷ then.rest));
  made = then.made ∙ ap (λ (calls : List Call). calls ++ all_good then.done ++ called then.fails false ∷ []) first
      ∙ ap (λ (calls : List Call). calls ++ called then.fails false ∷ [])
      (append_assoc old (all_good done) (all_good then.done) ∙ ap (λ (calls : List Call). old ++ calls) (sym (map-append (λ kind. called kind true) done then.done)));
}

-- one call alone
pub one_call : (kind : CallKind) (good : Bool) (old new : List Call) → new ≡ old ++ called kind good ∷ [] → MakesCalls (kind ∷ []) good old new
one_call kind true old new made = made
one_call kind false old new made = record { done = []; fails = kind; rest = []; in_order = refl; made = made ∙ ap (λ (calls : List Call). calls ++ called kind false ∷ []) (sym (append-nil old)) }

-- a failed one, of several to be made
pub first_fails : (kind : CallKind) (rest : List CallKind) (old new : List Call) → new ≡ old ++ called kind false ∷ [] → MakesCalls (kind ∷ rest) false old new
first_fails kind rest old new made = record { done = []; fails = kind; rest = rest; in_order = refl; made = made ∙ ap (λ (calls : List Call). calls ++ called kind false ∷ []) (sym (append-nil old)) }

no_faults : (kinds : List CallKind) → faults_in (all_good kinds) ≡ 0
no_faults [] = refl
no_faults (kind ∷ kinds) = no_faults kinds

faults_in-append : (old more : List Call) → faults_in (old ++ more) ≡ faults_in old + faults_in more
faults_in-append old more = sum_by-append (λ (call : Call). cond (not call.is_good) 1 0) old more

-- one fault is counted where one failed
pub faults_more : (kinds : List CallKind) (old new : List Call) → MakesCalls kinds false old new → faults_in new ≡ faults_in old + 1
faults_more kinds old new made =
    ap faults_in made.made ∙ faults_in-append (old ++ all_good made.done) (called made.fails false ∷ [])
    ∙ (let first : faults_in (old ++ all_good made.done) ≡ faults_in old + faults_in (all_good made.done) = faults_in-append old (all_good made.done) in omega (arith, first, no_faults made.done))

-- of these calls the ones before `left` were made, and went well
pub record MadeSoFar (kinds left : List CallKind) (old now : List Call) : Type 0 where
  pub done : List CallKind
  pub in_order : kinds ≡ done ++ left
  pub made : now ≡ old ++ all_good done

pub none_made : (kinds : List CallKind) (old : List Call) → MadeSoFar kinds kinds old old
none_made kinds old = record { done = []; in_order = refl; made = sym (append-nil old) }

-- one call more
pub made_more : (kinds left : List CallKind) (kind : CallKind) (old now next : List Call) → MadeSoFar kinds (kind ∷ left) old now → next ≡ now ++ called kind true ∷ [] → MadeSoFar kinds left old next
made_more kinds left kind old now next so more = record {
  done = so.done ++ kind ∷ [];
  in_order = so.in_order ∙ sym (append_assoc so.done (kind ∷ []) left);
  made = more ∙ ap (λ (calls : List Call). calls ++ called kind true ∷ []) so.made ∙ append_assoc old (all_good so.done) (called kind true ∷ [])
      ∙ ap (λ (calls : List Call). old ++ calls) (sym (map-append (λ kind. called kind true) so.done (kind ∷ [])));
}

-- one call more, which failed
pub made_fault : (kinds left : List CallKind) (kind : CallKind) (old now next : List Call) → MadeSoFar kinds (kind ∷ left) old now → next ≡ now ++ called kind false ∷ [] → MakesCalls kinds false old next
made_fault kinds left kind old now next so more = record {
  done = so.done;
  fails = kind;
  rest = left;
  in_order = so.in_order;
  made = more ∙ ap (λ (calls : List Call). calls ++ called kind false ∷ []) so.made;
}

-- a fault stays one where more calls were to come
pub more_planned : (kinds more : List CallKind) (old new : List Call) → MakesCalls kinds false old new → MakesCalls (kinds ++ more) false old new
more_planned kinds more old new stop = record {
  done = stop.done;
  fails = stop.fails;
  rest = stop.rest ++ more;
  in_order = ap (λ (calls : List CallKind). calls ++ more) stop.in_order ∙ append_assoc stop.done (stop.fails ∷ stop.rest) more;
  made = stop.made;
}

-- what is said of the answer no, of an error
pub on_err : {T E : Type 0} (result : Result T E) (P : Bool → Type 0) → IsErr result → P false → P (is_ok result)
on_err (Ok value) P is p = absurd (let bad : ⊥ = cc in bad)
on_err (Err error) P is p = p
