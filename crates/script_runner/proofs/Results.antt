-- What the result of a call that failed comes to.
use Rattle.std.specs.Prelude.{Result, Ok, Err, IfErr}

-- a fact that doesn't rest on the error
pub if_err_so : {T E : Type 0} (r : Result T E) (A : Type 0) → A → IfErr r (λ error. A)
if_err_so (Ok x) A a = tt
if_err_so (Err e) A a = a
