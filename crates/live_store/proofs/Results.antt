-- What is said of a result, of what is so anyhow.
use Rattle.std.specs.Prelude.{Result, Ok, Err, IfErr, OnOk}

pub ok_so : {T E X : Type 0} (result : Result T E) → X → OnOk result X
ok_so (Ok value) x = x
ok_so (Err error) x = tt

pub err_so : {T E X : Type 0} (result : Result T E) → X → IfErr result (λ error. X)
err_so (Ok value) x = tt
err_so (Err error) x = x
