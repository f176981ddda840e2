-- What holds of the value of an answer, or of its error, gives what follows from it.
use Rattle.std.specs.Prelude.{Result, Ok, Err, IfOk, IfErr}

pub if_ok_gives : {A E : Type 0} {P Q : A → Type 0} → ((value : A) → P value → Q value) → (result : Result A E) → IfOk result P → IfOk result Q
if_ok_gives gives (Ok value) holds = gives value holds
if_ok_gives gives (Err error) holds = tt

pub if_err_gives : {A E : Type 0} {P Q : E → Type 0} → ((error : E) → P error → Q error) → (result : Result A E) → IfErr result P → IfErr result Q
if_err_gives gives (Ok value) holds = tt
if_err_gives gives (Err error) holds = gives error holds
