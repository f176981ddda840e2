-- What two clauses say of the value of a call.
use Rattle.std.proofs.Common.{Result, Ok, Err, IfOk}

pub both_at_ok : {T E : Type 0} (result : Result T E) (P Q R : T → Type 0) → ((value : T) → P value → Q value → R value) → IfOk result P → IfOk result Q → IfOk result R
both_at_ok (Ok value) P Q R both p q = both value p q
both_at_ok (Err fault) P Q R both p q = tt
