-- What is so where the drains of a loss were paid for.
use Rattle.std.specs.Prelude.{Err, IfErr, OnOk, Result}
use Rattle.arm_state.specs.declared.loss.Loss.{Loss}
use Rattle.channel_port.specs.Draining.{Paid}
use Rattle.module_core.specs.Draining.{WhereDrained}
use Rattle.module_core.proofs.Common.{◌≡◌, Ok, subst}

pub where_drained : {P Q : Type 0} (lost : Loss) → (P → Q) → WhereDrained lost P → WhereDrained lost Q
where_drained (Loss.Saved generation count) so here = so here
where_drained Loss.Fault so here = so here
where_drained Loss.Dark so here = tt
where_drained Loss.Unsaved so here = tt
where_drained Loss.Closed so here = tt

pub on_ok : {P : Type 0} (paid : Paid) → paid ≡ Ok tt → OnOk paid P → P
on_ok {P} paid is so = subst (λ (p : Paid). OnOk p P) is so

pub on_err : {A B : Type 0} (P : B → Type 0) (result : Result A B) → ((cause : B) → P cause) → IfErr result P
on_err P (Ok done) so = tt
on_err P (Err cause) so = so cause
