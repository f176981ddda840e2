use Rattle.std.proofs.Common.{◌≡◌, ◌⊎◌, ℕ, ap, subst, sym}
use Rattle.reply_codes.specs.declared.codes.Told.{Told}
use Rattle.whole_lives.specs.Lives.{Restores}
use Rattle.panguhero_c.proofs.lives_calls.ph_restore.Goals as goal

pub returns-clause-restores : goal.returns-clause-restores
returns-clause-restores c = λ is.
    subst (λ (answered : Told). Restores c.args.profile.now c.args.store.now answered c.restore_store.new.into) (sym c.tell.ensures)
    (c.restore_store.ensures.restores (subst (λ (code : ℕ). (code ≡ 0) ⊎ (code ≡ 10)) (ap (λ (answered : Told). answered.code) c.tell.ensures) is))
