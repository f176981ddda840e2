use Rattle.std.proofs.lemmas.Bool.Decides.{Decides-eqb}
use Rattle.slot_store.proofs.Common.{◌∙◌, sym}
use Rattle.slot_store.proofs.saving.SaveRun.fits.Goals as goal

pub returns : goal.returns
returns g c =
    let test = Decides-eqb c.len.result c.device_size.result in
    (λ same. sym c.len.ensures ∙ test.0 same ∙ c.device_size.ensures, λ size. test.1 (c.len.ensures ∙ size ∙ sym c.device_size.ensures))
