use Rattle.std.specs.Prelude.{Option}
use Rattle.std.specs.Str.{bytes_eq}
use Rattle.sha2.specs.Sha256.{sha256}
use Rattle.save_image.proofs.BodyLaws.{flat_map-same}
use Rattle.save_image.specs.Image.{digest_of}
use Rattle.slot_store.specs.Slots.{digest_fits}
use Rattle.slot_store.proofs.Common.{List, ap, ℕ, ◌∙◌, ◌≡◌}
use Rattle.slot_store.proofs.checking.are_sound.Goals as goal

pub returns-in-Some : goal.returns-in-Some
unfolding digest_of
returns-in-Some c =
    let memory = c.args.memory.now in
    let found : c.digest-in-Some.result ≡ digest_of memory = c.digest-in-Some.ensures ∙ ap sha256 (c.as_flattened.ensures.value ∙ flat_map-same memory) in
    c.eq.ensures ∙ ap (bytes_eq c.in-Some.digest) found ∙ ap (λ (digest : Option (List ℕ)). digest_fits digest memory) c.in-Some.ensures
