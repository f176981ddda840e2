use Rattle.std.proofs.Common.{ℕ, ◌≡◌, ◌+◌, ◌-◌, ◌*◌, take, drop, ap, ◌∙◌, arith}
use Rattle.save_image.specs.Body.{bytes_of}
use Rattle.save_image.proofs.BodyLaws.{flat_map-same}
use Rattle.save_image.proofs.body.page_bytes.Goals as goal

pub returns : goal.returns
returns c =
    let memory = c.args.memory.now in let at = 64 * c.args.page in
    let chunk = rw c.unwrap.ensures at c.as_array.ensures.cases in
    let sixty_four : at + 64 - at ≡ 64 = omega arith in
    chunk.same ∙ c.as_flattened.ensures.value ∙ flat_map-same (take (at + 64 - at) (drop at memory))
    ∙ ap (λ (n : ℕ). bytes_of (take n (drop at memory))) sixty_four
