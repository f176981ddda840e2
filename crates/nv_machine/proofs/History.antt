-- Lives in a chain have one history.
use Rattle.std.proofs.lemmas.List.{length-take-le}
use Rattle.std.proofs.lemmas.List.Sums.{fold-append}
use Rattle.line_memory.specs.Memory.{after_write, memory_at}
use Rattle.nv_machine.specs.Headline.{AnyGauge}
use Rattle.nv_machine.specs.Lives.{LeadsTo, history_before, kept_writes, last_opened}
use Rattle.nv_machine.proofs.Common.{List, [], ap, arith, length, refl, sym, ℕ, ◌++◌, ◌+◌, ◌-◌, ◌∙◌, ◌∷◌, ◌≡◌, ◌≤◌, length-append, after, Write, Image, Found, IsPrefix, AreChained, IsLived, Lived, Machine}
use Rattle.nv_machine.proofs.RisingMarks.{run_rises_by}
use Rattle.nv_machine.proofs.StoppedLives.{guarded_first, recovered}

-- at its end a life has what it was opened with
pub last_is : (life : Lived) → IsLived life → life.last.machine.life.opened ≡ life.image
last_is life lived = (run_rises_by AnyGauge life.setup life.events life.replies life.first life.last lived.run (guarded_first life lived)).opened ∙ ap (λ (m : Machine). m.life.opened) lived.begins

-- an image of a prefix of a life's writes is the memory after those of them that it holds
module _ (life : Lived) (lived : IsLived life) (image : Image) (prefix : IsPrefix life.last.machine image) where
  pub prefix_memory : image.memory ≡ after life.image.memory (kept_writes life image.count)
  prefix_memory = prefix.memory ∙ ap (λ (i : Image). memory_at i.memory i.count life.last.machine.life.writes image.count) (last_is life lived)

  pub prefix_count : image.count ≡ life.image.count + length (kept_writes life image.count)
  prefix_count =
      let start : life.last.machine.life.opened.count ≡ life.image.count = ap (λ (i : Image). i.count) (last_is life lived) in
      let less : image.count - life.image.count ≤ length life.last.machine.life.writes = omega (arith, prefix.to, start) in
      omega (arith, length-take-le (image.count - life.image.count) life.last.machine.life.writes less, prefix.from, start)

-- the next life's image is the memory after a prefix of this one's writes
next_prefix : (life next : Lived) → IsLived life → LeadsTo life next → IsPrefix life.last.machine next.image
next_prefix life next lived leads =
    let r = (recovered life lived).recovers in let both : Found next.slot next.image ≡ Found r.slot r.image = sym leads ∙ r.found in let same : next.image ≡ r.image = cc in
    rw same r.prefix

-- the memory and the count at the end of these writes, which stand behind those of a life
module _ (life next : Lived) (lived : IsLived life) (leads : LeadsTo life next) (more : List Write) where
  pub memory_on : (memory : List (List ℕ)) → memory ≡ after next.image.memory more → memory ≡ after life.image.memory (kept_writes life next.image.count ++ more)
  memory_on memory is =
      is ∙ ap (λ (m : List (List ℕ)). after m more) (prefix_memory life lived next.image (next_prefix life next lived leads))
      ∙ sym (fold-append after_write life.image.memory (kept_writes life next.image.count) more)

  pub count_on : (count : ℕ) → count ≡ next.image.count + length more → count ≡ life.image.count + length (kept_writes life next.image.count ++ more)
  count_on count is = omega (arith, is, prefix_count life lived next.image (next_prefix life next lived leads), length-append (kept_writes life next.image.count) more)

-- the last life is opened with the memory after all writes before it, and with their count
pub history_memory : (life : Lived) (lives : List Lived) → AreChained (life ∷ lives) → (last_opened life lives).memory ≡ after life.image.memory (history_before (life ∷ lives))
history_memory life [] chained = refl
history_memory life (next ∷ lives) chained = memory_on life next chained.0 chained.1 (history_before (next ∷ lives)) _ (history_memory next lives chained.2)

pub history_count : (life : Lived) (lives : List Lived) → AreChained (life ∷ lives) → (last_opened life lives).count ≡ life.image.count + length (history_before (life ∷ lives))
history_count life [] chained = omega arith
history_count life (next ∷ lives) chained = count_on life next chained.0 chained.1 (history_before (next ∷ lives)) _ (history_count next lives chained.2)
