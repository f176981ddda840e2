-- What a restore finds after lives in a chain.
use Rattle.std.proofs.lemmas.Bool.{or_from}
use Rattle.slot_store.specs.Outcomes.{verdict_of}
use Rattle.slot_store.specs.declared.restoring.Verdict.{Verdict}
use Rattle.nv_machine.specs.Headline.{AnyGauge}
use Rattle.nv_machine.specs.Lives.{LeadsTo, last_life}
use Rattle.nv_machine.specs.Survival.{IsHonestLife, IsRecovered, IsSurvived, IsSurvivedBehind, history_to}
use Rattle.nv_machine.proofs.Common.{List, [], ap, arith, false, length, ℕ, ◌++◌, ◌+◌, ◌∷◌, ◌≡◌, after, Image, is_backed, IsPrefix, is_broken_off, would_lose_acknowledged, IsBackedAt, AreChained, IsLived, Lived, Machine}
use Rattle.nv_machine.proofs.Backing.{not_backed}
use Rattle.nv_machine.proofs.RisingMarks.{told_by}
use Rattle.nv_machine.proofs.HonestRuns.{saved_along, unbroken_along}
use Rattle.nv_machine.proofs.StoppedLives.{guarded_first, recovered}
use Rattle.nv_machine.proofs.Caused.{caused}
use Rattle.nv_machine.proofs.CountedFaults.{honest_ends}
use Rattle.nv_machine.proofs.History.{last_is, prefix_memory, prefix_count, memory_on, count_on}

-- the arm byte is 0 exactly where the verdict is Complete
pub clear_where : (arm count : ℕ) → verdict_of arm count ≡ Verdict.Complete → arm ≡ 0
clear_where arm count told = grind arith

-- each front of a chain is a chain
pub front_chained : (lives more : List Lived) → AreChained (lives ++ more) → AreChained lives
front_chained [] more chained = tt
front_chained (life ∷ []) [] chained = chained
front_chained (life ∷ []) (next ∷ more) chained = chained.0
front_chained (life ∷ next ∷ lives) more chained = (chained.0, chained.1, front_chained (next ∷ lives) more chained.2)

last_lived : (life : Lived) (lives : List Lived) → AreChained (life ∷ lives) → IsLived (last_life life lives)
last_lived life [] chained = chained
last_lived life (next ∷ lives) chained = last_lived next lives chained.2

-- a life more behind a chain
pub chain_pushed : (life : Lived) (lives : List Lived) (next : Lived) → AreChained (life ∷ lives) → LeadsTo (last_life life lives) next → IsLived next → AreChained (life ∷ lives ++ next ∷ [])
chain_pushed life [] next chained leads lived = (chained, leads, lived)
chain_pushed life (other ∷ lives) next chained leads lived = (chained.0, chained.1, chain_pushed other lives next chained.2 leads lived)

-- in an honest life nothing may be lacking at the end
honest_calm : (life : Lived) → IsLived life → IsHonestLife life → would_lose_acknowledged life.last.machine ≡ false
honest_calm life lived honest =
    let first : IsBackedAt life.setup life.first = not_backed life.setup life.first.machine life.first.gauge (ap (λ (m : Machine). is_backed m.mode) lived.begins) in
    let along = honest_ends life.setup life.events life.replies life.first life.last honest.run honest.gauge honest.spared in
    let saves = saved_along life.setup life.events life.replies life.first life.last honest.run along first in
    let calm = unbroken_along life.setup life.events life.replies life.first life.last honest.run (guarded_first life lived) saves (ap (λ (m : Machine). is_broken_off m.lost) lived.begins) in
    or_from (is_backed life.last.machine.mode) (is_broken_off life.last.machine.lost) honest.settled calm

-- an image of a prefix of the last life's writes is the memory after a prefix of all
whole_memory : (life : Lived) (lives : List Lived) → AreChained (life ∷ lives) → (image : Image) → IsPrefix (last_life life lives).last.machine image
    → image.memory ≡ after life.image.memory (history_to (life ∷ lives) image.count)
whole_memory life [] chained image p = prefix_memory life chained image p
whole_memory life (next ∷ lives) chained image p = memory_on life next chained.0 chained.1 (history_to (next ∷ lives) image.count) image.memory (whole_memory next lives chained.2 image p)

whole_count : (life : Lived) (lives : List Lived) → AreChained (life ∷ lives) → (image : Image) → IsPrefix (last_life life lives).last.machine image
    → image.count ≡ life.image.count + length (history_to (life ∷ lives) image.count)
whole_count life [] chained image p = prefix_count life chained image p
whole_count life (next ∷ lives) chained image p = count_on life next chained.0 chained.1 (history_to (next ∷ lives) image.count) image.count (whole_count next lives chained.2 image p)

-- an image that recovers what was acknowledged is what a restore finds
restored_of : (life : Lived) (lived : IsLived life) → IsRecovered life (recovered life lived).recovers.image
restored_of life lived =
    let left = recovered life lived in let r = left.recovers in
    record {
      slot = r.slot;
      found = r.found;
      newest = rw r.found at left.newest;
      from = omega (arith, r.prefix.from, ap (λ (i : Image). i.count) (last_is life lived));
      complete = λ told. r.complete (clear_where r.image.arm r.image.count told);
      honest = λ honest. r.holds_all (honest_calm life lived honest);
      cause = λ told. r.cause (λ clear. told (ap (λ (arm : ℕ). verdict_of arm r.image.count) clear));
      told = told_by AnyGauge life.setup life.events life.replies life.first life.last lived.run (guarded_first life lived);
    }

pub survived : (life : Lived) (lives : List Lived) → AreChained (life ∷ lives) → IsSurvived life lives
survived life lives chained =
    let last : Lived = last_life life lives in let lived : IsLived last = last_lived life lives chained in let r = (recovered last lived).recovers in
    record {
      image = r.image;
      recovered = restored_of last lived;
      memory = whole_memory life lives chained r.image r.prefix;
      count = whole_count life lives chained r.image r.prefix;
      cause = λ told. caused life lives chained r.slot r.image r.found (λ clear. told (ap (λ (arm : ℕ). verdict_of arm r.image.count) clear));
    }

pub survived_behind : (lives : List Lived) (life : Lived) → AreChained (lives ++ life ∷ []) → IsSurvivedBehind lives life
survived_behind [] life chained = survived life [] chained
survived_behind (first ∷ lives) life chained = survived first (lives ++ life ∷ []) chained
