-- The ports come back to their channels, from the last one on.
use Rattle.std.proofs.Common.{List, Option, [], ap, arith, length, refl, subst, suc, sym, take, zero, ℕ, ⊎_elim, ◌+◌, ◌<◌, ◌∙◌, ◌∷◌, ◌≡◌, ◌≢◌, ◌≤◌}
use Rattle.std.proofs.Math.Logic.{∥∥₁_map}
use Rattle.std.specs.Prelude.{Bool, slice_get, slice_index_or, slice_set}
use Rattle.std.proofs.lemmas.Bool.{cases_eq}
use Rattle.std.proofs.lemmas.List.{get_or-set_other, get_or-set_same, length-set}
use Rattle.channel_locks.specs.declared.parts_name.PartsName.{Ghosts as PartsGhosts}
use Rattle.channel_log.specs.Log.{IsLogOf, LogNote, credits_of, log_tells}
use Rattle.channel_port.specs.declared.port.ChannelPort.{Ghosts}
use Rattle.board_desk.specs.Loans.{AllComeBack, AreRestated, ComesBack, HaveBack, IsLent, restated, waits_of_port}

get_taken : {X : Type 0} (n : ℕ) (xs : List X) (i : ℕ) → i < n → slice_get (take n xs) i ≡ slice_get xs i
get_taken zero xs i less = absurd (omega (arith, less))
get_taken (suc n) [] i less = refl
get_taken (suc n) (x ∷ xs) zero less = refl
get_taken (suc n) (x ∷ xs) (suc i) less = get_taken n xs i (omega (arith, less))

module _ {K : Type 0} (L : Ghosts K) (hold : Option ℕ) (ended : Bool) (ports : List K) (first : List (List LogNote)) where
  abbrev Back : ℕ → List K → List (List LogNote) → Type 0
  Back number left known = HaveBack L hold ended ports first number left known

  pub none_back : (number : ℕ) → length first ≤ number → Back number ports first
  none_back number all = record {
    lent = λ i less. refl;
    size = refl;
    told = λ channel least less. absurd (omega (arith, all, least, less));
    few = λ channel least less. absurd (omega (arith, all, least, less));
    others = λ channel less. refl;
  }

  pub one_back : (number : ℕ) (left more : List K) (known later : List (List LogNote)) (old new : List LogNote) → Back (number + 1) left known → more ≡ take number left → later ≡ slice_set known number new
      → IsLogOf first number old → log_tells new ≡ restated hold ended (waits_of_port L (slice_get left number)) (log_tells old) → credits_of new ≤ 64 → Back number more later
  one_back number left more known later old new back taken set of told few = record {
    lent = λ i less. ap (λ (xs : List K). slice_get xs i) taken ∙ get_taken number left i less ∙ back.lent i (omega (arith, less));
    size = ap length set ∙ length-set known number new ∙ back.size;
    told = λ channel least less. at
        (λ (xs : List LogNote). log_tells xs ≡ restated hold ended (waits_of_port L (slice_get ports channel)) (log_tells (slice_index_or first channel []))) channel least
        (λ same. told ∙ ap (λ (o : Option K). restated hold ended (waits_of_port L o) (log_tells old)) (back.lent number (omega arith)) ∙ ap (λ (l : List LogNote). restated hold ended (waits_of_port L (slice_get ports number)) (log_tells l)) (sym of.same)
        ∙ ap (λ k. restated hold ended (waits_of_port L (slice_get ports k)) (log_tells (slice_index_or first k []))) same)
        (λ more. back.told channel more less);
    few = λ channel least less. at (λ (xs : List LogNote). credits_of xs ≤ 64) channel least (λ same. few) (λ more. back.few channel more less);
    others = λ channel less. ap (λ (ls : List (List LogNote)). slice_index_or ls channel []) set
        ∙ get_or-set_other known number channel new [] (λ e. absurd (omega (arith, e, less))) ∙ back.others channel (omega (arith, less));
  }
    where
      there : number < length known
      there = (let size = back.size in let within = of.there in omega (arith, size, within))

      at : (Q : List LogNote → Type 0) (channel : ℕ) → number ≤ channel → (number ≡ channel → Q new) → (number + 1 ≤ channel → Q (slice_index_or known channel [])) → Q (slice_index_or later channel [])
      at Q channel least here else = ⊎_elim
          (λ (same : number ≡ channel).
          subst Q (sym (ap (λ (ls : List (List LogNote)). slice_index_or ls channel []) set ∙ ap (λ k. slice_index_or (slice_set known number new) k []) (sym same) ∙ get_or-set_same known number new [] there)) (here same))
          (λ (apart : number ≢ channel).
          subst Q (sym (ap (λ (ls : List (List LogNote)). slice_index_or ls channel []) set ∙ get_or-set_other known number channel new [] (λ e. apart (sym e)))) (else (omega (arith, least, apart))))
          (cases_eq number channel)

  pub all_back : (left : List K) (known : List (List LogNote)) → Back 0 left known → AreRestated L hold ended ports first known
  all_back left known back = record {
    size = back.size;
    told = λ channel less. back.told channel (omega arith) less;
    few = λ channel less. back.few channel (omega arith) less;
  }

  module _ {B : Type 0} (P : PartsGhosts B) where
    pub comes_due : (number : ℕ) (left : List K) (log : List LogNote) → ∥ AllComeBack L P hold ended first ports ∥₁ → IsLogOf first number log → slice_get left number ≡ slice_get ports number
        → ∥ ComesBack L P hold ended number (log_tells log) left ∥₁
    comes_due number left log due of same =
        ∥∥₁_map due (λ comes port at. subst (λ (l : List LogNote). IsLent L P (restated hold ended (L.view port).waits (log_tells l)) number port) of.same (comes number port (sym same ∙ at)))
