-- Closures that compute inverse functions are inverse.
use Rattle.std.proofs.Common.{◌≡◌, ℕ, ◌<◌, subst, ◌∙◌}
use Rattle.ddr4_timing.specs.declared.timing.Geometry.{Geometry}
use Rattle.ddr4_timing.specs.declared.place.Place.{Place}
use Rattle.ddr4_timing.specs.declared.timing.Checked.{Checked}
use Rattle.ddr4_timing.specs.Limits.{lines_of}
use Rattle.ddr4_timing.specs.Places.{LiesIn}
use Rattle.interleave_map.specs.declared.ready.Interleaving.{Interleaving}
use Rattle.interleave_map.specs.Ready.{place_by, line_by}
use Rattle.interleave_map.specs.Inverse.{IsInverse, AreInverse}
use Rattle.interleave_map.proofs.ReadyMaps.{ready_is_inverse}

-- where P holds, a closure may be called, and gives the function's value alone
pub record Computes {A B : Type 0} (P : A → Type 0) (can_call : A → Type 0) (gives : A → B → Type 0) (f : A → B) : Type 0 where
  pub callable : (a : A) → P a → can_call a
  pub value : (a : A) → P a → gives a (f a)
  pub only : (a : A) (b : B) → P a → gives a b → b ≡ f a

module _ {can_split : ℕ → Type 0} {splits : ℕ → Place → Type 0} {can_join : Place → Type 0} {joins : Place → ℕ → Type 0} where
  pub inverse_closures : (g : Geometry) (split : ℕ → Place) (join : Place → ℕ) → IsInverse g split join
      → Computes (λ line. line < lines_of g) can_split splits split → Computes (LiesIn g) can_join joins join
      → AreInverse g split can_split splits can_join joins
  inverse_closures g split join inverse splitting joining =
      record {
        callable = splitting.callable;
        place = splitting.only;
        lies_in = inverse.lies_in;
        callable_back = λ line below. joining.callable (split line) (inverse.lies_in line below);
        line = λ line below. subst (joins (split line)) (inverse.back line below) (joining.value (split line) (inverse.lies_in line below));
        back = λ line back below joined. joining.only (split line) back (inverse.lies_in line below) joined ∙ inverse.back line below;
      }

  -- closures that compute a ready-made map
  pub closures_by_ready : (checked : Checked) (interleaving : Interleaving) → let g = checked.geometry in
      Computes (λ line. line < lines_of g) can_split splits (place_by interleaving g) → Computes (LiesIn g) can_join joins (line_by interleaving g)
      → AreInverse g (place_by interleaving g) can_split splits can_join joins
  closures_by_ready checked interleaving = inverse_closures checked.geometry (place_by interleaving checked.geometry) (line_by interleaving checked.geometry) (ready_is_inverse checked interleaving)
