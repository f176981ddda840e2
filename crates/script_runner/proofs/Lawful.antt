-- What a script tells keeps the timing rules.
use Rattle.std.proofs.Common.{◌≡◌, ℕ, ◌<◌, zero, suc, List, [], ◌∷◌, Option, Some, None, length, map, refl, slice_get, sym, subst, arith}
use Rattle.std.specs.Prelude.{slice_index_or}
use Rattle.ddr4_timing.specs.Lawful.{IsLawful}
use Rattle.ddr4_timing.specs.declared.command.Stamped.{Stamped}
use Rattle.ddr4_timing.specs.declared.timing.Checked.{Checked}
use Rattle.nv_session.specs.declared.wires.Wires as wires
use Rattle.script_runner.specs.Issued.{TellsLawfully, answers_in, issues_told}
use Rattle.script_runner.proofs.Common.{Ghosts, Module}
use Rattle.script_runner.proofs.Issued.{tells_its_lists}

-- the list of a channel that is there
pub record ListAt {K : Type 0} (f : K → List Stamped) (ports : List K) (channel : ℕ) : Type 0 where
  pub port : K
  pub stands : slice_get ports channel ≡ Some port
  pub is : slice_index_or (map f ports) channel [] ≡ f port

pub list-at : {K : Type 0} (f : K → List Stamped) (ports : List K) (channel : ℕ) → channel < length ports → ListAt f ports channel
list-at f [] channel less = absurd (omega (arith, less))
list-at f (port ∷ ports) zero less = record { port = port; stands = refl; is = refl }
list-at f (port ∷ ports) (suc channel) less = let rest = list-at f ports channel (omega (arith, less)) in record { port = rest.port; stands = rest.stands; is = rest.is }

-- what is lawful of each port is so of the lists
pub each_lawful : {K : Type 0} (f : K → List Stamped) (checked : Checked) (ports : List K)
    → ((number : ℕ) (port : K) → number < length ports → slice_get ports number ≡ Some port → IsLawful checked (f port))
    → (channel : ℕ) → channel < length ports → IsLawful checked (slice_index_or (map f ports) channel [])
each_lawful f checked ports rules channel less =
    let at = list-at f ports channel less in subst (λ (list : List Stamped). IsLawful checked list) (sym at.is) (rules channel at.port less at.stands)

module _ {K A : Type 0} {L : Ghosts K} {W : wires.Ghosts A K} where
  pub tells_lawfully : TellsLawfully K A L W
  tells_lawfully story rest first last whole does rules runs channel less = by_life last.life refl
    where
      by_life : (life : Option (Module K L)) → last.life ≡ life → IsLawful last.profile.checked (issues_told channel (answers_in rest))
      by_life None is = absurd (runs is)
      by_life (Some it) is =
          let all = tells_its_lists story rest first last whole does it is in
          let few : channel < length it.channels.ports.items = omega (arith, less, (last.living.fits it is).channels) in
          subst (λ (k : Checked). IsLawful k (issues_told channel (answers_in rest))) all.checked (subst (λ (list : List Stamped). IsLawful it.channels.terms.checked list) (all.lists channel few) (rules it is channel few))
