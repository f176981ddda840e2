-- What the channels issued, by what one of them did or each.
use Rattle.channel_port.specs.Issuing.{with_issued}
use Rattle.ddr4_timing.specs.declared.command.Stamped.{Stamped}
use Rattle.channel_set.specs.Issuing.{IssuesOn, with_issued_on}
use Rattle.channel_set.proofs.Common.{◌≡◌, ℕ, zero, suc, refl, sym, ap, ◌∙◌, List, [], ◌∷◌, ◌++◌, map, slice_get, slice_set, Option, Some, None, AllZip, same_Some, Ghosts, ChannelSet}
use Rattle.channel_set.proofs.Lists.{get-set_other}

-- one element has changed, whose list has this command more, or none
set-lists : {K : Type 0} (f : K → List Stamped) (ports : List K) (i : ℕ) (p q : K) (command : Option Stamped) → slice_get ports i ≡ Some p → f q ≡ with_issued command (f p) → map f (slice_set ports i q) ≡ with_issued_on i command (map f ports)
set-lists f [] i p q None at more = refl
set-lists f [] i p q (Some command) at more = refl
set-lists f (x ∷ ports) zero p q None at more = ap (λ list. list ∷ map f ports) (more ∙ ap f (sym (same_Some x p at)))
set-lists f (x ∷ ports) zero p q (Some command) at more = ap (λ list. list ∷ map f ports) (more ∙ ap (λ z. f z ++ command ∷ []) (sym (same_Some x p at)))
set-lists f (x ∷ ports) (suc i) p q None at more = ap (λ lists. f x ∷ lists) (set-lists f ports i p q None at more)
set-lists f (x ∷ ports) (suc i) p q (Some command) at more = ap (λ lists. f x ∷ lists) (set-lists f ports i p q (Some command) at more)

-- the lists stay
pub same-lists : {K : Type 0} (f : K → List Stamped) (old new : List K) → AllZip (λ p q. f q ≡ f p) old new → map f new ≡ map f old
same-lists f [] [] zip = refl
same-lists f [] (q ∷ new) zip = absurd zip
same-lists f (p ∷ old) [] zip = absurd zip
same-lists f (p ∷ old) (q ∷ new) zip = ap (λ list. list ∷ map f new) zip.0 ∙ ap (λ lists. f p ∷ lists) (same-lists f old new zip.1)

module _ {K : Type 0} (L : Ghosts K) where
  -- one port has changed
  pub issues-set : (old new : ChannelSet K L) (i : ℕ) (p q : K) (command : Option Stamped) → new.terms.checked ≡ old.terms.checked → new.ports.items ≡ slice_set old.ports.items i q → slice_get old.ports.items i ≡ Some p → L.issued q ≡ with_issued command (L.issued p) → IssuesOn L i command old new
  issues-set old new i p q command checked is at more = record {
    checked = checked;
    lists = ap (map L.issued) is ∙ set-lists L.issued old.ports.items i p q command at more;
    others = λ other apart. ap (λ ports. slice_get ports other) is ∙ get-set_other old.ports.items i other q apart;
  }
