-- The ports of a memory, side by side.
use Rattle.std.proofs.Common.{All, ◌≡◌, ◌<◌, ℕ, zero, suc, List, [], ◌∷◌, ◌++◌, length, slice_get, slice_index_or, Some, None, inl, inr, refl, sym, ap, subst, ◌∙◌, arith}
use Rattle.std.specs.List.{flat_map}
use Rattle.ddr4_port.proofs.Common.{BeginsWith, Carries, ChannelState, Checked, Costs, IsInterleaving, Place}
use Rattle.ddr4_port.proofs.Common.{PortState, SendsOnly, drained_port, appended, lines_of, listed_place, nothing, places_by}
use Rattle.ddr4_port.proofs.Common.{port_view, shape_over, waits_of}
use Rattle.drain_core.specs.Steps.{spent_by}
use Rattle.channel_port.specs.declared.port.ChannelPort.{Ghosts}
use Rattle.channel_set.specs.Ports.{ArePorts, places_of, shape_with, waits_in}
use Rattle.channel_set.specs.declared.terms.PortTerms.{PortTerms}
use Rattle.channel_set.proofs.Counted.{same-waits}

-- what contracts see of a port
abbrev pub over : Ghosts PortState
over = record {
  view = port_view;
  carries = λ port. Carries (listed_place port.places) port.channel;
  issued = λ port. port.channel.commands;
  next_command = λ port. SendsOnly port.channel;
  drain_cost = λ port numbers. spent_by numbers port.channel;
  drained = drained_port;
}

pub whole-lines : (memory : List (List ℕ)) → ((i : ℕ) → i < length memory → length (slice_index_or memory i []) ≡ 64) → All (λ line. length line ≡ 64) memory
whole-lines [] told k d less = absurd (omega (arith, less))
whole-lines (x ∷ memory) told zero d less = told zero (omega arith)
whole-lines (x ∷ memory) told (suc k) d less = whole-lines memory (λ i within. told (suc i) (omega (arith, within))) k d (omega (arith, less))

-- one after another, so many ports begin with the memory
abbrev pub BeginWith : (ℕ → Place) → Checked → List (List ℕ) → ℕ → ℕ → List PortState → Type 0
BeginWith f checked memory depth reads ports = (number : ℕ) (port : PortState) → slice_get ports number ≡ Some port → BeginsWith f checked memory depth reads number port

-- one more of which this is so
pub each-more : (Is : ℕ → PortState → Type 0) (ports : List PortState) (number : ℕ) (port : PortState) → length ports ≡ number → ((number : ℕ) (port : PortState) → slice_get ports number ≡ Some port → Is number port) → Is number port
    → (k : ℕ) (other : PortState) → slice_get (ports ++ port ∷ []) k ≡ Some other → Is k other
each-more Is ports number port count each next k other there = elim (appended ports port k other there).is [
  | inl old ↦ each k other old
  | inr last ↦ subst (Is k) last.1 (subst (λ n. Is n port) (sym count ∙ sym last.0) next)
]

none-in : {A : Type 0} (of : PortState → List A) (ports : List PortState) → ((number : ℕ) (port : PortState) → slice_get ports number ≡ Some port → of port ≡ []) → flat_map of ports ≡ []
none-in of [] none = refl
none-in of (port ∷ ports) none = ap (λ xs. xs ++ flat_map of ports) (none zero port refl) ∙ none-in of ports (λ number other there. none (suc number) other there)

module _ (f : ℕ → Place) (checked : Checked) (memory : List (List ℕ)) (depth reads : ℕ) (ports : List PortState) (begin : BeginWith f checked memory depth reads ports) where
  abbrev terms : PortTerms
  terms = record { checked = checked; lines = length memory; depth = depth; most_reads = reads; hold = None }

  pub nothing-waits : waits_in over ports ≡ nothing
  nothing-waits =
      same-waits
      (none-in (λ port. (waits_of port.channel).writes) ports (λ number port there. ap (λ (s : ChannelState). (waits_of s).writes) (begin number port there).fresh))
      (none-in (λ port. (waits_of port.channel).reads) ports (λ number port there. ap (λ (s : ChannelState). (waits_of s).reads) (begin number port there).fresh))
      (none-in (λ port. (waits_of port.channel).given) ports (λ number port there. ap (λ (s : ChannelState). (waits_of s).given) (begin number port there).fresh))

  module _ (lines : length memory ≡ lines_of checked.geometry) (count : length ports ≡ checked.geometry.channels) (map : IsInterleaving checked.geometry f) where
    places-are : places_of over ports ≡ listed_place (places_by f checked.geometry)
    places-are = first ports begin count
      where
        first : (ports : List PortState) → BeginWith f checked memory depth reads ports → length ports ≡ checked.geometry.channels → places_of over ports ≡ listed_place (places_by f checked.geometry)
        first [] begin none = let some = (map.lies_in 0 (omega (arith, checked.is_small.lines.0))).channel in absurd (omega (arith, some, none))
        first (port ∷ ports) begin count = ap listed_place (begin 0 port refl).places

    pub are-ports : ArePorts over terms ports
    are-ports = record {
      each = λ number port there. let is = begin number port there in record {
        number_is = ap (λ (s : ChannelState). s.channel) is.fresh;
        checked = ap (λ (s : ChannelState). s.checked) is.fresh;
        lines = ap (λ (s : ChannelState). lines_of s.checked.geometry) is.fresh ∙ sym lines;
        places_are = ap listed_place is.places ∙ sym places-are;
        depth = ap (λ (s : ChannelState). s.depth) is.fresh;
        most_reads = ap (λ (s : ChannelState). s.most_reads) is.fresh;
        hold = ap (λ (s : ChannelState). s.hold) is.fresh;
      };
      few = omega (arith, count, checked.is_small.channels);
    }

    pub has-shape : (costs : Costs) → shape_with over terms costs ports ≡ shape_over f checked depth reads costs
    has-shape costs =
        ap (λ (n : ℕ). record (shape_with over terms costs ports) { lines = n }) lines
        ∙ ap (λ (n : ℕ). record (shape_with over terms costs ports) { lines = lines_of checked.geometry; channels = n }) count
        ∙ ap (λ (places : ℕ → Place). record (shape_over f checked depth reads costs) { channel_of = λ line. (places line).channel }) places-are
