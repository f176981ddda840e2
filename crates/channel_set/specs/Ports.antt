-- Ports side by side.
use Rattle.std.specs.Prelude.{◌≡◌, ℕ, ◌≤◌, List, [], ◌∷◌, length, map, slice_get, Option, Some, None}
use Rattle.std.specs.List.{flat_map, range_with_len}
use Rattle.ddr4_timing.specs.declared.place.Place.{Place}
use Rattle.energy_budget.specs.declared.costs.Costs.{Costs}
use Rattle.channel_port.specs.declared.port.ChannelPort.{Ghosts}
use Rattle.channel_port.specs.Shape.{Shape}
use Rattle.channel_port.specs.Waits.{Waits}
use Rattle.channel_set.specs.declared.terms.PortTerms.{PortTerms}

-- some place, for want of ports
abbrev pub nowhere : Place
nowhere = record { channel = 0; rank = 0; group = 0; bank = 0; row = 0; column = 0 }

module _ {K : Type 0} (L : Ghosts K) where
  -- where each line lies, as the first port has it
  abbrev pub places_of : List K → ℕ → Place
  places_of [] = λ line. nowhere
  places_of (port ∷ ports) = (L.view port).place_of

  -- a port of this number, with these places of the lines
  pub record IsPort (terms : PortTerms) (places : ℕ → Place) (number : ℕ) (port : K) : Type 0 where
    pub number_is : (L.view port).number ≡ number
    pub checked : (L.view port).checked ≡ terms.checked
    pub lines : (L.view port).lines ≡ terms.lines
    pub places_are : (L.view port).place_of ≡ places
    pub depth : (L.view port).depth ≡ terms.depth
    pub most_reads : (L.view port).most_reads ≡ terms.most_reads
    pub hold : (L.view port).hold ≡ terms.hold

  -- ports of the numbers from 0 on with the same places of the lines
  pub record ArePorts (terms : PortTerms) (ports : List K) : Type 0 where
    pub each : (number : ℕ) (port : K) → slice_get ports number ≡ Some port → IsPort terms (places_of ports) number port
    pub few : length ports ≤ 8

  -- what doesn't change of them
  abbrev pub shape_with : PortTerms → Costs → List K → Shape
  shape_with terms costs ports = record {
    lines = terms.lines;
    channels = length ports;
    channel_of = λ line. (places_of ports line).channel;
    depth = terms.depth;
    reads = terms.most_reads;
    costs = costs;
  }

  -- what waits in all of them, and all their tickets
  abbrev pub waits_in : List K → Waits
  waits_in ports = record {
    writes = flat_map (λ port. (L.view port).waits.writes) ports;
    reads = flat_map (λ port. (L.view port).waits.reads) ports;
    given = flat_map (λ port. (L.view port).waits.given) ports;
  }

  -- a line in the array of its port
  abbrev pub stored_by : ℕ → Option K → List ℕ
  stored_by line None = []
  stored_by line (Some port) = (L.view port).stored line

  abbrev pub stored_in : List K → ℕ → List ℕ
  stored_in ports line = stored_by line (slice_get ports (places_of ports line).channel)

  -- the lines of the arrays, in line order
  abbrev pub array_of : List K → ℕ → List (List ℕ)
  array_of ports lines = map (stored_in ports) (range_with_len 0 lines)
