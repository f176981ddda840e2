use Rattle.ddr4_port.proofs.Common.{IsUnused, PortState, Some, length, slice_get, ℕ, ◌≡◌, ◌≤◌}
use Rattle.ddr4_port.proofs.making.unused_ports.Given as goal

abbrev pub invariant-loop-number : goal.invariant-loop-number
invariant-loop-number g l =
    (length l.ports.items ≡ l.number) × (l.checked.geometry.channels ≤ l.ports.cap)
    × ((number : ℕ) (port : PortState) → slice_get l.ports.items number ≡ Some port → IsUnused (g.M.LineMap.place_of l.map) l.checked l.depth l.reads number port)
