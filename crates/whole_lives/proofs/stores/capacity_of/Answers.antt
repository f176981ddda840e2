use Rattle.std.proofs.Common.{ℕ, subst, sym}
use Rattle.slot_store.specs.Slots.{IsCapacity}
use Rattle.ddr4_port.proofs.Shaping.{whole-pages}
use Rattle.whole_lives.proofs.stores.capacity_of.Goals as goal

pub returns-clause-capacity : goal.returns-clause-capacity
returns-clause-capacity c =
    let checked = c.args.checked.now in
    subst (λ (lines : ℕ). IsCapacity lines) (sym c.line_count.ensures.is)
    (record { some = checked.is_small.lines.0; most = checked.is_small.lines.1; whole = whole-pages checked.geometry checked.is_small checked.is_geometry })
