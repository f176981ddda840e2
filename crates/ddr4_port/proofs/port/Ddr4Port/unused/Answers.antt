use Rattle.std.proofs.Common.{[], ap, length, refl, ◌∙◌}
use Rattle.line_memory.proofs.MemoryLaws.{zero_lines-IsMemory}
use Rattle.line_memory.specs.Memory.{zero_lines}
use Rattle.interleave_map.specs.Cells.{cells_of}
use Rattle.ddr4_port.proofs.Common.{ChannelState, places_by}
use Rattle.ddr4_port.proofs.Beginning.{begins-right, fresh-fills, fresh-made}
use Rattle.ddr4_port.proofs.port.Ddr4Port.unused.Goals as goal

pub invariant_of-result : goal.invariant_of-result
invariant_of-result g c =
    let f = g.M.LineMap.place_of c.args.map.now in
    let k = c.args.checked.now in
    let made = rw (← c.in_ok-new.ensures.ok) at c.in_ok-channel.ensures in
    let size = ap (λ (s : ChannelState). length s.array) made ∙ (zero_lines-IsMemory (cells_of k.geometry)).size in
    let fresh = fresh-made k c.args.number c.args.depth c.args.reads (zero_lines (cells_of k.geometry)) c.in_ok-new.field-0.value made in
    begins-right f k c.args.number c.args.depth c.args.reads [] (g.M.LineMap.geometry_of c.args.map.now) c.requires.geometry c.interleaves.ensures 0 c.in_ok-new.field-0.value
    (fresh-fills f k c.args.number c.args.depth c.args.reads c.in_ok-new.field-0.value fresh size) (g.M.LineMap.is_lawful c.args.map.now) c.requires.lawful (rw (← c.in_ok-new.ensures.ok) at c.always.ensures)

pub returns : goal.returns
returns g c =
    let f = g.M.LineMap.place_of c.args.map.now in
    let k = c.args.checked.now in
    let made = rw (← c.in_ok-new.ensures.ok) at c.in_ok-channel.ensures in
    record {
      fresh = fresh-made k c.args.number c.args.depth c.args.reads (zero_lines (cells_of k.geometry)) c.in_ok-new.field-0.value made;
      stage = refl;
      places = ap (λ (s : ChannelState). places_by f s.checked.geometry) made;
      size = ap (λ (s : ChannelState). length s.array) made ∙ (zero_lines-IsMemory (cells_of k.geometry)).size;
    }
