use Rattle.std.proofs.Common.{[], ◌∷◌, ◌+◌, ap, arith, length, slice_get, sym, ◌∙◌}
use Rattle.ddr4_port.proofs.Common.{IsUnused, length-append}
use Rattle.ddr4_port.proofs.Assembling.{each-more}
use Rattle.ddr4_port.proofs.making.unused_ports.Goals as goal

pub loop-number-preserved : goal.loop-number-preserved
loop-number-preserved g c =
    let did = c.push_reserved.ensures in
    let before = c.loop-number.invariant in
    let more = each-more (IsUnused (g.M.LineMap.place_of c.args.map.now) c.args.checked.now c.args.depth c.args.reads) c.loop-number.ports.items c.loop-number.number c.in_ok-port.port before.0 before.2 c.in_ok-port.ensures in
    (ap length did.items ∙ length-append c.loop-number.ports.items (c.in_ok-port.port ∷ []) ∙ ap (λ n. n + 1) before.0, omega (arith, before.1, did.capacity), λ number port there. more number port (ap (λ items. slice_get items number) (sym did.items) ∙ there))

pub returns : goal.returns
returns g c = record { count = omega (arith, c.loop-number.invariant.0, c.loop-number-test.false, c.loop-number.auto.number-end); each = c.loop-number.invariant.2 }
