use Rattle.std.proofs.Common.{◌+◌, ◌<◌, ap, arith, refl, slice_get, slice_set, subst, sym, ◌∙◌}
use Rattle.ddr4_port.proofs.Common.{ChannelState, IsInterleaving, Place, PortState, line_of, lines_of, loaded_at}
use Rattle.channel_port.specs.Shape.{IsShape}
use Rattle.channel_set.specs.declared.terms.PortTerms.{PortTerms}
use Rattle.ddr4_port.proofs.Assembling.{are-ports, has-shape, nothing-waits, whole-lines}
use Rattle.ddr4_port.proofs.Beginning.{AreFilled, all-begin, load-quiet, may-load, none-filled, one-more, port-there}
use Rattle.ddr4_port.proofs.Shaping.{is-shape}
use Rattle.ddr4_port.proofs.making.channels_with_memory.Goals as goal

pub loop-line-init : goal.loop-line-init
loop-line-init g c = none-filled (g.M.LineMap.place_of c.args.map.now) c.args.checked.now c.args.depth c.args.reads c.args.memory.now c.in_ok-ports.ports.items c.in_ok-ports.ensures

pub load-requires-clause-place : goal.load-requires-clause-place
load-requires-clause-place g c =
    let f = g.M.LineMap.place_of c.args.map.now in
    let k = c.args.checked.now in
    let map = subst (λ q. IsInterleaving q f) c.requires.geometry c.interleaves.ensures in
    let less : c.loop-line.line < lines_of k.geometry = omega (arith, c.loop-line-test.true, c.requires.lines) in
    let ports = c.loop-line.ports.items in
    let at = port-there f k c.args.depth c.args.reads c.args.memory.now map c.loop-line.line ports c.loop-line.invariant less c.place-place.result c.index_mut.result.now c.place-place.ensures c.index_mut.ensures.value in
    rw (c.place-place.ensures) (may-load f k c.args.depth c.args.reads c.args.memory.now map c.loop-line.line ports c.loop-line.invariant less c.index_mut.result.now at)

pub load-requires-clause-quiet : goal.load-requires-clause-quiet
load-requires-clause-quiet g c =
    let f = g.M.LineMap.place_of c.args.map.now in
    let k = c.args.checked.now in
    let map = subst (λ q. IsInterleaving q f) c.requires.geometry c.interleaves.ensures in
    let less : c.loop-line.line < lines_of k.geometry = omega (arith, c.loop-line-test.true, c.requires.lines) in
    let ports = c.loop-line.ports.items in
    let at = port-there f k c.args.depth c.args.reads c.args.memory.now map c.loop-line.line ports c.loop-line.invariant less c.place-place.result c.index_mut.result.now c.place-place.ensures c.index_mut.ensures.value in
    load-quiet f k c.args.depth c.args.reads c.args.memory.now map c.loop-line.line ports c.loop-line.invariant less c.index_mut.result.now at

pub loop-line-preserved : goal.loop-line-preserved
loop-line-preserved g c =
    let f = g.M.LineMap.place_of c.args.map.now in
    let k = c.args.checked.now in
    let map = subst (λ q. IsInterleaving q f) c.requires.geometry c.interleaves.ensures in
    let less : c.loop-line.line < lines_of k.geometry = omega (arith, c.loop-line-test.true, c.requires.lines) in
    let ports = c.loop-line.ports.items in
    let at = port-there f k c.args.depth c.args.reads c.args.memory.now map c.loop-line.line ports c.loop-line.invariant less c.place-place.result c.index_mut.result.now c.place-place.ensures c.index_mut.ensures.value in
    let p = c.index_mut.result.now in
    let n = c.loop-line.line in
    let bytes = line_of c.args.memory.now n in
    let loaded = c.load.ensures ∙ ap (λ (place : Place). record p { channel = loaded_at p.channel place bytes }) c.place-place.ensures in
    let more = one-more f k c.args.depth c.args.reads c.args.memory.now map n ports c.loop-line.invariant less p at bytes refl in
    subst (λ (place : Place). AreFilled f k c.args.depth c.args.reads c.args.memory.now (n + 1) (slice_set ports place.channel c.load.new.self)) (sym c.place-place.ensures)
    (subst (λ (q : PortState). AreFilled f k c.args.depth c.args.reads c.args.memory.now (n + 1) (slice_set ports (f n).channel q)) (sym loaded) more)

pub new-requires-clause-ports : goal.new-requires-clause-ports
new-requires-clause-ports g c =
    let f = g.M.LineMap.place_of c.args.map.now in
    let now = c.loop-line.invariant in
    let map = subst (λ q. IsInterleaving q f) c.requires.geometry c.interleaves.ensures in
    let begin = all-begin f c.args.checked.now c.args.depth c.args.reads c.args.memory.now map c.requires.lines c.loop-line.line c.loop-line-test.false c.loop-line.ports.items now in
    are-ports f c.args.checked.now c.args.memory.now c.args.depth c.args.reads c.loop-line.ports.items begin c.requires.lines now.count map

pub new-requires-clause-shape : goal.new-requires-clause-shape
new-requires-clause-shape g c =
    let f = g.M.LineMap.place_of c.args.map.now in
    let now = c.loop-line.invariant in
    let map = subst (λ q. IsInterleaving q f) c.requires.geometry c.interleaves.ensures in
    let begin = all-begin f c.args.checked.now c.args.depth c.args.reads c.args.memory.now map c.requires.lines c.loop-line.line c.loop-line-test.false c.loop-line.ports.items now in
    let has = has-shape f c.args.checked.now c.args.memory.now c.args.depth c.args.reads c.loop-line.ports.items begin c.requires.lines now.count map c.args.costs in
    subst IsShape (sym has) (is-shape f c.args.checked.now c.args.depth c.args.reads c.args.costs c.requires.costs map)

pub returns-clause-shape : goal.returns-clause-shape
returns-clause-shape g c =
    let f = g.M.LineMap.place_of c.args.map.now in
    let now = c.loop-line.invariant in
    let map = subst (λ q. IsInterleaving q f) c.requires.geometry c.interleaves.ensures in
    let begin = all-begin f c.args.checked.now c.args.depth c.args.reads c.args.memory.now map c.requires.lines c.loop-line.line c.loop-line-test.false c.loop-line.ports.items now in
    let has = has-shape f c.args.checked.now c.args.memory.now c.args.depth c.args.reads c.loop-line.ports.items begin c.requires.lines now.count map c.args.costs in
    c.new.ensures.shape ∙ has

pub returns-clause-waits : goal.returns-clause-waits
returns-clause-waits g c =
    let f = g.M.LineMap.place_of c.args.map.now in
    let map = subst (λ q. IsInterleaving q f) c.requires.geometry c.interleaves.ensures in
    let begin = all-begin f c.args.checked.now c.args.depth c.args.reads c.args.memory.now map c.requires.lines c.loop-line.line c.loop-line-test.false c.loop-line.ports.items c.loop-line.invariant in
    c.new.ensures.waits ∙ nothing-waits f c.args.checked.now c.args.memory.now c.args.depth c.args.reads c.loop-line.ports.items begin

pub returns-clause-mains : goal.returns-clause-mains
returns-clause-mains g c = c.new.ensures.mains (λ number port there. (c.loop-line.invariant.each number port there).unused.stage)

pub returns-clause-checked : goal.returns-clause-checked
returns-clause-checked g c = ap (λ (t : PortTerms). t.checked) c.new.ensures.terms

pub returns-clause-issued : goal.returns-clause-issued
returns-clause-issued g c number port there = ap (λ (s : ChannelState). s.commands) (c.loop-line.invariant.each number port (ap (λ ports. slice_get ports.items number) (sym c.new.ensures.ports) ∙ there)).unused.fresh

pub returns-clause-carries : goal.returns-clause-carries
returns-clause-carries g c start =
    let f = g.M.LineMap.place_of c.args.map.now in
    let map = subst (λ q. IsInterleaving q f) c.requires.geometry c.interleaves.ensures in
    let begin = all-begin f c.args.checked.now c.args.depth c.args.reads c.args.memory.now map c.requires.lines c.loop-line.line c.loop-line-test.false c.loop-line.ports.items c.loop-line.invariant in
    let empty = nothing-waits f c.args.checked.now c.args.memory.now c.args.depth c.args.reads c.loop-line.ports.items begin in
    c.new.ensures.carries c.args.memory.now start (record { size = refl; whole = whole-lines c.args.memory.now c.told-memory }) empty (λ number port there. (begin number port there).carries)
