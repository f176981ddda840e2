use Rattle.std.proofs.Common.{◌∙◌, arith, sym}
use Rattle.std.proofs.lemmas.Iterator.Adapters.{YieldsList-from_vec}
use Rattle.std.proofs.lemmas.Iterator.Consumers.{YieldsList-end}
use Rattle.std.proofs.lemmas.List.{map-id}
use Rattle.tests_workers.proofs.ahead.noted_ports.Goals as goal

pub returns : goal.returns
returns g c =
    let gives = c.into_iter-port-iterator.ensures.into_iter_gives in
    let whole = YieldsList-end (YieldsList-from_vec c.args.ports.items gives.0 (omega (arith, gives.1, c.args.ports.ok))) c.loop-port.yielded c.loop-port.port-iterator c.loop-port.yielded_by c.next.result c.next.new.self c.in-None.is c.next.ensures.steps in
    c.loop-port.invariant ∙ sym (map-id c.loop-port.yielded) ∙ whole.0
