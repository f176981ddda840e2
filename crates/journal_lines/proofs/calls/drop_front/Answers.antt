use Rattle.std.proofs.Common.{◌≡◌, arith, length, rules}
use Rattle.journal_lines.proofs.calls.drop_front.Goals as goal

pub unreachable-requires : goal.unreachable-requires
unreachable-requires c =
    let none : length c.loop-place.places.items ≡ 0 = search rules in
    omega (arith, none, c.loop-place.invariant.enough, c.loop-place-test.true)
