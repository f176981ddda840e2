use Rattle.std.proofs.Common.{◌≡◌, ◌∙◌, ◌+◌, ◌-◌, ◌≤◌, ℕ, List, ap, arith, length, rules, sym, take}
use Rattle.line_memory.specs.Memory.{after}
use Rattle.line_memory.proofs.Moving.{one_less, one_off, none_left, none_off, same_record}
use Rattle.line_memory.proofs.history.History.cut.Goals as goal

pub loop-number-init : goal.loop-number-init
loop-number-init c = search rules

pub unreachable-requires : goal.unreachable-requires
unreachable-requires c =
    let none : length c.loop-number.self-inside.writes.items ≡ 0 = search rules in
    omega (arith, none, c.loop-number.invariant.enough, c.loop-number-test.true)

pub loop-number-preserved : goal.loop-number-preserved
loop-number-preserved c =
    let first = c.in-Some.ensures.items in
    let long = ap length first in
    record {
      memory = ap (λ (m : List (List ℕ)). after m (take (c.args.at - (c.loop-number._number + 1)) c.pop_front.new.self.items)) c.put.ensures
          ∙ sym (one_less c.args.at c.loop-number._number c.loop-number.self-inside.base.items c.in-Some.write _ _ c.loop-number-test.true first)
          ∙ c.loop-number.invariant.memory;
      rest = sym (one_off c.args.at c.loop-number._number c.in-Some.write _ _ c.loop-number-test.true first) ∙ c.loop-number.invariant.rest;
      enough = omega (arith, long, c.loop-number.invariant.enough, c.loop-number-test.true);
      room = c.loop-number.invariant.room;
      within = omega (arith, c.loop-number.invariant.within, c.in-Some.ensures.len);
      reserved = omega (arith, c.loop-number.invariant.reserved, c.in-Some.ensures.capacity);
    }

pub invariant_of-self : goal.invariant_of-self
invariant_of-self c = (c.loop-number.invariant.within, c.loop-number.invariant.reserved)

pub returns : goal.returns
returns c =
    let done : c.args.at ≤ c.loop-number._number = c.loop-number-test.false in
    same_record _ _ c.args.at _ _ _ _
    (sym (none_left c.args.at c.loop-number._number c.loop-number.self-inside.base.items c.loop-number.self-inside.writes.items done) ∙ c.loop-number.invariant.memory)
    (sym (none_off c.args.at c.loop-number._number c.loop-number.self-inside.writes.items done) ∙ c.loop-number.invariant.rest)
    c.loop-number.invariant.room
