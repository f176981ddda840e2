use Rattle.std.proofs.Common.{◌<◌, ◌≤◌, ℕ, arith, inl, inr, refl, subst}
use Rattle.panguhero_c.specs.Calls.{accepted_in, mark_in}
use Rattle.panguhero_c.proofs.Persisting.{by_saves, none_of}
use Rattle.panguhero_c.proofs.opened.OpenModule.persist.Goals as goal

pub returns-in-Some-told_behind : goal.returns-in-Some-told_behind
returns-in-Some-told_behind c =
    let number = c.args.number in let old = c.args.self.now.life in let between = c.save-first.new.self.life in
    let accepted : number < accepted_in old = subst (λ (n : ℕ). number < n) c.accepted-accepted.ensures (omega (arith, c.if-number-accepted.false)) in
    let above : mark_in old ≤ number = c.if_persistent.ensures.none (none_of c.if_persistent.result c.in_default.not-Some) in
    by_saves number c.in-Some-told_behind.told old between accepted above
    (record { first = c.save-first.result; between = between; saves = c.save-first.ensures; ends = inl (c.in-Some-told_behind.ensures.told, refl) })

pub returns-in-Some-told_behind-2 : goal.returns-in-Some-told_behind-2
returns-in-Some-told_behind-2 c =
    let number = c.args.number in let old = c.args.self.now.life in let between = c.save-first.new.self.life in
    let accepted : number < accepted_in old = subst (λ (n : ℕ). number < n) c.accepted-accepted.ensures (omega (arith, c.if-number-accepted.false)) in
    let above : mark_in old ≤ number = c.if_persistent.ensures.none (none_of c.if_persistent.result c.in_default.not-Some) in
    let lacks = c.told_behind.ensures.none (none_of c.told_behind.result c.in_default-told_behind.not-Some) in
    by_saves number c.in-Some-told_behind-2.told old c.save-second.new.self.life accepted above (record {
      first = c.save-first.result;
      between = between;
      saves = c.save-first.ensures;
      ends = inr (lacks.0, lacks.1, c.save-second.result, c.save-second.ensures, inl c.in-Some-told_behind-2.ensures.told);
    })

pub returns-in-None : goal.returns-in-None
returns-in-None c =
    let number = c.args.number in let old = c.args.self.now.life in let between = c.save-first.new.self.life in
    let accepted : number < accepted_in old = subst (λ (n : ℕ). number < n) c.accepted-accepted.ensures (omega (arith, c.if-number-accepted.false)) in
    let above : mark_in old ≤ number = c.if_persistent.ensures.none (none_of c.if_persistent.result c.in_default.not-Some) in
    let lacks = c.told_behind.ensures.none (none_of c.told_behind.result c.in_default-told_behind.not-Some) in
    by_saves number c.code.result old c.save-second.new.self.life accepted above (record {
      first = c.save-first.result;
      between = between;
      saves = c.save-first.ensures;
      ends = inr (lacks.0, lacks.1, c.save-second.result, c.save-second.ensures, inr c.code.ensures);
    })
