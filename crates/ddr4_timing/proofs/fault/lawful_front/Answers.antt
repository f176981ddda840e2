use Rattle.std.proofs.Common.{ℕ, List, take, sym, subst, arith, refl}
use Rattle.std.proofs.lemmas.List.{take_more}
use Rattle.std.proofs.lemmas.Option.{slice_get_within}
use Rattle.ddr4_timing.proofs.Common.{IsLawfulBy, Stamped, StandsFor}
use Rattle.ddr4_timing.proofs.fault.lawful_front.Goals as goal

pub loop-i-preserved : goal.loop-i-preserved
loop-i-preserved c =
    subst (λ (l : List Stamped). StandsFor c.args.rules.now.timing c.args.rules.now.geometry c.issue.new.self l) (sym (take_more c.args.list.now c.loop-i.i _ c.loop-i-test.true))
    (c.issue.ensures.after _ c.loop-i.invariant ((c.if-not-ready.ensures.exact _ c.loop-i.invariant).0 refl))

pub returns-clause-lawful : goal.returns-clause-lawful
returns-clause-lawful c = subst (λ (n : ℕ). IsLawfulBy c.args.rules.now (take n c.args.list.now)) (omega arith) c.loop-i.invariant.lawful

pub returns-then-not-ready-clause-most : goal.returns-then-not-ready-clause-most
returns-then-not-ready-clause-most c x s early h =
    let ready = (c.if-not-ready.ensures.exact _ c.loop-i.invariant).1 (subst (λ (l : List Stamped). IsLawfulBy c.args.rules.now l) (take_more c.args.list.now c.loop-i.i _ c.loop-i-test.true) h) in
    absurd cc

pub returns-clause-most : goal.returns-clause-most
returns-clause-most c x s = absurd (let l = slice_get_within c.args.list.now _ x s in omega arith)
