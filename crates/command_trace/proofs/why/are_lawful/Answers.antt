use Rattle.std.proofs.Common.{List, take, refl, subst, sym}
use Rattle.std.proofs.lemmas.List.{take_more}
use Rattle.auto_precharge.specs.Unfolding.{IsLawfulTrace, Stands, Unfolded, unfolded, unfolded_none}
use Rattle.auto_precharge.specs.declared.issued.Issued.{Issued}
use Rattle.auto_precharge.proofs.Settling.{follow_more, may_at, unfolded_push}
use Rattle.command_trace.proofs.why.are_lawful.Goals as goal

pub returns-then-not-follow : goal.returns-then-not-follow
returns-then-not-follow c =
    let r = c.args.rules.now in let found = c.args.found.now in let index = c.loop-next.next-index in (
      λ e. absurd cc,
      λ all. absurd (
          let may = (c.if-not-follow.ensures.tells (unfolded r.timing (take index found)) c.loop-next.invariant.stands).1
          (may_at r found index _ c.loop-next-test.true all) in cc
          ),
    )

pub loop-next-preserved : goal.loop-next-preserved
loop-next-preserved c =
    let r = c.args.rules.now in let found = c.args.found.now in let index = c.loop-next.next-index in
    let before = take index found in let behind = c.follow.new.self in
    let follow = c.if-not-follow.ensures in let stands = c.loop-next.invariant.stands in record {
      lawful = subst (λ (l : List Issued). IsLawfulTrace r l) (sym (take_more found index _ c.loop-next-test.true))
          ((follow_more r unfolded_none before _).1 (c.loop-next.invariant.lawful, (follow.tells (unfolded r.timing before) stands).0 refl));
      stands = subst (λ (l : List Issued). Stands r behind (unfolded r.timing l)) (sym (take_more found index _ c.loop-next-test.true))
          (subst (λ (u : Unfolded). Stands r behind u) (sym (unfolded_push r.timing before _)) (follow.goes (unfolded r.timing before) stands refl));
    }
