use Rattle.std.proofs.Common.{◌≡◌, refl, ap, arith, inl, inr}
use Rattle.std.proofs.lemmas.Bool.{cases_lt}
use Rattle.frfcfs.proofs.Leads.{lead_at}
use Rattle.frfcfs.proofs.next.is_in_lead.Goals as goal

pub returns-then-lead_from-clock : goal.returns-then-lead_from-clock
returns-then-lead_from-clock c list s =
    let lead = lead_at c.args.banks.now.checked list c.loop-rank.rank c.args.clock c.lead_from.result (c.lead_from.ensures list s) in
    (λ _. (c.loop-rank.rank, omega (arith, ap (λ x. x.geometry.ranks) c.checked.ensures), lead.1 c.if-lead_from-clock.true), λ _. refl)

pub loop-rank-preserved : goal.loop-rank-preserved
loop-rank-preserved c list s rank within lead =
    elim (cases_lt rank c.loop-rank.rank) [
      | inl l ↦ c.loop-rank.invariant list s rank l lead
      | inr g ↦
          let e : rank ≡ c.loop-rank.rank = omega (arith, within, g) in
          absurd (omega (arith, (lead_at c.args.banks.now.checked list c.loop-rank.rank c.args.clock c.lead_from.result (c.lead_from.ensures list s)).0 (rw (← e) lead), c.if-lead_from-clock.false))
    ]
