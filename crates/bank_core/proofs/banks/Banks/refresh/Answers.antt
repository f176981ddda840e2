use Rattle.std.proofs.Common.{◌≡◌, ◌<◌, true, false, refl, ap, sym, subst, ◌∙◌, arith}
use Rattle.bank_core.proofs.Common.{BanksState, FitsRows, IsInGeometry, Stamped, last_ref, rank_of}
use Rattle.ddr4_timing.proofs.Lawfulness.{lawful_ready, ready_lawful}
use Rattle.bank_core.proofs.banks.Banks.refresh.Goals as goal
use Rattle.bank_core.proofs.banks.Banks.refresh.Goals.{then-all_closed, else-all_closed}

pub returns-clause-closed : goal.returns-clause-closed
returns-clause-closed g c = rw (← c.self.view_is, ← c.timing-timing.ensures.is, ← c.geometry-geometry.ensures.is) (λ list s all. elim c.if-all_closed.branch [
  | then-all_closed w ↦ w.cmd-is
  | else-all_closed w ↦ let shut = (c.all_closed.ensures list s.ranks).1 all in absurd (let e : true ≡ false = sym shut ∙ w.if-all_closed.false in cc)
])

pub returns-clause-opened : goal.returns-clause-opened
returns-clause-opened g c = rw (← c.self.view_is, ← c.timing-timing.ensures.is, ← c.geometry-geometry.ensures.is) (λ list s some. elim c.if-all_closed.branch [
  | then-all_closed w ↦ absurd (some ((c.all_closed.ensures list s.ranks).0 w.if-all_closed.true))
  | else-all_closed w ↦ w.cmd-is
])

pub returns-clause-clock : goal.returns-clause-clock
returns-clause-clock g c = rw (← c.self.view_is, ← c.timing-timing.ensures.is, ← c.geometry-geometry.ensures.is) (λ list s. c.least_clock.ensures list s.ranks)

pub returns-clause-exact : goal.returns-clause-exact
returns-clause-exact g c =
    let within : c.args.rank < c.geometry-geometry.result.now.ranks =
    rw (c.geometry-geometry.ensures.is) (subst (λ (b : BanksState _). c.args.rank < (g.R.TimingRules.geometry b.checked).ranks) (sym c.self.view_is) c.requires) in
    rw (← c.self.view_is, ← c.timing-timing.ensures.is, ← c.geometry-geometry.ensures.is) (λ list s k.
    let t = c.timing-timing.result.now in
    let at = c.geometry-geometry.result.now in
    let x : Stamped = record { clock = k; cmd = c.if-all_closed.cmd } in
    let closed = c.all_closed.ensures list s.ranks in
    let least = c.least_clock.ensures list s.ranks in
    let (own, place, fits) : (rank_of x.cmd ≡ c.args.rank) × IsInGeometry at x.cmd × FitsRows at list x.cmd = elim c.if-all_closed.branch [
      | then-all_closed w ↦ rw w.cmd-is (refl, within, closed.0 w.if-all_closed.true)
      | else-all_closed w ↦ rw w.cmd-is (refl, within, λ all. absurd (let shut = closed.1 all in let e : true ≡ false = sym shut ∙ w.if-all_closed.false in cc))
    ] in
    let last = ap (λ r. last_ref r list) own in (
      λ h. let r = ready_lawful t at c.timing-timing.ensures.limits list x h in (rw (← own) r.rows.awake, omega (arith, least, r.clock), omega (arith, last, r.in_time)),
      λ p. lawful_ready t at list x s.lawful (record { rows = record { place = place; awake = rw own p.0; rows = fits }; clock = omega (arith, least, p.1); in_time = omega (arith, last, p.2) }),
    ))
