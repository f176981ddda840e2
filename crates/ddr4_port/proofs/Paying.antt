-- The payments of a channel's drain: the close step's, and an entry's for each of its writes.
use Rattle.std.proofs.Common.{◌≡◌, ℕ, zero, suc, ◌+◌, ◌<◌, subst, refl, inl, inr, ◌∙◌, arith}
use Rattle.std.proofs.Math.Numerals.{add-one}
use Rattle.ddr4_port.proofs.Common.{Costs, Err, Ok, Result, replicate}
use Rattle.energy_budget.specs.declared.action.Action.TheVariants.{CloseStep, EntryStep}
use Rattle.energy_budget.specs.declared.energy.Dark.{Dark}
use Rattle.energy_budget.specs.Actions.{cost_of, drain_actions}
use Rattle.energy_budget.specs.Gauge.{Gauge, PaysCost}
use Rattle.channel_port.specs.Draining.{Paid, PaysInTurn}
use Rattle.drain_core.specs.declared.report.DrainReport.{DrainReport}
use Rattle.drain_core.specs.Paying.{AsksForActions, GrantsActions, PaysAction}

entries-paid : (costs : Costs) (n : ℕ) (old mid new : Gauge) → PaysInTurn costs (replicate n EntryStep) old (Ok tt) mid → PaysCost mid (cost_of costs EntryStep) (Ok tt) new → PaysInTurn costs (replicate (suc n) EntryStep) old (Ok tt) new
entries-paid costs zero old mid new paid pays = (new, subst (λ (g : Gauge). PaysCost g (cost_of costs EntryStep) (Ok tt) new) paid pays, refl)
entries-paid costs (suc n) old mid new paid pays = (paid.0, paid.1, entries-paid costs n paid.0 mid new paid.2 pays)

entries-refused : (costs : Costs) (n m : ℕ) (old mid : Gauge) (dark : Dark) (new : Gauge) → n < m → PaysInTurn costs (replicate n EntryStep) old (Ok tt) mid → PaysCost mid (cost_of costs EntryStep) (Err dark) new → PaysInTurn costs (replicate m EntryStep) old (Err dark) new
entries-refused costs n zero old mid dark new less paid pays = absurd (omega (arith, less))
entries-refused costs zero (suc m) old mid dark new less paid pays = inl (subst (λ (g : Gauge). PaysCost g (cost_of costs EntryStep) (Err dark) new) paid pays)
entries-refused costs (suc n) (suc m) old mid dark new less paid pays = inr (paid.0, paid.1, entries-refused costs n m paid.0 mid dark new (omega (arith, less)) paid.2 pays)

-- what a drain's result says of its payments
abbrev pub paid_by : Result DrainReport Dark → Paid
paid_by (Ok report) = Ok tt
paid_by (Err dark) = Err dark

module _ (costs : Costs) where
  -- the close step and so many entries were paid for
  granted-paid : (n : ℕ) (old new : Gauge) → GrantsActions (PaysAction costs) (suc n) old new → PaysInTurn costs (drain_actions n) old (Ok tt) new
  unfolding drain_actions
  granted-paid zero old new (mid, is, paid) = (new, subst (λ (g : Gauge). PaysCost g (cost_of costs CloseStep) (Ok tt) new) is paid, refl)
  granted-paid (suc n) old new (mid, granted, paid) =
      let h = granted-paid n old mid granted in
      (h.0, h.1, entries-paid costs n h.0 mid new h.2 paid)

  -- an action was refused
  close-refused : (m : ℕ) (old mid new : Gauge) (dark : Dark) → mid ≡ old → PaysAction costs mid CloseStep (Err dark) new → PaysInTurn costs (drain_actions m) old (Err dark) new
  unfolding drain_actions
  close-refused m old mid new dark is refused = inl (subst (λ (g : Gauge). PaysCost g (cost_of costs CloseStep) (Err dark) new) is refused)

  entry-refused : (n m : ℕ) (old mid new : Gauge) (dark : Dark) → n < m → PaysInTurn costs (drain_actions n) old (Ok tt) mid → PaysAction costs mid EntryStep (Err dark) new → PaysInTurn costs (drain_actions m) old (Err dark) new
  unfolding drain_actions
  entry-refused n m old mid new dark less h refused = inr (h.0, h.1, entries-refused costs n m h.0 mid dark new less h.2 refused)

  -- what was asked for was paid in turn
  pub asked-paid : (m granted : ℕ) (result : Result DrainReport Dark) (old new : Gauge) → AsksForActions (PaysAction costs) (m + 1) granted result old new → PaysInTurn costs (drain_actions m) old (paid_by result) new
  asked-paid m granted (Ok report) old new (all, grants) = granted-paid m old new (subst (λ n. GrantsActions (PaysAction costs) n old new) (all ∙ add-one m) grants)
  asked-paid m zero (Err dark) old new (mid, is, less, refused) = close-refused m old mid new dark is refused
  asked-paid m (suc n) (Err dark) old new (mid, grants, less, refused) = entry-refused n m old mid new dark (omega (arith, less)) (granted-paid n old mid grants) refused
