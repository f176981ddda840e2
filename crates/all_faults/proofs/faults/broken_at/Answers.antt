use Rattle.std.proofs.Common.{arith, refl, inl}
use Rattle.ddr4_timing.proofs.Faults.{ObeysRule-alone}
use Rattle.all_faults.proofs.FaultLemmas.{refresh_least, refresh_none}
use Rattle.all_faults.proofs.faults.broken_at.Goals as goal

pub returns-then-keeps_rows-clause-none : goal.returns-then-keeps_rows-clause-none
returns-then-keeps_rows-clause-none c asked k = ObeysRule-alone _ _ _ _ _ k (inl c.in-Rows.is) (λ _ _. (c.if-keeps_rows.ensures _ c.requires.left).0 refl) (λ e. absurd cc)

pub returns-else-keeps_rows-clause-least : goal.returns-else-keeps_rows-clause-least
returns-else-keeps_rows-clause-least c k h = ObeysRule-alone _ _ _ _ _ k (inl c.in-Rows.is) (λ _ e. absurd (omega arith)) (λ e. absurd cc)

pub returns-in-Refi-clause-least : goal.returns-in-Refi-clause-least
returns-in-Refi-clause-least c = refresh_least c.args.c.now _ _ _ _ c.in-Refi.is c.refresh_fault.ensures.found

pub returns-in-Refi-clause-none : goal.returns-in-Refi-clause-none
returns-in-Refi-clause-none c = refresh_none c.args.c.now _ _ _ _ c.in-Refi.is c.refresh_fault.ensures.none
