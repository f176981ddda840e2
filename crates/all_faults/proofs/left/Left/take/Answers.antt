use Rattle.std.proofs.Common.{inl, inr, ap}
use Rattle.ddr4_timing.specs.Command.{is_ref_of, is_sre_of}
use Rattle.ddr4_timing.specs.Lawful.{row_after}
use Rattle.all_faults.proofs.LeftLemmas.{left_act, left_alone, left_pre, left_pre_all, left_ref, left_sre}
use Rattle.all_faults.proofs.left.Left.take.Goals as goal

pub returns-in-Act : goal.returns-in-Act
returns-in-Act c list few was = left_act _ _ _ list _ _ _ c.in-Act.is c.put_row.ensures.rows c.put_row.ensures.ranks was

pub returns-in-Pre : goal.returns-in-Pre
returns-in-Pre c list few was = left_pre _ _ _ list _ _ c.in-Pre.is c.put_row-in-Pre.ensures.rows c.put_row-in-Pre.ensures.ranks was

pub returns-in-PreAll : goal.returns-in-PreAll
returns-in-PreAll c list few was = left_pre_all _ _ _ list _ _ c.in-PreAll.is c.close_all.ensures.rows c.close_all.ensures.ranks was

pub returns-in-Ref : goal.returns-in-Ref
returns-in-Ref c list few was = left_ref _ _ _ list _ _ few c.in-Ref.is c.put_ref.ensures was

pub returns-in-Sre : goal.returns-in-Sre
returns-in-Sre c list few was = left_sre _ _ _ list _ _ c.in-Sre.is c.put_to_sleep.ensures was

pub returns-in-Rd : goal.returns-in-Rd
returns-in-Rd c list few was = elim c.in-Rd.is [
  | inl (at, column, e) ↦ left_alone _ _ list _ (λ b row. ap (row_after b row) e) (λ rank. ap (is_ref_of rank) e) (λ rank. ap (is_sre_of rank) e) was
  | inr (at, column, e) ↦ left_alone _ _ list _ (λ b row. ap (row_after b row) e) (λ rank. ap (is_ref_of rank) e) (λ rank. ap (is_sre_of rank) e) was
]
