-- What the drain of a channel costs.
use Rattle.std.proofs.Common.{◌≡◌, ◌+◌, ◌*◌, ◌≤◌, ℕ, List, [], ◌∷◌, length, map, refl, sym, ap, subst, ◌∙◌}
use Rattle.std.specs.List.{cons_option, filter_map}
use Rattle.ddr4_port.proofs.Common.{ChannelState, Checked, Costs, LosesReads, Option, Place, length-map, waits_of, with_hold}
use Rattle.ddr4_timing.specs.declared.command.Stamped.{Stamped}
use Rattle.energy_budget.specs.declared.costs.CostNumbers.{CostNumbers}
use Rattle.energy_budget.specs.Actions.{drain_actions, total_cost}
use Rattle.energy_budget.specs.Costs.{AreReckonedFor, close_cost, entry_cost}
use Rattle.energy_budget.proofs.Totals.{cost-drain_actions}
use Rattle.request_notes.specs.declared.pending.Pending.{Pending}
use Rattle.frfcfs.specs.Queue.{held_by}
use Rattle.chan_core.specs.Always.{HasRightContents}
use Rattle.chan_core.specs.State.{placed_write, placed_writes}
use Rattle.chan_core.specs.declared.phase.Phase.TheVariants.{Stepping}
use Rattle.drain_core.specs.Drain.{drain_spent}
use Rattle.drain_core.specs.Standing.{CanDrain}
use Rattle.drain_core.specs.Steps.{pending_places, spent_by}
use Rattle.drain_core.proofs.DrainingChannel.{its_most_spent}
use Rattle.ddr4_port.specs.Port.{waiting_on}

-- a hold leaves the pending writes where they are
placed-held : (hold : Option ℕ) (requests : List Pending) → filter_map placed_write (map (held_by hold) requests) ≡ filter_map placed_write requests
placed-held hold [] = refl
placed-held hold (p ∷ requests) = ap (cons_option (placed_write p)) (placed-held hold requests)

-- the drains of both cost the same, whatever the numbers
abbrev pub CostSame : ChannelState → ChannelState → Type 0
CostSame s t = ◌≡◌ {A = CostNumbers → ℕ} (λ n. spent_by n t) (λ n. spent_by n s)

same-cost : (s t : ChannelState) → t.checked ≡ s.checked → t.commands ≡ s.commands → placed_writes t ≡ placed_writes s → CostSame s t
same-cost s t checked commands placed =
    ap {B = CostNumbers → ℕ} (λ (k : Checked) (n : CostNumbers). drain_spent n k.timing k.geometry t.commands (pending_places t)) checked
    ∙ ap {B = CostNumbers → ℕ} (λ (list : List Stamped) (n : CostNumbers). drain_spent n s.checked.timing s.checked.geometry list (pending_places t)) commands
    ∙ ap {B = CostNumbers → ℕ} (λ (writes : List (ℕ × Place)) (n : CostNumbers). drain_spent n s.checked.timing s.checked.geometry s.commands (map (λ w. w.1) writes)) placed

pub hold-cost : (s t : ChannelState) (hold : Option ℕ) → t ≡ with_hold s hold → CostSame s t
hold-cost s t hold is = same-cost s t (ap (λ (x : ChannelState). x.checked) is) (ap (λ (x : ChannelState). x.commands) is) (ap placed_writes is ∙ placed-held hold s.requests)

pub lost-cost : (s t : ChannelState) → LosesReads (record s { phase = Stepping }) t → CostSame s t
lost-cost s t loses = same-cost s t (ap (λ (x : ChannelState). x.checked) loses.same) (ap (λ (x : ChannelState). x.commands) loses.same) loses.placed

-- what is paid for it is no less
pub drain-covers : (costs : Costs) (s : ChannelState) → CanDrain s.checked s.commands → HasRightContents s → AreReckonedFor s.checked costs → spent_by costs.numbers s ≤ total_cost costs (drain_actions (length (waits_of s).writes))
drain-covers costs s can contents for =
    let paid = cost-drain_actions costs (length (waits_of s).writes) ∙ ap (λ (k : ℕ). close_cost costs + k * entry_cost costs) (length-map s.writes (waiting_on s.channel)) in
    subst (λ (k : ℕ). spent_by costs.numbers s ≤ k) (sym paid) (its_most_spent costs s (spent_by costs.numbers s) for can contents refl)
