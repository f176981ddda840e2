-- A channel's drain, entry by entry.
use Rattle.std.proofs.Common.{◌≡◌, ℕ, zero, suc, ◌+◌, ◌-◌, ◌*◌, ◌≤◌, List, [], ◌∷◌, length, map, take, drop, arith, refl, sym, ap, subst, ◌∙◌}
use Rattle.std.specs.List.{filter_map, cons_option}
use Rattle.std.proofs.Math.Nat.{mul-le-mul_left}
use Rattle.std.proofs.Math.Seq.{drop-append_seam}
use Rattle.drain_core.proofs.Common.{All, CanDrain, ChannelState, Checked, CostNumbers, GoesTo, IsStepped, IssuesFor}
use Rattle.drain_core.proofs.Common.{MayEnter, Place, Stamped, StepEnd, TakesOldest, channel_memory, clocks_of}
use Rattle.drain_core.proofs.Common.{close_of, commands_cost, drain_of_channel, drain_start_of, drained, entry_of}
use Rattle.drain_core.proofs.Common.{most_clocks, nil_from_length, pending_places, placed, placed_write, placed_writes}
use Rattle.drain_core.proofs.Common.{progress_of, spent_by}
use Rattle.energy_budget.specs.declared.costs.Costs.{Costs}
use Rattle.energy_budget.specs.Costs.{AreReckonedFor, close_cost, entry_cost}
use Rattle.request_notes.specs.declared.pending.Kind.{Kind}
use Rattle.request_notes.specs.declared.pending.Kind.TheVariants.{Read, Write}
use Rattle.request_notes.specs.declared.pending.Pending.{Pending}
use Rattle.frfcfs.proofs.Lists.{All-at}
use Rattle.wpq_core.specs.declared.queue.PendingWrite.{PendingWrite}
use Rattle.wpq_core.specs.PendingMemory.{after_pending}
use Rattle.chan_core.specs.Always.{HasRightContents}
use Rattle.chan_core.specs.declared.phase.Phase.TheVariants.{Asleep}
use Rattle.drain_core.specs.Drain.{Progress, drain_start, close_step_of, entry_step_of, entry_steps_of, after_self_refresh, drain_of, drain_commands, drain_clocks, drain_spent}
use Rattle.drain_core.proofs.Parts.{issues_then, takes_then, takes_checked}
use Rattle.drain_core.proofs.PendingPlaces.{all_lie, placed_length, places_length}
use Rattle.drain_core.proofs.ClocksRise.{drain_rises}
use Rattle.drain_core.proofs.Whole.{sum_small as total_small, drain_clocks-le, drain_spent-le}

-- where the entries of a channel's drain end
abbrev pub entries_of : ChannelState → Progress
entries_of s = entry_steps_of s.checked.timing s.checked.geometry (pending_places s) (close_step_of s.checked.timing s.checked.geometry (drain_start_of s))

-- The entries that are left lead to the same end.
pub record IsDraining (n : CostNumbers) (first now : ChannelState) (end : StepEnd) : Type 0 where
  pub enter : MayEnter now end.clock
  pub ends : entry_steps_of first.checked.timing first.checked.geometry (pending_places now) (progress_of now end.clock) ≡ entries_of first
  pub cost : IssuesFor n end.cost first.commands now.commands
  pub count : ℕ
  pub takes : TakesOldest count first now
  pub clocks : end.clock + length (pending_places now) * entry_of first.checked.timing first.checked.geometry ≤ drain_start first.commands + 32500000
  pub spent : end.cost + length (pending_places now) * 7000000 ≤ 452000000

sum_small : (clock s e cl r t k : ℕ) → clock + r ≤ s + cl → 2 * (e + cl) + 4 * r ≤ t → t ≤ 1000000 → k ≤ 64 → k * e ≤ 64 * e → clock + k * e ≤ s + 32500000
sum_small clock s e cl r t k c h l m n = omega arith

cost_small : (cost k : ℕ) → cost ≤ 4000000 → k ≤ 64 → cost + k * 7000000 ≤ 452000000
cost_small cost k h l = omega arith

-- before the first entry
pub draining_first : (n : CostNumbers) (first now : ChannelState) (end : StepEnd) → length (pending_places first) ≤ 64 → GoesTo n (close_step_of first.checked.timing first.checked.geometry (drain_start_of first)) 0 first now end → MayEnter now end.clock →
    end.clock + first.checked.geometry.ranks ≤ drain_start first.commands + close_of first.checked.timing first.checked.geometry → end.cost ≤ 4000000 → IsDraining n first now end
draining_first n first now end few goes enter clock cost =
    let c = first.checked in
    let e = entry_of c.timing c.geometry in
    let places : pending_places now ≡ pending_places first = ap (map (λ (w : ℕ × Place). w.1)) goes.takes.placed in record {
      enter = enter;
      ends = ap (λ (places : List Place). entry_steps_of c.timing c.geometry places (progress_of now end.clock)) places ∙ ap (entry_steps_of c.timing c.geometry (pending_places first)) goes.progress;
      cost = goes.cost;
      count = 0;
      takes = goes.takes;
      clocks = subst (λ (k : ℕ). end.clock + k * e ≤ drain_start first.commands + 32500000) (sym (ap length places))
          (sum_small end.clock (drain_start first.commands) e (close_of c.timing c.geometry) c.geometry.ranks c.timing.t_refi (length (pending_places first)) clock c.fits_entry c.in_limits.t_refi.1 few (grind (arith, mul-le-mul_left e few)));
      spent = subst (λ (k : ℕ). end.cost + k * 7000000 ≤ 452000000) (sym (ap length places)) (cost_small end.cost (length (pending_places first)) cost few);
    }

one_less : (a b k e most : ℕ) → a + suc k * e ≤ most → b ≤ a + e → b + k * e ≤ most
one_less a b k e most h l = omega (arith, h, l)

-- one more
pub draining_next : (n : CostNumbers) (first now new : ChannelState) (end entry : StepEnd) (number : ℕ) (place : Place) (rest : List (ℕ × Place)) → IsDraining n first now end → placed_writes now ≡ (number, place) ∷ rest →
    GoesTo n (entry_step_of now.checked.timing now.checked.geometry place (progress_of now end.clock)) 1 now new entry → MayEnter new entry.clock → entry.clock ≤ end.clock + entry_of now.checked.timing now.checked.geometry → entry.cost ≤ 7000000 →
    IsDraining n first new (record { clock = entry.clock; cost = end.cost + entry.cost })
draining_next n first now new end entry number place rest i e goes enter clock cost =
    let c = first.checked in
    let same = takes_checked i.count first now i.takes in
    let before : pending_places now ≡ place ∷ map (λ (w : ℕ × Place). w.1) rest = ap (map (λ (w : ℕ × Place). w.1)) e in
    let after : pending_places new ≡ map (λ (w : ℕ × Place). w.1) rest = ap (map (λ (w : ℕ × Place). w.1)) (goes.takes.placed ∙ ap (drop 1) e) in
    let many = ap length before in
    let fewer = ap length after in
    let at : progress_of new entry.clock ≡ entry_step_of c.timing c.geometry place (progress_of now end.clock) =
    goes.progress ∙ ap (λ (k : Checked). entry_step_of k.timing k.geometry place (progress_of now end.clock)) same in record {
      enter = enter;
      ends = ap (λ (places : List Place). entry_steps_of c.timing c.geometry places (progress_of new entry.clock)) after
          ∙ ap (entry_steps_of c.timing c.geometry (map (λ (w : ℕ × Place). w.1) rest)) at
          ∙ sym (ap (λ (places : List Place). entry_steps_of c.timing c.geometry places (progress_of now end.clock)) before) ∙ i.ends;
      cost = issues_then n end.cost entry.cost first.commands now.commands new.commands i.cost goes.cost;
      count = i.count + 1;
      takes = takes_then i.count 1 (i.count + 1) first now new refl i.takes goes.takes;
      clocks = subst (λ (k : ℕ). entry.clock + k * entry_of c.timing c.geometry ≤ drain_start first.commands + 32500000) (sym fewer)
          (one_less end.clock entry.clock (length (map (λ (w : ℕ × Place). w.1) rest)) (entry_of c.timing c.geometry) _
          (subst (λ (k : ℕ). end.clock + k * entry_of c.timing c.geometry ≤ drain_start first.commands + 32500000) many i.clocks)
          (subst (λ (k : Checked). entry.clock ≤ end.clock + entry_of k.timing k.geometry) same clock));
      spent = omega (arith, many, fewer, cost, i.spent);
    }

-- at the end

take_whole : (k : ℕ) (xs : List PendingWrite) → drop k xs ≡ [] → take k xs ≡ xs
take_whole zero [] e = refl
take_whole zero (x ∷ xs) e = absurd cc
take_whole (suc k) [] e = refl
take_whole (suc k) (x ∷ xs) e = ap (λ rest. x ∷ rest) (take_whole k xs e)

one_placed : (kind : Kind) (w : ℕ × Place) (rest : List (ℕ × Place)) → kind ≡ Write → cons_option (placed kind w) rest ≡ [] → ⊥
one_placed Write w rest k e = absurd cc
one_placed Read w rest k e = absurd cc

pub no_requests : (requests : List Pending) → All (λ p. p.kind ≡ Write) requests → filter_map placed_write requests ≡ [] → requests ≡ []
no_requests [] all e = refl
no_requests (p ∷ requests) all e = absurd (one_placed p.kind (p.number, p.place) (filter_map placed_write requests) (All-at (λ (p : Pending). p.kind ≡ Write) (p ∷ requests) 0 p all refl) e)

pub few_places : (s : ChannelState) → HasRightContents s → length (pending_places s) ≤ 64
few_places s contents = let many = places_length s contents in omega (arith, many, contents.writes.few, contents.writes.most)

-- its clocks are few
few_clocks : (s : ChannelState) → CanDrain s.checked s.commands → HasRightContents s → clocks_of s ≤ 32500000
few_clocks s can contents =
    let c = s.checked in
    let e = entry_of c.timing c.geometry in
    let few = few_places s contents in
    let most = drain_clocks-le c s.commands (pending_places s) can (all_lie s contents) in
    let small = total_small e (close_of c.timing c.geometry) c.geometry.ranks c.timing.t_refi (length (pending_places s)) c.fits_entry c.in_limits.t_refi.1 few (grind (arith, mul-le-mul_left e few)) in
    omega (arith, most, small)

few_units : (e clocks : ℕ) → e ≤ 1000000 → clocks ≤ 32500000 → e * clocks ≤ 32500000000000
few_units e clocks h l = let m = mul-le-mul_left e l in omega (arith, m, h)

its_clocks : (first final : ChannelState) (slept : StepEnd) (start : ℕ) → progress_of final slept.clock ≡ drain_of_channel first → start ≡ drain_start first.commands → slept.clock - start ≡ clocks_of first
unfolding drain_clocks
its_clocks first final slept start e s = ap (λ (p : Progress). p.clock - start) e ∙ ap (λ (k : ℕ). (drain_of_channel first).clock - k) s

from_start : (first final : ChannelState) (slept : StepEnd) (start : ℕ) → progress_of final slept.clock ≡ drain_of_channel first → start ≡ drain_start first.commands → start ≤ slept.clock
from_start first final slept start e s =
    let clock = ap (λ (p : Progress). p.clock) e in
    let rises = drain_rises first.checked.timing first.checked.geometry first.commands (pending_places first) in
    omega (arith, clock, rises, s)

its_most_clocks : (first : ChannelState) (clocks : ℕ) → CanDrain first.checked first.commands → HasRightContents first → clocks ≡ clocks_of first → clocks ≤ most_clocks first
its_most_clocks first clocks can contents e =
    let c = first.checked in
    let most = drain_clocks-le c first.commands (pending_places first) can (all_lie first contents) in
    let same = ap (λ (k : ℕ). close_of c.timing c.geometry + k * entry_of c.timing c.geometry) (places_length first contents) in
    omega (arith, most, same, e)

-- behind the last look for a write, which found none
module _ {n : CostNumbers} {first old now final : ChannelState} {end slept : StepEnd} (before : IsDraining n first old end) (look : (old.writes ≡ []) × (now ≡ old)) (contents : HasRightContents now)
    (goes : GoesTo n (after_self_refresh now.checked.timing now.checked.geometry (progress_of now end.clock)) 0 now final slept) where
  none : now.writes ≡ []
  none = ap (λ (s : ChannelState). s.writes) look.1 ∙ look.0

  i : IsDraining n first now end
  i = subst (λ (s : ChannelState). IsDraining n first s end) (sym look.1) before

  none_placed : placed_writes now ≡ []
  none_placed = nil_from_length (placed_writes now) (placed_length now contents ∙ ap length none)

  drained_progress : progress_of final slept.clock ≡ drain_of_channel first
  unfolding drain_of
  drained_progress =
      let c = first.checked in
      let same = takes_checked i.count first now i.takes in
      let places : pending_places now ≡ [] = ap (map (λ (w : ℕ × Place). w.1)) none_placed in
      let at : progress_of now end.clock ≡ entries_of first = sym (ap (λ (places : List Place). entry_steps_of c.timing c.geometry places (progress_of now end.clock)) places) ∙ i.ends in
      goes.progress ∙ ap (λ (k : Checked). after_self_refresh k.timing k.geometry (progress_of now end.clock)) same ∙ ap (after_self_refresh c.timing c.geometry) at

  pub drained_channel : IsStepped final → final.phase ≡ Asleep → final ≡ drained first
  drained_channel stepped asleep =
      let takes = takes_then i.count 0 i.count first now final (omega arith) i.takes goes.takes in
      let left : drop i.count first.writes ≡ [] = sym (ap (λ (s : ChannelState). s.writes) i.takes.same) ∙ none in
      let array : after_pending first.array (take i.count first.writes) ≡ channel_memory first = ap (after_pending first.array) (take_whole i.count first.writes left) in
      let requests : final.requests ≡ [] = no_requests final.requests stepped.requests (goes.takes.placed ∙ none_placed) in
      let commands = ap (λ (p : Progress). p.list) drained_progress in
      takes.same
      ∙ ap (λ (array : List (List ℕ)). record first { array = array; writes = drop i.count first.writes; tickets = final.tickets; requests = final.requests; commands = final.commands; phase = final.phase }) array
      ∙ ap (λ (writes : List PendingWrite). record first { array = channel_memory first; writes = writes; tickets = final.tickets; requests = final.requests; commands = final.commands; phase = final.phase }) left
      ∙ ap (λ tickets. record first { array = channel_memory first; writes = []; tickets = tickets; requests = final.requests; commands = final.commands; phase = final.phase }) stepped.tickets
      ∙ ap (λ (requests : List Pending). record first { array = channel_memory first; writes = []; tickets = []; requests = requests; commands = final.commands; phase = final.phase }) requests
      ∙ ap (λ (commands : List Stamped). record first { array = channel_memory first; writes = []; tickets = []; requests = []; commands = commands; phase = final.phase }) commands
      ∙ ap (λ phase. record first { array = channel_memory first; writes = []; tickets = []; requests = []; commands = (drain_of_channel first).list; phase = phase }) asleep

  drained_cost : end.cost + slept.cost ≡ commands_cost n (drop (length first.commands) (drain_of_channel first).list)
  drained_cost =
      let cost = issues_then n end.cost slept.cost first.commands now.commands final.commands i.cost goes.cost in
      let list = sym (ap (λ (p : Progress). p.list) drained_progress) ∙ cost.list in
      cost.is ∙ sym (ap (λ (list : List Stamped). commands_cost n (drop (length first.commands) list)) list ∙ ap (commands_cost n) (drop-append_seam first.commands cost.commands))

  module _ {start : ℕ} (begun : start ≡ drain_start first.commands) where
    pub drained_from : start ≤ slept.clock
    drained_from = from_start first final slept start drained_progress begun

    pub drained_clocks : slept.clock - start ≡ clocks_of first
    drained_clocks = its_clocks first final slept start drained_progress begun

    pub drained_most_clocks : CanDrain first.checked first.commands → HasRightContents first → slept.clock - start ≤ most_clocks first
    drained_most_clocks can first_held = its_most_clocks first (slept.clock - start) can first_held drained_clocks

    pub drained_units : CanDrain first.checked first.commands → HasRightContents first → n.e_clk ≤ 1000000 → n.e_clk * (slept.clock - start) ≤ 32500000000000
    drained_units can first_held least = let few = few_clocks first can first_held in few_units n.e_clk (slept.clock - start) least (omega (arith, drained_clocks, few))

    pub drained_spent : end.cost + slept.cost + n.e_clk * (slept.clock - start) ≡ spent_by n first
    unfolding drain_spent drain_commands
    drained_spent = ap (λ (cost : ℕ). cost + n.e_clk * (slept.clock - start)) drained_cost ∙ ap (λ (clocks : ℕ). commands_cost n (drop (length first.commands) (drain_of_channel first).list) + n.e_clk * clocks) drained_clocks

pub its_most_spent : (costs : Costs) (first : ChannelState) (spent : ℕ) → AreReckonedFor first.checked costs → CanDrain first.checked first.commands → HasRightContents first → spent ≡ spent_by costs.numbers first → spent ≤ close_cost costs + length first.writes * entry_cost costs
its_most_spent costs first spent for can contents e =
    let most = drain_spent-le first.checked costs first.commands (pending_places first) for can (all_lie first contents) in
    let same = ap (λ (k : ℕ). close_cost costs + k * entry_cost costs) (places_length first contents) in
    subst (λ (most : ℕ). spent ≤ most) same (subst (λ (k : ℕ). k ≤ close_cost costs + length (pending_places first) * entry_cost costs) (sym e) most)
