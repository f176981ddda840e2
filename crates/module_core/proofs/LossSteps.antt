-- The loss of mains while writes are backed: which step of the machine it is.
use Rattle.std.proofs.Math.Seq.{drop-nil, take-length}
use Rattle.std.proofs.lemmas.List.{drop-drop, length-map, length-take-le, map-append}
use Rattle.std.proofs.lemmas.List.Sums.{sum_by-append}
use Rattle.std.proofs.lemmas.Option.{slice_get-map, slice_get_cases, slice_get_within}
use Rattle.std.specs.List.{flat_map, sum_by}
use Rattle.std.specs.Prelude.{map, option_map, slice_get}
use Rattle.std.proofs.Common.{◌⊎◌, Bool, get_or, ◌≤◌}
use Rattle.save_device.specs.declared.calls.CallKind.{CallKind}
use Rattle.slot_store.specs.Tries.{goods, is_failed, tried}
use Rattle.nv_machine.specs.Moves.{broken_off}
use Rattle.arm_state.specs.declared.loss.Loss.{Loss}
use Rattle.channel_port.specs.Draining.{DrainOrder, Paid, PaysCosts, PaysInTurn, PaysTogether, each_alone, entries_in, payments_in, pending_each}
use Rattle.channel_port.specs.Waits.{Remain, emptied}
use Rattle.channel_port.specs.declared.answers.Ticket.{Ticket}
use Rattle.channel_port.proofs.Entries.{paid-calls}
use Rattle.channel_set.proofs.Paying.{pays-alone}
use Rattle.channel_set.specs.Draining.{DrainsAll}
use Rattle.energy_budget.specs.declared.energy.GaugeCall.TheVariants.{Pay}
use Rattle.energy_budget.proofs.Totals.{total_cost-cons, total_cost-nil}
use Rattle.energy_budget.specs.Actions.{cost_of, drain_actions, total_cost}
use Rattle.energy_budget.specs.Gauge.{PaysCost}
use Rattle.module_saves.specs.Closing.{SavesClosing}
use Rattle.module_core.specs.Drained.{ClosesChannels, ClosingAt, DarkInDrains}
use Rattle.module_saves.specs.Saving.{IsAmongEither}
use Rattle.slot_store.specs.Finishing.{Finish}
use Rattle.nv_machine.proofs.Payments.{pays_append}
use Rattle.nv_machine.specs.Losses.{LoseStep, LosesMains, PaysFirst, drains_of, payments_of, save_calls, steps_of}
use Rattle.arm_state.specs.declared.loss.Loss.TheVariants as loss
use Rattle.arm_state.specs.declared.mode.Mode.TheVariants as modes
use Rattle.slot_store.specs.declared.source.BrokenOff.TheVariants as broken
use Rattle.module_core.proofs.Common.{[], ℕ, ◌<◌, ◌∙◌, ◌∷◌, ◌≡◌, Action, Costs, Dark, DeviceState, Err, Gauge, GaugeCall, Image, IsAmong, LeavesOnly, List, Machine, Mode, None, Ok, ReachesStore, ReadsLevel, Setup, Some, StopsWithin, Store, Waiting, Waits, World, after, after_steps, ap, append-nil, arith, drop, false, inl, inr, is_backed, length, length-append, made_of, more, present, refl, restored, rules, saved_in, started, step_failed, subst, suc, sym, take, true}
use Rattle.module_saves.proofs.RunningSaves.{broken_none, failed_none}

-- where the payments stopped
record StopsAt (costs : Costs) (payments : List (List Action)) (old new : Gauge) : Type 0 where
  paid : ℕ
  coming : List Action
  comes : slice_get payments paid ≡ Some coming
  mid : Gauge
  pays : PaysTogether costs (take paid payments) old (Ok tt) mid
  answer : Dark
  refused : PaysCost mid (total_cost costs coming) (Err answer) new

stops_at : (costs : Costs) (payments : List (List Action)) (old : Gauge) (dark : Dark) (new : Gauge) → PaysTogether costs payments old (Err dark) new → StopsAt costs payments old new
stops_at costs [] old dark new none = absurd none
stops_at costs (p ∷ rest) old dark new (inl refused) = record { paid = 0; coming = p; comes = refl; mid = old; pays = refl; answer = dark; refused = refused }
stops_at costs (p ∷ rest) old dark new (inr more) =
    let s = stops_at costs rest more.0 dark new more.2 in
    record { paid = suc s.paid; coming = s.coming; comes = s.comes; mid = s.mid; pays = (more.0, more.1, s.pays); answer = s.answer; refused = s.refused }

-- a payment for one action
one_cost : (costs : Costs) (a : Action) → cost_of costs a ≡ total_cost costs (a ∷ [])
one_cost costs a = omega (arith, total_cost-cons costs a [], total_cost-nil costs)

-- the call that comes next, where there is one
call_at : (kinds : List CallKind) (n : ℕ) → n < length kinds → (kind : CallKind) × (slice_get kinds n ≡ Some kind)
call_at kinds n less = by_case (slice_get_cases kinds n).1
  where
    by_case : ((kind : CallKind) × (n < length kinds) × (slice_get kinds n ≡ Some kind) × (get_or kinds n kind ≡ kind)) ⊎ ((length kinds ≤ n) × (slice_get kinds n ≡ None)) → (kind : CallKind) × (slice_get kinds n ≡ Some kind)
    by_case (inl (kind, within, is, got)) = (kind, is)
    by_case (inr none) = absurd (omega (arith, less, none.0))

-- The module closes, in this order of its drains: with this trail, from the channels, saves, device and gauge of `old` on.
module _ (order : DrainOrder) (trail : ℕ) (m : Machine) (before : Gauge) (reading : ℕ) (old new : ClosingAt) (reads : ReadsLevel GaugeCall.Tick before reading old.at.gauge) (backed : is_backed m.mode ≡ true)
    (writes : old.channels.waits.writes ≡ m.waits.writes) (no_reads : old.channels.waits.reads ≡ []) (tickets : old.channels.waits.given ≡ m.waits.given) where
  abbrev pub setup : Setup
  setup = record { shape = old.channels.shape; trail = trail }

  abbrev made : Image
  made = made_of false m

  abbrev costs : Costs
  costs = setup.shape.costs

  abbrev lines : ℕ
  lines = setup.shape.lines

  abbrev pub lost : Mode → Loss → Store → Machine
  lost mode reply s = record { mode = mode; reading = reading; lost = Some reply; life = m.life; cut = m.cut; waits = new.channels.waits; store = s }

  abbrev pub begins : World
  begins = record { machine = m; device = old.at.device; gauge = before }

  abbrev pub ends : Machine → World
  ends n = record { machine = n; device = new.at.device; gauge = new.at.gauge }

  loses : (mode : Mode) (reply : Loss) (s : Store) (result : Paid) (mid : Gauge) → DrainsAll order old.channels old.at.gauge result new.channels mid → s.saving ≡ None → LosesMains reply m (lost mode reply s)
  loses mode reply s result mid d none = record {
    backed = backed;
    answered = refl;
    rest = refl;
    reads = d.takes.takes.reads ∙ no_reads;
    given = d.takes.takes.given ∙ tickets;
    writes = subst (λ (ws : List Waiting). Remain ws new.channels.waits.writes) writes d.remain;
    ended = none;
  }

  abbrev drains : List Action
  drains = drains_of setup m

  abbrev steps : List Action
  steps = steps_of setup

  abbrev paid_together : List (List Action)
  paid_together = payments_in order drains

  -- what is paid where these writes wait
  abbrev paid_for : List Waiting → List (List Action)
  paid_for ws = payments_in order (flat_map drain_actions (pending_each setup.shape.channels ws))

  drained : (result : Paid) (mid : Gauge) → DrainsAll order old.channels old.at.gauge result new.channels mid → PaysTogether costs paid_together old.at.gauge result mid
  drained result mid d = subst (λ (ws : List Waiting). PaysTogether costs (paid_for ws) old.at.gauge result mid) writes d.pays

  pays_first : (paid : List (List Action)) (gauge : Gauge) → PaysTogether costs paid old.at.gauge (Ok tt) gauge → PaysFirst setup begins reading paid gauge
  pays_first paid gauge pays = record { ticked = old.at.gauge; reads = reads; pays = pays }

  -- the drains, and the tries of the save's steps
  pays_both : (tries : List Bool) (mid gauge : Gauge) → DrainsAll order old.channels old.at.gauge (Ok tt) new.channels mid → PaysInTurn costs (tried steps tries) mid (Ok tt) gauge
      → PaysFirst setup begins reading (payments_of order setup m tries) gauge
  pays_both tries mid gauge d pays =
      let alone : List (List Action) = each_alone (tried steps tries) in let cost : List Action → ℕ = total_cost costs in
      pays_first (payments_of order setup m tries) gauge
      (subst (λ (cs : List ℕ). PaysCosts cs old.at.gauge (Ok tt) gauge) (sym (map-append cost paid_together alone))
      (pays_append (map cost paid_together) (map cost alone) old.at.gauge mid (Ok tt) gauge (drained (Ok tt) mid d) (pays-alone costs (tried steps tries) mid (Ok tt) gauge pays)))

  abbrev pub SavesAfter : Gauge → Finish → Type 0
  SavesAfter mid result = SavesClosing old.channels.shape m.store made result (record old.at { gauge = mid }) new.at

  -- nothing waits behind the drains
  emptied_on : (mid : Gauge) → DrainsAll order old.channels old.at.gauge (Ok tt) new.channels mid → new.channels.waits ≡ emptied m.waits
  emptied_on mid d = d.dry ∙ ap (λ (ts : List Ticket). record { writes = []; reads = []; given = ts }) tickets

  -- which writes wait where a payment for the drains was refused, the one after so many
  left_in_drains : (dark : Dark) → DrainsAll order old.channels old.at.gauge (Err dark) new.channels new.at.gauge → (s : StopsAt costs paid_together old.at.gauge new.at.gauge)
      → new.channels.waits.writes ≡ drop (sum_by entries_in (take s.paid paid_together)) m.waits.writes
  left_in_drains dark d s =
      let below : s.paid < length paid_together = slice_get_within paid_together s.paid s.coming s.comes in
      let first : List (List Action) = take s.paid paid_together in
      let size : length (map (total_cost costs) first) ≡ s.paid = length-map first (total_cost costs) ∙ length-take-le s.paid paid_together (omega (arith, below)) in
      let same : d.takes.paid ≡ s.paid = omega (arith, d.takes.counts, paid-calls (map (total_cost costs) first) old.at.gauge s.mid s.pays, size, ap length s.refused.called, length-append s.mid.calls (Pay ∷ [])) in
      d.takes.takes.writes
      ∙ ap (λ (ws : List Waiting). drop (sum_by entries_in (take d.takes.paid (paid_for ws))) ws) writes
      ∙ ap (λ (k : ℕ). drop (sum_by entries_in (take k paid_together)) m.waits.writes) same

  -- and none waits behind the drains
  left_behind : (mid : Gauge) (tries : List Bool) → DrainsAll order old.channels old.at.gauge (Ok tt) new.channels mid → new.channels.waits.writes ≡ drop (sum_by entries_in (payments_of order setup m tries)) m.waits.writes
  left_behind mid tries d =
      let none : new.channels.waits.writes ≡ [] = ap (λ (w : Waits). w.writes) (emptied_on mid d) in
      let all : List (List Action) = paid_for old.channels.waits.writes in
      let took : new.channels.waits.writes ≡ drop (sum_by entries_in paid_together) m.waits.writes =
      d.takes.takes.writes
      ∙ ap (λ (n : ℕ). drop (sum_by entries_in (take n all)) old.channels.waits.writes) d.takes.counts
      ∙ ap (λ (xs : List (List Action)). drop (sum_by entries_in xs) old.channels.waits.writes) (take-length all)
      ∙ ap (λ (ws : List Waiting). drop (sum_by entries_in (paid_for ws)) ws) writes in
      let more : ℕ = sum_by entries_in (each_alone (tried steps tries)) in
      none
      ∙ sym (drop-nil more)
      ∙ ap (drop more) (sym none ∙ took)
      ∙ drop-drop more (sum_by entries_in paid_together) m.waits.writes
      ∙ ap (λ (n : ℕ). drop n m.waits.writes) (sym (sum_by-append entries_in paid_together (each_alone (tried steps tries))))

  -- all was saved
  pub saved_on : ClosesChannels order m.store made (Ok tt) old new → (mid : Gauge) × DrainsAll order old.channels old.at.gauge (Ok tt) new.channels mid × SavesAfter mid (Ok tt)
  saved_on closes = search rules

  pub all_saved : (generation count : ℕ) → generation ≡ made.generation → count ≡ made.count → (mid : Gauge) → DrainsAll order old.channels old.at.gauge (Ok tt) new.channels mid → SavesAfter mid (Ok tt)
      → LoseStep order setup (loss.Saved generation count) begins (ends (lost modes.Saved (loss.Saved generation count) (saved_in m.store made)))
  all_saved generation count generation_is count_is mid d on = record {
    closes = loses modes.Saved (loss.Saved generation count) (saved_in m.store made) (Ok tt) mid d refl;
    mode = refl;
    generation_is = generation_is;
    count_is = count_is;
    drained = emptied_on mid d;
    saved = refl;
    tries = on.tries;
    few = on.few;
    whole = on.whole;
    pays = pays_both on.tries mid new.at.gauge d on.pays;
    calls = on.calls;
  }

  -- it was broken off, and the device holds this store
  pub record IsBrokenOff (reply : Loss) : Type 0 where
    pub store : Store
    pub none : store.saving ≡ None
    pub makes : ReachesStore lines m.store store old.at.device new.at.saves new.at.device
    pub step : LoseStep order setup reply begins (ends (lost modes.Closing reply store))
    pub rest : new.channels ≡ record old.channels { waits = new.channels.waits; array = new.channels.array }

  dark_in_drains : StopsWithin (λ bytes. IsAmong m.store.maybe (restored lines bytes)) (present old.at.device) → DarkInDrains order m.store old new → IsBrokenOff loss.Dark
  dark_in_drains here d =
      let s = stops_at costs paid_together old.at.gauge d.answer new.at.gauge (drained (Err d.answer) new.at.gauge d.drains) in
      let store : Store = record m.store { saving = None } in
      record {
        store = store;
        none = refl;
        makes = record {
          knows = record { slot = d.knows.slot; generation = d.knows.generation; shut = d.knows.shut; open_end = d.knows.open_end };
          holds = d.holds;
          moments = subst (λ (x : DeviceState). LeavesOnly old.at.device x (IsAmongEither lines m.store store)) (sym d.unasked) (started old.at.device (λ bytes left. inl (here bytes left)));
        };
        step = record {
          closes = loses modes.Closing loss.Dark store (Err d.answer) new.at.gauge d.drains refl;
          mode = refl;
          tries = [];
          few = omega arith;
          paid = take s.paid paid_together;
          coming = s.coming;
          comes = inl (refl, (s.paid, refl, s.comes));
          mid = s.mid;
          pays = pays_first (take s.paid paid_together) s.mid s.pays;
          answer = s.answer;
          refused = s.refused;
          left = left_in_drains d.answer d.drains s;
          saved = refl;
          calls = ap (λ (x : DeviceState). x.calls) d.unasked ∙ sym (append-nil old.at.device.calls);
        };
        rest = d.drains.rest;
      }

  dark_after : (mid : Gauge) → DrainsAll order old.channels old.at.gauge (Ok tt) new.channels mid → SavesAfter mid (Err broken.Refused) → IsBrokenOff loss.Dark
  dark_after mid d a =
      let at = after_steps lines m.store made (goods a.tries) in let store : Store = broken_off at.store made at.next (is_failed false a.tries) in let r = a.pays.2 in
      record {
        store = store;
        none = broken_none at.store made at.next (is_failed false a.tries);
        makes = a.makes;
        step = record {
          closes = loses modes.Closing loss.Dark store (Ok tt) mid d (broken_none at.store made at.next (is_failed false a.tries));
          mode = refl;
          tries = a.tries;
          few = a.few;
          paid = payments_of order setup m a.tries;
          coming = a.pays.0 ∷ [];
          comes = inr (refl, slice_get-map (λ (x : Action). x ∷ []) steps (goods a.tries) ∙ ap (option_map (λ (x : Action). x ∷ [])) a.pays.1);
          mid = r.mid;
          pays = pays_both a.tries mid r.mid d r.pays;
          answer = r.answer;
          refused = subst (λ (cost : ℕ). PaysCost r.mid cost (Err r.answer) new.at.gauge) (one_cost costs a.pays.0) r.refused;
          left = left_behind mid a.tries d;
          saved = refl;
          calls = a.calls;
        };
        rest = d.rest;
      }

  pub dark : StopsWithin (λ bytes. IsAmong m.store.maybe (restored lines bytes)) (present old.at.device) → ClosesChannels order m.store made (Err broken.Refused) old new → IsBrokenOff loss.Dark
  dark here (inl drains) = dark_in_drains here drains.1
  dark here (inr after) = dark_after after.0 after.1 after.2

  pub fault : ClosesChannels order m.store made (Err broken.Fault) old new → IsBrokenOff loss.Fault
  fault (inl none) = absurd (let bad : ⊥ = cc in bad)
  fault (inr (mid, d, a)) =
      let at = after_steps lines m.store made (goods a.tries) in let store : Store = step_failed at.store made at.next in
      let failed = call_at (save_calls setup m) (goods a.tries) a.whole in
      record {
        store = store;
        none = failed_none at.store made at.next;
        makes = subst (λ (b : Bool). ReachesStore lines m.store (broken_off at.store made at.next b) old.at.device new.at.saves new.at.device) a.few.1 a.makes;
        step = record {
          closes = loses modes.Closing loss.Fault store (Ok tt) mid d (failed_none at.store made at.next);
          mode = refl;
          drained = emptied_on mid d;
          tries = a.tries;
          few = a.few.0;
          last = a.few.1;
          pays = pays_both a.tries mid new.at.gauge d a.pays;
          saved = refl;
          failed = failed.0;
          comes = failed.1;
          calls = a.calls;
        };
        rest = d.rest;
      }
