-- What the drains of all ports at once are for all channels.
use Rattle.std.specs.Prelude.{IsErr, vec_len}
use Rattle.std.specs.Vec.{with_items}
use Rattle.std.proofs.Math.Seq.{drop-length, take-length}
use Rattle.std.proofs.lemmas.List.{with_items_is}
use Rattle.std.proofs.lemmas.Option.{slice_get_past}
use Rattle.std.specs.List.{sum_by}
use Rattle.energy_budget.specs.declared.energy.Dark.{Dark}
use Rattle.energy_budget.specs.declared.energy.GaugeCall.TheVariants.{Pay}
use Rattle.energy_budget.specs.Actions.{drain_actions, total_cost}
use Rattle.energy_budget.specs.Costs.{close_cost, entry_cost}
use Rattle.energy_budget.specs.Gauge.{Gauge, PaysCost}
use Rattle.channel_port.specs.Draining.{Paid, at_once, entries_in}
use Rattle.channel_set.specs.Draining.{DrainsAll, cost_of_drains, drains_in, paid_for_drains}
use Rattle.channel_set.specs.Paid.{DrainsPaid}
use Rattle.channel_set.proofs.Common.{arith, ◌≡◌, ◌+◌, ◌*◌, ◌<◌, ◌≤◌, ℕ, refl, sym, ap, subst, ◌∙◌, inl, List, [], ◌∷◌, drop, flat_map, get_or, length, length-append, map, slice_get, Some, Err, Ok, Costs, Ghosts, Waits, ChannelSet, get_or_from_slice_get, slice_get_within, view_of, waits_in}
use Rattle.channel_set.proofs.Alike.{seen}
use Rattle.channel_set.proofs.Costing.{cost-covered, cost-piles}
use Rattle.channel_set.proofs.Counted.{OwnWrites, reads_in, writes_in}
use Rattle.channel_set.proofs.Drained.{DrainedTo, DrainsDry, drained-dry, drained-empty, drained-takes, drains-all}
use Rattle.channel_set.proofs.Entries.{all-lengths, entries-each}
use Rattle.channel_set.proofs.Lists.{Moved, moved-all, zip-map, zip-weaker}

module _ {K : Type 0} (L : Ghosts K) (costs : Costs) where
  -- a port that was paid for is dry
  paid-dry : (old new : K) → reads_in L old ≡ [] → DrainsPaid L costs old new → DrainsDry L old new
  paid-dry old new lost did = record {
    drains = record {
      takes = (
        length (writes_in L old),
        record {
          writes = ap (λ (w : Waits). w.writes) did.dry ∙ sym (drop-length (writes_in L old));
          reads = ap (λ (w : Waits). w.reads) did.dry ∙ sym lost;
          given = ap (λ (w : Waits). w.given) did.dry;
        },
      );
      rest = did.rest;
      keeps = did.keeps;
    };
    dry = did.dry;
    left = did.drained;
  }

  module _ (old new : List K) (size : length new ≡ length old) (lost : (k : ℕ) (p : K) → slice_get old k ≡ Some p → reads_in L p ≡ [])
      (each : (i : ℕ) (d : K) → i < length old → DrainsPaid L costs (get_or old i d) (get_or new i d)) where
    paid-at : (j : ℕ) (p q : K) → slice_get old j ≡ Some p → slice_get new j ≡ Some q → DrainsPaid L costs p q
    paid-at j p q stood stands =
        subst (λ x. DrainsPaid L costs x q) (get_or_from_slice_get old j p p stood)
        (subst (λ y. DrainsPaid L costs (get_or old j p) y) (get_or_from_slice_get new j q p stands) (each j p (slice_get_within old j p stood)))

    pub moved-paid : Moved (DrainsDry L) (length old) old new
    moved-paid = record {
      size = size;
      done = λ j p q less stood stands. paid-dry p q (lost j p stood) (paid-at j p q stood stands);
      left = λ j past. slice_get_past new j (omega (arith, past, size)) ∙ sym (slice_get_past old j past);
    }

    pub drained-paid : DrainedTo L (length old) 0 old new
    drained-paid = drained-dry L (length old) old new (omega arith) moved-paid

  -- each is as its drain leaves it, and costs no more than is paid for it
  module _ (channels : ChannelSet K L) (was now : List K) (is : was ≡ channels.ports.items) (len : length was ≡ vec_len channels.ports) (size : length now ≡ length was)
      (lost : (k : ℕ) (p : K) → slice_get channels.ports.items k ≡ Some p → reads_in L p ≡ [])
      (each : (i : ℕ) (d : K) → i < length was → DrainsPaid L costs (get_or was i d) (get_or now i d)) where
    abbrev items : List K
    items = channels.ports.items

    items-are : (with_items channels.ports now).items ≡ now
    items-are = with_items_is channels.ports now (size ∙ len)

    same-size : length now ≡ length items
    same-size = size ∙ ap length is

    each-item : (i : ℕ) (d : K) → i < length items → DrainsPaid L costs (get_or items i d) (get_or now i d)
    each-item = subst (λ (xs : List K). (i : ℕ) (d : K) → i < length xs → DrainsPaid L costs (get_or xs i d) (get_or now i d)) is each

    pub drained-once : DrainedTo L (length items) 0 items (with_items channels.ports now).items
    drained-once = subst (DrainedTo L (length items) 0 items) (sym items-are) (drained-paid items now same-size lost each-item)

    pub each-once : (with_items channels.ports now).items ≡ map L.drained items
    each-once =
        items-are
        ∙ zip-map L.drained items now (zip-weaker (DrainsDry L) (λ p q. q ≡ L.drained p) items now (λ j p q at d. d.left)
        (moved-all (DrainsDry L) (length items) items now (omega arith) (moved-paid items now same-size lost each-item)))

    pub covers-once : (k : ℕ) (p : K) → slice_get items k ≡ Some p → L.drain_cost p costs.numbers ≤ total_cost costs (drain_actions (length (writes_in L p)))
    covers-once k p at =
        subst (λ (x : K). L.drain_cost x costs.numbers ≤ total_cost costs (drain_actions (length (writes_in L x)))) (get_or_from_slice_get items k p p at) (each-item k p (slice_get_within items k p at)).covers

module _ {K : Type 0} (L : Ghosts K) (own : OwnWrites L) (channels : ChannelSet K L) where
  pub paid-value : paid_for_drains (view_of L channels) ≡ length channels.ports.items * close_cost channels.costs + length (waits_in L channels.ports.items).writes * entry_cost channels.costs
  paid-value =
      let ports = channels.ports.items in
      ap (λ (ns : List ℕ). total_cost channels.costs (flat_map drain_actions ns)) (all-lengths L channels.terms ports channels.are own)
      ∙ cost-piles channels.costs (writes_in L) ports

  -- what is paid covers what they cost
  pub covered-paid : ((k : ℕ) (p : K) → slice_get channels.ports.items k ≡ Some p → L.drain_cost p channels.costs.numbers ≤ total_cost channels.costs (drain_actions (length (writes_in L p))))
      → cost_of_drains L channels channels.costs.numbers ≤ paid_for_drains (view_of L channels)
  covered-paid each =
      let ports = channels.ports.items in
      omega (
        arith,
        cost-covered L channels.costs.numbers channels.costs (writes_in L) ports each,
        ap (λ (ns : List ℕ). total_cost channels.costs (flat_map drain_actions ns)) (all-lengths L channels.terms ports channels.are own),
      )

  -- the payment was made, and all were drained
  pub drains-once : (before later : Gauge) (new : List K) → DrainedTo L (length channels.ports.items) 0 channels.ports.items new → PaysCost before (paid_for_drains (view_of L channels)) (Ok tt) later
      → DrainsAll at_once (view_of L channels) before (Ok tt) (seen L channels.terms channels.costs new) later
  drains-once before later new drained pays =
      let old = channels.ports.items in
      let actions = drains_in (view_of L channels) in
      let k : ℕ = length old in
      let none : (waits_in L new).writes ≡ [] = ap (λ (w : Waits). w.writes) (drained-empty L k 0 old new drained (omega arith)) in
      let all : sum_by entries_in (actions ∷ []) ≡ length (waits_in L old).writes =
      omega (arith, ap entries_in (take-length actions), entries-each L channels.terms old channels.are own) in
      drains-all L channels k 0 new drained at_once before (Ok tt) later (later, pays, refl)
      (record {
        paid = 1;
        counts = refl;
        takes = record {
          writes = none ∙ sym (drop-length (waits_in L old).writes) ∙ ap (λ n. drop n (waits_in L old).writes) (sym all);
          reads = (drained-takes L k 0 old new drained).reads;
          given = (drained-takes L k 0 old new drained).given;
        };
      })
      (omega arith)

  -- it was refused
  pub refused-once : (before later : Gauge) (dark : Dark) (result : Paid) → IsErr result → PaysCost before (paid_for_drains (view_of L channels)) (Err dark) later → DrainsAll at_once (view_of L channels) before result (view_of L channels) later
  refused-once before later dark (Ok done) is pays = absurd (let bad : ⊥ = cc in bad)
  refused-once before later dark (Err other) is pays = record {
    pays = inl pays;
    rest = refl;
    takes = record {
      paid = 0;
      counts = omega (arith, ap length pays.called, length-append before.calls (Pay ∷ []));
      takes = record { writes = refl; reads = refl; given = refl };
    };
    remain = λ x has. has;
    dry = tt;
  }
