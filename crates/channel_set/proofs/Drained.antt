-- What the drains of some of the ports, one after another, are for all channels.
use Rattle.std.specs.Prelude.{IsErr, vec_len}
use Rattle.std.specs.Vec.{with_items}
use Rattle.std.proofs.Math.Seq.{drop-length}
use Rattle.std.proofs.lemmas.List.{with_items_is}
use Rattle.energy_budget.specs.declared.energy.Dark.{Dark}
use Rattle.energy_budget.specs.Actions.{drain_actions, total_cost}
use Rattle.energy_budget.specs.Gauge.{Gauge}
use Rattle.channel_port.specs.Draining.{DrainOrder, Paid, PaysInTurn, PaysTogether, TakesPaid, TakesTogether, TakesWrites, entries_in, in_turn, payments_in, pending_each}
use Rattle.ddr4_timing.specs.declared.timing.Checked.{Checked}
use Rattle.energy_budget.specs.Costs.{AreReckonedFor}
use Rattle.channel_set.specs.Draining.{DrainsAll, drains_cost, drains_in}
use Rattle.channel_set.proofs.Common.{◌+◌, length-set, arith, ◌≡◌, ◌<◌, ◌≤◌, inl, inr, ℕ, suc, refl, sym, ap, subst, ◌∙◌, List, [], drop, take, flat_map, length, slice_get, slice_set, same_Some, slice_get_within, Some, AllZip, map, Err, Ok, OnOk, Costs, Ghosts, KeepsCarried, Waits, emptied, PortTerms, ArePorts, ChannelSet, IsShape, places_of, shape_with, view_of, waits_in}
use Rattle.channel_set.proofs.Alike.{Alike, alike-from, places-again, ports-alike, seen, seen-again, shaped-again}
use Rattle.channel_set.proofs.Carried.{Kept}
use Rattle.channel_set.proofs.Counted.{OwnWrites, given_in, reads_in, same-waits, writes-there, writes_in}
use Rattle.channel_set.proofs.Lists.{AreTaken, Moved, at-within, moved-more, moved-none, get-set_other, get-set_same, moved-all, moved-last, piles-none, piles-same, piles-taken, taken-count, set-cases, zip-map, zip-size, zip-weaker}
use Rattle.channel_set.proofs.Entries.{entries-each, entries-first}
use Rattle.channel_set.proofs.Costing.{cost-more, paid-more}
use Rattle.channel_set.proofs.Paying.{actions-calls, pays-alone, pays-more, pays-refused, refused-actions, takes-alone}
use Rattle.channel_set.proofs.Piles.{remain-dropped}

module _ {K : Type 0} (L : Ghosts K) where
  -- some of the oldest writes of the port have gone to its array
  pub record Drains (old new : K) : Type 0 where
    pub takes : (gone : ℕ) × TakesWrites gone (L.view old).waits (L.view new).waits
    pub rest : L.view new ≡ record (L.view old) { waits = (L.view new).waits; stage = (L.view new).stage; stored = (L.view new).stored }
    pub keeps : KeepsCarried (L.carries old) (L.carries new)

  -- and nothing waits in it any more
  pub record DrainsDry (old new : K) : Type 0 where
    pub drains : Drains old new
    pub dry : (L.view new).waits ≡ emptied (L.view old).waits
    pub left : new ≡ L.drained old

  pub drains-none : (port : K) → Drains port port
  drains-none port = record { takes = (0, record { writes = refl; reads = refl; given = refl }); rest = refl; keeps = λ base mine carried. carried }

  -- nothing waits in it
  pub record IsDry (port : K) : Type 0 where
    pub writes : writes_in L port ≡ []
    pub reads : reads_in L port ≡ []

  -- The first ports are dry, of one so many writes have gone, and the others are as they were.
  pub record DrainedTo (k gone : ℕ) (old new : List K) : Type 0 where
    pub each : AllZip Drains old new
    pub dry : (j : ℕ) (q : K) → j < k → slice_get new j ≡ Some q → IsDry q
    pub cut : (p q : K) → slice_get old k ≡ Some p → slice_get new k ≡ Some q → writes_in L q ≡ drop gone (writes_in L p)
    pub left : (j : ℕ) → k < j → slice_get new j ≡ slice_get old j

  moved-dry : (k : ℕ) (old now : List K) (j : ℕ) (q : K) → Moved DrainsDry k old now → j < k → slice_get now j ≡ Some q → IsDry q
  moved-dry k old now j q moved less at =
      let was = at-within old j (omega (arith, moved.size, slice_get_within now j q at)) in
      let dry = (moved.done j was.it q less was.stands at).dry in
      record { writes = ap (λ (w : Waits). w.writes) dry; reads = ap (λ (w : Waits). w.reads) dry }

  pub drained-dry : (k : ℕ) (old now : List K) → length old ≤ k → Moved DrainsDry k old now → DrainedTo k 0 old now
  drained-dry k old now all moved = record {
    each = zip-weaker DrainsDry Drains old now (λ j p q at d. d.drains) (moved-all DrainsDry k old now all moved);
    dry = λ j q less at. moved-dry k old now j q moved less at;
    cut = λ p q stood stands. absurd (omega (arith, all, slice_get_within old k p stood));
    left = λ j less. moved.left j (omega (arith, less));
  }

  pub drained-last : (k gone : ℕ) (old now : List K) (p q : K) → Moved DrainsDry k old now → slice_get now k ≡ Some p → Drains p q → writes_in L q ≡ drop gone (writes_in L p) → DrainedTo k gone old (slice_set now k q)
  drained-last k gone old now p q moved at drains cut = record {
    each = moved-last DrainsDry Drains k old now p q (λ a b d. d.drains) drains-none moved at drains;
    dry = λ j z less there. elim (set-cases now k q j z there) [
      | inl here ↦ absurd (omega (arith, less, here.0))
      | inr else ↦ moved-dry k old now j z moved less else.1
    ];
    cut = λ a b stood stands.
        ap (writes_in L) (sym (same_Some q b (sym (get-set_same now k q (slice_get_within now k p at)) ∙ stands)))
        ∙ cut
        ∙ ap (λ x. drop gone (writes_in L x)) (same_Some p a (sym at ∙ moved.left k (omega arith) ∙ stood));
    left = λ j less. get-set_other now k j q (λ e. absurd (omega (arith, less, e))) ∙ moved.left j (omega (arith, less));
  }

  module _ (k gone : ℕ) (old new : List K) (drained : DrainedTo k gone old new) where
    pub drained-size : length new ≡ length old
    drained-size = zip-size Drains old new drained.each

    pub drained-are : (terms : PortTerms) → ArePorts L terms old → ArePorts L terms new
    drained-are terms are =
        ports-alike L terms terms.hold old new are (zip-weaker Drains (Alike L terms.hold) old new
        (λ j p q at d. alike-from L terms.hold p q (L.view q).waits (L.view q).stage (L.view q).stored (are.each j p at).hold d.rest) drained.each)

    pub drained-places : places_of L new ≡ places_of L old
    drained-places = places-again L old new (zip-weaker Drains (λ p q. (L.view q).place_of ≡ (L.view p).place_of) old new (λ j p q at d. ap (λ v. v.place_of) d.rest) drained.each)

    pub drained-shaped : (terms : PortTerms) (costs : Costs) → IsShape (shape_with L terms costs old) → IsShape (shape_with L terms costs new)
    drained-shaped terms costs = shaped-again L terms costs old new drained-size drained-places

    pub drained-kept : AllZip (Kept L) old new
    drained-kept = zip-weaker Drains (Kept L) old new (λ j p q at d. record { keeps = d.keeps; remain = remain-dropped d.takes.0 (writes_in L p) (writes_in L q) d.takes.1.writes }) drained.each

    are-taken : AreTaken (writes_in L) k gone old new
    are-taken = record {
      size = drained-size;
      none = λ j q less at. (drained.dry j q less at).writes;
      cut = drained.cut;
      left = λ j p q less stood stands. ap (writes_in L) (same_Some q p (sym stands ∙ drained.left j less ∙ stood));
    }

    drained-given : (waits_in L new).given ≡ (waits_in L old).given
    drained-given = piles-same (given_in L) old new (zip-weaker Drains (λ p q. given_in L q ≡ given_in L p) old new (λ j p q at d. d.takes.1.given) drained.each)

    pub drained-takes : TakesWrites (taken-count (writes_in L) k gone old) (waits_in L old) (waits_in L new)
    drained-takes = record {
      writes = piles-taken (writes_in L) k gone old new are-taken;
      reads = piles-same (reads_in L) old new (zip-weaker Drains (λ p q. reads_in L q ≡ reads_in L p) old new (λ j p q at d. d.takes.1.reads) drained.each);
      given = drained-given;
    }

    pub drained-empty : length old ≤ k → waits_in L new ≡ emptied (waits_in L old)
    drained-empty all =
        let dry = λ (j : ℕ) (q : K) (at : slice_get new j ≡ Some q). drained.dry j q (omega (arith, all, drained-size, slice_get_within new j q at)) at in
        same-waits (piles-none (writes_in L) new (λ j q at. (dry j q at).writes)) (piles-none (reads_in L) new (λ j q at. (dry j q at).reads)) drained-given

    dry-where-ok : (result : Paid) → OnOk result (length old ≤ k) → OnOk result (waits_in L new ≡ emptied (waits_in L old))
    dry-where-ok (Ok done) all = drained-empty all
    dry-where-ok (Err dark) all = tt

  -- The loop: the first ports are drained, and their drains were paid for.
  pub record Draining (channels : ChannelSet K L) (before : Gauge) (i : ℕ) (now : List K) (gauge : Gauge) : Type 0 where
    pub moved : Moved DrainsDry i channels.ports.items now
    pub pays : PaysInTurn channels.costs (flat_map drain_actions (pending_each i (waits_in L channels.ports.items).writes)) before (Ok tt) gauge
    pub covered : drains_cost L (take i channels.ports.items) channels.costs.numbers ≤ total_cost channels.costs (flat_map drain_actions (pending_each i (waits_in L channels.ports.items).writes))

  pub draining-none : (channels : ChannelSet K L) (before : Gauge) (was : List K) → was ≡ channels.ports.items → Draining channels before 0 was before
  draining-none channels before was is = record { moved = subst (Moved DrainsDry 0 channels.ports.items) (sym is) (moved-none DrainsDry channels.ports.items); pays = refl; covered = omega arith }

  module _ (channels : ChannelSet K L) (before : Gauge) (i : ℕ) (now : List K) (mid : Gauge) (draining : Draining channels before i now mid) (p q : K) (at : slice_get now i ≡ Some p) where
    pub stood : slice_get channels.ports.items i ≡ Some p
    stood = sym (draining.moved.left i (omega arith)) ∙ at

    pays-there : OwnWrites L → (result : Paid) (later : Gauge) → PaysInTurn channels.costs (drain_actions (length (writes_in L p))) mid result later
        → PaysInTurn channels.costs (flat_map drain_actions (pending_each (suc i) (waits_in L channels.ports.items).writes)) before result later
    pays-there own result later then =
        let there = writes-there L channels.terms channels.ports.items channels.are own i p stood in
        pays-more channels.costs i (waits_in L channels.ports.items).writes before mid result later draining.pays (subst (λ n. PaysInTurn channels.costs (drain_actions n) mid result later) (sym there) then)

    abbrev Covers : Type 0
    Covers = AreReckonedFor (L.view p).checked channels.costs → L.drain_cost p channels.costs.numbers ≤ total_cost channels.costs (drain_actions (length (writes_in L p)))

    covers-there : OwnWrites L → Covers → drains_cost L (take (suc i) channels.ports.items) channels.costs.numbers ≤ total_cost channels.costs (flat_map drain_actions (pending_each (suc i) (waits_in L channels.ports.items).writes))
    covers-there own covers =
        let reckoned : AreReckonedFor (L.view p).checked channels.costs = subst (λ (k : Checked). AreReckonedFor k channels.costs) (sym (channels.are.each i p stood).checked) channels.reckoned in
        let there = writes-there L channels.terms channels.ports.items channels.are own i p stood in
        omega (arith, draining.covered, covers reckoned, cost-more L channels.costs.numbers channels.ports.items i p stood, paid-more channels.costs i (waits_in L channels.ports.items).writes, ap (λ (n : ℕ). total_cost channels.costs (drain_actions n)) there)

    pub draining-more : OwnWrites L → (later : Gauge) → DrainsDry p q → PaysInTurn channels.costs (drain_actions (length (writes_in L p))) mid (Ok tt) later → Covers → Draining channels before (i + 1) (slice_set now i q) later
    draining-more own later dry then covers =
        let next : suc i ≡ i + 1 = omega arith in
        record {
          moved = moved-more DrainsDry i channels.ports.items now p q draining.moved at dry;
          pays = subst (λ n. PaysInTurn channels.costs (flat_map drain_actions (pending_each n (waits_in L channels.ports.items).writes)) before (Ok tt) later) next (pays-there own (Ok tt) later then);
          covered = subst (λ n. drains_cost L (take n channels.ports.items) channels.costs.numbers ≤ total_cost channels.costs (flat_map drain_actions (pending_each n (waits_in L channels.ports.items).writes))) next (covers-there own covers);
        }

    -- the payment for one more is refused
    pub draining-refused : OwnWrites L → (dark : Dark) (later : Gauge) → i < length channels.ports.items → PaysInTurn channels.costs (drain_actions (length (writes_in L p))) mid (Err dark) later
        → PaysInTurn channels.costs (flat_map drain_actions (pending_each (length channels.ports.items) (waits_in L channels.ports.items).writes)) before (Err dark) later
    draining-refused own dark later less then = pays-refused channels.costs (suc i) (length channels.ports.items) (waits_in L channels.ports.items).writes before dark later (omega (arith, less)) (pays-there own (Err dark) later then)

    -- which writes have gone then
    pub refused-takes : OwnWrites L → (dark : Dark) (later : Gauge) (new : List K) → (did : TakesPaid (drain_actions (length (writes_in L p))) (L.view p).waits mid (Err dark) (L.view q).waits later)
        → PaysInTurn channels.costs (drain_actions (length (writes_in L p))) mid (Err dark) later → DrainedTo i (entries_in (take did.paid (drain_actions (length (writes_in L p))))) channels.ports.items new
        → TakesPaid (flat_map drain_actions (pending_each (length channels.ports.items) (waits_in L channels.ports.items).writes)) (waits_in L channels.ports.items) before (Err dark) (waits_in L new) later
    refused-takes own dark later new did pays drained =
        let ports = channels.ports.items in
        let actions = drain_actions (length (writes_in L p)) in
        let first = flat_map drain_actions (pending_each i (waits_in L ports).writes) in
        let within : did.paid ≤ length actions = omega (arith, did.counts, refused-actions channels.costs actions mid dark later pays) in
        record {
          paid = length first + did.paid;
          counts = omega (arith, did.counts, actions-calls channels.costs first before mid draining.pays);
          takes = subst (λ n. TakesWrites n (waits_in L ports) (waits_in L new)) (sym (entries-first L channels.terms ports channels.are own i did.paid p stood within))
              (drained-takes i (entries_in (take did.paid actions)) ports new drained);
        }

    pub drained-then : (was : List K) → was ≡ channels.ports.items → length was ≡ vec_len channels.ports → Drains p q → (gone : ℕ) → writes_in L q ≡ drop gone (writes_in L p)
        → DrainedTo i gone channels.ports.items (with_items channels.ports (slice_set now i q)).items
    drained-then was is len drains gone cut =
        subst (DrainedTo i gone channels.ports.items) (sym (with_items_is channels.ports (slice_set now i q) (length-set now i q ∙ draining.moved.size ∙ ap length (sym is) ∙ len)))
        (drained-last i gone channels.ports.items now p q draining.moved at drains cut)

  pub drained-whole : (channels : ChannelSet K L) (before : Gauge) (i : ℕ) (now : List K) (gauge : Gauge) (was : List K) → Draining channels before i now gauge → was ≡ channels.ports.items → length was ≡ vec_len channels.ports → length was ≤ i
      → DrainedTo i 0 channels.ports.items (with_items channels.ports now).items
  drained-whole channels before i now gauge was draining is len all =
      subst (DrainedTo i 0 channels.ports.items) (sym (with_items_is channels.ports now (draining.moved.size ∙ ap length (sym is) ∙ len)))
      (drained-dry i channels.ports.items now (omega (arith, all, ap length is)) draining.moved)

  -- each is as its drain leaves it
  pub drained-each : (channels : ChannelSet K L) (before : Gauge) (i : ℕ) (now : List K) (gauge : Gauge) (was : List K) → Draining channels before i now gauge → was ≡ channels.ports.items → length was ≡ vec_len channels.ports → length was ≤ i
      → (with_items channels.ports now).items ≡ map L.drained channels.ports.items
  drained-each channels before i now gauge was draining is len all =
      let old = channels.ports.items in
      with_items_is channels.ports now (draining.moved.size ∙ ap length (sym is) ∙ len)
      ∙ zip-map L.drained old now (zip-weaker DrainsDry (λ p q. q ≡ L.drained p) old now (λ j p q at d. d.left) (moved-all DrainsDry i old now (omega (arith, all, ap length is)) draining.moved))

  module _ (channels : ChannelSet K L) (k gone : ℕ) (new : List K) (drained : DrainedTo k gone channels.ports.items new) where
    pub drains-all : (order : DrainOrder) (before : Gauge) (result : Paid) (later : Gauge) → PaysTogether channels.costs (payments_in order (drains_in (view_of L channels))) before result later
        → TakesTogether (payments_in order (drains_in (view_of L channels))) (waits_in L channels.ports.items) before result (waits_in L new) later
        → OnOk result (length channels.ports.items ≤ k) → DrainsAll order (view_of L channels) before result (seen L channels.terms channels.costs new) later
    drains-all order before result later pays takes all =
        let old = channels.ports.items in
        record {
          pays = pays;
          rest = seen-again L channels.terms channels.costs old new (drained-size k gone old new drained) (drained-places k gone old new drained);
          takes = takes;
          remain = remain-dropped (taken-count (writes_in L) k gone old) (waits_in L old).writes (waits_in L new).writes (drained-takes k gone old new drained).writes;
          dry = dry-where-ok k gone old new drained result all;
        }

    -- one after another
    drains-in-turn : (before : Gauge) (result : Paid) (later : Gauge) → PaysInTurn channels.costs (drains_in (view_of L channels)) before result later
        → TakesPaid (drains_in (view_of L channels)) (waits_in L channels.ports.items) before result (waits_in L new) later
        → OnOk result (length channels.ports.items ≤ k) → DrainsAll in_turn (view_of L channels) before result (seen L channels.terms channels.costs new) later
    drains-in-turn before result later pays takes all =
        let actions = drains_in (view_of L channels) in
        drains-all in_turn before result later (pays-alone channels.costs actions before result later pays)
        (takes-alone channels.costs actions before result later (waits_in L channels.ports.items) (waits_in L new) takes) all

    -- all were paid for
    pub drains-whole : OwnWrites L → (before later : Gauge) → PaysInTurn channels.costs (flat_map drain_actions (pending_each (length channels.ports.items) (waits_in L channels.ports.items).writes)) before (Ok tt) later
        → length channels.ports.items ≤ k → DrainsAll in_turn (view_of L channels) before (Ok tt) (seen L channels.terms channels.costs new) later
    drains-whole own before later pays all =
        let old = channels.ports.items in
        let actions = flat_map drain_actions (pending_each (length old) (waits_in L old).writes) in
        let none : (waits_in L new).writes ≡ [] = ap (λ (w : Waits). w.writes) (drained-empty k gone old new drained all) in
        drains-in-turn before (Ok tt) later pays
        (record {
          paid = length actions;
          counts = refl;
          takes = record {
            writes = none ∙ sym (drop-length (waits_in L old).writes) ∙ ap (λ n. drop n (waits_in L old).writes) (sym (entries-each L channels.terms old channels.are own));
            reads = (drained-takes k gone old new drained).reads;
            given = (drained-takes k gone old new drained).given;
          };
        })
        all

    -- a payment was refused
    pub drains-refused : (before : Gauge) (result : Paid) (dark : Dark) (later : Gauge) → IsErr result
        → PaysInTurn channels.costs (flat_map drain_actions (pending_each (length channels.ports.items) (waits_in L channels.ports.items).writes)) before (Err dark) later
        → TakesPaid (flat_map drain_actions (pending_each (length channels.ports.items) (waits_in L channels.ports.items).writes)) (waits_in L channels.ports.items) before (Err dark) (waits_in L new) later
        → DrainsAll in_turn (view_of L channels) before result (seen L channels.terms channels.costs new) later
    drains-refused before (Ok done) dark later is pays takes = absurd (let bad : ⊥ = cc in bad)
    drains-refused before (Err other) dark later is pays takes = drains-in-turn before (Err other) later pays (record { paid = takes.paid; counts = takes.counts; takes = takes.takes }) tt
