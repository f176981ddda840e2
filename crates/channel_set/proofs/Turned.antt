-- All ports changed alike: one hold for all, or reads that are lost in all.
use Rattle.std.specs.Prelude.{Vec, vec_len}
use Rattle.std.specs.Vec.{with_items}
use Rattle.channel_set.proofs.Common.{◌≡◌, ◌≤◌, ℕ, refl, ap, ◌∙◌, List, [], length, map, slice_get, Some, Option, AllZip, Costs, Ghosts, IsShape, KeepsCarried, OnBackup, Stage, Waits, PortTerms, ArePorts, ChannelSet, places_of, shape_with, view_of, waits_in}
use Rattle.channel_set.proofs.Alike.{Alike, stage-again, places-again, ports-alike, seen, seen-stored, shaped-again}
use Rattle.channel_set.proofs.Carried.{Kept}
use Rattle.energy_budget.specs.declared.costs.CostNumbers.{CostNumbers}
use Rattle.channel_set.specs.Draining.{drains_cost}
use Rattle.channel_set.proofs.Costing.{costs-same}
use Rattle.channel_set.proofs.Counted.{given_in, reads_in, same-waits, writes_in}
use Rattle.channel_set.proofs.Issued.{same-lists}
use Rattle.channel_set.proofs.Lists.{Moved, moved-vec, piles-none, piles-same, zip-size, zip-was, zip-weaker}
use Rattle.channel_set.proofs.Piles.{remain-same}

module _ {K : Type 0} (L : Ghosts K) where
  -- what waits in the port, its hold and its stage have changed so
  pub record Turns (after : Waits → Waits) (hold : Option ℕ → Option ℕ) (stage : Stage → Stage) (old new : K) : Type 0 where
    pub is : L.view new ≡ record (L.view old) { waits = after (L.view old).waits; hold = hold (L.view old).hold; stage = stage (L.view old).stage }
    pub cost : L.drain_cost new ≡ L.drain_cost old
    pub issued : L.issued new ≡ L.issued old
    pub keeps : KeepsCarried (L.carries old) (L.carries new)

  abbrev pub HoldsFrom : Option ℕ → K → K → Type 0
  HoldsFrom from = Turns (λ waits. waits) (λ hold. from) (λ stage. stage)

  abbrev pub LosesMains : K → K → Type 0
  LosesMains = Turns (λ waits. record waits { reads = [] }) (λ hold. hold) (λ stage. OnBackup)

  -- each port has
  pub record Turned (after : Waits → Waits) (hold : Option ℕ → Option ℕ) (stage : Stage → Stage) (old new : List K) : Type 0 where
    pub each : AllZip (Turns after hold stage) old new

  pub turned-vec : {Z : Type 0} (after : Waits → Waits) (hold : Option ℕ → Option ℕ) (stage : Stage → Stage) (v : Vec K Z) (was now : List K) (i : ℕ) → was ≡ v.items → length was ≡ vec_len v → length was ≤ i → Moved (Turns after hold stage) i was now
      → Turned after hold stage v.items (with_items v now).items
  turned-vec after hold stage v was now i is len all moved = record { each = moved-vec (Turns after hold stage) v was now i is len all moved }

  module _ {after : Waits → Waits} {hold : Option ℕ → Option ℕ} {stage : Stage → Stage} {old new : List K} (turned : Turned after hold stage old new) where
    pub turned-are : (terms : PortTerms) → ArePorts L terms old → ArePorts L (record terms { hold = hold terms.hold }) new
    turned-are terms are = ports-alike L terms (hold terms.hold) old new are (zip-weaker (Turns after hold stage) (Alike L (hold terms.hold)) old new (λ j p q at t. record {
      number = ap (λ v. v.number) t.is;
      checked = ap (λ v. v.checked) t.is;
      lines = ap (λ v. v.lines) t.is;
      places = ap (λ v. v.place_of) t.is;
      depth = ap (λ v. v.depth) t.is;
      most_reads = ap (λ v. v.most_reads) t.is;
      hold_is = ap (λ v. v.hold) t.is ∙ ap hold (are.each j p at).hold;
    }) turned.each)

    pub turned-places : places_of L new ≡ places_of L old
    turned-places = places-again L old new (zip-weaker (Turns after hold stage) (λ p q. (L.view q).place_of ≡ (L.view p).place_of) old new (λ j p q at t. ap (λ v. v.place_of) t.is) turned.each)

    pub turned-shaped : (terms : PortTerms) (costs : Costs) → IsShape (shape_with L terms costs old) → IsShape (shape_with L terms costs new)
    turned-shaped terms costs = shaped-again L terms costs old new (zip-size (Turns after hold stage) old new turned.each) turned-places

    turned-seen : (terms : PortTerms) (costs : Costs) → seen L terms costs new ≡ record (seen L terms costs old) { waits = waits_in L new }
    turned-seen terms costs = seen-stored L terms costs old new turned-places (zip-weaker (Turns after hold stage) (λ p q. (L.view q).stored ≡ (L.view p).stored) old new (λ j p q at t. ap (λ v. v.stored) t.is) turned.each)

    turned-writes : ((w : Waits) → (after w).writes ≡ w.writes) → (waits_in L new).writes ≡ (waits_in L old).writes
    turned-writes same =
        piles-same (writes_in L) old new (zip-weaker (Turns after hold stage) (λ p q. writes_in L q ≡ writes_in L p) old new (λ j p q at t. ap (λ v. v.waits.writes) t.is ∙ same (L.view p).waits) turned.each)

    turned-given : ((w : Waits) → (after w).given ≡ w.given) → (waits_in L new).given ≡ (waits_in L old).given
    turned-given same =
        piles-same (given_in L) old new (zip-weaker (Turns after hold stage) (λ p q. given_in L q ≡ given_in L p) old new (λ j p q at t. ap (λ v. v.waits.given) t.is ∙ same (L.view p).waits) turned.each)

    -- ports that were all at a stage
    pub turned-stage : (was : Stage) → ((number : ℕ) (port : K) → slice_get old number ≡ Some port → (L.view port).stage ≡ was) → (number : ℕ) (port : K) → slice_get new number ≡ Some port → (L.view port).stage ≡ stage was
    turned-stage was =
        stage-again L was (stage was) old new (zip-weaker (Turns after hold stage) (λ p q. (L.view p).stage ≡ was → (L.view q).stage ≡ stage was) old new (λ j p q at t same. ap (λ v. v.stage) t.is ∙ ap stage same) turned.each)

    pub turned-kept : ((w : Waits) → (after w).writes ≡ w.writes) → AllZip (Kept L) old new
    turned-kept same = zip-weaker (Turns after hold stage) (Kept L) old new (λ j p q at t. record { keeps = t.keeps; remain = remain-same (writes_in L p) (writes_in L q) (ap (λ v. v.waits.writes) t.is ∙ same (L.view p).waits) }) turned.each

    -- their drains cost the same
    pub turned-cost : (numbers : CostNumbers) → drains_cost L new numbers ≡ drains_cost L old numbers
    turned-cost numbers = costs-same L numbers old new (zip-weaker (Turns after hold stage) (λ p q. L.drain_cost q ≡ L.drain_cost p) old new (λ j p q at t. t.cost) turned.each)

    -- none of them issued a command
    pub turned-issued : map L.issued new ≡ map L.issued old
    turned-issued = same-lists L.issued old new (zip-weaker (Turns after hold stage) (λ p q. L.issued q ≡ L.issued p) old new (λ j p q at t. t.issued) turned.each)

  -- one hold for all
  pub held-seen : (from : Option ℕ) (channels : ChannelSet K L) (new : List K) → Turned (λ waits. waits) (λ hold. from) (λ stage. stage) channels.ports.items new
      → seen L (record channels.terms { hold = from }) channels.costs new ≡ record (view_of L channels) { hold = from }
  held-seen from channels new turned =
      let old = channels.ports.items in
      let reads = piles-same (reads_in L) old new (zip-weaker (HoldsFrom from) (λ p q. reads_in L q ≡ reads_in L p) old new (λ j p q at t. ap (λ v. v.waits.reads) t.is) turned.each) in
      turned-seen turned (record channels.terms { hold = from }) channels.costs
      ∙ ap (λ (waits : Waits). record (view_of L channels) { waits = waits; hold = from }) (same-waits (turned-writes turned (λ w. refl)) reads (turned-given turned (λ w. refl)))

  -- no read is open any more
  pub lost-waits : (old new : List K) → Turned (λ waits. record waits { reads = [] }) (λ hold. hold) (λ stage. OnBackup) old new → waits_in L new ≡ record (waits_in L old) { reads = [] }
  lost-waits old new turned =
      let reads = piles-none (reads_in L) new (λ j q at. let was = zip-was LosesMains old new j q turned.each at in ap (λ v. v.waits.reads) was.related.is) in
      same-waits (turned-writes turned (λ w. refl)) reads (turned-given turned (λ w. refl))

  pub lost-seen : (channels : ChannelSet K L) (new : List K) → Turned (λ waits. record waits { reads = [] }) (λ hold. hold) (λ stage. OnBackup) channels.ports.items new
      → seen L channels.terms channels.costs new ≡ record (view_of L channels) { waits = waits_in L new }
  lost-seen channels new turned = turned-seen turned channels.terms channels.costs
