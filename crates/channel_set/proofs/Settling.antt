-- Once every write below a number is in the arrays and none from it on, they are the memory after so many writes.
use Rattle.line_memory.proofs.Parting as parting
use Rattle.std.proofs.lemmas.List.{get_or_default}
use Rattle.std.proofs.lemmas.List.FromFn.{get_or-map-range_with_len, length-map-range_with_len}
use Rattle.channel_set.proofs.Common.{arith, ◌≡◌, ◌==◌, ◌+◌, ◌-◌, ◌<◌, ◌≤◌, ℕ, Bool, true, false, nat_lt, refl, sym, ap, subst, ◌∙◌, List, [], ◌∷◌, flat_map, length, length-set, map, slice_get, take, Some, list_any, range_with_len, eqb-true, same_lists, same_Some, after, after_write, line_of, memory_at, below, writes_of, written_on, Ghosts, Has, IsPending, NoneBelow, Numbered, WaitFrom, Waiting, Write, CarriesAll, ChannelSet, WaitsFrom, places_of, shape_of, stored_by, stored_in, view_of}
use Rattle.channel_set.proofs.Counted.{writes_in}
use Rattle.channel_set.proofs.Lists.{all-of, at-within}
use Rattle.channel_set.proofs.Piles.{any-found, any-has, from-pile, has-pile}
use Rattle.channel_set.proofs.Written.{written-before, written-once}

length-after : (memory : List (List ℕ)) (writes : List Write) → length (after memory writes) ≡ length memory
length-after memory [] = refl
length-after memory (w ∷ writes) = length-after (after_write memory w) writes ∙ length-set memory w.line w.«data»

module _ {K : Type 0} (L : Ghosts K) where
  -- Once no write below n waits in a port, and each of its own from n on does, its lines are those of the memory after the writes
  -- below n.
  abbrev pub PortsSettle : Type 0
  PortsSettle = (port : K) (base : List (List ℕ)) (mine : List Numbered) (n line : ℕ) → L.carries port base mine → NoneBelow n (L.view port).waits.writes → WaitFrom n mine (L.view port).waits.writes
      → line < (L.view port).lines → ((L.view port).place_of line).channel ≡ (L.view port).number → (L.view port).stored line ≡ line_of (after base (writes_of (below n mine))) line

  none-there : (n : ℕ) (ports : List K) (i : ℕ) (p : K) → slice_get ports i ≡ Some p → NoneBelow n (flat_map (writes_in L) ports) → NoneBelow n (writes_in L p)
  none-there n ports i p at none = by (list_any test (writes_in L p)) refl
    where
      test : Waiting → Bool
      test w = nat_lt w.number n

      by : (b : Bool) → list_any test (writes_in L p) ≡ b → b ≡ false
      by false is = refl
      by true is =
          let found = any-found test (writes_in L p) is in
          let some = any-has test (flat_map (writes_in L) ports) found.it (has-pile (writes_in L) ports i p found.it at found.has) found.passes in
          absurd (let bad : ⊥ = cc in bad)

  module _ (channels : ChannelSet K L) (base : List (List ℕ)) (start : ℕ) (writes : List Write) (carries : CarriesAll L channels base start writes) (n : ℕ) where
    abbrev pub mine_on : ℕ → List Numbered
    mine_on channel = written_on (shape_of L channels).channel_of channel start writes

    -- a write from n on waits in the port on which it lies
    waits-there : WaitsFrom n (start + length writes) (view_of L channels).waits.writes → (i : ℕ) (p : K) → slice_get channels.ports.items i ≡ Some p → (w : Numbered) → Has w (mine_on i) → n ≤ w.number → IsPending w.number (writes_in L p)
    waits-there waits i p at w has from =
        let ports = channels.ports.items in
        let channel_of = (shape_of L channels).channel_of in
        let test = λ (v : Waiting). v.number == w.number in
        let found = any-found test (view_of L channels).waits.writes (waits w.number from (written-before channel_of i start writes w has)) in
        let pile = from-pile (writes_in L) ports found.it found.has in
        let (u, there, named) = (carries.each pile.place pile.pile pile.at).given found.it pile.has in
        let place = written-once channel_of i pile.place start writes w u has there (named ∙ eqb-true found.it.number w.number found.passes) in
        let port : pile.pile ≡ p = same_Some pile.pile p (sym pile.at ∙ ap (slice_get ports) place ∙ at) in
        any-has test (writes_in L p) found.it (subst (λ x. Has found.it (writes_in L x)) port pile.has) found.passes

    line-settled : PortsSettle → NoneBelow n (view_of L channels).waits.writes → WaitsFrom n (start + length writes) (view_of L channels).waits.writes
        → (line : ℕ) → line < channels.terms.lines → stored_in L channels.ports.items line ≡ line_of (memory_at base start writes n) line
    line-settled settle none waits line less =
        let i = (places_of L channels.ports.items line).channel in
        let found = at-within channels.ports.items i (channels.shaped.known line less) in
        let port = found.it in
        let is = channels.are.each i port found.stands in
        ap (stored_by L line) found.stands
        ∙ settle port base (mine_on i) n line (carries.each i port found.stands).carries (none-there n channels.ports.items i port found.stands none)
        (all-of (λ (w : Numbered). n ≤ w.number → IsPending w.number (writes_in L port)) (mine_on i) (λ k w there. waits-there waits i port found.stands w (k, there)))
        (omega (arith, less, is.lines)) (ap (λ f. (f line).channel) is.places_are ∙ sym is.number_is)
        ∙ sym (parting.told (shape_of L channels).channel_of start n line base writes)

    pub settled : PortsSettle → NoneBelow n (view_of L channels).waits.writes → WaitsFrom n (start + length writes) (view_of L channels).waits.writes → (view_of L channels).array ≡ memory_at base start writes n
    settled settle none waits =
        let memory = memory_at base start writes n in
        let lines = channels.terms.lines in
        let there = stored_in L channels.ports.items in
        let size : length memory ≡ lines = length-after base (take (n - start) writes) ∙ carries.memory.size in
        let count = length-map-range_with_len there 0 lines in
        same_lists (map there (range_with_len 0 lines)) memory (count ∙ sym size) (λ k d less.
        let under : k < lines = omega (arith, less, count) in
        get_or-map-range_with_len there 0 lines k k d under (omega arith)
        ∙ line-settled settle none waits k under
        ∙ get_or_default memory k [] d (omega (arith, under, size)))
