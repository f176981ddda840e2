-- What the channels carry, and the memory that their arrays are once it has reached them.
use Rattle.line_memory.specs.Memory.{IsMemory}
use Rattle.channel_set.proofs.Common.{◌≡◌, ℕ, sym, subst, List, [], slice_get, slice_set, Some, AllZip, written_on, Ghosts, Has, KeepsCarried, Remain, CarriesAll, CarriesOwn, Place, ap, ◌∙◌, places_of, ChannelSet, KeepsAll, waits_in, nothing, Waits}
use Rattle.channel_set.proofs.Alike.{places-set}
use Rattle.channel_set.proofs.Counted.{writes_in}
use Rattle.channel_set.proofs.Lists.{zip-set, zip-was}
use Rattle.channel_set.proofs.Piles.{has-pile}

module _ {K : Type 0} (L : Ghosts K) where
  -- a port that carries what it did, and in which no write is new
  pub record Kept (old new : K) : Type 0 where
    pub keeps : KeepsCarried (L.carries old) (L.carries new)
    pub remain : Remain (writes_in L old) (writes_in L new)

  pub carries-again : (old new : ChannelSet K L) → new.terms.lines ≡ old.terms.lines → places_of L new.ports.items ≡ places_of L old.ports.items → AllZip Kept old.ports.items new.ports.items → KeepsAll L old new
  carries-again old new lines places zip base start writes carries = record {
    memory = subst (λ n. IsMemory n base) (sym lines) carries.memory;
    each = λ j q at.
        let was = zip-was Kept old.ports.items new.ports.items j q zip at in
        let own = carries.each j was.old was.stood in
        let part = λ (f : ℕ → Place). written_on (λ line. (f line).channel) j start writes in
        subst (λ f. CarriesOwn L q base (part f)) (sym places) (record {
          carries = was.related.keeps base (part (places_of L old.ports.items)) own.carries;
          given = λ v has. own.given v (was.related.remain v has);
        });
  }

  -- one port has changed
  pub carries-set : (old new : ChannelSet K L) (i : ℕ) (p q : K) → new.terms.lines ≡ old.terms.lines → new.ports.items ≡ slice_set old.ports.items i q → slice_get old.ports.items i ≡ Some p → (L.view q).place_of ≡ (L.view p).place_of → Kept p q → KeepsAll L old new
  carries-set old new i p q lines is at places kept =
      carries-again old new lines (ap (places_of L) is ∙ places-set L old.ports.items i p q at places) (subst (AllZip Kept old.ports.items) (sym is) (zip-set Kept old.ports.items i p q (λ j z there. record { keeps = λ base mine carried. carried; remain = λ v has. has }) at kept))

  -- ports that were given no write
  pub carries-none : (channels : ChannelSet K L) (base : List (List ℕ)) (start : ℕ) → IsMemory channels.terms.lines base → waits_in L channels.ports.items ≡ nothing
      → ((number : ℕ) (port : K) → slice_get channels.ports.items number ≡ Some port → L.carries port base []) → CarriesAll L channels base start []
  carries-none channels base start memory none each = record {
    memory = memory;
    each = λ j p at. record {
      carries = each j p at;
      given = λ v has.
          let (k, there) = subst (λ (w : Waits). Has v w.writes) none (has-pile (writes_in L) channels.ports.items j p v at has) in
          absurd (let bad : ⊥ = cc in bad);
    };
  }
