-- What a write that one port takes does to all channels.
use Rattle.line_memory.specs.Memory.{IsMemory}
use Rattle.std.proofs.lemmas.Bool.{le-leb, lt-leb}
use Rattle.std.specs.Prelude.{nat_le}
use Rattle.channel_port.specs.Answers.{Puts}
use Rattle.channel_port.specs.View.{with_write}
use Rattle.channel_port.specs.Waits.{is_write_up_to}
use Rattle.channel_set.proofs.Common.{◌≡◌, ◌+◌, inl, inr, ℕ, zero, suc, refl, sym, ap, subst, ◌∙◌, List, [], ◌∷◌, ◌++◌, length, slice_get, slice_set, Some, same_Some, AreBefore, numbered, written_on, Ghosts, Has, Numbered, Waiting, Write, waiting, CarriesAll, CarriesOwn, ChannelSet, WaitAmong, PortTerms, ArePorts, places_of, Place, shape_of, waits_in}
use Rattle.channel_set.proofs.Alike.{places-set}
use Rattle.channel_set.proofs.Counted.{OwnWrites, given_in, reads_in, write-here, writes_in}
use Rattle.channel_set.proofs.Lists.{set-cases}
use Rattle.channel_set.proofs.Piles.{has-before, has-behind, has-either, one-behind, one-stays}
use Rattle.channel_set.proofs.Written.{numbers-before, written-else, written-here}

module _ {K : Type 0} (L : Ghosts K) where
  -- a port takes the write of this number
  pub record TakesWrite (number : ℕ) (write : Write) (old new : K) : Type 0 where
    pub puts : L.view new ≡ with_write number (L.view old)
    pub carries : (base : List (List ℕ)) (mine : List Numbered) → L.carries old base mine → AreBefore number mine → L.carries new base (mine ++ numbered number write ∷ [])

  pub puts-there : (terms : PortTerms) (ports : List K) → ArePorts L terms ports → OwnWrites L → (number i : ℕ) (write : Write) (p q : K) → slice_get ports i ≡ Some p → TakesWrite number write p q
      → Puts number i (waits_in L ports) (waits_in L (slice_set ports i q))
  puts-there terms ports are own number i write p q at takes = record {
    joins =
        let ends = ap (λ v. v.waits.writes) takes.puts ∙ ap (λ c. writes_in L p ++ waiting number c ∷ []) (are.each i p at).number_is in
        one-behind (waiting number i) (is_write_up_to i) (λ j. nat_le j i) (writes_in L) ports i p q (λ j less. le-leb j i less) (λ j less. lt-leb j i less) at ends
        (λ j z w there has. ap (λ n. nat_le n i) (write-here L terms ports are own j z w there has));
    reads = one-stays (reads_in L) ports i p q at (ap (λ v. v.waits.reads) takes.puts);
    given = one-stays (given_in L) ports i p q at (ap (λ v. v.waits.given) takes.puts);
  }

  among-more : (number channel : ℕ) (write : Write) (mine : List Numbered) (old new : List Waiting) → new ≡ old ++ waiting number channel ∷ [] → WaitAmong mine old → WaitAmong (mine ++ numbered number write ∷ []) new
  among-more number channel write mine old new is among v has = elim (has-either v old (waiting number channel ∷ []) (subst (Has v) is has)) [
    | inl first ↦ let (w, there, named) = among v first in (w, has-before w mine (numbered number write ∷ []) there, named)
    | inr last ↦ (numbered number write, has-behind (numbered number write) mine (numbered number write ∷ []) (zero, refl), ap (λ x. x.number) (only v last))
  ]
    where
      only : (v : Waiting) → Has v (waiting number channel ∷ []) → waiting number channel ≡ v
      only v (zero, at) = same_Some (waiting number channel) v at
      only v (suc k, at) = absurd cc

  module _ (old new : ChannelSet K L) (i number : ℕ) (write : Write) (p q : K) where
    own-put : (base : List (List ℕ)) (mine : List Numbered) → TakesWrite number write p q → AreBefore number mine → CarriesOwn L p base mine → CarriesOwn L q base (mine ++ numbered number write ∷ [])
    own-put base mine takes before own = record {
      carries = takes.carries base mine own.carries before;
      given = among-more number (L.view p).number write mine (writes_in L p) (writes_in L q) (ap (λ v. v.waits.writes) takes.puts) own.given;
    }

    pub carries-put : new.terms.lines ≡ old.terms.lines → new.ports.items ≡ slice_set old.ports.items i q → slice_get old.ports.items i ≡ Some p → (places_of L old.ports.items write.line).channel ≡ i → TakesWrite number write p q
        → (base : List (List ℕ)) (start : ℕ) (writes : List Write) → CarriesAll L old base start writes → number ≡ start + length writes → CarriesAll L new base start (writes ++ write ∷ [])
    carries-put lines is at on takes base start writes carries last = record {
      memory = subst (λ n. IsMemory n base) (sym lines) carries.memory;
      each = λ j z there.
          let part = λ (j : ℕ). written_on (shape_of L old).channel_of j start (writes ++ write ∷ []) in
          let places = ap (places_of L) is ∙ places-set L old.ports.items i p q at (ap (λ v. v.place_of) takes.puts) in
          subst (λ (f : ℕ → Place). CarriesOwn L z base (written_on (λ line. (f line).channel) j start (writes ++ write ∷ []))) (sym places)
          (elim (set-cases old.ports.items i q j z (ap (λ ports. slice_get ports j) (sym is) ∙ there)) [
            | inl here ↦
                let mine = written-here (shape_of L old).channel_of i start writes write number last on in
                subst (λ k. CarriesOwn L z base (part k)) (sym here.0)
                (subst (λ x. CarriesOwn L x base (part i)) here.1
                (subst (CarriesOwn L q base) (sym mine) (own-put base (written_on (shape_of L old).channel_of i start writes) takes
                (numbers-before (shape_of L old).channel_of i start writes number last) (carries.each i p at))))
            | inr else ↦
                let mine = written-else (shape_of L old).channel_of j start writes write (λ e. else.0 (sym e ∙ on)) in
                subst (CarriesOwn L z base) (sym mine) (carries.each j z else.1)
          ]);
    }
