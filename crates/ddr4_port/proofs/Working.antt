-- What a channel carries through its own commands, and through its drain.
use Rattle.std.proofs.Common.{rules, ◌≡◌, ◌+◌, ◌<◌, ◌≤◌, ℕ, zero, suc, Bool, true, List, [], ◌∷◌, cond, drop, filter, map, nat_lt, slice_get, take, Option, Some, None, inl, inr, refl, sym, ap, subst, ◌∙◌, arith}
use Rattle.ddr4_port.proofs.Common.{Carries, ChannelState, Done, HasRightContents, IfNone, IfSome, IssuesChoice}
use Rattle.ddr4_port.proofs.Common.{MovesWrite, Numbered, PendingWrite, Place, ServesIndex, ServesRequest, WaitFrom}
use Rattle.ddr4_port.proofs.Common.{after_command, after_write, cases_order, channel_memory, memory_below, waiting_on}
use Rattle.ddr4_port.proofs.Common.{waits_of}
use Rattle.request_notes.specs.declared.pending.Pending.{Pending}
use Rattle.wpq_core.specs.PendingMemory.{after_pending}
use Rattle.channel_port.specs.declared.answers.Served.{Served}
use Rattle.channel_port.specs.declared.answers.Served.TheVariants as served
use Rattle.ddr4_port.proofs.Keeping.{carry-on}
use Rattle.ddr4_port.proofs.Numbers.{gone-number, wait-of}
use Rattle.ddr4_port.proofs.Telling.{served-among}

-- a number that is one of those that were given, and waits still where it isn't below n
module _ (places : ℕ → Place) (s t : ChannelState) (base : List (List ℕ)) (mine : List Numbered) (channel : t.channel ≡ s.channel) (contents : HasRightContents s) (c : Carries places s base mine) where
  still-waits : (n number : ℕ) (request : Pending) → WaitFrom n mine (waits_of t).writes → MovesWrite s request number t → n ≤ number → ⊥
  still-waits n number request waits moves from =
      let (k, v, stands, named, bytes, gone) = moves.writes in
      let (one, has, is) = c.given k v stands in
      let there = wait-of t.channel n has.0 mine t.writes one waits has.1 (omega (arith, from, is, named)) in
      gone-number s.writes k there.index number v there.write contents.writes.rise stands named (ap (λ (ws : List PendingWrite). slice_get ws there.index) (sym gone) ∙ there.there) (there.named ∙ is ∙ named)

  same-below : (n : ℕ) → t.array ≡ s.array → t.writes ≡ s.writes → memory_below n t ≡ memory_below n s
  same-below n array writes =
      ap (λ (ls : List (List ℕ)). after_pending ls (filter (λ w. nat_lt w.number n) t.writes)) array ∙ ap (λ (ws : List PendingWrite). after_pending s.array (filter (λ w. nat_lt w.number n) ws)) writes

  request-below : (n : ℕ) → WaitFrom n mine (waits_of t).writes → (request : Pending) (is : Served) → ServesRequest s request is t → memory_below n t ≡ memory_below n s
  request-below n waits request (served.Write number) moves = elim (cases_order number n) [
    | inl e ↦ absurd (still-waits n number request waits moves (omega (arith, e)))
    | inr (inl below) ↦ moves.below n below
    | inr (inr above) ↦ absurd (still-waits n number request waits moves (omega (arith, above)))
  ]
  request-below n waits request (served.Read ticket) answers = same-below n answers.array answers.writes

  pub served-below : (n : ℕ) → WaitFrom n mine (waits_of t).writes → (index : Option ℕ) (is : Option Served) → ServesIndex index is s t → memory_below n t ≡ memory_below n s
  served-below n waits (Some index) (Some is) serve = request-below n waits serve.p is serve.serves
  served-below n waits (Some index) None serve = absurd serve
  served-below n waits None (Some is) serve = absurd serve
  served-below n waits None None serve = same-below n serve.array serve.writes

-- A command of the channel.
pub works : (places : ℕ → Place) (s t : ChannelState) (result : Option Done) → HasRightContents s → channel_memory t ≡ channel_memory s → IfNone result (t ≡ s) → IfSome result (λ done. IssuesChoice s done t)
    → (base : List (List ℕ)) (mine : List Numbered) → Carries places s base mine → Carries places t base mine
works places s t None contents memory stays issues base mine c = subst (λ (x : ChannelState). Carries places x base mine) (sym stays) c
works places s t (Some done) contents memory stays issues base mine c =
    let same = issues.same in
    let u = after_command s done.command t in
    let serve : ServesIndex issues.index done.served s u = subst (ServesIndex issues.index done.served s) same issues.serves in
    subst (λ (x : ChannelState). Carries places x base mine) (sym same)
    (carry-on places s t.array t.writes t.tickets t.requests u.commands s.phase base mine (served-among s u issues.index done.served serve) (ap channel_memory (sym same) ∙ memory)
    (λ n waits. served-below places s u base mine refl contents c n waits issues.index done.served serve) c)

-- The oldest writes go to the array.

pub get-dropped : {X : Type 0} (n k : ℕ) (xs : List X) → slice_get (drop n xs) k ≡ slice_get xs (n + k)
get-dropped zero k xs = ap (slice_get xs) (let same : k ≡ 0 + k = omega arith in same)
get-dropped (suc n) k [] = refl
get-dropped (suc n) k (x ∷ xs) = get-dropped n k xs ∙ ap (slice_get (x ∷ xs)) (let same : suc (n + k) ≡ suc n + k = omega arith in same)

-- where the writes that went have numbers below another one, the memory below that one stays
below-stays : (n gone : ℕ) (array : List (List ℕ)) (ws : List PendingWrite) → ((k : ℕ) (w : PendingWrite) → k < gone → slice_get ws k ≡ Some w → nat_lt w.number n ≡ true)
    → after_pending (after_pending array (take gone ws)) (filter (λ w. nat_lt w.number n) (drop gone ws)) ≡ after_pending array (filter (λ w. nat_lt w.number n) ws)
below-stays n zero array ws less = refl
below-stays n (suc gone) array [] less = refl
below-stays n (suc gone) array (w ∷ ws) less =
    below-stays n gone (after_write array w.write) ws (λ k v under at. less (suc k) v (omega (arith, under)) at)
    ∙ sym (ap (λ (b : Bool). after_pending array (cond b (w ∷ filter (λ w. nat_lt w.number n) ws) (filter (λ w. nat_lt w.number n) ws))) (less zero w (omega arith) refl))

memory-stays : (gone : ℕ) (array : List (List ℕ)) (ws : List PendingWrite) → after_pending (after_pending array (take gone ws)) (drop gone ws) ≡ after_pending array ws
memory-stays zero array ws = refl
memory-stays (suc gone) array [] = refl
memory-stays (suc gone) array (w ∷ ws) = memory-stays gone (after_write array w.write) ws

is-below : (a n : ℕ) → a < n → nat_lt a n ≡ true
is-below a n less = search rules

module _ (places : ℕ → Place) (s : ChannelState) (gone : ℕ) (base : List (List ℕ)) (mine : List Numbered) (contents : HasRightContents s) (c : Carries places s base mine) where
  -- a write that went isn't one that waits still
  gone-below : (channel n k : ℕ) (w : PendingWrite) → WaitFrom n mine (map (waiting_on channel) (drop gone s.writes)) → k < gone → slice_get s.writes k ≡ Some w → w.number < n
  gone-below channel n k w waits less stands = elim (cases_order w.number n) [
    | inl e ↦ absurd (still (omega (arith, e)))
    | inr (inl below) ↦ below
    | inr (inr above) ↦ absurd (still (omega (arith, above)))
  ]
    where
      still : n ≤ w.number → ⊥
      still from =
          let (one, has, is) = c.given k w stands in
          let there = wait-of channel n has.0 mine (drop gone s.writes) one waits has.1 (omega (arith, from, is)) in
          let rise = contents.writes.rise k (gone + there.index) w there.write (omega (arith, less)) stands (sym (get-dropped gone there.index s.writes) ∙ there.there) in
          omega (arith, rise, there.named, is)

-- so many of the oldest writes went, and all reads may have
abbrev pub took : ℕ → ChannelState → ChannelState → ChannelState
took gone s t = record s {
  array = after_pending s.array (take gone s.writes);
  writes = drop gone s.writes;
  tickets = t.tickets;
  requests = t.requests;
  commands = t.commands;
  phase = t.phase;
}

pub drains : (places : ℕ → Place) (s t : ChannelState) (gone : ℕ) → HasRightContents s → t ≡ took gone s t → (base : List (List ℕ)) (mine : List Numbered) → Carries places s base mine → Carries places t base mine
drains places s t gone contents same base mine c =
    subst (λ (x : ChannelState). Carries places x base mine) (sym same)
    (carry-on places s (after_pending s.array (take gone s.writes)) (drop gone s.writes) t.tickets t.requests t.commands t.phase base mine
    (λ i w there. (gone + i, sym (get-dropped gone i s.writes) ∙ there))
    (memory-stays gone s.array s.writes)
    (λ n waits. below-stays n gone s.array s.writes (λ k w less at. is-below w.number n (gone-below places s gone base mine contents c s.channel n k w waits less at))) c)
