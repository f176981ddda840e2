-- Channels in the order of their numbers.
use Rattle.std.proofs.Common.{◌≡◌, ◌∙◌, ℕ, zero, suc, ◌+◌, ◌<◌, ◌≤◌, ◌++◌, Bool, true, false, List, [], ◌∷◌, All, IfSome, IsOk, Option, Some, None, Result, Ok, Err, if◌then◌else◌, is_ok, length, take, drop, insert, slice_get, ap, arith, refl, subst, sym}
use Rattle.std.specs.Prelude.{slice_index_or, slice_set}
use Rattle.std.proofs.lemmas.List.{get_or-set_same, length-append}
use Rattle.channel_log.specs.Log.{IsLogOf, LogNote}
use Rattle.channel_port.specs.declared.port.ChannelPort.{Ghosts}
use Rattle.channel_locks.specs.declared.locked_channel.LockedChannel.{LockedChannel}
use Rattle.channel_locks.specs.declared.parts_name.PartsName.{Ghosts as NameGhosts}
use Rattle.channel_locks.specs.Numbers.{AreNumbered, AreRising, has_number}

module _ {K B : Type 0} (L : Ghosts K) (O : NameGhosts B) where
  abbrev Channel : Type 0
  Channel = LockedChannel K B L O

  -- between the ends there is a number for each channel
  has_room : (lowest end : ℕ) (channels : List Channel) → AreRising L O lowest end channels → lowest + length channels ≤ end
  has_room lowest end [] rise = omega (arith, rise)
  has_room lowest end (channel ∷ channels) rise = let rest = has_room (channel.number + 1) end channels rise.1 in let first = rise.0 in omega (arith, rest, first)

  -- no channel
  pub none_numbered : (first : ℕ) → AreNumbered L O first []
  none_numbered first place it is = absurd (let bad : ⊥ = cc in bad)

  -- a channel before those of the next numbers
  pub one_before : (first : ℕ) (channel : Channel) (channels : List Channel) → channel.number ≡ first → AreNumbered L O (first + 1) channels → AreNumbered L O first (channel ∷ channels)
  one_before first channel channels here rest zero it is = subst (λ (o : Option Channel). IfSome o (λ (c : Channel). c.number ≡ first + 0)) is (omega (arith, here))
  one_before first channel channels here rest (suc place) it is = let far = rest place it is in omega (arith, far)

  pub first_numbered : (first : ℕ) (channel : Channel) (channels : List Channel) → AreNumbered L O first (channel ∷ channels) → channel.number ≡ first
  first_numbered first channel channels all = let here = all 0 channel refl in omega (arith, here)

  pub rest_numbered : (first : ℕ) (channel : Channel) (channels : List Channel) → AreNumbered L O first (channel ∷ channels) → AreNumbered L O (first + 1) channels
  rest_numbered first channel channels all place it is = let far = all (suc place) it is in omega (arith, far)

  -- where there are as many numbers as channels, each has its own
  pub each_number : (lowest end : ℕ) (channels : List Channel) → AreRising L O lowest end channels → lowest + length channels ≡ end → AreNumbered L O lowest channels
  each_number lowest end [] rise full = none_numbered lowest
  each_number lowest end (channel ∷ channels) rise full =
      let rest = has_room (channel.number + 1) end channels rise.1 in let first = rise.0 in
      let here : channel.number ≡ lowest = omega (arith, rest, first, full) in
      let left : lowest + 1 + length channels ≡ end = omega (arith, full) in
      one_before lowest channel channels here (each_number (lowest + 1) end channels (subst (λ number. AreRising L O (number + 1) end channels) here rise.1) left)

  -- a channel goes behind those with lower numbers and before those with higher ones
  pub one_more : (lowest end : ℕ) (channels : List Channel) (place : ℕ) (channel : Channel) → lowest ≤ channel.number → channel.number < end → AreRising L O lowest end channels
      → All (λ (c : Channel). c.number < channel.number) (take place channels) → IfSome (slice_get channels place) (λ (c : Channel). channel.number < c.number) → AreRising L O lowest end (insert channels place channel)
  one_more lowest end [] zero channel low high rise lower next = (low, omega (arith, high))
  one_more lowest end [] (suc place) channel low high rise lower next = (low, omega (arith, high))
  one_more lowest end (first ∷ channels) zero channel low high rise lower next = (low, (omega (arith, next), rise.1))
  one_more lowest end (first ∷ channels) (suc place) channel low high rise lower next =
      let here : first.number < channel.number = lower 0 first (omega arith) in
      (rise.0, one_more (first.number + 1) end channels place channel (omega (arith, here)) high rise.1 (λ k d h. lower (suc k) d (omega (arith, h))) next)

  -- who has a number
  pub owner : (number : ℕ) (at : Option Channel) → has_number L O number at ≡ true → (channel : Channel) × (at ≡ Some channel) × (channel.number ≡ number)
  owner number None has = absurd (let bad : ⊥ = cc in bad)
  owner number (Some channel) has = (channel, refl, grind (arith, has))

  -- who has no lower number and not the same has a higher one
  pub higher : (number : ℕ) (at : Option Channel) → has_number L O number at ≡ false → IfSome at (λ (c : Channel). number ≤ c.number) → IfSome at (λ (c : Channel). number < c.number)
  higher number None has next = tt
  higher number (Some channel) has next = grind (arith, has, next)

-- two seats of a channel know the same log, and where an entry is noted at one of them the other doesn't know it
pub never_two : (note : LogNote) (logs new : List (List LogNote)) (channel : ℕ) (mine others : List LogNote) → IsLogOf logs channel others → IsLogOf logs channel mine → new ≡ slice_set logs channel (mine ++ note ∷ []) → IsLogOf new channel others → ⊥
never_two note logs new channel mine others other_knows knows noted still =
    let longer : mine ++ note ∷ [] ≡ mine = sym (get_or-set_same logs channel (mine ++ note ∷ []) [] knows.there) ∙ ap (λ (ls : List (List LogNote)). slice_index_or ls channel []) (sym noted) ∙ still.same ∙ sym other_knows.same ∙ knows.same in
    let more = length-append mine (note ∷ []) in
    let size = ap (λ (log : List LogNote). length log) longer in
    omega (arith, more, size)

pub emptied : {X : Type 0} (xs : List X) → length xs ≡ 0 → xs ≡ []
emptied [] none = refl
emptied (x ∷ xs) none = absurd (omega (arith, none))

-- what was put in, where there was room
pub put_in : {X A E : Type 0} (result : Result A E) (xs new : List X) (place : ℕ) (x : X) → new ≡ (if is_ok result then insert xs place x else xs) → IsOk result → new ≡ insert xs place x
put_in (Ok a) xs new place x is ok = is
put_in (Err e) xs new place x is ok = absurd (let bad : ⊥ = cc in bad)
