-- The first channel of a list is taken out.
use Rattle.std.proofs.Common.{◌≡◌, ◌∙◌, ℕ, ◌+◌, ◌<◌, ◌++◌, List, [], ◌∷◌, Option, ap, arith, length, map, refl, remove, slice_index_or, subst, sym}
use Rattle.channel_port.specs.declared.port.ChannelPort.{Ghosts}
use Rattle.channel_locks.specs.declared.part.Part.{Part}
use Rattle.channel_locks.specs.declared.locked_channel.LockedChannel.{LockedChannel}
use Rattle.channel_locks.specs.declared.parts_name.PartsName.{Ghosts as PartsGhosts}
use Rattle.channel_locks.specs.Numbers.{AreNumbered}
use Rattle.channel_locks.specs.Unlocked.{port_in, ports_in}
use Rattle.channel_locks.proofs.Ordered.{first_numbered, rest_numbered}

pub first_taken : {X : Type 0} (xs rest : List X) (x : X) → 0 < length xs → x ≡ slice_index_or xs 0 x → rest ≡ remove xs 0 → xs ≡ x ∷ rest
first_taken [] rest x some first left = absurd (omega (arith, some))
first_taken (y ∷ ys) rest x some first left = λ i. sym first i ∷ sym left i

module _ {K B : Type 0} (L : Ghosts K) (P : PartsGhosts B) (channels rest : List (LockedChannel K B L P)) (channel : LockedChannel K B L P) (is : channels ≡ channel ∷ rest) where
  abbrev Channels : Type 0
  Channels = List (LockedChannel K B L P)

  pub first_number : (number : ℕ) → AreNumbered L P number channels → channel.number ≡ number
  first_number number numbered = first_numbered L P number channel rest (subst (λ (cs : Channels). AreNumbered L P number cs) is numbered)

  pub next_numbers : (number : ℕ) → AreNumbered L P number channels → AreNumbered L P (number + 1) rest
  next_numbers number numbered = rest_numbered L P number channel rest (subst (λ (cs : Channels). AreNumbered L P number cs) is numbered)

  pub count_taken : length rest + 1 ≡ length channels
  count_taken = let size = ap (λ (cs : Channels). length cs) is in omega (arith, size)

  pub ports_taken : (part : Option (Part K L)) → port_in L part ≡ port_in L channel.part → port_in L part ++ ports_in L (map (λ (c : LockedChannel K B L P). c.part) rest) ≡ ports_in L (map (λ (c : LockedChannel K B L P). c.part) channels)
  ports_taken part same = ap (λ ports. ports ++ ports_in L (map (λ (c : LockedChannel K B L P). c.part) rest)) same ∙ sym (ap (λ (cs : Channels). ports_in L (map (λ (c : LockedChannel K B L P). c.part) cs)) is)

module _ {K B : Type 0} (L : Ghosts K) (P : PartsGhosts B) where
  -- no channel, and no port
  pub no_ports : (channels : List (LockedChannel K B L P)) → length channels ≡ 0 → ports_in L (map (λ (channel : LockedChannel K B L P). channel.part) channels) ≡ []
  no_ports [] none = refl
  no_ports (channel ∷ channels) none = absurd (omega (arith, none))
