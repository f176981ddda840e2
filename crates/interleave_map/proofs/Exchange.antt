-- The map `xor`.
use Rattle.std.proofs.Common.{◌≡◌, ℕ, ◌^◌, ◌%◌, ◌<◌, ◌≤◌, zero, suc, refl, sym, ap, subst, ◌∙◌, arith, IsTrue}
use Rattle.std.specs.Int.{is_power_of_two}
use Rattle.std.specs.Int.Count.{ones}
use Rattle.std.specs.Int.Bits.{bit_xor, xor_assoc, xor_self, xor_zero_r}
use Rattle.std.proofs.lemmas.Nat.{xor_lt}
use Rattle.std.proofs.Math.Nat.{mod-lt}
use Rattle.ddr4_timing.specs.declared.timing.Geometry.{Geometry}
use Rattle.ddr4_timing.specs.declared.place.Place.{Place}
use Rattle.ddr4_timing.specs.Limits.{IsSmall, IsGeometry}
use Rattle.ddr4_timing.specs.Places.{LiesIn}
use Rattle.interleave_map.specs.Interleaving.{place_by_lines, line_by_lines, exchanged_place, place_by_xor, line_by_xor}
use Rattle.interleave_map.specs.Inverse.{IsInverse}
use Rattle.interleave_map.proofs.Numbering.{is_whole, lines_are_inverse}

-- twice exchanged, a place is as it was
exchanged_twice : (g : Geometry) (place : Place) → exchanged_place g (exchanged_place g place) ≡ place
unfolding exchanged_place
exchanged_twice g place =
    let key = place.row % g.channels in
    ap (λ channel. record place { channel = channel }) (xor_assoc place.channel key key ∙ (ap (bit_xor place.channel) (xor_self key) ∙ xor_zero_r place.channel))

-- the powers of two up to 8
exponent : (n : ℕ) → n ≤ 8 → IsTrue (is_power_of_two n) → (k : ℕ) × (n ≡ 2 ^ k)
unfolding ones
exponent zero few power = absurd (let none : ⊥ = cc in none)
exponent (suc zero) few power = (0, refl)
exponent (suc (suc zero)) few power = (1, refl)
exponent (suc (suc (suc zero))) few power = absurd (let none : ⊥ = cc in none)
exponent (suc (suc (suc (suc zero)))) few power = (2, refl)
exponent (suc (suc (suc (suc (suc zero))))) few power = absurd (let none : ⊥ = cc in none)
exponent (suc (suc (suc (suc (suc (suc zero)))))) few power = absurd (let none : ⊥ = cc in none)
exponent (suc (suc (suc (suc (suc (suc (suc zero))))))) few power = absurd (let none : ⊥ = cc in none)
exponent (suc (suc (suc (suc (suc (suc (suc (suc zero)))))))) few power = (3, refl)
exponent (suc (suc (suc (suc (suc (suc (suc (suc (suc n))))))))) few power = absurd (let none : ⊥ = omega arith in none)

-- below a power of two
xor_below : (a b n : ℕ) → n ≤ 8 → IsTrue (is_power_of_two n) → a < n → b < n → bit_xor a b < n
xor_below a b n few power a_below b_below =
    let k = exponent n few power in
    subst (λ n. bit_xor a b < n) (sym k.1) (xor_lt k.0 a b (subst (λ n. a < n) k.1 a_below) (subst (λ n. b < n) k.1 b_below))

pub exchanged_lies_in : (g : Geometry) (place : Place) → IsSmall g → IsGeometry g → LiesIn g place → LiesIn g (exchanged_place g place)
unfolding exchanged_place
exchanged_lies_in g place small within lies = record {
  channel = xor_below place.channel (place.row % g.channels) g.channels small.channels within.channels.0 lies.channel (mod-lt place.row (is_whole g small).channels);
  rank = lies.rank;
  group = lies.group;
  bank = lies.bank;
  row = lies.row;
  column = lies.column;
}

pub xor_is_inverse : (g : Geometry) → IsSmall g → IsGeometry g → IsInverse g (place_by_xor g) (line_by_xor g)
unfolding place_by_xor line_by_xor
xor_is_inverse g small within =
    let lines = lines_are_inverse g small in
    record {
      lies_in = λ line below. exchanged_lies_in g (place_by_lines g line) small within (lines.lies_in line below);
      back = λ line below. ap (line_by_lines g) (exchanged_twice g (place_by_lines g line)) ∙ lines.back line below;
    }
