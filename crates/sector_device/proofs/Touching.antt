-- The sectors that a write touches.
use Rattle.std.proofs.Common.{◌≡◌, ◌⊎◌, ⊎_elim, inl, inr, ℕ, ◌+◌, ◌-◌, ◌*◌, ◌/◌, ◌<◌, ◌≤◌, Bool, List, length, subst, arith}
use Rattle.std.specs.Prelude.{IsTrue}
use Rattle.std.specs.Bool.{OnTrue}
use Rattle.std.proofs.lemmas.Bool.{cases_Bool, cases_lt}
use Rattle.save_device.specs.Rows.{IsInRange, overwritten, DiffersOnlyAt}
use Rattle.file_device.specs.Kept.{Kept, Puts}
use Rattle.file_device.proofs.Backing.{on_true}
use Rattle.sector_device.specs.Sectors.{IsTouched, PutsSectors}

-- a place that is written
pub written_touched : (at n place : ℕ) → IsInRange at n place → IsTouched at n place
written_touched at n place within = record {
  number = place / 512;
  holds = (omega arith, omega arith);
  byte = place;
  holds_too = (omega arith, omega arith);
  written = within;
}

-- and one beside it in the first sector or in the last
pub beside_touched : (at n place : ℕ) → 0 < n → at / 512 * 512 ≤ place → place < (at + n - 1) / 512 * 512 + 512 → IsTouched at n place
beside_touched at n place some least less = elim (cases_lt place at) [
  | inl before ↦ record {
    number = place / 512;
    holds = (omega arith, omega arith);
    byte = at;
    holds_too = (omega (arith, before), omega (arith, least));
    written = (omega arith, omega (arith, some));
  }
  | inr from ↦ elim (cases_lt place (at + n)) [
    | inl within ↦ written_touched at n place (from, within)
    | inr past ↦ record {
      number = place / 512;
      holds = (omega arith, omega arith);
      byte = at + n - 1;
      holds_too = (omega (arith, less, some, past), omega (arith, past, some));
      written = (omega (arith, some), omega (arith, some));
    }
  ]
]

-- a write before which the sectors that it touches were unsettled
pub puts_touched : (at : ℕ) (bytes : List ℕ) (good : Bool) (old mid next : Kept) → mid.bytes ≡ old.bytes → mid.stale ≡ old.stale
    → ((place : ℕ) → IsTrue (mid.unsettled place) → IsTrue (old.unsettled place) ⊎ IsTouched at (length bytes) place)
    → Puts at bytes good mid next → PutsSectors at bytes good old next
puts_touched at bytes good old mid next same stale unsettled puts = record {
  done = subst (λ (row : List ℕ). OnTrue good (DiffersOnlyAt (λ place. IsTrue (next.stale place)) (overwritten row at bytes) next.bytes)) same puts.done;
  outside = subst (λ (row : List ℕ). DiffersOnlyAt (λ place. IsTrue (next.stale place) ⊎ IsTouched at (length bytes) place) row next.bytes) same
      (record {
        size = puts.outside.size;
        outside = λ place out. puts.outside.outside place (λ either. ⊎_elim (λ up. out (inl up)) (λ w. out (inr (written_touched at (length bytes) place w))) either);
      });
  unsettled = λ place up. ⊎_elim (λ was. unsettled place was) (λ w. inr (written_touched at (length bytes) place w)) (puts.unsettled place up);
  stale = λ place up. ⊎_elim
      (λ was. inl (subst (λ (flags : ℕ → Bool). IsTrue (flags place)) stale was))
      (λ w. elim (cases_Bool good) [
        | inl well ↦ absurd (on_true good well puts.renewed place w up)
        | inr failed ↦ inr (failed, written_touched at (length bytes) place w)
      ])
      (puts.stale place up);
  renewed = puts.renewed;
}
