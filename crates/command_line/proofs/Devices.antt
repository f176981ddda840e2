-- Which device a store has.
use Rattle.std.proofs.Common.{◌≡◌, ℕ, List, Option, None, Some, IfSome, true, is_some, arith, refl, subst}
use Rattle.sector_device.specs.Backing.{HasSectors}
use Rattle.store_file.specs.Stores.{device_in}
use Rattle.command_line.specs.Store.{HasNoLines, HasSpare, IsDeviceOf, IsStoreOf}

same_size : (store : List ℕ) (one other : ℕ) → HasSpare one store → HasSpare other store → one ≡ other
same_size store one other first second = omega (arith, first, second)

pub bare_device : (store : List ℕ) (size : ℕ) → HasSpare size store → HasNoLines size → IsDeviceOf store store
bare_device store size at none = record {
  spare = λ other lines is second. absurd (none lines (subst (λ (n : ℕ). IsStoreOf n lines) (same_size store other size second at) is));
  bare = λ _. refl;
}

pub spare_device : (store device : List ℕ) (size lines : ℕ) → HasSpare size store → IsStoreOf size lines
    → device ≡ device_in size store → IsDeviceOf store device
spare_device store device size lines at is found = record {
  spare = λ other _ _ second. subst (λ (n : ℕ). device ≡ device_in n store) (same_size store size other at second) found;
  bare = λ none. absurd (none size at lines is);
}

-- a store's device has whole sectors
pub whole_sectors : (size lines : ℕ) → IsStoreOf size lines → HasSectors size
whole_sectors size lines is = omega (arith, is.0.whole, is.1)

pub some_lines : (size : ℕ) (lines : Option ℕ) → IfSome lines (IsStoreOf size) → is_some lines ≡ true → (n : ℕ) × IsStoreOf size n
some_lines size (Some n) is some = (n, is)
some_lines size None is some = absurd cc
