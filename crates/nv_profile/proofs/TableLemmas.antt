-- A table of TOML and its members.
use Rattle.std.proofs.Common.{◌≡◌, ℕ, suc, ◌+◌, ◌<◌, List, [], ◌∷◌, length, map, take, set, get_or, Option, Some, None, option_map, IsSomeAnd, refl, ap, arith}
use Rattle.std.proofs.lemmas.List.{map-append, take_more, take_more_set, get_or-map}
use Rattle.std.proofs.Math.ListN as Seq
use Rattle.std.specs.Borrow.{Bor}
use Rattle.std.proofs.Math.Numerals.{add-one}
use Rattle.toml.specs.Data.{Members}
use Rattle.toml.specs.View.{members_view}
use Rattle.toml.proofs.Views.{Entry}
use Rattle.nv_profile.specs.Tables.{size_of, number_at, HasNumbers}
use Rattle.nv_profile.specs.Nothing.{HoldsOfNone}

pub size_of-members_view : (entries : List Entry) → size_of (members_view entries) ≡ length entries
size_of-members_view [] = refl
size_of-members_view (e ∷ es) = rw add-one (ap suc (size_of-members_view es))

-- what a found table says is said of the table under the key
pub within_found : {A : Type 0} (see : A → Members) (found : Option A) (there : Option Members) (x : A) (P : Members → Type 0) → option_map see found ≡ there → found ≡ Some x → P (see x) → IsSomeAnd there P
within_found see found there x P same is said = rw (← same, is) said

-- and the other way round
pub found_within : {A : Type 0} (see : A → Members) (found : Option A) (there : Option Members) (x : A) (P : Members → Type 0) → option_map see found ≡ there → found ≡ Some x → IsSomeAnd there P → P (see x)
found_within see found there x P same is said = rw (← same, is) at said

-- the numbers under keys, and under one key more
pub one_number_more : (table : Members) (keys : List (Bor (List ℕ))) (numbers : List ℕ) (i n : ℕ) (key : Bor (List ℕ)) → i < length keys → i < length numbers → HasNumbers (take i keys) table (take i numbers) → Some n ≡ number_at (get_or keys i key).now table → HasNumbers (take (i + 1) keys) table (take (i + 1) (set numbers i n))
one_number_more table keys numbers i n key in_keys in_numbers before here =
    let under = λ (key : Bor (List ℕ)). number_at key.now table in
    record {
      found = rw (take_more keys i key in_keys, take_more_set numbers i n in_numbers, map-append under (take i keys) (get_or keys i key ∷ []), map-append Some (take i numbers) (n ∷ []), before.found, ← here) refl;
    }

-- the number under one of the keys
pub number_under : (table : Members) (keys : List (Bor (List ℕ))) (numbers : List ℕ) (i : ℕ) (key : Bor (List ℕ)) → i < length keys → HasNumbers keys table numbers → number_at (get_or keys i key).now table ≡ Some (get_or numbers i 0)
number_under table keys numbers i key in_keys numbers_there =
    let under = λ (key : Bor (List ℕ)). number_at key.now table in
    let at_keys = get_or-map under keys i key (Some 0) in_keys in
    let at_numbers : get_or (map under keys) i (Some 0) ≡ Some (get_or numbers i 0) = rw numbers_there.found (Seq.get_or-map Some numbers i 0) in
    cc

-- a key without its number
pub no_numbers : (table : Members) (keys : List (Bor (List ℕ))) (i : ℕ) (key : Bor (List ℕ)) → i < length keys → None ≡ number_at (get_or keys i key).now table → HoldsOfNone (HasNumbers keys table)
no_numbers table keys i key in_keys none numbers same =
    let some = number_under table keys numbers i key in_keys same in
    cc

-- the numbers under six keys
pub six_numbers : (table : Members) (a b c d e f : Bor (List ℕ)) (numbers : List ℕ) → HasNumbers (a ∷ b ∷ c ∷ d ∷ e ∷ f ∷ []) table numbers → (number_at a.now table ≡ Some (get_or numbers 0 0)) × (number_at b.now table ≡ Some (get_or numbers 1 0)) × (number_at c.now table ≡ Some (get_or numbers 2 0)) × (number_at d.now table ≡ Some (get_or numbers 3 0)) × (number_at e.now table ≡ Some (get_or numbers 4 0)) × (number_at f.now table ≡ Some (get_or numbers 5 0))
six_numbers table a b c d e f numbers same =
    let keys = a ∷ b ∷ c ∷ d ∷ e ∷ f ∷ [] in
    let under = λ (i : ℕ) (in_keys : i < length keys). number_under table keys numbers i a in_keys same in
    (under 0 (omega arith), under 1 (omega arith), under 2 (omega arith), under 3 (omega arith), under 4 (omega arith), under 5 (omega arith))
