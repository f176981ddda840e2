-- What upkeep leaves of a table.
use Rattle.std.proofs.Common.{All, ◌≡◌, ◌∙◌, ◌<◌, ◌^◌, ◌⊎◌, inl, inr, ℕ, List, [], ◌∷◌, ◌++◌, ap, append_assoc, length, refl, sym}
use Rattle.std.specs.Prelude.{Bool, true, false, None, Option, Some, Vec, bytes_eq, fold, if◌then◌else◌, option_map}
use Rattle.std.proofs.lemmas.Bool.{cases_Bool, cond-false}
use Rattle.std.proofs.lemmas.List.{append-nil}
use Rattle.std.proofs.lemmas.List.Elements.{All-cons, All-head, All-nil, All-tail}
use Rattle.std.proofs.lemmas.Slice.Eq.{bytes_eq-Decides}
use Rattle.std.specs.HashMap.{HashMap}
use Rattle.std.specs.Map.{lookup}
use Rattle.journal_log.specs.Calls.{is_done}
use Rattle.table_log.specs.Changes.{Change, Put, value_after, value_behind}
use Rattle.table_log.specs.Tables.{AreLawful, Changes, Cuts, IsLawful, Rewrites, Table, TableCall, table_after, value_behind_calls, value_in, value_told}
use Rattle.table_log.specs.Survival.{TableAttempt, calls_done, journal_attempt}
use Rattle.table_log.proofs.Changing.{values_told}
use Rattle.journal_table.specs.Calling.{ChangesNothing, IsUpkeep, puts_of, rewrites_of, table_behind_calls, whole_call}
use Rattle.journal_table.specs.Values.{IsHeld, held}
use Rattle.journal_table.proofs.Calls.{whole_is_done}

-- a call that changes no value, done or not
told_same : (call : TableCall) → ChangesNothing call → (key : List ℕ) (had : Option (List ℕ)) → value_told key had call ≡ had
told_same (Changes change) nothing key had = absurd nothing
told_same (Rewrites change) nothing key had = refl
told_same (Cuts upto) nothing key had = refl

one_same : (done : Bool) (call : TableCall) (calls : List TableCall) (key : List ℕ) (had : Option (List ℕ)) → ChangesNothing call
    → value_behind_calls key had ((if done then call ∷ [] else []) ++ calls) ≡ value_behind_calls key had calls
one_same true call calls key had nothing = ap (λ (h : Option (List ℕ)). value_behind_calls key h calls) (told_same call nothing key had)
one_same false call calls key had nothing = refl

calls_same : (attempts : List TableAttempt) → All IsUpkeep attempts → (key : List ℕ) (had : Option (List ℕ)) → value_behind_calls key had (calls_done attempts) ≡ had
calls_same [] upkeep key had = refl
calls_same (a ∷ rest) upkeep key had =
    one_same (is_done (journal_attempt a)) a.call (calls_done rest) key had (All-head IsUpkeep a rest upkeep) ∙ calls_same rest (All-tail IsUpkeep a rest upkeep) key had

pub upkeep_same : (table : Table) (attempts : List TableAttempt) → All IsUpkeep attempts → AreLawful table (calls_done attempts) → (key : List ℕ)
    → value_in key (table_behind_calls table attempts) ≡ value_in key table
upkeep_same table attempts upkeep lawful key = values_told key table (calls_done attempts) lawful ∙ calls_same attempts upkeep key (value_in key table)

-- what is so already
pub lawful_rewrite : (table : Table) (key value : List ℕ) → length key < 2 ^ 64 → value_in key table ≡ Some value → IsLawful table (Rewrites (Put key value))
lawful_rewrite table key value short is = (
  short,
  λ other.
      elim (cases_Bool (bytes_eq other key)) [
        | inl same ↦ rw same (sym is ∙ ap (λ (k : List ℕ). value_in k table) (sym ((bytes_eq-Decides other key).0 same)))
        | inr apart ↦ rw apart refl
      ],
)

abbrev Entry : Type 0 → Type 0
Entry A = Vec ℕ A × Vec ℕ A

module _ {A : Type 0} where
  -- the table behind what is rewritten
  pub rewritten : (entries : List (Entry A)) (table : Table) → table_behind_calls table (rewrites_of entries) ≡ record table { changes = table.changes ++ puts_of entries }
  rewritten [] table = ap (λ (cs : List Change). record table { changes = cs }) (sym (append-nil table.changes))
  rewritten (e ∷ entries) table =
      let change : Change = Put e.0.items e.1.items in
      let next : Table = record table { changes = table.changes ++ change ∷ [] } in
      ap (λ (b : Bool). fold table_after table ((if b then Rewrites change ∷ [] else []) ++ calls_done (rewrites_of entries))) (whole_is_done (Rewrites change))
      ∙ rewritten entries next
      ∙ ap (λ (cs : List Change). record table { changes = cs }) (append_assoc table.changes (change ∷ []) (puts_of entries))

  pub rewrites_upkeep : (entries : List (Entry A)) → All IsUpkeep (rewrites_of entries)
  rewrites_upkeep [] = All-nil IsUpkeep
  rewrites_upkeep (e ∷ entries) = All-cons IsUpkeep (whole_call (Rewrites (Put e.0.items e.1.items))) (rewrites_of entries) tt (rewrites_upkeep entries)

  module _ {S : Type 0} (values : HashMap (Vec ℕ A) (Vec ℕ A) S) where
    -- once a key has what the map says it keeps that
    keeps : (entries : List (Entry A)) → All (IsHeld values) entries → (key : List ℕ) → value_after key (held values key) (puts_of entries) ≡ held values key
    keeps [] are key = refl
    keeps (e ∷ entries) are key =
        let here : value_behind key (held values key) (Put e.0.items e.1.items) ≡ held values key =
        elim (cases_Bool (bytes_eq key e.0.items)) [
          | inl same ↦ rw same (sym (All-head (IsHeld values) e entries are) ∙ ap (held values) (sym ((bytes_eq-Decides key e.0.items).0 same)))
          | inr apart ↦ rw apart refl
        ] in
        ap (λ (had : Option (List ℕ)). value_after key had (puts_of entries)) here ∙ keeps entries (All-tail (IsHeld values) e entries are) key

    said : (entries : List (Entry A)) → All (IsHeld values) entries → (key : List ℕ)
        → (value_after key None (puts_of entries) ≡ held values key) ⊎ ((value_after key None (puts_of entries) ≡ None) × (lookup (λ k. bytes_eq key k.items) entries ≡ None))
    said [] are key = inr (refl, refl)
    said (e ∷ entries) are key =
        elim (cases_Bool (bytes_eq key e.0.items)) [
          | inl same ↦
              let held_here : held values key ≡ Some e.1.items = ap (held values) ((bytes_eq-Decides key e.0.items).0 same) ∙ All-head (IsHeld values) e entries are in
              inl (ap (λ (b : Bool). value_after key (if b then Some e.1.items else None) (puts_of entries)) same
              ∙ ap (λ (had : Option (List ℕ)). value_after key had (puts_of entries)) (sym held_here) ∙ keeps entries (All-tail (IsHeld values) e entries are) key)
          | inr apart ↦
              let first : value_after key None (puts_of (e ∷ entries)) ≡ value_after key None (puts_of entries) =
              ap (λ (b : Bool). value_after key (if b then Some e.1.items else None) (puts_of entries)) apart in
              let other : lookup (λ k. bytes_eq key k.items) (e ∷ entries) ≡ lookup (λ k. bytes_eq key k.items) entries =
              cond-false (bytes_eq key e.0.items) (Some e.1) (lookup (λ k. bytes_eq key k.items) entries) apart in
              elim (said entries (All-tail (IsHeld values) e entries are) key) [
                | inl is ↦ inl (first ∙ is)
                | inr none ↦ inr (first ∙ none.0, other ∙ none.1)
              ]
        ]

    -- the changes that say what each key of a map has say what the map does
    pub puts_say : All (IsHeld values) values.entries → (key : List ℕ) → value_after key None (puts_of values.entries) ≡ held values key
    puts_say are key =
        elim (said values.entries are key) [
          | inl is ↦ is
          | inr none ↦ none.0 ∙ sym (ap (λ (found : Option (Vec ℕ A)). option_map (λ v. v.items) found) none.1)
        ]
