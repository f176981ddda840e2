-- A program's table goes on with a change.
use Rattle.std.proofs.Common.{◌≡◌, ◌∙◌, ◌<◌, ◌≤◌, ◌^◌, inl, inr, ℕ, List, [], ◌∷◌, ap, arith, length, refl, subst, sym}
use Rattle.std.specs.Prelude.{false, Err, IfOk, IfSome, None, Ok, OnOk, Option, Result, Some, Vec, bytes_eq, is_err, option_map}
use Rattle.std.specs.HashMap.{HashMap, IsReordered}
use Rattle.std.specs.Map.{lookup}
use Rattle.std.proofs.lemmas.Bool.{cases_Bool, cases_lt, cond-false}
use Rattle.std.proofs.lemmas.Slice.Eq.{bytes_eq-Decides}
use Rattle.journal_log.specs.Log.{Log}
use Rattle.journal_log.specs.Calls.{Append, log_after}
use Rattle.journal_lines.specs.Indexed.{IsIndexOf}
use Rattle.table_log.specs.Changes.{Change, key_of, record_of, value_behind}
use Rattle.table_log.specs.Tables.{Changes, Table, table_after}
use Rattle.table_log.proofs.Changing.{one_call, value_push}
use Rattle.journal_table.specs.Standing.{IsTableOf}
use Rattle.journal_table.specs.Values.{held}
use Rattle.journal_table.specs.declared.table.JournalTable.{JournalTable}
use Rattle.journal_table.proofs.Holding.{held_reordered}

-- what is so where a result is none of failure
pub from_ok : {X Y P : Type 0} (result : Result X Y) → is_err result ≡ false → OnOk result P → P
from_ok (Ok x) good is = is
from_ok (Err y) good is = absurd (let bad : ⊥ = cc in bad)

-- what a good result promises, from what it promised
pub ok_with : {X Y : Type 0} {P Q : X → Type 0} (result : Result X Y) → ((x : X) → P x → Q x) → IfOk result P → IfOk result Q
ok_with (Ok x) more is = more x is
ok_with (Err y) more is = is

pub from_some : {X : Type 0} (P : X → Type 0) (found : Option X) (x : X) → found ≡ Some x → IfSome found P → P x
from_some {X} P found x is said = subst (λ (f : Option X). IfSome f P) is said

module _ {A : Type 0} where
  -- no key is so long
  long_absent : (key : List ℕ) → 2 ^ 63 ≤ length key → (entries : List (Vec ℕ A × Vec ℕ A)) → lookup (λ k. bytes_eq key k.items) entries ≡ None
  long_absent key long [] = refl
  long_absent key long (e ∷ entries) =
      cond-false (bytes_eq key e.0.items) (Some e.1) (lookup (λ k. bytes_eq key k.items) entries)
      (elim (cases_Bool (bytes_eq key e.0.items)) [
        | inl same ↦ absurd (omega (arith, long, e.0.small, e.0.ok.0, ap (λ (k : List ℕ). length k) ((bytes_eq-Decides key e.0.items).0 same)))
        | inr apart ↦ apart
      ])
      ∙ long_absent key long entries

  pub held_same : {S : Type 0} (v : Vec ℕ A) (m n : HashMap (Vec ℕ A) (Vec ℕ A) S) → IsReordered (λ x y. bytes_eq x.items y.items) m n → (key : List ℕ) → held n key ≡ held m key
  held_same v m n same key =
      elim (cases_lt (length key) (2 ^ 63)) [
        | inl short ↦ held_reordered v key short m n same
        | inr long ↦
            ap (λ (found : Option (Vec ℕ A)). option_map (λ w. w.items) found) (long_absent key long n.entries)
            ∙ sym (ap (λ (found : Option (Vec ℕ A)). option_map (λ w. w.items) found) (long_absent key long m.entries))
      ]

-- behind a change
pub stands_behind : (before it : JournalTable) (lines : ℕ) (log : Log) (table : Table) (change : Change) → IsTableOf before log table
    → IsIndexOf it.journal.index (log_after lines log (Append (record_of change))) → length (key_of change) < 2 ^ 64
    → ((key : List ℕ) → held it.values key ≡ value_behind key (held before.values key) change)
    → IsTableOf it (log_after lines log (Append (record_of change))) (table_after table (Changes change))
stands_behind before it lines log table change is index short values = record {
  index = index;
  is = one_call lines log table (Changes change) is.is short;
  values = λ key. values key ∙ ap (λ (had : Option (List ℕ)). value_behind key had change) (is.values key) ∙ sym (value_push key table.changes change);
}
