-- What a change of a map comes to, by the bytes of keys.
use Rattle.std.proofs.Common.{◌≡◌, ◌∙◌, ◌<◌, ◌≤◌, ◌^◌, inl, inr, ℕ, List, ap, arith, length, refl, subst, sym}
use Rattle.std.specs.Prelude.{Bool, true, false, cond, Option, Some, Vec, bytes_eq, if◌then◌else◌, option_map}
use Rattle.std.specs.Cmp.Lexicographic.{nat_list_eq_equiv}
use Rattle.std.specs.HashMap.{HashMap, IsReordered, UpdatesBy, get_by}
use Rattle.std.specs.Map.{AreApart, IsKeyTest, KeepsOthers, lookup}
use Rattle.std.proofs.lemmas.Bool.{cases_Bool, cond-false, cond-true}
use Rattle.std.proofs.lemmas.Slice.Eq.{bytes_eq-Decides}
use Rattle.journal_table.specs.Values.{held}

-- where bs pass for ks, cs that aren't bs don't
apart : (bs cs ks : List ℕ) → bytes_eq bs cs ≡ false → bytes_eq bs ks ≡ true → bytes_eq cs ks ≡ false
apart bs cs ks n y = nat_list_eq_equiv.symm cs ks ∙ sym (nat_list_eq_equiv.congr bs ks cs y) ∙ n

module _ {K : Type 0} (eq : K → K → Bool) (test : K → Bool) where
  other_entries : {X : Type 0} (old new : List (K × X)) → KeepsOthers eq test old new → (other : K → Bool) → IsKeyTest eq other → AreApart test other → lookup other new ≡ lookup other old
  unfolding KeepsOthers
  other_entries old new h = h

chosen : {X Y : Type 0} (f : X → Y) (b : Bool) (one other : X) → f (cond b one other) ≡ (if b then f one else f other)
chosen f true one other = refl
chosen f false one other = refl

abbrev pub item : {A : Type 0} → Option (Vec ℕ A) → Option (List ℕ)
item found = option_map (λ v. v.items) found

module _ {A S : Type 0} (bs : List ℕ) (m n : HashMap (Vec ℕ A) (Vec ℕ A) S) (w : Option (Vec ℕ A)) (h : UpdatesBy (λ x y. bytes_eq x.items y.items) (λ k. bytes_eq bs k.items) m n w) where
  found : (cs : List ℕ) → get_by (λ k. bytes_eq cs k.items) n ≡ cond (bytes_eq bs cs) w (get_by (λ k. bytes_eq cs k.items) m)
  found cs =
      elim (cases_Bool (bytes_eq bs cs)) [
        | inl y ↦ subst (λ (l : List ℕ). get_by (λ k. bytes_eq l k.items) n ≡ w) ((bytes_eq-Decides bs cs).0 y) h.1
            ∙ sym (cond-true (bytes_eq bs cs) w (get_by (λ k. bytes_eq cs k.items) m) y)
        | inr n' ↦ other_entries (λ x y. bytes_eq x.items y.items) (λ k. bytes_eq bs k.items) m.entries n.entries h.3 (λ k. bytes_eq cs k.items)
            (λ x y. nat_list_eq_equiv.congr cs x.items y.items) (λ k. apart bs cs k.items n')
            ∙ sym (cond-false (bytes_eq bs cs) w (get_by (λ k. bytes_eq cs k.items) m) n')
      ]

  pub held_changed : (cs : List ℕ) → held n cs ≡ (if bytes_eq cs bs then item w else held m cs)
  held_changed cs =
      ap item (found cs)
      ∙ chosen item (bytes_eq bs cs) w (get_by (λ k. bytes_eq cs k.items) m)
      ∙ ap (λ (b : Bool). if b then item w else held m cs) (nat_list_eq_equiv.symm bs cs)

  -- where the value that is written is the one that was there
  pub held_kept : (w' : Vec ℕ A) → w ≡ Some w' → held m bs ≡ Some w'.items → (cs : List ℕ) → held n cs ≡ held m cs
  held_kept w' is had cs =
      elim (cases_Bool (bytes_eq cs bs)) [
        | inl y ↦
            held_changed cs
            ∙ ap (λ (b : Bool). if b then item w else held m cs) y
            ∙ ap item is
            ∙ sym had
            ∙ ap (held m) (sym ((bytes_eq-Decides cs bs).0 y))
        | inr n' ↦ held_changed cs ∙ ap (λ (b : Bool). if b then item w else held m cs) n'
      ]

-- a vector with other items
module _ {A : Type 0} (v : Vec ℕ A) (items : List ℕ) (short : length items < 2 ^ 63) where
  abbrev with_items : Vec ℕ A
  with_items = record { ptr = v.ptr; len = length items; cap = length items; alloc = v.alloc; items = items; ok = (refl, let e : length items ≤ length items = omega arith in e); small = short }

  pub held_reordered : {S : Type 0} (m n : HashMap (Vec ℕ A) (Vec ℕ A) S) → IsReordered (λ x y. bytes_eq x.items y.items) m n → held n items ≡ held m items
  held_reordered m n same = ap item (same.2 with_items)
