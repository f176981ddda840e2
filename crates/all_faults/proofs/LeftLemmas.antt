-- What is kept behind one more command.
use Rattle.std.proofs.Common.{◌≡◌, ◌∙◌, inl, inr, ℕ, ◌+◌, ◌-◌, ◌*◌, ◌/◌, ◌<◌, ◌≤◌, ◌^◌, ◌==◌, IsTrue, nat_lt, ◌||◌, Bool, true, false, cond, eqb, if◌then◌else◌, List, [], ◌∷◌, ◌++◌, Option, None, Some, length, ap, arith, refl, subst, sym}
use Rattle.std.specs.List.{slice_index_or, slice_set}
use Rattle.std.proofs.lemmas.Bool.{cases_eq, eq-eqb, ne_eqb}
use Rattle.std.proofs.lemmas.Bool.Decides.{nat_tests}
use Rattle.std.proofs.lemmas.Grind.{common_steps, get_or-set_at}
use Rattle.std.proofs.lemmas.List.{get_or-set_other, get_or_default}
use Rattle.std.proofs.lemmas.List.Sums.{count_by-le-length}
use Rattle.ddr4_timing.specs.declared.command.Command.{Command}
use Rattle.ddr4_timing.specs.declared.command.Command.TheVariants.{Act, Pre, PreAll, Ref, Sre}
use Rattle.ddr4_timing.specs.declared.command.Stamped.{Stamped}
use Rattle.ddr4_timing.specs.declared.place.BankAddress.{BankAddress}
use Rattle.ddr4_timing.specs.declared.timing.Geometry.{Geometry}
use Rattle.ddr4_timing.specs.declared.timing.Timing.{Timing}
use Rattle.ddr4_timing.specs.Command.{is_ref, is_ref_of, is_sre_of, rank_of}
use Rattle.ddr4_timing.specs.Lawful.{KeepsRefresh, is_asleep, last_ref, open_row, ref_count, row_after}
use Rattle.ddr4_timing.specs.Limits.{HasFewBanks}
use Rattle.ddr4_timing.specs.Places.{HasBank, is_bank, slot_of}
use Rattle.ddr4_timing.proofs.Addresses.{has_room, same_address, same_slot, slot_small}
use Rattle.ddr4_timing.proofs.FloorLemmas.{is_asleep_push, last_ref_push, open_row_push, ref_count_push}
use Rattle.all_faults.specs.declared.left.Banks.{Banks}
use Rattle.all_faults.specs.declared.left.Left.{Left}
use Rattle.all_faults.specs.Left.{ClosesAll, IsLeftBy, KeepsRow, PutsRef, PutsRow, PutsSlot, PutsToSleep, SameRanks}

-- a command that is neither a REF nor an SRE leaves what is kept of ranks
record LeavesRanks (cmd : Command) : Type 0 where
  no_ref : (rank : ℕ) → is_ref_of rank cmd ≡ false
  no_sre : (rank : ℕ) → is_sre_of rank cmd ≡ false

or_false : (b : Bool) → (b || false) ≡ b
or_false true = refl
or_false false = refl

last_stays : (rank : ℕ) (list : List Stamped) (x : Stamped) → is_ref_of rank x.cmd ≡ false → last_ref rank (list ++ x ∷ []) ≡ last_ref rank list
last_stays rank list x other = last_ref_push rank list x ∙ ap (λ (b : Bool). cond b x.clock (last_ref rank list)) other

abbrev one_if : Bool → ℕ
one_if b = cond b 1 0

refs_stay : (rank : ℕ) (list : List Stamped) (x : Stamped) → is_ref_of rank x.cmd ≡ false → ref_count rank (list ++ x ∷ []) ≡ ref_count rank list
refs_stay rank list x other =
    let e : one_if (is_ref_of rank x.cmd) ≡ 0 = ap one_if other in
    let push : ref_count rank (list ++ x ∷ []) ≡ ref_count rank list + one_if (is_ref_of rank x.cmd) = ref_count_push rank list x in omega (arith, push, e)

sleep_stays : (rank : ℕ) (list : List Stamped) (x : Stamped) → is_sre_of rank x.cmd ≡ false → is_asleep rank (list ++ x ∷ []) ≡ is_asleep rank list
sleep_stays rank list x other = is_asleep_push rank list x ∙ ap (λ (b : Bool). is_asleep rank list || b) other ∙ or_false (is_asleep rank list)

keeps_ranks : (g : Geometry) (old new : Left) (list : List Stamped) (x : Stamped) → LeavesRanks x.cmd → SameRanks old new → IsLeftBy g old list
    → ((at : BankAddress) → HasBank g at → KeepsRow new at (open_row at (list ++ x ∷ []))) → IsLeftBy g new (list ++ x ∷ [])
keeps_ranks g old new list x leaves same left rows = record {
  rows = rows;
  last = λ rank none here. ap (λ (xs : List ℕ). slice_index_or xs rank none) same.0 ∙ left.last rank none here ∙ sym (last_stays rank list x (leaves.no_ref rank));
  refs = λ rank none here. ap (λ (xs : List ℕ). slice_index_or xs rank none) same.1 ∙ left.refs rank none here ∙ sym (refs_stay rank list x (leaves.no_ref rank));
  asleep = λ rank none here. ap (λ (xs : List Bool). slice_index_or xs rank none) same.2 ∙ left.asleep rank none here ∙ sym (sleep_stays rank list x (leaves.no_sre rank));
}

-- the row that is kept of a bank, by an equation
row_is : (left : Left) (at : BankAddress) (a b : Option ℕ) → a ≡ b → KeepsRow left at a → KeepsRow left at b
row_is left at a b e keeps = λ bank banks. keeps bank banks ∙ e

-- a command that leaves the rows of all banks
pub left_alone : (g : Geometry) (left : Left) (list : List Stamped) (x : Stamped) → ((b : BankAddress) (row : Option ℕ) → row_after b row x.cmd ≡ row)
    → ((rank : ℕ) → is_ref_of rank x.cmd ≡ false) → ((rank : ℕ) → is_sre_of rank x.cmd ≡ false) → IsLeftBy g left list → IsLeftBy g left (list ++ x ∷ [])
left_alone g left list x rows no_ref no_sre was =
    keeps_ranks g left left list x (record { no_ref = no_ref; no_sre = no_sre }) (refl, refl, refl) was
    (λ at here. row_is left at (open_row at list) (open_row at (list ++ x ∷ [])) (sym (open_row_push at list x ∙ rows at (open_row at list))) (was.rows at here))

pub left_act : (g : Geometry) (old new : Left) (list : List Stamped) (x : Stamped) (at : BankAddress) (row : ℕ) → x.cmd ≡ Act at row
    → PutsRow g at (Some row) old new → SameRanks old new → IsLeftBy g old list → IsLeftBy g new (list ++ x ∷ [])
left_act g old new list x at row is puts same was =
    keeps_ranks g old new list x (record { no_ref = λ rank. ap (is_ref_of rank) is; no_sre = λ rank. ap (is_sre_of rank) is }) same was
    (λ b here. row_is new b (if is_bank at b then Some row else open_row b list) (open_row b (list ++ x ∷ [])) (sym (open_row_push b list x ∙ ap (row_after b (open_row b list)) is))
    (puts b (open_row b list) here (was.rows b here)))

pub left_pre : (g : Geometry) (old new : Left) (list : List Stamped) (x : Stamped) (at : BankAddress) → x.cmd ≡ Pre at
    → PutsRow g at None old new → SameRanks old new → IsLeftBy g old list → IsLeftBy g new (list ++ x ∷ [])
left_pre g old new list x at is puts same was =
    keeps_ranks g old new list x (record { no_ref = λ rank. ap (is_ref_of rank) is; no_sre = λ rank. ap (is_sre_of rank) is }) same was
    (λ b here. row_is new b (if is_bank at b then None else open_row b list) (open_row b (list ++ x ∷ [])) (sym (open_row_push b list x ∙ ap (row_after b (open_row b list)) is))
    (puts b (open_row b list) here (was.rows b here)))

pub left_pre_all : (g : Geometry) (old new : Left) (list : List Stamped) (x : Stamped) (rank : ℕ) → x.cmd ≡ PreAll rank
    → ClosesAll g rank old new → SameRanks old new → IsLeftBy g old list → IsLeftBy g new (list ++ x ∷ [])
left_pre_all g old new list x rank is closes same was =
    keeps_ranks g old new list x (record { no_ref = λ r. ap (is_ref_of r) is; no_sre = λ r. ap (is_sre_of r) is }) same was
    (λ b here. row_is new b (if rank == b.rank then None else open_row b list) (open_row b (list ++ x ∷ [])) (sym (open_row_push b list x ∙ ap (row_after b (open_row b list)) is))
    (closes b (open_row b list) here (was.rows b here)))

-- the rows are kept by a command that leaves them
rows_kept : (g : Geometry) (old new : Left) (list : List Stamped) (x : Stamped) → new.ranks ≡ old.ranks → ((b : BankAddress) (row : Option ℕ) → row_after b row x.cmd ≡ row) → IsLeftBy g old list
    → (at : BankAddress) → HasBank g at → KeepsRow new at (open_row at (list ++ x ∷ []))
rows_kept g old new list x same rows was at here = λ bank banks.
    ap (λ (all : List Banks). slice_index_or (slice_index_or all at.rank banks).rows (slot_of at) bank) same
    ∙ was.rows at here bank banks ∙ sym (open_row_push at list x ∙ rows at (open_row at list))

cond_plus : (b : Bool) (n : ℕ) → (if b then n + 1 else n) ≡ n + one_if b
cond_plus true n = refl
cond_plus false n = omega arith

few_refs : (rank : ℕ) (list : List Stamped) → length list < 2 ^ 64 - 1 → ref_count rank list < 2 ^ 64 - 1
unfolding ref_count
few_refs rank list few = let most = count_by-le-length (λ (x : Stamped). is_ref_of rank x.cmd) list in omega (arith, most)

pub left_ref : (g : Geometry) (old new : Left) (list : List Stamped) (x : Stamped) (rank : ℕ) → length list < 2 ^ 64 - 1 → x.cmd ≡ Ref rank
    → PutsRef g rank x.clock old new → IsLeftBy g old list → IsLeftBy g new (list ++ x ∷ [])
left_ref g old new list x rank few is puts was = record {
  rows = rows_kept g old new list x puts.ranks (λ b row. ap (row_after b row) is) was;
  last = λ r none here.
      puts.last r none here ∙ ap (λ (n : ℕ). if rank == r then x.clock else n) (was.last r none here)
      ∙ sym (last_ref_push r list x ∙ ap (λ (cmd : Command). cond (is_ref_of r cmd) x.clock (last_ref r list)) is);
  refs = λ r none here.
      puts.refs r none here (subst (λ (n : ℕ). n < 2 ^ 64 - 1) (sym (was.refs r none here)) (few_refs r list few))
      ∙ ap (λ (n : ℕ). if rank == r then n + 1 else n) (was.refs r none here) ∙ cond_plus (rank == r) (ref_count r list)
      ∙ sym (ref_count_push r list x ∙ ap (λ (cmd : Command). ref_count r list + cond (is_ref_of r cmd) 1 0) is);
  asleep = λ r none here. ap (λ (xs : List Bool). slice_index_or xs r none) puts.asleep ∙ was.asleep r none here ∙ sym (sleep_stays r list x (ap (is_sre_of r) is));
}

sleeps : (b s : Bool) → (if b then true else s) ≡ (s || b)
sleeps true true = refl
sleeps true false = refl
sleeps false s = sym (or_false s)

pub left_sre : (g : Geometry) (old new : Left) (list : List Stamped) (x : Stamped) (rank : ℕ) → x.cmd ≡ Sre rank
    → PutsToSleep g rank old new → IsLeftBy g old list → IsLeftBy g new (list ++ x ∷ [])
left_sre g old new list x rank is puts was = record {
  rows = rows_kept g old new list x puts.ranks (λ b row. ap (row_after b row) is) was;
  last = λ r none here. ap (λ (xs : List ℕ). slice_index_or xs r none) puts.last ∙ was.last r none here ∙ sym (last_stays r list x (ap (is_ref_of r) is));
  refs = λ r none here. ap (λ (xs : List ℕ). slice_index_or xs r none) puts.refs ∙ was.refs r none here ∙ sym (refs_stay r list x (ap (is_ref_of r) is));
  asleep = λ r none here.
      puts.asleep r none here ∙ ap (λ (b : Bool). if rank == r then true else b) (was.asleep r none here) ∙ sleeps (rank == r) (is_asleep r list)
      ∙ sym (is_asleep_push r list x ∙ ap (λ (cmd : Command). is_asleep r list || is_sre_of r cmd) is);
}

eqb_self : (n : ℕ) → eqb n n ≡ true
eqb_self n = eq-eqb n n refl

is_bank_other : (a b : BankAddress) → (a ≡ b → ⊥) → is_bank a b ≡ false
is_bank_other a b other = elim (is_bank a b) as (λ (t : Bool). is_bank a b ≡ t → is_bank a b ≡ false) [
  | true ↦ λ same. absurd (other (same_address a b (grind (arith, nat_tests)) (grind (arith, nat_tests)) (grind (arith, nat_tests))))
  | false ↦ λ is. is
] refl

is_bank-self : (bank : BankAddress) → is_bank bank bank ≡ true
is_bank-self bank = simp eqb_self refl

if_is : (b c : Bool) (row was : Option ℕ) → b ≡ c → (if b then row else was) ≡ (if c then row else was)
if_is b c row was e = ap (λ (t : Bool). if t then row else was) e

-- in one rank a bank is told by its slot
slot_tells : (g : Geometry) (at b : BankAddress) → HasFewBanks g → HasBank g at → HasBank g b → at.rank ≡ b.rank → (slot_of at == slot_of b) ≡ is_bank at b
slot_tells g at b small here there rank =
    elim (cases_eq (slot_of at) (slot_of b)) [
      | inl one ↦
          let equal : at ≡ b = same_slot at b (has_room g at small here) (has_room g b small there) rank one in
          eq-eqb (slot_of at) (slot_of b) one ∙ sym (ap (λ (a : BankAddress). is_bank a b) equal ∙ is_bank-self b)
      | inr other ↦ ne_eqb (slot_of at) (slot_of b) other ∙ sym (is_bank_other at b (λ e. other (ap slot_of e)))
    ]

-- a row put into a bank of a rank
pub row_put : (g : Geometry) (ranks : List Banks) (at b : BankAddress) (row was bank : Option ℕ) (none banks new : Banks) → HasFewBanks g → HasBank g at → HasBank g b
    → length ranks ≡ 8 → PutsSlot (slot_of at) row (slice_index_or ranks at.rank none) new → slice_index_or (slice_index_or ranks b.rank banks).rows (slot_of b) bank ≡ was
    → slice_index_or (slice_index_or (slice_set ranks at.rank new) b.rank banks).rows (slot_of b) bank ≡ (if is_bank at b then row else was)
row_put g ranks at b row was bank none banks new small here there size puts is =
    let rank : at.rank < length ranks = omega (arith, size, here.rank, small.ranks) in
    elim (cases_eq b.rank at.rank) [
      | inl same ↦
          let outer : slice_index_or (slice_set ranks at.rank new) b.rank banks ≡ new = get_or-set_at ranks at.rank b.rank new banks same rank in
          let inner : slice_index_or ranks at.rank none ≡ slice_index_or ranks b.rank banks = get_or_default ranks at.rank none banks rank ∙ ap (λ (n : ℕ). slice_index_or ranks n banks) (sym same) in
          let old : slice_index_or (slice_index_or ranks at.rank none).rows (slot_of b) bank ≡ was = ap (λ (xs : Banks). slice_index_or xs.rows (slot_of b) bank) inner ∙ is in
          ap (λ (xs : Banks). slice_index_or xs.rows (slot_of b) bank) outer ∙ puts (slot_of b) bank (slot_small b (has_room g b small there))
          ∙ ap (λ (o : Option ℕ). if slot_of at == slot_of b then row else o) old ∙ if_is (slot_of at == slot_of b) (is_bank at b) row was (slot_tells g at b small here there (sym same))
      | inr other ↦
          ap (λ (xs : Banks). slice_index_or xs.rows (slot_of b) bank) (get_or-set_other ranks at.rank b.rank new banks other)
          ∙ is ∙ sym (if_is (is_bank at b) false row was (is_bank_other at b (λ e. other (ap (λ (a : BankAddress). a.rank) (sym e)))))
    ]

-- a rank's last REF and its count of them tell whether a REF keeps the rule on refreshes
pub refresh_told : (t : Timing) (list : List Stamped) (x : Stamped) (refs : ℕ) → 1 ≤ t.t_refi → x.clock - last_ref (rank_of x.cmd) list ≤ 9 * t.t_refi → refs ≡ ref_count (rank_of x.cmd) list
    → IsTrue (is_ref x.cmd) → (IsTrue (nat_lt refs (x.clock / t.t_refi)) → KeepsRefresh t list x) × (KeepsRefresh t list x → IsTrue (nat_lt refs (x.clock / t.t_refi)))
refresh_told t list x refs some in_time is ref = grind (arith, common_steps)

pub slot_below : (g : Geometry) (at : BankAddress) → HasFewBanks g → HasBank g at → slot_of at < 16
slot_below g at small here = slot_small at (has_room g at small here)
