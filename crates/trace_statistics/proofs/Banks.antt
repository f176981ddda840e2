-- A bank behind one more command of its channel.
use Rattle.std.proofs.Common.{◌≡◌, ◌≢◌, ◌∙◌, ◌<◌, ◌==◌, ◌⊎◌, ℕ, Bool, true, false, eqb, List, [], ◌∷◌, get_or, length, set, ap, refl, sym, subst, inl, inr, arith}
use Rattle.std.proofs.lemmas.Bool.{cases_eq, eq-eqb}
use Rattle.std.proofs.lemmas.Bool.Decides.{nat_tests}
use Rattle.std.proofs.lemmas.Grind.{get_or-set_at}
use Rattle.std.proofs.lemmas.List.{get_or-set_other}
use Rattle.auto_precharge.specs.declared.issued.Issued.{Issued}
use Rattle.ddr4_timing.proofs.Addresses.{same_slot, slot_small}
use Rattle.ddr4_timing.specs.Command.{bank_of, rank_of}
use Rattle.ddr4_timing.specs.Places.{HasSlot, is_bank, slot_of}
use Rattle.ddr4_timing.specs.declared.command.Command.{Command}
use Rattle.ddr4_timing.specs.declared.command.Command.TheVariants.{Act, Rd, Wr, Pre, PreAll, Ref, Sre}
use Rattle.ddr4_timing.specs.declared.place.BankAddress.{BankAddress}
use Rattle.trace_statistics.specs.declared.numbers.BankNumbers.{BankNumbers}
use Rattle.trace_statistics.specs.declared.phase.Phase.{Phase}
use Rattle.trace_statistics.specs.declared.phase.Phase.TheVariants.{Closed}
use Rattle.trace_statistics.specs.declared.rank.Rank.{Rank}
use Rattle.trace_statistics.specs.Numbers.{AreNumbersOf, touches, touching}
use Rattle.trace_statistics.specs.Standing.{AreWith, BankStands, IsOfBank, RankStands, phase_behind, phase_of}
use Rattle.trace_statistics.proofs.Counting.{IsWide, numbers_more, numbers_other, numbers_wide}

eqb_self : (n : ℕ) → eqb n n ≡ true
eqb_self n = eq-eqb n n refl

pub is_bank_self : (at : BankAddress) → is_bank at at ≡ true
is_bank_self at = simp eqb_self refl

is_bank_other : (a b : BankAddress) → slot_of a ≢ slot_of b → is_bank a b ≡ false
is_bank_other a b n = grind (arith, nat_tests)

is_bank_apart : (a b : BankAddress) → a.rank ≢ b.rank → is_bank a b ≡ false
is_bank_apart a b n = grind (arith, nat_tests)

rank_apart : (a b : ℕ) → a ≢ b → (a == b) ≡ false
rank_apart a b n = grind arith

pub names : (at : BankAddress) (x : Command) → IsOfBank at x → bank_of x ≡ at
names at (Act bank row) of = of
names at (Rd bank column) of = of
names at (Wr bank column) of = of
names at (Pre bank) of = of
names at (PreAll rank) of = absurd of
names at (Ref rank) of = absurd of
names at (Sre rank) of = absurd of

touches_by : (at bank : BankAddress) (x : Command) → IsOfBank bank x → touches at x ≡ is_bank bank at
touches_by at bank (Act b row) of = ap (λ (c : BankAddress). is_bank c at) of
touches_by at bank (Rd b column) of = ap (λ (c : BankAddress). is_bank c at) of
touches_by at bank (Wr b column) of = ap (λ (c : BankAddress). is_bank c at) of
touches_by at bank (Pre b) of = ap (λ (c : BankAddress). is_bank c at) of
touches_by at bank (PreAll rank) of = absurd of
touches_by at bank (Ref rank) of = absurd of
touches_by at bank (Sre rank) of = absurd of

wide_touches : (at : BankAddress) (x : Command) → IsWide x → touches at x ≡ (rank_of x == at.rank)
wide_touches at (Act bank row) wide = absurd wide
wide_touches at (Rd bank column) wide = absurd wide
wide_touches at (Wr bank column) wide = absurd wide
wide_touches at (Pre bank) wide = absurd wide
wide_touches at (PreAll rank) wide = refl
wide_touches at (Ref rank) wide = refl
wide_touches at (Sre rank) wide = refl

wide_closes : (x : Command) (closes : Bool) (before : List Issued) → IsWide x → Closed ≡ phase_behind x closes before
wide_closes (Act at row) closes before wide = absurd wide
wide_closes (Rd at column) closes before wide = absurd wide
wide_closes (Wr at column) closes before wide = absurd wide
wide_closes (Pre at) closes before wide = absurd wide
wide_closes (PreAll rank) closes before wide = refl
wide_closes (Ref rank) closes before wide = refl
wide_closes (Sre rank) closes before wide = refl

-- what touches a bank, with one more command
touching_more : (at : BankAddress) (x : Issued) (list : List Issued) → touches at x.command.cmd ≡ true → touching at (x ∷ list) ≡ x ∷ touching at list
touching_more at x list is = rw is refl

touching_past : (at : BankAddress) (x : Issued) (list : List Issued) → touches at x.command.cmd ≡ false → touching at (x ∷ list) ≡ touching at list
touching_past at x list is = rw is refl

-- a command to the bank itself
pub bank_same : (at : BankAddress) (x : Issued) (list : List Issued) (phase after : Phase) (old new : BankNumbers) → IsOfBank at x.command.cmd
    → ((before : List Issued) → phase ≡ phase_of before → after ≡ phase_of (x ∷ before)) → AreWith x.command.cmd phase old new
    → BankStands phase old at list → BankStands after new at (x ∷ list)
bank_same at x list phase after old new of goes more b =
    let own : touches at x.command.cmd ≡ true = touches_by at at x.command.cmd of ∙ is_bank_self at in
    let bank = names at x.command.cmd of in
    record {
      stands = goes (touching at list) b.stands ∙ ap phase_of (sym (touching_more at x list own));
      numbers = numbers_more (λ bank. is_bank bank at) list x phase old new (ap (λ (c : BankAddress). is_bank c at) bank ∙ is_bank_self at)
          (λ _. b.stands ∙ ap (λ (c : BankAddress). phase_of (touching c list)) (sym bank)) more b.numbers;
    }

-- a command to another bank
pub bank_other : (at bank : BankAddress) (x : Issued) (list : List Issued) (phase : Phase) (n : BankNumbers) → IsOfBank bank x.command.cmd → is_bank bank at ≡ false
    → BankStands phase n at list → BankStands phase n at (x ∷ list)
bank_other at bank x list phase n of other b =
    let past : touches at x.command.cmd ≡ false = touches_by at bank x.command.cmd of ∙ other in
    record {
      stands = b.stands ∙ ap phase_of (sym (touching_past at x list past));
      numbers = numbers_other (λ bank. is_bank bank at) list x n (ap (λ (c : BankAddress). is_bank c at) (names bank x.command.cmd of) ∙ other) b.numbers;
    }

-- a command to the whole rank
pub bank_wide : (at : BankAddress) (x : Issued) (list : List Issued) (phase : Phase) (n : BankNumbers) → IsWide x.command.cmd → at.rank ≡ rank_of x.command.cmd → BankStands phase n at list
    → BankStands Closed n at (x ∷ list)
bank_wide at x list phase n wide of b =
    let own : touches at x.command.cmd ≡ true = wide_touches at x.command.cmd wide ∙ eq-eqb (rank_of x.command.cmd) at.rank (sym of) in
    record {
      stands = wide_closes x.command.cmd x.closes (touching at list) wide ∙ ap phase_of (sym (touching_more at x list own));
      numbers = numbers_wide (λ bank. is_bank bank at) list x n wide b.numbers;
    }

-- a command to a bank, or to a whole rank
which_kind : (x : Command) → ((at : BankAddress) × IsOfBank at x) ⊎ IsWide x
which_kind (Act at row) = inl (at, refl)
which_kind (Rd at column) = inl (at, refl)
which_kind (Wr at column) = inl (at, refl)
which_kind (Pre at) = inl (at, refl)
which_kind (PreAll rank) = inr tt
which_kind (Ref rank) = inr tt
which_kind (Sre rank) = inr tt

-- a command to another rank
pub bank_apart : (at : BankAddress) (x : Issued) (list : List Issued) (phase : Phase) (n : BankNumbers) → rank_of x.command.cmd ≢ at.rank → BankStands phase n at list
    → BankStands phase n at (x ∷ list)
bank_apart at x list phase n other b = elim (which_kind x.command.cmd) [
  | inl of ↦
      bank_other at of.0 x list phase n of.1 (is_bank_apart of.0 at (λ same. other (ap (λ (c : BankAddress). c.rank) (names of.0 x.command.cmd of.1) ∙ same))) b
  | inr wide ↦
      let past : touches at x.command.cmd ≡ false = wide_touches at x.command.cmd wide ∙ rank_apart (rank_of x.command.cmd) at.rank other in
      record {
        stands = b.stands ∙ ap phase_of (sym (touching_past at x list past));
        numbers = numbers_wide (λ bank. is_bank bank at) list x n wide b.numbers;
      }
]

pub rank_apart_stands : (rank : ℕ) (r : Rank) (x : Issued) (list : List Issued) → rank_of x.command.cmd ≢ rank → RankStands rank r list → RankStands rank r (x ∷ list)
rank_apart_stands rank r x list other stands = record {
  banks = λ at phase none slot of. bank_apart at x list _ _ (λ same. other (same ∙ of)) (stands.banks at phase none slot of);
}

-- the banks of a rank behind a command to one of them
pub rank_more : (bank : BankAddress) (x : Issued) (list : List Issued) (r : Rank) (n : ℕ) (p : Phase) (b : BankNumbers) (after : Phase) (is : BankNumbers) → IsOfBank bank x.command.cmd
    → HasSlot bank → length r.phases ≡ 16 → length r.banks ≡ 16 → n ≡ slot_of bank
    → ((before : List Issued) → get_or r.phases n p ≡ phase_of before → after ≡ phase_of (x ∷ before)) → AreWith x.command.cmd (get_or r.phases n p) (get_or r.banks n b) is
    → RankStands bank.rank r list → RankStands bank.rank (record { phases = set r.phases n after; banks = set r.banks n is }) (x ∷ list)
rank_more bank x list r n p b after is of slot phases banks index goes more stands =
    let own_small = slot_small bank slot in
    let old : BankStands (get_or r.phases n p) (get_or r.banks n b) bank list =
    subst (λ (m : ℕ). BankStands (get_or r.phases m p) (get_or r.banks m b) bank list) (sym index) (stands.banks bank p b slot refl) in
    let one : BankStands after is bank (x ∷ list) = bank_same bank x list (get_or r.phases n p) after (get_or r.banks n b) is of goes more old in
    record {
      banks = λ at q none there rank.
          let small = slot_small at there in
          elim (cases_eq n (slot_of at)) [
            | inl same ↦
                let here : bank ≡ at = same_slot bank at slot there (sym rank) (sym index ∙ same) in
                rw (
                  get_or-set_at r.phases n (slot_of at) after q (sym same) (omega (arith, phases, small, same)),
                  get_or-set_at r.banks n (slot_of at) is none (sym same) (omega (arith, banks, small, same)),
                )
                (subst (λ (a : BankAddress). BankStands after is a (x ∷ list)) here one)
            | inr other ↦
                rw (get_or-set_other r.phases n (slot_of at) after q (λ q. other (sym q)), get_or-set_other r.banks n (slot_of at) is none (λ q. other (sym q)))
                (bank_other at bank x list _ _ of (is_bank_other bank at (λ q. other (index ∙ q))) (stands.banks at q none there rank))
          ];
    }

-- no command yet
pub rank_none : (rank : ℕ) (phases : List Phase) (banks : List BankNumbers) (n : BankNumbers) → ((i : ℕ) (d : Phase) → i < 16 → get_or phases i d ≡ Closed)
    → ((i : ℕ) (d : BankNumbers) → i < 16 → get_or banks i d ≡ n) → ((which : BankAddress → Bool) → AreNumbersOf which [] n)
    → RankStands rank (record { phases = phases; banks = banks }) []
rank_none rank phases banks n closed none numbers = record {
  banks = λ at d e slot of. record { stands = closed (slot_of at) d (slot_small at slot); numbers = rw (none (slot_of at) e (slot_small at slot)) (numbers (λ bank. is_bank bank at)) };
}

-- every bank of a rank is closed behind a command to it
pub rank_closed : (rank : ℕ) (r : Rank) (phases : List Phase) (list more : List Issued) → ((i : ℕ) (d : Phase) → i < 16 → get_or phases i d ≡ Closed)
    → ((at : BankAddress) (phase : Phase) (n : BankNumbers) → at.rank ≡ rank → BankStands phase n at list → BankStands Closed n at more)
    → RankStands rank r list → RankStands rank (record { phases = phases; banks = r.banks }) more
rank_closed rank r phases list more closed goes stands = record {
  banks = λ at d none slot of. rw (closed (slot_of at) d (slot_small at slot)) (goes at _ _ of (stands.banks at d none slot of));
}
