-- The numbers of a list with one more command.
use Rattle.std.proofs.Common.{◌≡◌, ◌∙◌, ℕ, ◌+◌, ◌-◌, ◌^◌, Bool, true, false, ◌&&◌, not, cond, List, [], ◌∷◌, ◌++◌, max, min, ap, refl, sym, arith}
use Rattle.std.specs.List.{count_by}
use Rattle.std.proofs.lemmas.List.{reverse-append}
use Rattle.std.proofs.lemmas.List.Sums.{fold_push, sum_by-cons}
use Rattle.auto_precharge.specs.declared.issued.Issued.{Issued}
use Rattle.ddr4_timing.specs.Command.{bank_of, is_act, is_column, is_pre, is_rd, is_wr}
use Rattle.ddr4_timing.specs.declared.command.Command.{Command}
use Rattle.ddr4_timing.specs.declared.command.Command.TheVariants.{Act, Rd, Wr, Pre, PreAll, Ref, Sre}
use Rattle.ddr4_timing.specs.declared.place.BankAddress.{BankAddress}
use Rattle.trace_statistics.specs.declared.numbers.BankNumbers.{BankNumbers}
use Rattle.trace_statistics.specs.declared.phase.Phase.{Phase}
use Rattle.trace_statistics.specs.declared.phase.Phase.TheVariants.{Opened, Reopened}
use Rattle.trace_statistics.specs.Numbers.{AreNumbersOf, commands, is_behind_pre, is_conflict, is_hit, is_miss, last_clock, latest, told, touching}
use Rattle.trace_statistics.specs.Standing.{AreWith, counted, is_opened, is_reopened, is_used, phase_behind, phase_of}

pub latest_more : (list : List Issued) (x : Issued) → latest (list ++ x ∷ []) ≡ x ∷ latest list
unfolding latest
latest_more list x = reverse-append list (x ∷ [])

pub told_none : (n c : ℕ) → c ≡ told n → c ≡ told (0 + n)
told_none n c e = omega (arith, e)

told_one : (n c : ℕ) → c ≡ told n → min (c + 1) (2 ^ 64 - 1) ≡ told (1 + n)
told_one n c e = omega (arith, e)

-- a command to a whole rank
abbrev pub IsWide : Command → Type 0
IsWide (Act at row) = ⊥
IsWide (Rd at column) = ⊥
IsWide (Wr at column) = ⊥
IsWide (Pre at) = ⊥
IsWide (PreAll rank) = Unit {0}
IsWide (Ref rank) = Unit {0}
IsWide (Sre rank) = Unit {0}

wide_none : (x : Command) → IsWide x → (is_act x ≡ false) × (is_rd x ≡ false) × (is_wr x ≡ false) × (is_pre x ≡ false) × (is_column x ≡ false)
wide_none (Act at row) wide = absurd wide
wide_none (Rd at column) wide = absurd wide
wide_none (Wr at column) wide = absurd wide
wide_none (Pre at) wide = absurd wide
wide_none (PreAll rank) wide = (refl, refl, refl, refl, refl)
wide_none (Ref rank) wide = (refl, refl, refl, refl, refl)
wide_none (Sre rank) wide = (refl, refl, refl, refl, refl)

-- a kind of commands, of banks that are among those that count
told_kind : (a w : Bool) (n c d : ℕ) → w ≡ true → d ≡ counted a c → c ≡ told n → d ≡ told (cond (a && w) 1 0 + n)
told_kind a w n c d is new e = rw is (elim a as (λ (a : Bool). d ≡ counted a c → d ≡ told (cond (a && true) 1 0 + n)) [
  | true ↦ λ p. p ∙ told_one n c e
  | false ↦ λ p. p ∙ told_none n c e
] new)

told_other : (a w : Bool) (n c : ℕ) → w ≡ false → c ≡ told n → c ≡ told (cond (a && w) 1 0 + n)
told_other a w n c is e = rw is (elim a as (λ (a : Bool). c ≡ told (cond (a && false) 1 0 + n)) [ true ↦ told_none n c e | false ↦ told_none n c e ])

count_more : (p : Issued → Bool) (x : Issued) (list : List Issued) → count_by p (x ∷ list) ≡ cond (p x) 1 0 + count_by p list
count_more p x list = sum_by-cons (λ (y : Issued). cond (p y) 1 0) x list

kind_more : (which : BankAddress → Bool) (kind : Command → Bool) (list : List Issued) (x : Issued) (c d : ℕ) → which (bank_of x.command.cmd) ≡ true → d ≡ counted (kind x.command.cmd) c
    → c ≡ told (commands which kind list) → d ≡ told (commands which kind (x ∷ list))
kind_more which kind list x c d is new e =
    told_kind (kind x.command.cmd) (which (bank_of x.command.cmd)) (commands which kind list) c d is new e ∙ ap told (sym (count_more (λ (y : Issued). kind y.command.cmd && which (bank_of y.command.cmd)) x list))

kind_other : (which : BankAddress → Bool) (kind : Command → Bool) (list : List Issued) (x : Issued) (c : ℕ) → which (bank_of x.command.cmd) ≡ false
    → c ≡ told (commands which kind list) → c ≡ told (commands which kind (x ∷ list))
kind_other which kind list x c is e =
    told_other (kind x.command.cmd) (which (bank_of x.command.cmd)) (commands which kind list) c is e ∙ ap told (sym (count_more (λ (y : Issued). kind y.command.cmd && which (bank_of y.command.cmd)) x list))

kind_none : (which : BankAddress → Bool) (kind : Command → Bool) (list : List Issued) (x : Issued) (c : ℕ) → kind x.command.cmd ≡ false
    → c ≡ told (commands which kind list) → c ≡ told (commands which kind (x ∷ list))
kind_none which kind list x c none e =
    let more : commands which kind (x ∷ list) ≡ 0 + commands which kind list = count_more (λ (y : Issued). kind y.command.cmd && which (bank_of y.command.cmd)) x list ∙ rw none refl in
    told_none (commands which kind list) c e ∙ ap told (sym more)

-- and accesses that find their bank so
told_access : (a w so u : Bool) (n c d : ℕ) → w ≡ true → (a ≡ true → so ≡ u) → d ≡ counted (a && u) c → c ≡ told n → d ≡ told (cond (a && w && so) 1 0 + n)
told_access a w so u n c d is same new e = rw is (elim a as (λ (a : Bool). (a ≡ true → so ≡ u) → d ≡ counted (a && u) c → d ≡ told (cond (a && true && so) 1 0 + n)) [
  | true ↦ λ q p. rw (q refl) (elim u as (λ (u : Bool). d ≡ counted u c → d ≡ told (cond u 1 0 + n)) [ true ↦ λ r. r ∙ told_one n c e | false ↦ λ r. r ∙ told_none n c e ] p)
  | false ↦ λ q p. p ∙ told_none n c e
] same new)

told_access_other : (a w so : Bool) (n c : ℕ) → w ≡ false → c ≡ told n → c ≡ told (cond (a && w && so) 1 0 + n)
told_access_other a w so n c is e = rw is (elim a as (λ (a : Bool). c ≡ told (cond (a && false && so) 1 0 + n)) [ true ↦ told_none n c e | false ↦ told_none n c e ])

-- what an access finds, by how its bank stands

pub pre_or_not : (b : Bool) → (is_used (cond b Reopened Opened) ≡ false) × (is_opened (cond b Reopened Opened) ≡ not b) × (is_reopened (cond b Reopened Opened) ≡ b)
pre_or_not true = (refl, refl, refl)
pre_or_not false = (refl, refl, refl)

-- behind a command that touched it
hit_behind : (x : Command) (closes : Bool) (before : List Issued) → (is_column x && not closes) ≡ is_used (phase_behind x closes before)
hit_behind (Act at row) closes before = sym (pre_or_not (is_behind_pre before)).0
hit_behind (Rd at column) true before = refl
hit_behind (Rd at column) false before = refl
hit_behind (Wr at column) true before = refl
hit_behind (Wr at column) false before = refl
hit_behind (Pre at) closes before = refl
hit_behind (PreAll rank) closes before = refl
hit_behind (Ref rank) closes before = refl
hit_behind (Sre rank) closes before = refl

miss_behind : (x : Command) (closes : Bool) (before : List Issued) → (is_act x && not (is_behind_pre before)) ≡ is_opened (phase_behind x closes before)
miss_behind (Act at row) closes before = sym (pre_or_not (is_behind_pre before)).1
miss_behind (Rd at column) true before = refl
miss_behind (Rd at column) false before = refl
miss_behind (Wr at column) true before = refl
miss_behind (Wr at column) false before = refl
miss_behind (Pre at) closes before = refl
miss_behind (PreAll rank) closes before = refl
miss_behind (Ref rank) closes before = refl
miss_behind (Sre rank) closes before = refl

conflict_behind : (x : Command) (closes : Bool) (before : List Issued) → (is_act x && is_behind_pre before) ≡ is_reopened (phase_behind x closes before)
conflict_behind (Act at row) closes before = sym (pre_or_not (is_behind_pre before)).2
conflict_behind (Rd at column) true before = refl
conflict_behind (Rd at column) false before = refl
conflict_behind (Wr at column) true before = refl
conflict_behind (Wr at column) false before = refl
conflict_behind (Pre at) closes before = refl
conflict_behind (PreAll rank) closes before = refl
conflict_behind (Ref rank) closes before = refl
conflict_behind (Sre rank) closes before = refl

hit_used : (list : List Issued) → is_hit list ≡ is_used (phase_of list)
hit_used [] = refl
hit_used (x ∷ before) = hit_behind x.command.cmd x.closes before

miss_opened : (list : List Issued) → is_miss list ≡ is_opened (phase_of list)
miss_opened [] = refl
miss_opened (x ∷ before) = miss_behind x.command.cmd x.closes before

conflict_reopened : (list : List Issued) → is_conflict list ≡ is_reopened (phase_of list)
conflict_reopened [] = refl
conflict_reopened (x ∷ before) = conflict_behind x.command.cmd x.closes before

pub numbers_more : (which : BankAddress → Bool) (list : List Issued) (x : Issued) (phase : Phase) (old new : BankNumbers) → which (bank_of x.command.cmd) ≡ true
    → (is_column x.command.cmd ≡ true → phase ≡ phase_of (touching (bank_of x.command.cmd) list)) → AreWith x.command.cmd phase old new → AreNumbersOf which list old
    → AreNumbersOf which (x ∷ list) new
numbers_more which list x phase old new is found more n =
    let s = touching (bank_of x.command.cmd) list in
    record {
      activates = kind_more which is_act list x _ _ is more.activates n.activates;
      reads = kind_more which is_rd list x _ _ is more.reads n.reads;
      writes = kind_more which is_wr list x _ _ is more.writes n.writes;
      precharges = kind_more which is_pre list x _ _ is more.precharges n.precharges;
      hits = told_access (is_column x.command.cmd) (which (bank_of x.command.cmd)) (is_hit s) (is_used phase) _ _ _ is (λ c. hit_used s ∙ sym (ap is_used (found c))) more.hits n.hits;
      misses = told_access (is_column x.command.cmd) (which (bank_of x.command.cmd)) (is_miss s) (is_opened phase) _ _ _ is (λ c. miss_opened s ∙ sym (ap is_opened (found c))) more.misses n.misses;
      conflicts = told_access (is_column x.command.cmd) (which (bank_of x.command.cmd)) (is_conflict s) (is_reopened phase) _ _ _ is (λ c. conflict_reopened s ∙ sym (ap is_reopened (found c))) more.conflicts n.conflicts;
    }

pub numbers_other : (which : BankAddress → Bool) (list : List Issued) (x : Issued) (n : BankNumbers) → which (bank_of x.command.cmd) ≡ false → AreNumbersOf which list n
    → AreNumbersOf which (x ∷ list) n
numbers_other which list x m is n =
    let s = touching (bank_of x.command.cmd) list in
    record {
      activates = kind_other which is_act list x _ is n.activates;
      reads = kind_other which is_rd list x _ is n.reads;
      writes = kind_other which is_wr list x _ is n.writes;
      precharges = kind_other which is_pre list x _ is n.precharges;
      hits = told_access_other (is_column x.command.cmd) _ (is_hit s) _ _ is n.hits;
      misses = told_access_other (is_column x.command.cmd) _ (is_miss s) _ _ is n.misses;
      conflicts = told_access_other (is_column x.command.cmd) _ (is_conflict s) _ _ is n.conflicts;
    }

told_access_none : (a w so : Bool) (n c : ℕ) → a ≡ false → c ≡ told n → c ≡ told (cond (a && w && so) 1 0 + n)
told_access_none a w so n c is e = rw is (told_none n c e)

-- a command to a whole rank is none of a bank's
pub numbers_wide : (which : BankAddress → Bool) (list : List Issued) (x : Issued) (n : BankNumbers) → IsWide x.command.cmd → AreNumbersOf which list n → AreNumbersOf which (x ∷ list) n
numbers_wide which list x m wide n =
    let s = touching (bank_of x.command.cmd) list in
    let none = wide_none x.command.cmd wide in
    record {
      activates = kind_none which is_act list x _ none.0 n.activates;
      reads = kind_none which is_rd list x _ none.1 n.reads;
      writes = kind_none which is_wr list x _ none.2 n.writes;
      precharges = kind_none which is_pre list x _ none.3 n.precharges;
      hits = told_access_none (is_column x.command.cmd) (which (bank_of x.command.cmd)) (is_hit s) _ _ none.4 n.hits;
      misses = told_access_none (is_column x.command.cmd) (which (bank_of x.command.cmd)) (is_miss s) _ _ none.4 n.misses;
      conflicts = told_access_none (is_column x.command.cmd) (which (bank_of x.command.cmd)) (is_conflict s) _ _ none.4 n.conflicts;
    }

pub last_clock_more : (list : List Issued) (x : Issued) → last_clock (list ++ x ∷ []) ≡ max (last_clock list) x.command.clock
unfolding last_clock
last_clock_more list x = fold_push (λ last y. max last y.command.clock) 0 list x
