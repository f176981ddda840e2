-- Whether a channel has work.
use Rattle.std.proofs.Common.{◌≡◌, ℕ, ◌<◌, ◌≤◌, ◌⊎◌, ◌↔◌, ◌^◌, ◌-◌, List, Option, Some, None, Bool, IsTrue, IfSome, All, true, false, inl, inr, arith, refl, sym, subst}
use Rattle.frfcfs.proofs.Common.{Allows, AreFirsts, AreInOrder, AreKeys, AreKeysIn, AreMarks, BanksState, Checked, Geometry, HasBank, HasWork, IsEligible, IsIdle, IsInLead, IsLawful, IsNext, KeepsMargin, Key, LiesIn, Next, Pending, Stamped, Stands, bank_at, firsts_of, last_clock, with_command}
use Rattle.frfcfs.proofs.Lists.{All-at}
use Rattle.frfcfs.proofs.NextChoice.{next_lawful}
use Rattle.frfcfs.proofs.QueueLemmas.{firsts_marks, lines}
use Rattle.frfcfs.proofs.refreshes.NextKeeps.{next_keeps, none_exactly}

-- some request is eligible, and the geometry has its bank
abbrev pub Waits : Geometry → List Pending → Type 0
Waits g pending = (i : ℕ) × (p : Pending) × IsEligible pending i p × HasBank g (bank_at p.place)

-- what is said of a queue's requests by a list of them

pub work_of : (c : Checked) (list : List Stamped) (pending requests : List Pending) (clock : ℕ) (any work : Bool) → pending ≡ requests → All (λ q. LiesIn c.geometry q.place) requests → (IsTrue any ↔ Waits c.geometry pending) →
    (IsTrue work ↔ (((rank : ℕ) × (rank < c.geometry.ranks) × IsInLead c.timing list clock rank) ⊎ IsTrue any)) → (IsTrue work ↔ HasWork c list requests clock)
work_of c list pending requests clock any work same places a w =
    let waits = subst (λ (ps : List Pending). IsTrue any ↔ Waits c.geometry ps) same a in (
      λ t. elim (w.0 t) [ inl l ↦ inl l | inr e ↦ let f = waits.0 e in inr (f.0, f.1, f.2) ],
      λ h. elim h [
        | inl l ↦ w.1 (inl l)
        | inr e ↦ let l = All-at (λ q. LiesIn c.geometry q.place) requests e.0 e.1 places e.2.here in w.1 (inr (waits.1 (e.0, e.1, e.2, record { rank = l.rank; group = l.group; bank = l.bank })))
      ],
    )

marks_of : (g : Geometry) (pending requests : List Pending) (firsts : List Bool) → pending ≡ requests → AreInOrder pending → All (λ q. LiesIn g q.place) requests → AreFirsts (lines requests) firsts → AreMarks g pending firsts
marks_of g pending requests firsts same order places marks =
    firsts_marks g pending firsts order (subst (λ (ps : List Pending). All (λ q. LiesIn g q.place) ps) (sym same) places) (subst (λ (ps : List Pending). AreFirsts (lines ps) firsts) (sym same) marks)

pub keys_of : (g : Geometry) (pending requests : List Pending) (keys : List Key) → pending ≡ requests → AreInOrder pending → All (λ q. LiesIn g q.place) requests → AreKeys requests keys → AreFirsts (lines requests) (firsts_of keys) → AreKeysIn g pending keys
keys_of g pending requests keys same order places are marks = record {
  keyed = subst (λ (ps : List Pending). AreKeys ps keys) (sym same) are;
  marks = marks_of g pending requests (firsts_of keys) same order places marks;
}

-- what is said of a search, of its answer

pub next_of : (b : BanksState Checked) (pending requests : List Pending) (now : ℕ) (r : Option Next) → pending ≡ requests → ((list : List Stamped) → Stands b list → IsNext b.checked list pending now r) →
    IfSome r (λ next. (list : List Stamped) → Stands b list → IsNext b.checked list requests now (Some next))
next_of b pending requests now None same h = tt
next_of b pending requests now (Some next) same h = λ list s. subst (λ (ps : List Pending). IsNext b.checked list ps now (Some next)) same (h list s)

pub allows_of : (b : BanksState Checked) (pending : List Pending) (now : ℕ) (r : Option Next) → ((list : List Stamped) → Stands b list → IsNext b.checked list pending now r) → IfSome r (λ next. Allows b next.cmd next.clock)
allows_of b pending now None h = tt
allows_of b pending now (Some next) h = record { lawful = λ list s. next_lawful b.checked list pending now (2 ^ 63 - 1) next (h list s) }

pub keeps_of : (b : BanksState Checked) (requests : List Pending) (now : ℕ) (r : Option Next) → IfSome r (λ next. (list : List Stamped) → Stands b list → IsNext b.checked list requests now (Some next)) →
    IfSome r (λ next. (list : List Stamped) → Stands b list → KeepsMargin b.checked list → now ≡ last_clock list → KeepsMargin b.checked (with_command list next.clock next.cmd))
keeps_of b requests now None h = tt
keeps_of b requests now (Some next) h = λ list s m e. next_keeps b.checked list requests next m (subst (λ (k : ℕ). IsNext b.checked list requests k (Some next)) e (h list s))

-- no command exactly where the channel is idle

pub idle_without : (c : Checked) (list : List Stamped) (pending : List Pending) (now : ℕ) → (IsTrue false ↔ HasWork c list pending now) → IsIdle c list pending now
idle_without c list pending now w = inl (λ work. let e : false ≡ true = w.1 work in absurd cc)

pub idle_of : (c : Checked) (list : List Stamped) (pending requests : List Pending) (now : ℕ) (r : Option Next) → pending ≡ requests → KeepsMargin c list → IsLawful c list → now ≡ last_clock list → now < 2 ^ 62 → (IsTrue true ↔ HasWork c list requests now) → IsNext c list pending now r →
    ((r ≡ None) ↔ (IsIdle c list requests now ⊎ (2 ^ 62 ≤ now)))
idle_of c list pending requests now r same m lawful at early work next =
    let e = none_exactly c list requests r m lawful (omega (arith, early, at)) (subst (λ (k : ℕ). IsNext c list requests k r) at (subst (λ (ps : List Pending). IsNext c list ps now r) same next)) in (
      λ none. inl (inr (e.0 none)),
      λ idle. elim idle [
        | inl rest ↦ elim rest [ inl some ↦ absurd (some (work.0 refl)) | inr all ↦ e.1 all ]
        | inr late ↦ absurd (omega (arith, early, late))
      ],
    )
