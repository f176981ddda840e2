-- The soonest requests by their seqs, where more were looked at.
use Rattle.std.proofs.Common.{◌≡◌, ◌≢◌, ℕ, ◌<◌, ◌≤◌, ◌⊎◌, max, List, Some, inl, inr, refl, sym, subst, ap, ◌∙◌, arith}
use Rattle.ddr4_timing.proofs.Ready.{ready_lawful}
use Rattle.request_notes.specs.BankSets.{Has, IsOneTaken}
use Rattle.frfcfs.specs.NotedLook.{IsSooner, IsSoonest, TakesBySeq, WantsSeen}
use Rattle.request_notes.specs.declared.bank_set.BankSet.{BankSet}
use Rattle.frfcfs.specs.declared.noted_look.Soon.{Soon}
use Rattle.frfcfs.proofs.Common.{Checked, Command, IsEligible, IsEnd, IsInGeometry, IsLawful, Pending, Stamped, least_clock}
use Rattle.frfcfs.proofs.Lists.{one_at}
use Rattle.frfcfs.proofs.Wants.{IsWish, takes_from}

-- the soonest one, where the same may be taken
pub soon_same : (S T : ℕ → ℕ → Type 0) (now limit : ℕ) (soon : Soon) → ((i k : ℕ) → S i k → T i k) → ((i k : ℕ) → T i k → S i k) → IsSoonest S now limit soon → IsSoonest T now limit soon
soon_same S T now limit soon more less before = record {
  found = λ h. more soon.seq soon.clock (before.found h);
  first = λ i k from t. before.first i k from (less i k t);
}

-- another, be it older or younger, and others that take no sooner
pub soon_joins : (S T : ℕ → ℕ → Type 0) (now limit seq from stop : ℕ) (old new : Soon) → IsSooner old seq from stop new → IsSoonest S now limit old → stop ≤ limit → ((i k : ℕ) → S i k → T i k) → (from < stop → T seq from)
    → ((i k : ℕ) → now ≤ k → T i k → S i k ⊎ ((seq ≤ i) × (from ≤ k) × (k < stop))) → IsSoonest T now limit new
soon_joins S T now limit seq from stop old new better before early more here each =
    elim better [
      | inl b ↦
          let clock = ap (λ (x : Soon). x.clock) b.2 in
          let own = ap (λ (x : Soon). x.seq) b.2 in
          record {
            found = λ _. rw b.2 (here b.0);
            first = λ i k from_now t. elim (each i k from_now t) [
              | inl s ↦ let f = before.first i k from_now s in elim b.1 [
                | inl sooner ↦ (f.0, omega (arith, f.1, sooner, clock), λ same. absurd (omega (arith, same, f.1, sooner, clock)))
                | inr tied ↦ (f.0, omega (arith, f.1, tied.0, clock), λ same. let g : old.seq ≤ i = f.2 (omega (arith, same, clock, tied.0)) in omega (arith, g, tied.1, own))
              ]
              | inr late ↦ (omega (arith, late.2, early), omega (arith, late.1, clock), λ _. omega (arith, late.0, own))
            ];
          }
      | inr b ↦ rw b.1 (record {
        found = λ h. more old.seq old.clock (before.found h);
        first = λ i k from_now t. elim (each i k from_now t) [
          | inl s ↦ before.first i k from_now s
          | inr late ↦ elim b.0 [
            | inl never ↦ absurd (omega (arith, never, late.1, late.2))
            | inr others ↦ elim others [
              | inl later ↦ (omega (arith, late.2, early), omega (arith, later, late.1), λ same. absurd (omega (arith, same, later, late.1)))
              | inr tied ↦ (omega (arith, late.2, early), omega (arith, tied.0, late.1), λ _. omega (arith, tied.1, late.0))
            ]
          ]
        ];
      })
    ]

-- a bank that is left, and one that is left no more

pub left_less : (left rest : BankSet) (n m : ℕ) → IsOneTaken left (Some n) rest → ¬ Has left m → ¬ Has rest m
left_less left rest n m taken none h = none (((taken.2 m).0 h).0)

pub left_other : (left rest : BankSet) (n m : ℕ) → IsOneTaken left (Some n) rest → m ≢ n → ¬ Has rest m → ¬ Has left m
left_other left rest n m taken differs none h = none ((taken.2 m).1 (h, differs))

pub left_gone : (left rest : BankSet) (n m : ℕ) → IsOneTaken left (Some n) rest → m ≡ n → ¬ Has rest m
left_gone left rest n m taken same h = ((taken.2 m).0 h).1 same

-- requests of a class, of which some were looked at

-- some more were looked at, of which none wants a command that it may have
pub seen_none : (Wants : Pending → Command → Type 0) (A B : Pending → Type 0) (c : Checked) (list : List Stamped) (pending : List Pending) (now last limit : ℕ) (soon : Soon) → ((p : Pending) → A p → B p)
    → ((i : ℕ) (p : Pending) (cmd : Command) → IsEligible pending i p → Wants p cmd → IsInGeometry c.geometry cmd → B p → A p)
    → IsSoonest (TakesBySeq (WantsSeen Wants A) c list pending last) now limit soon → IsSoonest (TakesBySeq (WantsSeen Wants B) c list pending last) now limit soon
seen_none Wants A B c list pending now last limit soon more none = soon_same (TakesBySeq (WantsSeen Wants A) c list pending last) (TakesBySeq (WantsSeen Wants B) c list pending last) now limit soon
    (λ s k h. (h.0, (h.1.0, h.1.1, h.1.2, h.1.3, h.1.4, (h.1.5.0, more h.1.0 h.1.5.1)), h.2))
    (λ s k h. (h.0, (h.1.0, h.1.1, h.1.2, h.1.3, h.1.4, (h.1.5.0, none h.0 h.1.0 h.1.1 h.1.3 h.1.5.0 (ready_lawful c list (record { clock = k; cmd = h.1.1 }) h.1.4.lawful).rows.place h.1.5.1)), h.2))

-- what is known of the oldest of those, which was offered its command
pub record IsOffer (Wants : Pending → Command → Type 0) (A B : Pending → Type 0) (c : Checked) (list : List Stamped) (pending : List Pending) (last seq least end : ℕ) : Type 0 where
  pub index : ℕ
  pub request : Pending
  pub cmd : Command
  pub eligible : IsEligible pending index request
  pub own : request.seq ≡ seq
  pub wish : IsWish Wants c list request cmd
  pub clock : least ≡ least_clock c.timing list cmd
  pub seen : B request
  pub ends : IsEnd c list request.place.rank last end
  pub each : (i : ℕ) (p : Pending) (x : Command) → IsEligible pending i p → Wants p x → IsInGeometry c.geometry x → B p → A p ⊎ ((seq ≤ p.seq) × IsWish Wants c list p x × (least ≡ least_clock c.timing list x) × (p.place.rank ≡ request.place.rank))

pub seen_offer : (Wants : Pending → Command → Type 0) (A B : Pending → Type 0) (c : Checked) (list : List Stamped) (pending : List Pending) (now last limit seq least from end : ℕ) (old new : Soon) → IsLawful c list → ((p : Pending) → A p → B p)
    → IsOffer Wants A B c list pending last seq least end → end ≤ limit → from ≡ max least now → IsSooner old seq from end new
    → IsSoonest (TakesBySeq (WantsSeen Wants A) c list pending last) now limit old → IsSoonest (TakesBySeq (WantsSeen Wants B) c list pending last) now limit new
seen_offer Wants A B c list pending now last limit seq least from end old new lawful more o early start better before =
    soon_joins (TakesBySeq (WantsSeen Wants A) c list pending last) (TakesBySeq (WantsSeen Wants B) c list pending last) now limit seq from end old new better before early
    (λ s k h. (h.0, (h.1.0, h.1.1, h.1.2, h.1.3, h.1.4, (h.1.5.0, more h.1.0 h.1.5.1)), h.2))
    (λ sooner.
    let t = (takes_from Wants c list pending last o.index least end from o.request o.cmd lawful o.wish o.eligible o.clock o.ends).1 (omega (arith, start), sooner) in
    let same : t.0 ≡ o.request = one_at pending o.index o.index t.0 o.request t.3.here o.eligible.here refl in
    (o.index, (t.0, t.1, t.2, t.3, t.4, (t.5, rw same o.seen)), ap (λ (p : Pending). p.seq) same ∙ o.own))
    (λ s k from_now h.
    let place = (ready_lawful c list (record { clock = k; cmd = h.1.1 }) h.1.4.lawful).rows.place in
    elim (o.each h.0 h.1.0 h.1.1 h.1.3 h.1.5.0 place h.1.5.1) [
      | inl a ↦ inl (h.0, (h.1.0, h.1.1, h.1.2, h.1.3, h.1.4, (h.1.5.0, a)), h.2)
      | inr l ↦
          let span = (takes_from Wants c list pending last h.0 least end k h.1.0 h.1.1 lawful l.1 h.1.3 l.2 (subst (λ (r : ℕ). IsEnd c list r last end) (sym l.3) o.ends)).0 (h.1.0, h.1.1, h.1.2, h.1.3, h.1.4, h.1.5.0) in
          inr (let e = h.2 in let m = l.0 in omega (arith, e, m), omega (arith, start, span.0, from_now), span.1)
    ])
