-- The soonest requests by their seqs, before the first bank is looked at and behind the last, and by their places.
use Rattle.std.proofs.Common.{◌≡◌, ◌≢◌, ℕ, ◌<◌, ◌≤◌, ◌↔◌, List, Bool, IsTrue, true, false, Option, None, Some, All, inl, inr, refl, sym, subst, ap, ◌∙◌, arith, length, not, slice_get}
use Rattle.std.proofs.lemmas.Bool.{cases_lt}
use Rattle.std.proofs.lemmas.Option.{get_or_from_slice_get, slice_get-get_or, slice_get_within}
use Rattle.request_notes.specs.BankSets.{Has}
use Rattle.frfcfs.specs.NotedLook.{AreSoonest, AreSoonestBut, IsNotedFound, IsPast, IsSoonest, TakesBySeq, WantsSeen, address_of}
use Rattle.request_notes.specs.Notes.{AreNotes, IsOfBank, IsOldestSeq, SeqsRise, note_of}
use Rattle.frfcfs.specs.Search.{HasEligibleIn, IsFound}
use Rattle.request_notes.specs.declared.bank_set.BankSet.{BankSet}
use Rattle.frfcfs.specs.declared.noted_look.NotedLook.{NotedLook}
use Rattle.frfcfs.specs.declared.noted_look.Soon.{Soon}
use Rattle.request_notes.specs.declared.notes.Notes.{Notes}
use Rattle.frfcfs.proofs.Common.{AreKeys, AreKeysIn, Best, Checked, Command, Geometry, HasBank, IsBest, IsEligible, IsSmall, Key, LiesIn, Pending, Stamped, Takes, WantsColumn, WantsRow, bank_at, place_of}
use Rattle.frfcfs.proofs.HitLemmas.{index_small}
use Rattle.frfcfs.proofs.KeyLemmas.{key_there}
use Rattle.frfcfs.proofs.Lists.{something_at}
use Rattle.frfcfs.proofs.KeyRequests.{free_key, key_free, request_of}
use Rattle.frfcfs.proofs.SoonLemmas.{soon_same}
use Rattle.frfcfs.proofs.SoonBanks.{number_of}

-- before the first bank is looked at, and behind the last

start_of : (c : Checked) (list : List Stamped) (pending : List Pending) (keys : List Key) (now last limit : ℕ) (notes : Notes) (Wants : Pending → Command → Type 0) → AreKeysIn c.geometry pending keys → AreNotes keys notes →
    IsSoonest (TakesBySeq (WantsSeen Wants (IsPast notes.wanted)) c list pending last) now limit (record { clock = limit; seq = 0 })
start_of c list pending keys now last limit notes Wants are noted = record {
  found = λ h. absurd (omega (arith, h));
  first = λ s k from h. absurd (none h.0 h.1.0 h.1.3 h.1.5.1);
}
  where
    none : (i : ℕ) (p : Pending) → IsEligible pending i p → ¬ IsPast notes.wanted p
    none i p el past =
        let (k, of, is, lies) = free_key c.geometry pending keys i p c.is_small are el in
        let small = index_small c.geometry (bank_at p.place) c.is_small (record { rank = lies.rank; group = lies.group; bank = lies.bank }) in
        let some : (note_of notes (number_of p)).oldest ≢ None = λ e. subst (λ (s : Option ℕ). IsOldestSeq (IsOfBank keys (number_of p)) s) e (noted.each (number_of p) small).oldest k of in
        past ((noted.wanted (number_of p) small).1 some)

pub all_start : (c : Checked) (list : List Stamped) (pending : List Pending) (keys : List Key) (now last limit : ℕ) (notes : Notes) (look : NotedLook) → look.column ≡ record { clock = limit; seq = 0 } → look.row ≡ record { clock = limit; seq = 0 } → AreKeysIn c.geometry pending keys → AreNotes keys notes →
    AreSoonestBut c list pending now last limit notes.wanted look
all_start c list pending keys now last limit notes look column row are noted = record {
  column = rw column (start_of c list pending keys now last limit notes (WantsColumn list) are noted);
  row = rw row (start_of c list pending keys now last limit notes (WantsRow list pending) are noted);
}

end_of : (Wants : Pending → Command → Type 0) (c : Checked) (list : List Stamped) (pending : List Pending) (now last limit : ℕ) (left : BankSet) (soon : Soon) → ((n : ℕ) → ¬ Has left n) →
    IsSoonest (TakesBySeq (WantsSeen Wants (IsPast left)) c list pending last) now limit soon → IsSoonest (TakesBySeq Wants c list pending last) now limit soon
end_of Wants c list pending now last limit left soon none = soon_same (TakesBySeq (WantsSeen Wants (IsPast left)) c list pending last) (TakesBySeq Wants c list pending last) now limit soon
    (λ s k h. (h.0, (h.1.0, h.1.1, h.1.2, h.1.3, h.1.4, h.1.5.0), h.2))
    (λ s k h. (h.0, (h.1.0, h.1.1, h.1.2, h.1.3, h.1.4, (h.1.5, none (number_of h.1.0))), h.2))

pub all_end : (c : Checked) (list : List Stamped) (pending : List Pending) (now last limit : ℕ) (left : BankSet) (look : NotedLook) → ((n : ℕ) → ¬ Has left n) → AreSoonestBut c list pending now last limit left look → AreSoonest c list pending now last limit look
all_end c list pending now last limit left look none before = record {
  column = end_of (WantsColumn list) c list pending now last limit left look.column none before.column;
  row = end_of (WantsRow list pending) c list pending now last limit left look.row none before.row;
}

-- by the places of the keys

pub best_of : (Wants : Pending → Command → Type 0) (c : Checked) (list : List Stamped) (pending : List Pending) (keys : List Key) (now last limit : ℕ) (soon : Soon) (best : Best) → SeqsRise keys → AreKeys pending keys → best.clock ≡ soon.clock →
    (soon.clock < limit → (i : ℕ) (k : Key) → slice_get keys i ≡ Some k → k.seq ≡ soon.seq → best.index ≡ i) → IsSoonest (TakesBySeq Wants c list pending last) now limit soon → IsBest (Takes Wants c list pending last) now limit (length pending) best
best_of Wants c list pending keys now last limit soon best rise are clock place before = record {
  found = λ h.
      let t = before.found (omega (arith, h, clock)) in
      let e = here (omega (arith, h, clock)) t.0 t.1.0 t.1.3 t.2 in
      let taken = subst (λ (k : ℕ). Takes Wants c list pending last t.0 k) (sym clock) t.1 in
      (omega (arith, e, slice_get_within pending t.0 t.1.0 t.1.3.here), subst (λ (n : ℕ). Takes Wants c list pending last n best.clock) (sym e) taken);
  first = λ i k less from t.
      let f = before.first t.0.seq k from (i, t, refl) in (
        f.0,
        omega (arith, f.1, clock),
        λ same.
            let tie : soon.seq ≤ t.0.seq = f.2 (omega (arith, same, clock)) in
            let early : soon.clock < limit = let l = f.0 in omega (arith, l, same, clock) in
            let u = before.found early in
            let e = here early u.0 u.1.0 u.1.3 u.2 in
            elim (cases_lt i u.0) [
              | inl below ↦ absurd (let o = older i u.0 t.0 u.1.0 t.3.here u.1.3.here below in let s = u.2 in omega (arith, o, s, tie))
              | inr above ↦ omega (arith, e, above)
            ],
      );
}
  where
    older : (i j : ℕ) (p q : Pending) → slice_get pending i ≡ Some p → slice_get pending j ≡ Some q → i < j → p.seq < q.seq
    older i j p q at there less =
        let (k, one) = something_at keys i (omega (arith, slice_get_within pending i p at, are.size)) in
        let (m, two) = something_at keys j (omega (arith, slice_get_within pending j q there, are.size)) in
        let own = (key_there pending keys i p k are at).seq in
        let its = (key_there pending keys j q m are there).seq in
        let a = ap (λ (x : Key). x.seq) (get_or_from_slice_get keys i k k one) in
        let b = ap (λ (x : Key). x.seq) (get_or_from_slice_get keys j m m two) in
        omega (arith, rise i j k m less one two, own, its, a, b)

    here : soon.clock < limit → (i : ℕ) (p : Pending) → IsEligible pending i p → p.seq ≡ soon.seq → best.index ≡ i
    here early i p el is =
        let (k, at) = something_at keys i (omega (arith, slice_get_within pending i p el.here, are.size)) in
        let own = key_there pending keys i p k are el.here in
        place early i k at (ap (λ (x : Key). x.seq) (sym (get_or_from_slice_get keys i k k at)) ∙ (own.seq ∙ is))

pub found_of : (g : Geometry) (pending : List Pending) (keys : List Key) (now limit : ℕ) (soon : Soon) (best : Best) → IsSmall g → AreKeysIn g pending keys → best.clock ≡ soon.clock → (soon.clock < limit → (i : ℕ) (k : Key) → slice_get keys i ≡ Some k → k.seq ≡ soon.seq → best.index ≡ i) →
    IsNotedFound keys now limit soon → IsFound g pending now limit best
found_of g pending keys now limit soon best small are clock place before h =
    let (from, one) = before (omega (arith, h, clock)) in
    let (k, there, free, is) = one in
    let at : slice_get keys there.0 ≡ Some k = slice_get-get_or keys there.0 k there.1 ∙ ap Some there.2 in
    let (p, el, own, lies, bank) = request_of g pending keys k.bank k small are (there, free, refl) in
    let e : best.index ≡ there.0 = place (omega (arith, h, clock)) there.0 k at is in
    (omega (arith, from, clock), (p, (rw e el, record { rank = lies.rank; group = lies.group; bank = lies.bank })))

-- whether any request is eligible

pub any_some : (g : Geometry) (pending : List Pending) (keys : List Key) (notes : Notes) (n : ℕ) → IsSmall g → AreKeysIn g pending keys → AreNotes keys notes → n < 64 → Has notes.wanted n → HasEligibleIn g pending
any_some g pending keys notes n small are noted within has = of (note_of notes n).oldest refl
  where
    of : (seq : Option ℕ) → (note_of notes n).oldest ≡ seq → HasEligibleIn g pending
    of None is = absurd ((noted.wanted n within).0 has is)
    of (Some seq) is =
        let first = subst (λ (s : Option ℕ). IsOldestSeq (IsOfBank keys n) s) is (noted.each n within).oldest in
        let (i, p, el, own, lies, bank) = key_free g pending keys n first.0.0 small are first.0.1 in
        (i, p, el, record { rank = lies.rank; group = lies.group; bank = lies.bank })

pub any_wanted : (g : Geometry) (pending : List Pending) (keys : List Key) (notes : Notes) → IsSmall g → AreKeysIn g pending keys → AreNotes keys notes → HasEligibleIn g pending → (n : ℕ) × Has notes.wanted n
any_wanted g pending keys notes small are noted (i, p, el, has) =
    let (k, of, is, lies) = free_key g pending keys i p small are el in
    let within = index_small g (bank_at p.place) small has in
    let some : (note_of notes (number_of p)).oldest ≢ None = λ e. subst (λ (s : Option ℕ). IsOldestSeq (IsOfBank keys (number_of p)) s) e (noted.each (number_of p) within).oldest k of in
    (number_of p, (noted.wanted (number_of p) within).1 some)

pub any_of : (g : Geometry) (pending : List Pending) (keys : List Key) (notes : Notes) (empty : Bool) → IsSmall g → AreKeysIn g pending keys → AreNotes keys notes → (IsTrue empty → (n : ℕ) → ¬ Has notes.wanted n) → (empty ≡ false → (n : ℕ) × (n < 64) × Has notes.wanted n) →
    (IsTrue (not empty) ↔ HasEligibleIn g pending)
any_of g pending keys notes true small are noted none some = (λ t. absurd cc, λ h. let (n, has) = any_wanted g pending keys notes small are noted h in absurd (none refl n has))
any_of g pending keys notes false small are noted none some = (λ t. let (n, within, has) = some refl in any_some g pending keys notes n small are noted within has, λ h. refl)

-- a bank that is wanted is there
pub bank_there : (g : Geometry) (keys : List Key) (notes : Notes) (n : ℕ) → All (λ k. LiesIn g (place_of k)) keys → AreNotes keys notes → n < 64 → Has notes.wanted n → HasBank g (address_of n) × (0 < g.rows) × (0 < g.columns)
bank_there g keys notes n lie noted within has = of (note_of notes n).oldest refl
  where
    of : (seq : Option ℕ) → (note_of notes n).oldest ≡ seq → HasBank g (address_of n) × (0 < g.rows) × (0 < g.columns)
    of None is = absurd ((noted.wanted n within).0 has is)
    of (Some seq) is =
        let first = subst (λ (s : Option ℕ). IsOldestSeq (IsOfBank keys n) s) is (noted.each n within).oldest in
        let k = first.0.0 in
        let there = first.0.1 in
        let lies : LiesIn g (place_of k) = subst (λ (x : Key). LiesIn g (place_of x)) there.0.2 (lie there.0.0 k there.0.1) in
        (subst (λ (m : ℕ). HasBank g (address_of m)) there.2 (record { rank = lies.rank; group = lies.group; bank = lies.bank }), omega (arith, lies.row), omega (arith, lies.column))
