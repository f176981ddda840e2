-- What a command leaves of the writes that wait in a channel, and what a further write makes of them.
use Rattle.std.specs.Prelude.{IfNone, IfSome, remove}
use Rattle.std.specs.Option.{ForSome}
use Rattle.std.proofs.Common.{arith, ◌≡◌, ◌≢◌, ◌==◌, ◌+◌, ◌<◌, ◌≤◌, ℕ, zero, suc, refl, sym, ap, subst, ◌∙◌, List, [], ◌∷◌, ◌++◌, length, slice_get, Option, Some, None, inl, inr, false}
use Rattle.std.proofs.lemmas.Bool.{eq-eqb, eqb-true}
use Rattle.std.proofs.lemmas.List.Edits.{length-remove}
use Rattle.std.proofs.lemmas.List.Elements.{All-append, All-cons, All-nil, All-weaker}
use Rattle.std.proofs.lemmas.Option.{same_Some, slice_get_within}
use Rattle.line_memory.specs.declared.Write.{Write}
use Rattle.line_memory.specs.declared.parts.Numbered.{Numbered}
use Rattle.line_memory.specs.Parts.{numbered}
use Rattle.channel_port.specs.declared.answers.Collected.{Collected}
use Rattle.channel_port.specs.declared.answers.Collected.TheVariants.{Data, Pending, Unknown}
use Rattle.channel_port.specs.declared.answers.Done.{Done}
use Rattle.channel_port.specs.declared.answers.Served.{Served}
use Rattle.channel_port.specs.declared.answers.Served.TheVariants as served
use Rattle.channel_port.specs.declared.answers.Ticket.{Ticket}
use Rattle.channel_port.specs.declared.waiting.Waiting.{Waiting}
use Rattle.channel_port.specs.Answers.{IsBelowHold, IsCollected, IsServed}
use Rattle.channel_port.specs.Carried.{WaitFrom}
use Rattle.channel_port.specs.View.{PortView}
use Rattle.channel_port.specs.Waits.{Goes, Has, IsPending, Waits, waiting}
use Rattle.channel_log.specs.Between.{CameOf, OwnStep}
use Rattle.channel_log.specs.Log.{Told}
use Rattle.channel_set.specs.Carrying.{WaitAmong}
use Rattle.channel_set.proofs.Piles.{any-found, any-has, has-before, has-behind, has-either}
use Rattle.channel_locks.specs.Queue.{returned_by, returned_for}

-- what waits from a number on waits still
abbrev pub KeepsFrom : ℕ → List Waiting → List Waiting → Type 0
KeepsFrom n old new = (k : ℕ) → n ≤ k → IsPending k old → IsPending k new

-- A write goes.

-- each other one stays
stays_there : (xs : List Waiting) (i k : ℕ) (x v : Waiting) → slice_get xs i ≡ Some x → slice_get xs k ≡ Some v → x.number ≢ v.number → Has v (remove xs i)
stays_there [] i k x v gone there apart = absurd cc
stays_there (y ∷ xs) zero zero x v gone there apart = absurd (apart (ap (λ w. w.number) (same_Some x v (sym gone ∙ there))))
stays_there (y ∷ xs) zero (suc k) x v gone there apart = (k, there)
stays_there (y ∷ xs) (suc i) zero x v gone there apart = (zero, there)
stays_there (y ∷ xs) (suc i) (suc k) x v gone there apart = let (j, at) = stays_there xs i k x v gone there apart in (suc j, at)

pending_still : (k : ℕ) (x : Waiting) (old new : List Waiting) → Goes x old new → x.number ≢ k → IsPending k old → IsPending k new
pending_still k x old new goes apart waits =
    let test = λ (w : Waiting). w.number == k in
    let found = any-found test old waits in
    let named : found.it.number ≡ k = eqb-true found.it.number k found.passes in
    any-has test new found.it
    (subst (Has found.it) (sym goes.2) (stays_there old goes.0 found.has.0 x found.it goes.1 found.has.1 (λ e. apart (e ∙ named))))
    found.passes

served_held : (hold : Option ℕ) (channel : ℕ) (s : Option Served) (old new : Waits) → IsServed hold channel s old new → ForSome hold (λ n. KeepsFrom n old.writes new.writes)
served_held hold channel None old new is n some k from waits = subst (λ (w : Waits). IsPending k w.writes) (sym is) waits
served_held hold channel (Some (served.Write number)) old new lands n some k from waits =
    let below : number < n = subst (λ h. IsBelowHold h number) some lands.unheld in
    pending_still k (waiting number channel) old.writes new.writes lands.goes (λ e. absurd (let same : number ≡ k = e in omega arith)) waits
served_held hold channel (Some (served.Read ticket)) old new answered n some k from waits = subst (IsPending k) (sym answered.writes) waits

served_length : (hold : Option ℕ) (channel : ℕ) (s : Option Served) (old new : Waits) → IsServed hold channel s old new → length new.writes + returned_for s ≡ length old.writes
served_length hold channel None old new is = let same = ap (λ (w : Waits). length w.writes) is in omega (arith, same)
served_length hold channel (Some (served.Write number)) old new lands =
    let (place, stands, is) = lands.goes in
    let less = length-remove old.writes place (slice_get_within old.writes place (waiting number channel) stands) in
    omega (arith, less, ap length is)
served_length hold channel (Some (served.Read ticket)) old new answered = omega (arith, ap length answered.writes)

-- the same of a channel, whether a command was issued or not
module _ (v w : PortView) (channel : ℕ) where
  pub worked_held : (result : Option Done) → IfSome result (λ done. IsServed v.hold channel done.served v.waits w.waits) → IfNone result (w ≡ v) → ForSome v.hold (λ n. KeepsFrom n v.waits.writes w.waits.writes)
  worked_held None is stays = λ n some k from waits. subst (λ (x : PortView). IsPending k x.waits.writes) (sym stays) waits
  worked_held (Some done) is stays = served_held v.hold channel done.served v.waits w.waits is

  pub worked_length : (result : Option Done) → IfSome result (λ done. IsServed v.hold channel done.served v.waits w.waits) → IfNone result (w ≡ v) → length w.waits.writes + returned_by result ≡ length v.waits.writes
  worked_length None is stays = omega (arith, ap (λ (x : PortView). length x.waits.writes) stays)
  worked_length (Some done) is stays = served_length v.hold channel done.served v.waits w.waits is

-- What waits came by one more step, or is as it was.
came_same : (channel : ℕ) (told : Told) (old new : Waits) → new ≡ old → CameOf channel told old → CameOf channel told new
came_same channel told old new same came = subst (CameOf channel told) (sym same) came

came_on : (channel : ℕ) (told : Told) (old new : Waits) → OwnStep channel told old new → CameOf channel told old → CameOf channel told new
came_on channel told old new step came = record { count = suc came.count; steps = (old, came.steps, step) }

pub served_came : (channel : ℕ) (told : Told) (s : Option Served) (old new : Waits) → told.ended ≡ false → IsServed told.hold channel s old new → CameOf channel told old → CameOf channel told new
served_came channel told None old new runs is came = came_same channel told old new is came
served_came channel told (Some s) old new runs is came = came_on channel told old new (inl (record { runs = runs; served = s; is = is })) came

pub collected_came : (channel : ℕ) (told : Told) (ticket : Ticket) (r : Collected) (old new : Waits) → IsCollected ticket r old new → CameOf channel told old → CameOf channel told new
collected_came channel told ticket (Data line bytes at) old new is came = came_on channel told old new (inr (record { ticket = ticket; line = line; bytes = bytes; at = at; is = is })) came
collected_came channel told ticket Pending old new (read, has, named, waited, same) came = came_same channel told old new same came
collected_came channel told ticket Unknown old new (fresh, same) came = came_same channel told old new same came

pub worked_came : (v w : PortView) (channel : ℕ) (told : Told) (result : Option Done) → IfSome result (λ done. IsServed v.hold channel done.served v.waits w.waits) → IfNone result (w ≡ v)
    → v.hold ≡ told.hold → told.ended ≡ false → CameOf channel told v.waits → CameOf channel told w.waits
worked_came v w channel told None served stays hold runs came = came_same channel told v.waits w.waits (ap (λ (x : PortView). x.waits) stays) came
worked_came v w channel told (Some done) served stays hold runs came =
    served_came channel told done.served v.waits w.waits runs (subst (λ h. IsServed h channel done.served v.waits w.waits) hold served) came

-- a read that is collected leaves the writes
pub collected_writes : (ticket : Ticket) (r : Collected) (old new : Waits) → IsCollected ticket r old new → new.writes ≡ old.writes
collected_writes ticket (Data line bytes at) old new (goes, writes, given) = writes
collected_writes ticket Pending old new (read, has, named, waited, same) = ap (λ (w : Waits). w.writes) same
collected_writes ticket Unknown old new (fresh, same) = ap (λ (w : Waits). w.writes) same

-- A write is put.

pub put_among : (number channel : ℕ) (write : Write) (mine : List Numbered) (old : List Waiting) → WaitAmong mine old → WaitAmong (mine ++ numbered number write ∷ []) (old ++ waiting number channel ∷ [])
put_among number channel write mine old among v has = elim (has-either v old (waiting number channel ∷ []) has) [
  | inl first ↦ let (w, there, named) = among v first in (w, has-before w mine (numbered number write ∷ []) there, named)
  | inr last ↦ (numbered number write, has-behind (numbered number write) mine (numbered number write ∷ []) (zero, refl), ap (λ x. x.number) (only v last))
]
  where
    only : (v : Waiting) → Has v (waiting number channel ∷ []) → waiting number channel ≡ v
    only v (zero, at) = same_Some (waiting number channel) v at
    only v (suc k, at) = absurd cc

pending_before : (k : ℕ) (old new : List Waiting) → IsPending k old → IsPending k (old ++ new)
pending_before k old new waits =
    let found = any-found (λ (w : Waiting). w.number == k) old waits in
    any-has (λ w. w.number == k) (old ++ new) found.it (has-before found.it old new found.has) found.passes

pending_last : (number channel : ℕ) (old : List Waiting) → IsPending number (old ++ waiting number channel ∷ [])
pending_last number channel old =
    any-has (λ w. w.number == number) (old ++ waiting number channel ∷ []) (waiting number channel)
    (has-behind (waiting number channel) old (waiting number channel ∷ []) (zero, refl)) (eq-eqb number number refl)

pub put_held : (n number channel : ℕ) (write : Write) (mine : List Numbered) (old : List Waiting) → WaitFrom n mine old → WaitFrom n (mine ++ numbered number write ∷ []) (old ++ waiting number channel ∷ [])
put_held n number channel write mine old held =
    let P : Numbered → Type 0 = λ w. n ≤ w.number → IsPending w.number (old ++ waiting number channel ∷ []) in
    All-append P mine (numbered number write ∷ [])
    (All-weaker (λ w. n ≤ w.number → IsPending w.number old) P (λ w waits from. pending_before w.number old (waiting number channel ∷ []) (waits from)) mine held)
    (All-cons P (numbered number write) [] (λ from. pending_last number channel old) (All-nil P))
