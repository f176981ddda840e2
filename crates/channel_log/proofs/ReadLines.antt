-- What becomes of the reads that wait on a channel.
use Rattle.std.proofs.Common.{List, Option, None, Some, [], ap, inl, inr, refl, subst, suc, sym, true, zero, ℕ, ◌∙◌, ◌∷◌, ◌≡◌, ◌⊎◌, ⊎_elim}
use Rattle.std.specs.Prelude.{insert, remove, slice_set}
use Rattle.std.proofs.lemmas.Option.{same_Some}
use Rattle.channel_port.specs.Answers.{IsCollected, IsServed}
use Rattle.channel_port.specs.Waits.{Has, OpenRead, Waits}
use Rattle.channel_port.specs.declared.answers.Collected.{Collected}
use Rattle.channel_port.specs.declared.answers.Served.{Served}
use Rattle.channel_port.specs.declared.answers.Ticket.{Ticket}
use Rattle.line_memory.specs.Memory.{after, line_of}
use Rattle.line_memory.specs.Parts.{below, writes_of}
use Rattle.line_memory.specs.declared.parts.Numbered.{Numbered}
use Rattle.channel_log.specs.Between.{CameOf, OwnStep, OwnSteps}
use Rattle.channel_log.specs.Log.{Told}
use Rattle.channel_log.specs.ReadLines.{IsLineBehind}

-- what stands in a list from which one was taken stood there before
pub stood_before : {X : Type 0} (x : X) (i : ℕ) (xs : List X) → Has x (remove xs i) → Has x xs
stood_before x zero [] (k, at) = absurd (let bad : ⊥ = cc in bad)
stood_before x (suc i) [] (k, at) = absurd (let bad : ⊥ = cc in bad)
stood_before x zero (y ∷ xs) (k, at) = (suc k, at)
stood_before x (suc i) (y ∷ xs) (zero, at) = (zero, at)
stood_before x (suc i) (y ∷ xs) (suc k, at) = let (j, there) = stood_before x i xs (k, at) in (suc j, there)

-- what stands in a list that one joined is that one, or stood there before
pub joined_or_before : {X : Type 0} (x y : X) (i : ℕ) (xs : List X) → Has y (insert xs i x) → (y ≡ x) ⊎ Has y xs
joined_or_before x y zero xs (zero, at) = inl (sym (same_Some x y at))
joined_or_before x y zero xs (suc k, at) = inr (k, at)
joined_or_before x y (suc i) [] (zero, at) = inl (sym (same_Some x y at))
joined_or_before x y (suc i) [] (suc k, at) = absurd (let bad : ⊥ = cc in bad)
joined_or_before x y (suc i) (z ∷ xs) (zero, at) = inr (zero, at)
joined_or_before x y (suc i) (z ∷ xs) (suc k, at) = ⊎_elim inl (λ (h : Has y xs). inr (suc h.0, h.1)) (joined_or_before x y i xs (k, at))

-- what stands in a list in which one was set is that one, or stood there before
pub set_or_before : {X : Type 0} (x y : X) (i : ℕ) (xs : List X) → Has y (slice_set xs i x) → (y ≡ x) ⊎ Has y xs
set_or_before x y i [] (k, at) = absurd (let bad : ⊥ = cc in bad)
set_or_before x y zero (z ∷ xs) (zero, at) = inl (sym (same_Some x y at))
set_or_before x y zero (z ∷ xs) (suc k, at) = inr (suc k, at)
set_or_before x y (suc i) (z ∷ xs) (zero, at) = inr (zero, at)
set_or_before x y (suc i) (z ∷ xs) (suc k, at) = ⊎_elim inl (λ (h : Has y xs). inr (suc h.0, h.1)) (set_or_before x y i xs (k, at))

-- the same read, but for whether it was answered
pub record IsSameRead (old new : OpenRead) : Type 0 where
  pub ticket : new.ticket ≡ old.ticket
  pub line : new.line ≡ old.line
  pub bytes : new.bytes ≡ old.bytes
  pub at : new.at ≡ old.at

abbrev pub WasThere : Waits → OpenRead → Type 0
WasThere old read = (before : OpenRead) × Has before old.reads × IsSameRead before read

pub still : (old : Waits) (read : OpenRead) → Has read old.reads → WasThere old read
still old read has = (read, has, record { ticket = refl; line = refl; bytes = refl; at = refl })

-- each read was there before
abbrev pub Remains : Waits → Waits → Type 0
Remains old new = (read : OpenRead) → Has read new.reads → WasThere old read

pub same_reads : (old new : Waits) → new.reads ≡ old.reads → Remains old new
same_reads old new same read has = still old read (subst (Has read) same has)

pub no_reads : (old new : Waits) → new.reads ≡ [] → Remains old new
no_reads old new none read has = absurd (let found = subst (Has read) none has in let bad : ⊥ = (let at = found.1 in cc) in bad)

pub collected_remains : (ticket : Ticket) (answer : Collected) (old new : Waits) → IsCollected ticket answer old new → Remains old new
collected_remains ticket (Collected.Data line bytes at) old new (goes, writes, given) = λ read has. still old read (stood_before read goes.0 old.reads (subst (Has read) goes.2 has))
collected_remains ticket Collected.Pending old new is = same_reads old new (ap (λ (w : Waits). w.reads) is.4)
collected_remains ticket Collected.Unknown old new is = same_reads old new (ap (λ (w : Waits). w.reads) is.1)

pub served_remains : (hold : Option ℕ) (channel : ℕ) (s : Option Served) (old new : Waits) → IsServed hold channel s old new → Remains old new
served_remains hold channel None old new is = same_reads old new (ap (λ (w : Waits). w.reads) is)
served_remains hold channel (Some (Served.Write number)) old new is = same_reads old new is.reads
served_remains hold channel (Some (Served.Read ticket)) old new is = λ read has.
    ⊎_elim
    (λ (same : read ≡ record is.read { answered = true }). (
      is.read,
      (is.place, is.stands),
      record {
        ticket = ap (λ (r : OpenRead). r.ticket) same;
        line = ap (λ (r : OpenRead). r.line) same;
        bytes = ap (λ (r : OpenRead). r.bytes) same;
        at = ap (λ (r : OpenRead). r.at) same;
      },
    ))
    (λ before. still old read before)
    (set_or_before (record is.read { answered = true }) read is.place old.reads (subst (Has read) is.reads has))

pub remains_on : (first mid last : Waits) → Remains first mid → Remains mid last → Remains first last
remains_on first mid last old new read has =
    let (there, had, same) = new read has in
    let (before, first_had, first_same) = old there had in (
      before,
      first_had,
      record {
        ticket = same.ticket ∙ first_same.ticket;
        line = same.line ∙ first_same.line;
        bytes = same.bytes ∙ first_same.bytes;
        at = same.at ∙ first_same.at;
      },
    )

own_remains : (channel : ℕ) (told : Told) (old new : Waits) → OwnStep channel told old new → Remains old new
own_remains channel told old new = ⊎_elim (λ serves. served_remains told.hold channel (Some serves.served) old new serves.is) (λ collects. collected_remains collects.ticket (Collected.Data collects.line collects.bytes collects.at) old new collects.is)

steps_remain : (channel : ℕ) (told : Told) (count : ℕ) (old new : Waits) → OwnSteps channel told count old new → Remains old new
steps_remain channel told zero old new same = same_reads old new (ap (λ (w : Waits). w.reads) same)
steps_remain channel told (suc count) old new (mid, steps, last) = remains_on old mid new (steps_remain channel told count old mid steps) (own_remains channel told mid new last)

-- what a channel did under its own lock gives it no read
pub came_remains : (channel : ℕ) (told : Told) (waits : Waits) → CameOf channel told waits → Remains told.waits waits
came_remains channel told waits came = steps_remain channel told came.count told.waits waits came.steps

-- where each read that waited had its line, each that waits still has it
pub remains_has : (base : List (List ℕ)) (written : List Numbered) (old new : Waits) → Remains old new → ((read : OpenRead) → Has read old.reads → IsLineBehind base written read.line read.at read.bytes)
    → (read : OpenRead) → Has read new.reads → IsLineBehind base written read.line read.at read.bytes
remains_has base written old new remains have read has =
    let (before, had, same) = remains read has in
    same.bytes ∙ have before had ∙ ap (λ at. line_at at before.line) (sym same.at) ∙ ap (λ line. line_at read.at line) (sym same.line)
  where
    line_at : ℕ → ℕ → List ℕ
    line_at at line = line_of (after base (writes_of (below at written))) line
