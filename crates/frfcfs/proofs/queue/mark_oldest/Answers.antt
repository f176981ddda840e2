use Rattle.std.proofs.Common.{◌≡◌, ◌<◌, false, true, List, Option, None, Some, ℕ, length, refl, subst, ap, ◌∙◌, get_or}
use Rattle.std.proofs.lemmas.List.{get_or_default, map-set}
use Rattle.std.proofs.lemmas.Option.{get_or_from_slice_get, slice_get_within}
use Rattle.gap_list.specs.Bounded.{Bounded}
use Rattle.frfcfs.proofs.Common.{IsOldestOf, Key, Read, firsts_of}
use Rattle.frfcfs.proofs.KeyLemmas.{keys_mark, new_line}
use Rattle.frfcfs.proofs.QueueLemmas.{lines}
use Rattle.frfcfs.proofs.queue.mark_oldest.Goals as goal

-- the first key of the line, where there is one
oldest : (line : ℕ) (keys read : List Key) (found place : Option ℕ) → read ≡ keys → found ≡ place → IsOldestOf line read found → IsOldestOf line keys place
oldest line keys read found place same is here = subst (λ (xs : List Key). IsOldestOf line xs place) same (subst (λ (o : Option ℕ). IsOldestOf line read o) is here)

pub returns-then-lack-clause-marks : goal.returns-then-lack-clause-marks
returns-then-lack-clause-marks c requests are counted = (None, (new_line c.args.line requests c.args.keys.now.items are).1 (c.if-lack.ensures (lines requests) counted refl), refl)

pub returns-in_err-place-clause-marks : goal.returns-in_err-place-clause-marks
returns-in_err-place-clause-marks c requests are counted = (None, oldest c.args.line c.args.keys.now.items c.as_slice.result.now c.oldest_of.result None c.as_slice.ensures c.in_err-place.was c.oldest_of.ensures, refl)

pub returns-clause-marks : goal.returns-clause-marks
returns-clause-marks c requests are counted = (
  Some c.in_ok-place.place,
  oldest c.args.line c.args.keys.now.items c.as_slice.result.now c.oldest_of.result (Some c.in_ok-place.place) c.as_slice.ensures c.in_ok-place.was c.oldest_of.ensures,
  ap (λ (l : Bounded Key). firsts_of l.items) c.set.ensures ∙ map-set (λ (k : Key). k.first) c.args.keys.now.items c.in_ok-place.place _,
)

pub returns-clause-keys : goal.returns-clause-keys
returns-clause-keys c pending are =
    let keys = c.args.keys.now.items in
    let place = c.in_ok-place.place in
    let none : Key = record { seq = 0; row = 0; line = 0; bank = 0; kind = Read; first = false; held = false } in
    let key : Key = get_or c.as_slice-2.result.now place none in
    let (k, at, named, before) = oldest c.args.line keys c.as_slice.result.now c.oldest_of.result (Some place) c.as_slice.ensures c.in_ok-place.was c.oldest_of.ensures in
    let there : place < length keys = slice_get_within keys place k at in
    let read : key ≡ get_or keys place key = ap (λ (xs : List Key). get_or xs place none) c.as_slice-2.ensures ∙ get_or_default keys place none key there in
    rw c.set.ensures (keys_mark pending keys place key there read are)

pub returns-clause-marked : goal.returns-clause-marked
returns-clause-marked c =
    let keys = c.args.keys.now.items in
    let place = c.in_ok-place.place in
    let none : Key = record { seq = 0; row = 0; line = 0; bank = 0; kind = Read; first = false; held = false } in
    let key : Key = get_or c.as_slice-2.result.now place none in
    let (k, at, named, before) = oldest c.args.line keys c.as_slice.result.now c.oldest_of.result (Some place) c.as_slice.ensures c.in_ok-place.was c.oldest_of.ensures in
    let own : key ≡ k = ap (λ (xs : List Key). get_or xs place none) c.as_slice-2.ensures ∙ get_or_from_slice_get keys place k none at in
    (place, k, at, ap (λ (x : Key). record x { first = true }) own, ap (λ (l : Bounded Key). l.items) c.set.ensures)
