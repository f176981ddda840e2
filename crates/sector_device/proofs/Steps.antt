-- The steps by which a sync writes, and what a stop within each of them leaves.
use Rattle.std.proofs.Common.{◌≡◌, ◌≢◌, ◌⊎◌, ⊎_elim, inl, inr, ℕ, ◌+◌, ◌-◌, ◌*◌, ◌/◌, ◌<◌, ◌≤◌, ◌^◌, Bool, true, false, List, [], ◌∷◌, length, get_or, length-append, refl, sym, ◌∙◌, ap, subst, arith, Option, Some, None}
use Rattle.std.specs.Prelude.{IsTrue, slice_range}
use Rattle.std.specs.Int.{w64, from_le_bytes, to_le_bytes}
use Rattle.std.proofs.lemmas.Bool.{cases_Bool, cases_lt}
use Rattle.std.proofs.lemmas.Grind.{same_number_lists}
use Rattle.std.proofs.lemmas.List.{get_or_append_left, get_or-append_right}
use Rattle.std.proofs.lemmas.Nat.{from_le_bytes-to_le_bytes_8}
use Rattle.save_device.specs.Device.{Moment}
use Rattle.save_device.specs.Rows.{IsInRange, overwritten, DiffersOnlyAt}
use Rattle.save_device.proofs.Rows.{holds-within}
use Rattle.file_device.specs.Kept.{Kept, IfKept, BothKept, FileMayLeave, Flushes}
use Rattle.sector_device.specs.declared.device.Gate.{Gate}
use Rattle.sector_device.specs.declared.device.Gate.TheVariants.{Shut, Ajar, Open}
use Rattle.sector_device.specs.Sectors.{IsInSector, IsOnDisk, IsPut, IsTouched, KeepsOthers, MayLeaveTouched, PutsDurably, PutsSectors}
use Rattle.sector_device.specs.Spare.{spare_number, spare_of}
use Rattle.sector_device.specs.Backing.{FindsLeft, HasSectors, HasSettled, HoldsSector, IsAjar, IsOpenFor, IsPutBelow, IsPutWhole, IsSavedWhole, IsShut, LeavesLeftWithin, Stands, StandsWithin}
use Rattle.sector_device.proofs.Finding.{finds_either, finds_held, finds_own, found_shut, length-part, part_at, same_part}

never : {X : Type 0} → true ≡ false → X
never bad = absurd (let none : ⊥ = cc in none)

-- two steps of the file
pub both_on : {P Q R : Kept → Kept → Type 0} {A : Kept → Type 0} (file mid next : Option Kept) → BothKept P file mid → BothKept Q mid next
    → ((kept between after : Kept) → A kept → P kept between → Q between after → R kept after) → IfKept A file → BothKept R file next
both_on (Some kept) (Some between) (Some after) p q so a = so kept between after (a kept refl) p q
both_on (Some kept) (Some between) None p q so a = absurd q
both_on (Some kept) None next p q so a = absurd p
both_on None (Some between) next p q so a = absurd p
both_on None None (Some after) p q so a = absurd q
both_on None None None p q so a = tt

-- one step
pub both_so : {P R : Kept → Kept → Type 0} {A : Kept → Type 0} (file next : Option Kept) → BothKept P file next
    → ((kept after : Kept) → A kept → P kept after → R kept after) → IfKept A file → BothKept R file next
both_so (Some kept) (Some after) p so a = so kept after (a kept refl) p
both_so (Some kept) None p so a = absurd p
both_so None (Some after) p so a = absurd p
both_so None None p so a = tt

-- none
pub both_same : (R : Kept → Kept → Type 0) (file : Option Kept) → ((kept : Kept) → R kept kept) → BothKept R file file
both_same R (Some kept) so = so kept
both_same R None so = tt

-- how many sectors
pub whole_sectors : (size : ℕ) → HasSectors size → size ≡ 512 * (size / 512)
whole_sectors size whole = omega (arith, whole)

-- the sectors that a write touches
pub touched_spare : (size count place : ℕ) → size ≡ 512 * count → IsTouched size 520 place → (size ≤ place) × (place < size + 1024)
touched_spare size count place is t = (omega (arith, is, t.holds.0, t.holds.1, t.holds_too.0, t.holds_too.1, t.written.0, t.written.1), omega (arith, is, t.holds.0, t.holds.1, t.holds_too.0, t.holds_too.1, t.written.0, t.written.1))

pub touched_gate : (size count place : ℕ) → size ≡ 512 * count → IsTouched (size + 1024) 1 place → size + 1024 ≤ place
touched_gate size count place is t = omega (arith, is, t.holds.0, t.holds.1, t.holds_too.0, t.holds_too.1, t.written.0, t.written.1)

pub touched_whole : (at n from count place : ℕ) → at ≡ 512 * from → n ≡ 512 * count → IsTouched at n place → IsInRange at n place
touched_whole at n from count place is long t =
    (omega (arith, is, long, t.holds.0, t.holds.1, t.holds_too.0, t.holds_too.1, t.written.0, t.written.1), omega (arith, is, long, t.holds.0, t.holds.1, t.holds_too.0, t.holds_too.1, t.written.0, t.written.1))

-- a write of nothing touches none
pub touched_none : (place : ℕ) → IsTouched 0 0 place → ⊥
touched_none place t = omega (arith, t.written.1)

-- what a write leaves as it was
pub put_keeps : (at : ℕ) (bytes : List ℕ) (good : Bool) (old new : Kept) → PutsSectors at bytes good old new → KeepsOthers at (length bytes) true old new
put_keeps at bytes good old new puts =
    let put : (place byte : ℕ) → ¬ IsTouched at (length bytes) place → IsPut old place byte → IsPut new place byte = λ place byte out there.
    let fresh : ¬ IsTrue (new.stale place) = λ up. ⊎_elim there.fresh (λ bad. out bad.1) (puts.stale place up) in
    record { fresh = fresh; is = puts.outside.outside place (λ either. ⊎_elim fresh out either) ∙ there.is } in
    record {
      size = puts.outside.size;
      still = λ place byte out there. record { settled = λ up. ⊎_elim there.settled out (puts.unsettled place up); put = put place byte out there.put };
      put = λ well place byte out there. put place byte out there;
    }

-- and what it puts
pub put_puts : (at : ℕ) (bytes : List ℕ) (old new : Kept) → at + length bytes ≤ length old.bytes → PutsSectors at bytes true old new
    → (place : ℕ) → IsInRange at (length bytes) place → IsPut new place (get_or bytes (place - at) 0)
put_puts at bytes old new fits puts place w =
    let fresh : ¬ IsTrue (new.stale place) = puts.renewed place w in
    record { fresh = fresh; is = puts.done.outside place fresh ∙ holds-within old.bytes (overwritten old.bytes at bytes) bytes at (length bytes) refl fits refl place 0 w.0 w.1 }

-- what a good flush makes durable
pub flush_put : (old new : Kept) (place byte : ℕ) → Flushes true old new → IsPut old place byte → IsOnDisk new place byte
flush_put old new place byte flushes there =
    let fresh : ¬ IsTrue (new.stale place) = λ up. ⊎_elim there.fresh (λ bad. never bad.0) (flushes.stale place up) in
    record { settled = λ up. fresh (flushes.settled place up); put = record { fresh = fresh; is = flushes.bytes.outside place fresh ∙ there.is } }

-- and what each one leaves
pub flush_keeps : (at n : ℕ) (good : Bool) (old new : Kept) → Flushes good old new → KeepsOthers at n good old new
flush_keeps at n good old new flushes = record {
  size = flushes.bytes.size;
  still = λ place byte out there.
      let fresh : ¬ IsTrue (new.stale place) = λ up. ⊎_elim there.put.fresh (λ bad. there.settled bad.1) (flushes.stale place up) in
      record { settled = λ up. there.settled (flushes.unsettled place up); put = record { fresh = fresh; is = flushes.bytes.outside place fresh ∙ there.put.is } };
  put = λ well place byte out there. (flush_put old new place byte (subst (λ (b : Bool). Flushes b old new) well flushes) there).put;
}

pub keeps_less : (at n : ℕ) (good : Bool) (old new : Kept) → KeepsOthers at n good old new → KeepsOthers at n false old new
keeps_less at n good old new keeps = record { size = keeps.size; still = keeps.still; put = λ bad. never (sym bad) }

keeps_on : (at n : ℕ) (good : Bool) (old mid new : Kept) → KeepsOthers at n true old mid → KeepsOthers at n good mid new → KeepsOthers at n good old new
keeps_on at n good old mid new first next = record {
  size = next.size ∙ first.size;
  still = λ place byte out there. next.still place byte out (first.still place byte out there);
  put = λ well place byte out there. next.put well place byte out (first.put refl place byte out there);
}

-- a write that failed, and a good one with a flush behind it
pub put_failed : (at : ℕ) (bytes : List ℕ) (old new : Kept) → PutsSectors at bytes false old new → PutsDurably at bytes false old new
put_failed at bytes old new puts = record { others = keeps_less at (length bytes) true old new (put_keeps at bytes false old new puts); done = λ bad. never (sym bad) }

pub put_flushed : (at : ℕ) (bytes : List ℕ) (good : Bool) (old mid new : Kept) → at + length bytes ≤ length old.bytes → PutsSectors at bytes true old mid → Flushes good mid new → PutsDurably at bytes good old new
put_flushed at bytes good old mid new fits puts flushes = record {
  others = keeps_on at (length bytes) good old mid new (put_keeps at bytes true old mid puts) (flush_keeps at (length bytes) good mid new flushes);
  done = λ well place w. flush_put mid new place (get_or bytes (place - at) 0) (subst (λ (b : Bool). Flushes b mid new) well flushes) (put_puts at bytes old mid fits puts place w);
}

-- a file at rest with these bytes
abbrev pub resting : List ℕ → Kept
resting bytes = record { bytes = bytes; unsettled = λ place. false; stale = λ place. false }

pub image_keeps : (at n : ℕ) (kept : Kept) (image : List ℕ) → MayLeaveTouched at n kept image → KeepsOthers at n false kept (resting image)
image_keeps at n kept image left = record {
  size = left.size;
  still = λ place byte out there. record {
    settled = λ up. never (sym up);
    put = record { fresh = λ up. never (sym up); is = left.outside place (λ either. ⊎_elim there.settled out either) ∙ there.put.is };
  };
  put = λ bad. never (sym bad);
}

-- the spare place of a file that is the same there
pub holds_keeps : (number : ℕ) (moment : Moment) (old new : Kept) → length old.bytes ≡ length moment.bytes + 1536 → length new.bytes ≡ length old.bytes
    → ((place byte : ℕ) → IsInRange (length moment.bytes) 520 place → IsOnDisk old place byte → IsOnDisk new place byte) → HoldsSector number moment old → HoldsSector number moment new
holds_keeps number moment old new long size still holds =
    let from = length moment.bytes in
    let same : (place : ℕ) → IsInRange from 520 place → get_or new.bytes place 0 ≡ get_or old.bytes place 0 = λ place w. (still place (get_or old.bytes place 0) w (holds.rests place w)).put.is in
    record {
      rests = λ place w. subst (λ (byte : ℕ). IsOnDisk new place byte) (sym (same place w)) (still place (get_or old.bytes place 0) w (holds.rests place w));
      number_is = ap (from_le_bytes w64) (same_part new.bytes old.bytes (from + 512) (from + 520) (omega (arith, long, size)) (omega (arith, long)) (λ k least less. same k (omega (arith, least), omega (arith, less)))) ∙ holds.number_is;
      content = λ k low less still_there. same (from + k) (omega arith, omega (arith, low)) ∙ holds.content k low less still_there;
    }

-- the same by cases of the gate
abbrev StandsBy : Gate → Moment → Kept → Type 0
StandsBy Shut moment kept = IsShut moment kept
StandsBy Ajar moment kept = IsAjar moment kept
StandsBy (Open number) moment kept = IsOpenFor number moment kept

by_stands : (gate : Gate) (moment : Moment) (kept : Kept) → Stands gate moment kept → StandsBy gate moment kept
by_stands Shut moment kept stands = stands.shut refl
by_stands Ajar moment kept stands = stands.ajar refl
by_stands (Open number) moment kept stands = stands.opened number refl

pub stands_shut : (moment : Moment) (kept : Kept) → IsShut moment kept → Stands Shut moment kept
stands_shut moment kept shut = record { shut = λ _. shut; ajar = λ bad. absurd (let none : ⊥ = cc in none); opened = λ number bad. absurd (let none : ⊥ = cc in none) }

pub stands_ajar : (moment : Moment) (kept : Kept) → IsAjar moment kept → Stands Ajar moment kept
stands_ajar moment kept ajar = record { shut = λ bad. absurd (let none : ⊥ = cc in none); ajar = λ _. ajar; opened = λ number bad. absurd (let none : ⊥ = cc in none) }

pub stands_open : (number : ℕ) (moment : Moment) (kept : Kept) → IsOpenFor number moment kept → Stands (Open number) moment kept
stands_open number moment kept opened = record {
  shut = λ bad. absurd (let none : ⊥ = cc in none);
  ajar = λ bad. absurd (let none : ⊥ = cc in none);
  opened = λ other is. let same : number ≡ other = cc in subst (λ (n : ℕ). IsOpenFor n moment kept) same opened;
}

stands_of : (gate : Gate) (moment : Moment) (kept : Kept) → StandsBy gate moment kept → Stands gate moment kept
stands_of Shut moment kept shut = stands_shut moment kept shut
stands_of Ajar moment kept ajar = stands_ajar moment kept ajar
stands_of (Open number) moment kept opened = stands_open number moment kept opened

-- the number that a spare place has
own_number : (number : ℕ) (moment : Moment) (kept : Kept) → HoldsSector number moment kept → HoldsSector (spare_number (length moment.bytes) kept.bytes) moment kept
own_number number moment kept holds = subst (λ (n : ℕ). HoldsSector n moment kept) (sym holds.number_is) holds

-- the places of which nothing is asked as the gate stands
abbrev pub IsFree : Gate → Moment → ℕ → Type 0
IsFree Shut moment place = (place ≢ length moment.bytes + 1024) × (place < length moment.bytes → IsTrue (moment.unsettled place))
IsFree Ajar moment place = (¬ IsInRange (length moment.bytes) 520 place) × (place < length moment.bytes → IsTrue (moment.unsettled place))
IsFree (Open number) moment place =
    (place ≢ length moment.bytes + 1024) × (¬ IsInRange (length moment.bytes) 520 place) × (place < length moment.bytes → IsTrue (moment.unsettled place) ⊎ IsInSector number place)

keeps_by : (gate : Gate) (moment : Moment) (at n : ℕ) (old new : Kept) → ((place : ℕ) → IsTouched at n place → IsFree gate moment place) → KeepsOthers at n false old new
    → StandsBy gate moment old → StandsBy gate moment new
keeps_by Shut moment at n old new free keeps shut = record {
  size = keeps.size ∙ shut.size;
  gate = keeps.still (length moment.bytes + 1024) 0 (λ t. (free (length moment.bytes + 1024) t).0 refl) shut.gate;
  settled = λ place less still. keeps.still place (get_or moment.bytes place 0) (λ t. still ((free place t).1 less)) (shut.settled place less still);
}
keeps_by Ajar moment at n old new free keeps ajar = record {
  size = keeps.size ∙ ajar.size;
  holds = own_number (spare_number (length moment.bytes) old.bytes) moment new
      (holds_keeps (spare_number (length moment.bytes) old.bytes) moment old new ajar.size keeps.size (λ place byte w there. keeps.still place byte (λ t. (free place t).0 w) there) ajar.holds);
  settled = λ place less still. keeps.still place (get_or moment.bytes place 0) (λ t. still ((free place t).1 less)) (ajar.settled place less still);
}
keeps_by (Open number) moment at n old new free keeps opened =
    let gate_place = length moment.bytes + 1024 in
    let gate : IsOnDisk new gate_place (get_or old.bytes gate_place 0) = keeps.still gate_place (get_or old.bytes gate_place 0) (λ t. (free gate_place t).0 refl) opened.gate in
    record {
      size = keeps.size ∙ opened.size;
      inside = opened.inside;
      opens = λ shut. opened.opens (sym gate.put.is ∙ shut);
      gate = subst (λ (byte : ℕ). IsOnDisk new gate_place byte) (sym gate.put.is) gate;
      holds = holds_keeps number moment old new opened.size keeps.size (λ place byte w there. keeps.still place byte (λ t. (free place t).1 w) there) opened.holds;
      beside = λ place out less still. keeps.still place (get_or moment.bytes place 0) (λ t. ⊎_elim still out ((free place t).2 less)) (opened.beside place out less still);
    }

pub stands_keeps : (gate : Gate) (moment : Moment) (at n : ℕ) (old new : Kept) → ((place : ℕ) → IsTouched at n place → IsFree gate moment place) → KeepsOthers at n false old new
    → Stands gate moment old → Stands gate moment new
stands_keeps gate moment at n old new free keeps stands = stands_of gate moment new (keeps_by gate moment at n old new free keeps (by_stands gate moment old stands))

pub stands_flushed : (gate : Gate) (moment : Moment) (good : Bool) (old new : Kept) → Flushes good old new → Stands gate moment old → Stands gate moment new
stands_flushed gate moment good old new flushes stands =
    stands_keeps gate moment 0 0 old new (λ place t. absurd (touched_none place t)) (keeps_less 0 0 good old new (flush_keeps 0 0 good old new flushes)) stands

size_by : (gate : Gate) (moment : Moment) (kept : Kept) → StandsBy gate moment kept → length kept.bytes ≡ length moment.bytes + 1536
size_by Shut moment kept shut = shut.size
size_by Ajar moment kept ajar = ajar.size
size_by (Open number) moment kept opened = opened.size

pub stands_size : (gate : Gate) (moment : Moment) (kept : Kept) → Stands gate moment kept → length kept.bytes ≡ length moment.bytes + 1536
stands_size gate moment kept stands = size_by gate moment kept (by_stands gate moment kept stands)

-- what a stop leaves
left_there : (kept : Kept) (image : List ℕ) (place byte : ℕ) → FileMayLeave kept image → IsOnDisk kept place byte → get_or image place 0 ≡ byte
left_there kept image place byte left there = left.outside place there.settled ∙ there.put.is

left_number : (number : ℕ) (moment : Moment) (kept : Kept) (image : List ℕ) → length kept.bytes ≡ length moment.bytes + 1536 → FileMayLeave kept image → HoldsSector number moment kept → spare_number (length moment.bytes) image ≡ number
left_number number moment kept image long left holds =
    let from = length moment.bytes in
    ap (from_le_bytes w64) (same_part image kept.bytes (from + 512) (from + 520) (omega (arith, long, left.size)) (omega (arith, long))
    (λ k least less. left_there kept image k (get_or kept.bytes k 0) left (holds.rests k (omega (arith, least), omega (arith, less)))))
    ∙ holds.number_is

left_content : (number : ℕ) (moment : Moment) (kept : Kept) (image : List ℕ) → FileMayLeave kept image → HoldsSector number moment kept
    → (k : ℕ) → k < 512 → 512 * number + k < length moment.bytes → ¬ IsTrue (moment.unsettled (512 * number + k)) → get_or image (length moment.bytes + k) 0 ≡ get_or moment.bytes (512 * number + k) 0
left_content number moment kept image left holds k low less still =
    let from = length moment.bytes in
    left_there kept image (from + k) (get_or kept.bytes (from + k) 0) left (holds.rests (from + k) (omega arith, omega (arith, low))) ∙ holds.content k low less still

left_by : (gate : Gate) (moment : Moment) (kept : Kept) → HasSectors (length moment.bytes) → StandsBy gate moment kept → (image : List ℕ) → FileMayLeave kept image → FindsLeft moment image
left_by Shut moment kept sectors shut image left =
    let size = length moment.bytes in
    finds_own moment image (omega (arith, left.size, shut.size)) (found_shut size image (left_there kept image (size + 1024) 0 left shut.gate))
    (λ k less still. left_there kept image k (get_or moment.bytes k 0) left (shut.settled k less still))
left_by Ajar moment kept sectors ajar image left =
    let number = spare_number (length moment.bytes) kept.bytes in
    finds_either moment number image sectors (left.size ∙ ajar.size) (left_number number moment kept image ajar.size left ajar.holds) (left_content number moment kept image left ajar.holds)
    (λ k less still. left_there kept image k (get_or moment.bytes k 0) left (ajar.settled k less still))
left_by (Open number) moment kept sectors opened image left =
    finds_held moment number image (left.size ∙ opened.size)
    (λ shut. opened.opens (sym (left_there kept image (length moment.bytes + 1024) (get_or kept.bytes (length moment.bytes + 1024) 0) left opened.gate) ∙ shut))
    opened.inside (left_number number moment kept image opened.size left opened.holds)
    (λ k low still. left_content number moment kept image left opened.holds k low (omega (arith, low, opened.inside)) still)
    (λ k less still out. left_there kept image k (get_or moment.bytes k 0) left (opened.beside k out less still))

pub stands_left : (gate : Gate) (moment : Moment) (kept : Kept) → HasSectors (length moment.bytes) → Stands gate moment kept → (image : List ℕ) → FileMayLeave kept image → FindsLeft moment image
stands_left gate moment kept sectors stands = left_by gate moment kept sectors (by_stands gate moment kept stands)

pub within_left : (gate : Gate) (moment : Moment) (at n : ℕ) (kept : Kept) → HasSectors (length moment.bytes) → StandsWithin gate moment at n kept → LeavesLeftWithin moment at n kept
within_left gate moment at n kept sectors within image left =
    stands_left gate moment (resting image) sectors (within (resting image) (image_keeps at n kept image left)) image (record { size = refl; outside = λ place out. refl })

-- the file may be written so
module _ (moment : Moment) (sectors : HasSectors (length moment.bytes)) where
  abbrev size : ℕ
  size = length moment.bytes

  -- the spare place, behind a shut gate
  pub spare_within : (kept : Kept) → IsShut moment kept → StandsWithin Shut moment size 520 kept
  spare_within kept shut after keeps = stands_keeps Shut moment size 520 kept after
      (λ place t. let w = touched_spare size (size / 512) place (whole_sectors size sectors) t in
      ((λ same. let bad : ⊥ = omega (arith, same, w.1) in bad), λ less. let bad : ⊥ = omega (arith, less, w.0) in absurd bad)) keeps (stands_shut moment kept shut)

  -- the gate, where either is right
  pub gate_within : (kept : Kept) → IsAjar moment kept → StandsWithin Ajar moment (size + 1024) 1 kept
  gate_within kept ajar after keeps = stands_keeps Ajar moment (size + 1024) 1 kept after
      (λ place t. let w = touched_gate size (size / 512) place (whole_sectors size sectors) t in
      ((λ spare. let bad : ⊥ = omega (arith, spare.1, w) in bad), λ less. let bad : ⊥ = omega (arith, less, w) in absurd bad)) keeps (stands_ajar moment kept ajar)

  -- the sector for which the gate is open
  pub sector_within : (number : ℕ) (kept : Kept) → IsOpenFor number moment kept → StandsWithin (Open number) moment (512 * number) 512 kept
  sector_within number kept opened after keeps = stands_keeps (Open number) moment (512 * number) 512 kept after
      (λ place t. let w = touched_whole (512 * number) 512 number 1 place refl refl t in let inside = opened.inside in
      ((λ same. let bad : ⊥ = omega (arith, same, w.1, inside) in bad), (λ spare. let bad : ⊥ = omega (arith, spare.0, w.1, inside) in bad), λ less. inr w)) keeps (stands_open number moment kept opened)

  -- whole sectors that have no settled byte
  pub whole_within : (at n : ℕ) (kept : Kept) → HasSectors at → HasSectors n → at + n ≤ size → ((place : ℕ) → IsInRange at n place → IsTrue (moment.unsettled place)) → IsShut moment kept
      → StandsWithin Shut moment at n kept
  whole_within at n kept from count fits unsettled shut after keeps = stands_keeps Shut moment at n kept after
      (λ place t. let w = touched_whole at n (at / 512) (n / 512) place (whole_sectors at from) (whole_sectors n count) t in
      ((λ same. let bad : ⊥ = omega (arith, same, w.1, fits) in bad), λ less. unsettled place w)) keeps (stands_shut moment kept shut)

  -- the bytes that are written to the spare place
  pub spare_long : (number : ℕ) → 512 * number + 512 ≤ size → length (spare_of number moment.bytes) ≡ 520
  spare_long number inside =
      let content : List ℕ = slice_range moment.bytes (512 * number) (512 * number + 512) in let word : List ℕ = to_le_bytes w64 number in
      let content_long : length content ≡ 512 = length-part moment.bytes (512 * number) (512 * number + 512) inside ∙ omega arith in
      let word_long : length word ≡ 8 = refl in
      length-append content word ∙ omega (arith, content_long, word_long)

  -- once they are there
  pub spare_holds : (number : ℕ) (kept next : Kept) → number < 2 ^ 64 → 512 * number + 512 ≤ size → length kept.bytes ≡ size + 1536
      → PutsDurably size (spare_of number moment.bytes) true kept next → HoldsSector number moment next
  spare_holds number kept next small inside sized puts =
      let content : List ℕ = slice_range moment.bytes (512 * number) (512 * number + 512) in let word : List ℕ = to_le_bytes w64 number in let spare : List ℕ = spare_of number moment.bytes in
      let content_long : length content ≡ 512 = length-part moment.bytes (512 * number) (512 * number + 512) inside ∙ omega arith in
      let word_long : length word ≡ 8 = refl in
      let long : length spare ≡ 520 = spare_long number inside in
      let there : (place : ℕ) → IsInRange size 520 place → IsOnDisk next place (get_or spare (place - size) 0) = λ place w. puts.done refl place (w.0, omega (arith, w.1, long)) in
      let grown : length next.bytes ≡ size + 1536 = puts.others.size ∙ sized in
      let named : slice_range next.bytes (size + 512) (size + 520) ≡ word =
      let width : length (slice_range next.bytes (size + 512) (size + 520)) ≡ 8 = length-part next.bytes (size + 512) (size + 520) (omega (arith, grown)) ∙ omega arith in
      same_number_lists (slice_range next.bytes (size + 512) (size + 520)) word (width ∙ sym word_long) (λ k less.
      let low : k < 8 = omega (arith, less, width) in
      let same : size + 512 + k - size ≡ 512 + k = omega arith in
      let back : 512 + k - 512 ≡ k = omega arith in
      part_at next.bytes (size + 512) (size + 520) k (omega (arith, low)) ∙ (there (size + 512 + k) (omega arith, omega (arith, low))).put.is ∙ ap (λ (i : ℕ). get_or spare i 0) same
      ∙ get_or-append_right content word 512 (512 + k) 0 content_long (omega arith) ∙ ap (λ (i : ℕ). get_or word i 0) back) in
      record {
        rests = λ place w. let it = there place w in subst (λ (byte : ℕ). IsOnDisk next place byte) (sym it.put.is) it;
        number_is = ap (from_le_bytes w64) named ∙ from_le_bytes-to_le_bytes_8 number small;
        content = λ k low less still.
            let same : size + k - size ≡ k = omega arith in
            (there (size + k) (omega arith, omega (arith, low))).put.is ∙ ap (λ (i : ℕ). get_or spare i 0) same ∙ get_or_append_left content word 0 k (omega (arith, low, content_long))
            ∙ part_at moment.bytes (512 * number) (512 * number + 512) k (omega (arith, low));
      }

  -- the gate may be opened for it then
  pub ajar_shut : (number : ℕ) (kept : Kept) → IsShut moment kept → HoldsSector number moment kept → IsAjar moment kept
  ajar_shut number kept shut holds = record { size = shut.size; holds = own_number number moment kept holds; settled = shut.settled }

  -- a gate that was opened
  pub opened : (number : ℕ) (kept next : Kept) → 512 * number + 512 ≤ size → IsShut moment kept → HoldsSector number moment kept → PutsDurably (size + 1024) (1 ∷ []) true kept next → IsOpenFor number moment next
  opened number kept next inside shut holds puts =
      let out : (place : ℕ) → place < size + 1024 → ¬ IsTouched (size + 1024) 1 place = λ place less t. let bad : ⊥ = omega (arith, less, touched_gate size (size / 512) place (whole_sectors size sectors) t) in bad in
      let none : size + 1024 - (size + 1024) ≡ 0 = omega arith in
      let gate : IsOnDisk next (size + 1024) 1 = subst (λ (i : ℕ). IsOnDisk next (size + 1024) (get_or (1 ∷ []) i 0)) none (puts.done refl (size + 1024) (omega arith, omega arith)) in
      record {
        size = puts.others.size ∙ shut.size;
        inside = inside;
        opens = λ bad. let one : 1 ≡ 0 = sym gate.put.is ∙ bad in let none : ⊥ = omega (arith, one) in none;
        gate = subst (λ (byte : ℕ). IsOnDisk next (size + 1024) byte) (sym gate.put.is) gate;
        holds = holds_keeps number moment kept next shut.size puts.others.size (λ place byte w there. puts.others.still place byte (out place (omega (arith, w.1))) there) holds;
        beside = λ place aside less still. puts.others.still place (get_or moment.bytes place 0) (out place (omega (arith, less))) (shut.settled place less still);
      }

  -- one that was shut
  pub shut_again : (kept next : Kept) → IsAjar moment kept → PutsDurably (size + 1024) (0 ∷ []) true kept next → IsShut moment next
  shut_again kept next ajar puts =
      let none : size + 1024 - (size + 1024) ≡ 0 = omega arith in
      record {
        size = puts.others.size ∙ ajar.size;
        gate = subst (λ (i : ℕ). IsOnDisk next (size + 1024) (get_or (0 ∷ []) i 0)) none (puts.done refl (size + 1024) (omega arith, omega arith));
        settled = λ place less still. puts.others.still place (get_or moment.bytes place 0)
            (λ t. let bad : ⊥ = omega (arith, less, touched_gate size (size / 512) place (whole_sectors size sectors) t) in bad) (ajar.settled place less still);
      }

  -- bytes of the device that were put in their place
  pub own_put : (at n : ℕ) (kept next : Kept) → at + n ≤ size → size ≤ length kept.bytes → PutsSectors at (slice_range moment.bytes at (at + n)) true kept next
      → (place : ℕ) → IsInRange at n place → IsPut next place (get_or moment.bytes place 0)
  own_put at n kept next fits room puts place w =
      let part : List ℕ = slice_range moment.bytes at (at + n) in
      let long : length part ≡ n = length-part moment.bytes at (at + n) fits ∙ omega arith in
      let same : at + (place - at) ≡ place = omega (arith, w.0) in
      subst (λ (byte : ℕ). IsPut next place byte) (part_at moment.bytes at (at + n) (place - at) (omega (arith, w.0, w.1)) ∙ ap (λ (i : ℕ). get_or moment.bytes i 0) same)
      (put_puts at part kept next (omega (arith, long, fits, room)) puts place (w.0, omega (arith, w.1, long)))

  -- the sector for which the gate is open, in its place
  pub sector_ajar : (number : ℕ) (kept mid next : Kept) → IsOpenFor number moment kept → PutsSectors (512 * number) (slice_range moment.bytes (512 * number) (512 * number + 512)) true kept mid
      → Flushes true mid next → IsAjar moment next
  sector_ajar number kept mid next opened puts flushes =
      let at = 512 * number in let part : List ℕ = slice_range moment.bytes at (at + 512) in let inside = opened.inside in
      let long : length part ≡ 512 = length-part moment.bytes at (at + 512) inside ∙ omega arith in
      let touched : (place : ℕ) → IsTouched at (length part) place → IsInSector number place = λ place t. touched_whole at 512 number 1 place refl refl (subst (λ (n : ℕ). IsTouched at n place) long t) in
      let kept_on : KeepsOthers at (length part) true kept next = keeps_on at (length part) true kept mid next (put_keeps at part true kept mid puts) (flush_keeps at (length part) true mid next flushes) in
      record {
        size = kept_on.size ∙ opened.size;
        holds = own_number number moment next
            (holds_keeps number moment kept next opened.size kept_on.size (λ place byte w there. kept_on.still place byte (λ t. let s = touched place t in let bad : ⊥ = omega (arith, s.1, w.0, inside) in bad) there) opened.holds);
        settled = λ place less still. elim (cases_lt place at) [
          | inl before ↦ let out : ¬ IsInSector number place = λ w. let bad : ⊥ = omega (arith, w.0, before) in bad in
              kept_on.still place (get_or moment.bytes place 0) (λ t. out (touched place t)) (opened.beside place out less still)
          | inr least ↦ elim (cases_lt place (at + 512)) [
            | inl high ↦ flush_put mid next place (get_or moment.bytes place 0) flushes (own_put at 512 kept mid inside (omega (arith, opened.size)) puts place (least, high))
            | inr past ↦ let out : ¬ IsInSector number place = λ w. let bad : ⊥ = omega (arith, w.1, past) in bad in
                kept_on.still place (get_or moment.bytes place 0) (λ t. out (touched place t)) (opened.beside place out less still)
          ]
        ];
      }

  -- what was put stays through a write elsewhere
  pub below_keeps : (to at n : ℕ) (kept next : Kept) → ((place : ℕ) → place < to → ¬ IsTouched at n place) → KeepsOthers at n true kept next → IsPutBelow to moment kept → IsPutBelow to moment next
  below_keeps to at n kept next out keeps below place less up = keeps.put refl place (get_or moment.bytes place 0) (out place less) (below place less up)

  -- and through one of what comes next
  pub below_put : (at n : ℕ) (kept next : Kept) → HasSectors at → HasSectors n → at + n ≤ size → size ≤ length kept.bytes → PutsSectors at (slice_range moment.bytes at (at + n)) true kept next
      → IsPutBelow at moment kept → IsPutBelow (at + n) moment next
  below_put at n kept next from count fits room puts below place less up =
      let part : List ℕ = slice_range moment.bytes at (at + n) in
      let long : length part ≡ n = length-part moment.bytes at (at + n) fits ∙ omega arith in
      elim (cases_lt place at) [
        | inl before ↦ (put_keeps at part true kept next puts).put refl place (get_or moment.bytes place 0)
            (λ t. let w = touched_whole at n (at / 512) (n / 512) place (whole_sectors at from) (whole_sectors n count) (subst (λ (m : ℕ). IsTouched at m place) long t) in let bad : ⊥ = omega (arith, w.0, before) in bad)
            (below place before up)
        | inr least ↦ own_put at n kept next fits room puts place (least, less)
      ]

  -- through the gate's write
  pub below_gate : (to byte : ℕ) (good : Bool) (kept next : Kept) → to ≤ size → PutsDurably (size + 1024) (byte ∷ []) good kept next → good ≡ true → IsPutBelow to moment kept → IsPutBelow to moment next
  below_gate to byte good kept next within puts well below =
      below_keeps to (size + 1024) 1 kept next (λ place less t. let bad : ⊥ = omega (arith, less, within, touched_gate size (size / 512) place (whole_sectors size sectors) t) in bad)
      (subst (λ (b : Bool). KeepsOthers (size + 1024) 1 b kept next) well puts.others) below

  -- through the spare place's
  pub below_spare : (number : ℕ) (good : Bool) (kept next : Kept) → 512 * number + 512 ≤ size → PutsDurably size (spare_of number moment.bytes) good kept next → good ≡ true → IsPutBelow (512 * number) moment kept → IsPutBelow (512 * number) moment next
  below_spare number good kept next inside puts well below =
      let long = spare_long number inside in
      let others : KeepsOthers size 520 true kept next = subst (λ (n : ℕ). KeepsOthers size n true kept next) long (subst (λ (b : Bool). KeepsOthers size (length (spare_of number moment.bytes)) b kept next) well puts.others) in
      below_keeps (512 * number) size 520 kept next (λ place less t. let w = touched_spare size (size / 512) place (whole_sectors size sectors) t in let bad : ⊥ = omega (arith, less, inside, w.0) in bad) others below

  -- and behind the sector for which the gate is open
  pub below_put_flushed : (number : ℕ) (kept mid next : Kept) → IsOpenFor number moment kept → PutsSectors (512 * number) (slice_range moment.bytes (512 * number) (512 * number + 512)) true kept mid → Flushes true mid next
      → IsPutBelow (512 * number) moment kept → IsPutBelow (512 * number + 512) moment next
  below_put_flushed number kept mid next opened puts flushes below =
      below_keeps (512 * number + 512) 0 0 mid next (λ place less. touched_none place) (flush_keeps 0 0 true mid next flushes)
      (below_put (512 * number) 512 kept mid (omega arith) (omega arith) opened.inside (omega (arith, opened.size)) puts below)

  -- one sector more that has no unsettled place
  pub below_more : (at : ℕ) (kept : Kept) → ((place : ℕ) → IsInRange at 512 place → ¬ IsTrue (moment.unsettled place)) → IsPutBelow at moment kept → IsPutBelow (at + 512) moment kept
  below_more at kept settled below place less up = elim (cases_lt place at) [
    | inl before ↦ below place before up
    | inr least ↦ absurd (settled place (least, less) up)
  ]

  -- all is put and flushed
  pub all_saved : (kept next : Kept) → IsShut moment kept → IsPutWhole moment kept → Flushes true kept next → IsSavedWhole moment next
  all_saved kept next shut whole flushes =
      let keeps = flush_keeps 0 0 true kept next flushes in
      record {
        size = keeps.size ∙ shut.size;
        gate = keeps.still (size + 1024) 0 (touched_none (size + 1024)) shut.gate;
        all = λ place less. elim (cases_Bool (moment.unsettled place)) [
          | inl up ↦ flush_put kept next place (get_or moment.bytes place 0) flushes (whole.put place (whole.below place up) up)
          | inr low ↦ keeps.still place (get_or moment.bytes place 0) (touched_none place) (shut.settled place less (λ up. never (sym up ∙ low)))
        ];
      }

on_by : (gate : Gate) (old new : Moment) (kept : Kept) → length new.bytes ≡ length old.bytes → ((place : ℕ) → HasSettled old kept place → HasSettled new kept place)
    → ((number : ℕ) → HoldsSector number old kept → HoldsSector number new kept) → StandsBy gate old kept → StandsBy gate new kept
on_by Shut old new kept size settled holds shut = record {
  size = shut.size ∙ omega (arith, size);
  gate = subst (λ (n : ℕ). IsOnDisk kept (n + 1024) 0) (sym size) shut.gate;
  settled = λ place. settled place (shut.settled place);
}
on_by Ajar old new kept size settled holds ajar = record {
  size = ajar.size ∙ omega (arith, size);
  holds = own_number (spare_number (length old.bytes) kept.bytes) new kept (holds (spare_number (length old.bytes) kept.bytes) ajar.holds);
  settled = λ place. settled place (ajar.settled place);
}
on_by (Open number) old new kept size settled holds opened = record {
  size = opened.size ∙ omega (arith, size);
  inside = omega (arith, opened.inside, size);
  opens = λ shut. opened.opens (ap (λ (n : ℕ). get_or kept.bytes (n + 1024) 0) (sym size) ∙ shut);
  gate = subst (λ (n : ℕ). IsOnDisk kept (n + 1024) (get_or kept.bytes (n + 1024) 0)) (sym size) opened.gate;
  holds = holds number opened.holds;
  beside = λ place out. settled place (opened.beside place out);
}

-- the device is written, and no byte of the file
pub stands_on : (gate : Gate) (old new : Moment) (at n : ℕ) (kept : Kept) → DiffersOnlyAt (IsInRange at n) old.bytes new.bytes
    → ((place : ℕ) → IsTrue (old.unsettled place) ⊎ IsInRange at n place → IsTrue (new.unsettled place)) → Stands gate old kept → Stands gate new kept
stands_on gate old new at n kept differs covers stands =
    let settled : (place : ℕ) → HasSettled old kept place → HasSettled new kept place = λ place was less still.
    subst (λ (byte : ℕ). IsOnDisk kept place byte) (sym (differs.outside place (λ w. still (covers place (inr w))))) (was (omega (arith, less, differs.size)) (λ up. still (covers place (inl up)))) in
    let holds : (number : ℕ) → HoldsSector number old kept → HoldsSector number new kept = λ number was.
    record {
      rests = λ place w. was.rests place (omega (arith, w.0, differs.size), omega (arith, w.1, differs.size));
      number_is = ap (λ (size : ℕ). spare_number size kept.bytes) differs.size ∙ was.number_is;
      content = λ k low less still. ap (λ (size : ℕ). get_or kept.bytes (size + k) 0) differs.size ∙ was.content k low (omega (arith, less, differs.size)) (λ up. still (covers (512 * number + k) (inl up)))
          ∙ sym (differs.outside (512 * number + k) (λ w. still (covers (512 * number + k) (inr w))));
    } in
    stands_of gate new kept (on_by gate old new kept differs.size settled holds (by_stands gate old kept stands))

-- a settled device with the bytes that were saved
pub saved_same : (old new : Moment) (kept : Kept) → new.bytes ≡ old.bytes → IsSavedWhole old kept → IsSavedWhole new kept
saved_same old new kept same saved =
    subst (λ (bytes : List ℕ). IsSavedWhole (record { bytes = bytes; unsettled = new.unsettled }) kept) (sym same) (record { size = saved.size; gate = saved.gate; all = saved.all })

pub saved_stands : (old new : Moment) (kept : Kept) → new.bytes ≡ old.bytes → IsSavedWhole old kept → IsShut new kept
saved_stands old new kept same saved =
    let now = saved_same old new kept same saved in record { size = now.size; gate = now.gate; settled = λ place less still. now.all place less }
