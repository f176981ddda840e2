-- What a file keeps, beside what a device over it says.
use Rattle.std.proofs.Common.{◌≡◌, ◌⊎◌, ⊎_elim, inl, inr, ℕ, ◌+◌, ◌-◌, ◌<◌, ◌≤◌, Bool, true, false, List, [], ◌∷◌, ◌++◌, length, drop, get_or, length-drop, refl, sym, ◌∙◌, ap, subst, arith, Option, Some, None}
use Rattle.std.specs.Prelude.{IsTrue, not, slice_range, Result, Ok, Err, IsOk, OnOk, is_ok}
use Rattle.std.specs.Bool.{OnTrue}
use Rattle.std.proofs.lemmas.Bool.{cases_lt, cases_Bool}
use Rattle.std.proofs.lemmas.List.{get_or-take, get_or-drop, length-take-le, append-nil}
use Rattle.std.proofs.lemmas.List.Elements.{All-nil}
use Rattle.save_device.specs.declared.calls.CallKind.TheVariants.{Sync}
use Rattle.save_device.specs.Calls.{called}
use Rattle.save_device.specs.Changes.{Settle, Makes}
use Rattle.save_device.specs.Flags.{IsUp}
use Rattle.save_device.specs.Rows.{IsInRange, overwritten, DiffersOnlyAt}
use Rattle.save_device.specs.Device.{Moment, DeviceState, present, moments_of, Elapses, MayLeave, IsSettled}
use Rattle.save_device.proofs.Rows.{holds-before, holds-within, same_rows}
use Rattle.file_device.specs.Places.{Adds}
use Rattle.file_device.specs.Kept.{Kept, IfKept, BothKept, IsAtRest, IsSaved, IsCurrent, MayLeaveWithin, Puts, Flushes, BacksWhole, Backs, Marks}

-- what is said of a good answer
pub on_ok : {T E X : Type 0} (result : Result T E) → IsOk result → OnTrue (is_ok result) X → X
on_ok (Ok value) is x = x
on_ok (Err error) is x = absurd (let bad : ⊥ = cc in bad)

pub ok_says : {T E X : Type 0} (result : Result T E) → X → OnOk result X
ok_says (Ok value) x = x
ok_says (Err error) x = tt

pub on_true : {X : Type 0} (good : Bool) → good ≡ true → OnTrue good X → X
on_true {X} good is x = subst (λ (b : Bool). OnTrue b X) is x

-- a step of the file, if anything is known of it
pub kept_on : {P : Kept → Kept → Type 0} {A B : Kept → Type 0} (file next : Option Kept) → BothKept P file next
    → ((kept after : Kept) → P kept after → A kept → B after) → IfKept A file → IfKept B next
kept_on {P} {A} {B} (Some kept) (Some after) both step before last is =
    let same : after ≡ last = cc in subst B same (step kept after both (before kept refl))
kept_on (Some kept) None both step before last is = absurd both
kept_on None (Some after) both step before last is = absurd both
kept_on None None both step before last is = absurd (let bad : ⊥ = cc in bad)

-- rows that are the same differ nowhere
pub differs_not : (places : ℕ → Type 0) (old new : List ℕ) → new ≡ old → DiffersOnlyAt places old new
differs_not places old new same = record { size = ap length same; outside = λ place out. ap (λ (row : List ℕ). get_or row place 0) same }

-- a file that has all of a device's bytes on the disk backs it
pub saved_backs : (behind : Bool) (old new : DeviceState) (kept : Kept) → new.bytes ≡ old.bytes → IsSaved old kept → BacksWhole behind new kept
saved_backs behind old new kept same saved = record {
  within = λ place up. absurd (saved.rest.settled place up);
  stale = λ place up. absurd (saved.rest.fresh place up);
  outside = differs_not _ new.bytes kept.bytes (saved.same ∙ sym same);
  current = λ _. record { fresh = saved.rest.fresh; same = saved.same ∙ sym same };
}

pub saved_same : (old new : DeviceState) (kept : Kept) → new.bytes ≡ old.bytes → IsSaved old kept → IsSaved new kept
saved_same old new kept same saved = record { rest = saved.rest; same = saved.same ∙ sym same }

-- so does one at rest that a device was made of
pub rest_backs : (state : DeviceState) (file : Option Kept) → IfKept IsAtRest file → IfKept (λ kept. state.bytes ≡ kept.bytes) file → Backs false state file
rest_backs state file rest same kept is = saved_backs false state state kept refl (record { rest = rest kept is; same = sym (same kept is) })

-- a write at the device, if any, and one of these bytes at the file
module _ (old new : DeviceState) (at : ℕ) (bytes : List ℕ)
    (outside : DiffersOnlyAt (IsInRange at (length bytes)) old.bytes new.bytes)
    (covers : (place : ℕ) → IsTrue (old.unsettled place) ⊎ IsInRange at (length bytes) place → IsTrue (new.unsettled place)) where
  pub put_backs : (good : Bool) (kept next : Kept) (behind after : Bool) → Puts at bytes good kept next
      → (after ≡ false → (behind ≡ false) × (good ≡ true) × (new.bytes ≡ overwritten old.bytes at bytes)) → BacksWhole behind old kept → BacksWhole after new next
  put_backs good kept next behind after puts fine backs = record {
    within = λ place up. covers place (⊎_elim (λ was. inl (backs.within place was)) (λ w. inr w) (puts.unsettled place up));
    stale = λ place up. covers place (⊎_elim (λ was. inl (backs.stale place was)) (λ w. inr w) (puts.stale place up));
    outside = record {
      size = puts.outside.size ∙ backs.outside.size ∙ sym outside.size;
      outside = λ place out.
          let free : ¬ IsInRange at (length bytes) place = λ w. out (covers place (inr w)) in
          let still : ¬ IsTrue (old.unsettled place) = λ w. out (covers place (inl w)) in
          puts.outside.outside place (λ either. ⊎_elim (λ up. ⊎_elim (λ was. still (backs.stale place was)) free (puts.stale place up)) free either)
          ∙ backs.outside.outside place still ∙ sym (outside.outside place free);
    };
    current = λ no.
        let now = fine no in
        let was = backs.current now.0 in
        let fresh : (place : ℕ) → ¬ IsTrue (next.stale place) = λ place up. ⊎_elim (λ old_one. was.fresh place old_one) (λ w. on_true good now.1 puts.renewed place w up) (puts.stale place up) in
        let done = on_true good now.1 puts.done in
        record {
          fresh = fresh;
          same = same_rows (overwritten kept.bytes at bytes) next.bytes (record { size = done.size; outside = λ place _. done.outside place (fresh place) })
              ∙ ap (λ (row : List ℕ). overwritten row at bytes) was.same ∙ sym now.2;
        };
  }

  -- a stop in the middle of it
  pub put_part : (behind : Bool) (kept : Kept) → BacksWhole behind old kept → (image : List ℕ) → MayLeaveWithin at (length bytes) kept image → MayLeave (present new) image
  put_part behind kept backs image left = record {
    size = left.size ∙ backs.outside.size ∙ sym outside.size;
    outside = λ place out.
        let free : ¬ IsInRange at (length bytes) place = λ w. out (covers place (inr w)) in
        let still : ¬ IsTrue (old.unsettled place) = λ w. out (covers place (inl w)) in
        left.outside place (λ either. ⊎_elim (λ up. still (backs.within place up)) free either) ∙ backs.outside.outside place still ∙ sym (outside.outside place free);
  }

pub not_twice : (a b : Bool) → b ≡ not a → a ≡ not b
not_twice true b is = sym (ap not is)
not_twice false b is = sym (ap not is)

good_where_not : (b : Bool) → not b ≡ false → b ≡ true
good_where_not true is = refl
good_where_not false is = absurd (let bad : ⊥ = cc in bad)

-- bytes of a row, as many as the range has
pub length-range : (row : List ℕ) (at n : ℕ) → at + n ≤ length row → length (slice_range row at (at + n)) ≡ n
length-range row at n fits =
    let width : at + n - at ≡ n = omega arith in
    length-take-le (at + n - at) (drop at row) (omega (arith, length-drop at row, fits, width)) ∙ width

-- unsettled places written again
module _ (state : DeviceState) (at n : ℕ) (fits : at + n ≤ length state.bytes) (unsettled : (place : ℕ) → IsInRange at n place → IsTrue (state.unsettled place)) where
  abbrev pub range : List ℕ
  range = slice_range state.bytes at (at + n)

  covered : (place : ℕ) → IsTrue (state.unsettled place) ⊎ IsInRange at (length range) place → IsTrue (state.unsettled place)
  covered place either = ⊎_elim (λ up. up) (λ (w : IsInRange at (length range) place). unsettled place (w.0, omega (arith, w.1, length-range state.bytes at n fits))) either

  pub again_backs : (good : Bool) (kept next : Kept) (behind : Bool) → Puts at range good kept next → BacksWhole behind state kept → BacksWhole true state next
  again_backs good kept next behind puts backs =
      put_backs state state at range (differs_not _ state.bytes state.bytes refl) covered good kept next behind true puts (λ no. absurd (let bad : ⊥ = cc in bad)) backs

  pub again_part : (behind : Bool) (kept : Kept) → BacksWhole behind state kept → (image : List ℕ) → MayLeaveWithin at n kept image → MayLeave (present state) image
  again_part behind kept backs image left =
      put_part state state at range (differs_not _ state.bytes state.bytes refl) covered behind kept backs image
      (subst (λ (m : ℕ). MayLeaveWithin at m kept image) (sym (length-range state.bytes at n fits)) left)

-- no time passes where nothing of a device changes but its calls
pub elapses_not : (old new : DeviceState) → present new ≡ present old → new.earlier ≡ old.earlier → Elapses old new
elapses_not old new same earlier = record {
  since = [];
  keeps = ap (λ (moments : List Moment). moments ++ present new ∷ []) earlier ∙ ap (λ (moment : Moment). old.earlier ++ moment ∷ []) same ∙ sym (append-nil (moments_of old));
  first = λ image left. inl left;
  each = All-nil _;
}

pub settles_not : (old new : DeviceState) → present new ≡ present old → new.earlier ≡ old.earlier → new.calls ≡ old.calls ++ called Sync false ∷ [] → Makes Settle false old new
settles_not old new same earlier counted = record {
  call = record { counted = counted; time = elapses_not old new same earlier };
  done = tt;
  settled = tt;
  outside = differs_not _ old.bytes new.bytes (ap (λ (moment : Moment). moment.bytes) same);
  unsettled = λ place up. inl (subst (λ (moment : Moment). IsTrue (moment.unsettled place)) same up);
}

-- a flush of a file that is current
module _ (state : DeviceState) (good : Bool) (kept next : Kept) (flushes : Flushes good kept next) (backs : BacksWhole false state kept) where
  stale_where_failed : (place : ℕ) → IsTrue (next.stale place) → (good ≡ false) × IsTrue (kept.unsettled place)
  stale_where_failed place up = ⊎_elim (λ was. absurd ((backs.current refl).fresh place was)) (λ w. w) (flushes.stale place up)

  pub flush_saves : good ≡ true → IsSaved state next
  flush_saves well =
      let fresh : (place : ℕ) → ¬ IsTrue (next.stale place) = λ place up. let bad : true ≡ false = sym well ∙ (stale_where_failed place up).0 in let none : ⊥ = cc in none in
      record {
        rest = record { settled = λ place up. fresh place (on_true good well flushes.settled place up); fresh = fresh };
        same = same_rows kept.bytes next.bytes (record { size = flushes.bytes.size; outside = λ place _. flushes.bytes.outside place (fresh place) }) ∙ (backs.current refl).same;
      }

  pub flush_backs : (after : Bool) → after ≡ not good → BacksWhole after state next
  flush_backs after is = record {
    within = λ place up. backs.within place (flushes.unsettled place up);
    stale = λ place up. backs.within place (stale_where_failed place up).1;
    outside = record {
      size = flushes.bytes.size ∙ backs.outside.size;
      outside = λ place out. flushes.bytes.outside place (λ up. out (backs.within place (stale_where_failed place up).1)) ∙ backs.outside.outside place out;
    };
    current = λ no. let well : good ≡ true = good_where_not good (sym is ∙ no) in
        let saved = flush_saves well in record { fresh = saved.rest.fresh; same = saved.same };
  }

-- the device is the same
pub backs_same : (old new : DeviceState) (behind : Bool) (kept : Kept) → present new ≡ present old → BacksWhole behind old kept → BacksWhole behind new kept
backs_same old new behind kept same backs =
    subst (λ (moment : Moment). BacksWhole behind (record { bytes = moment.bytes; unsettled = moment.unsettled; earlier = new.earlier; calls = new.calls }) kept) (sym same)
    (record { within = backs.within; stale = backs.stale; outside = backs.outside; current = λ no. record { fresh = (backs.current no).fresh; same = (backs.current no).same } })

pub marks_same : (flags : List Bool) (old new : DeviceState) → present new ≡ present old → Marks flags old → Marks flags new
marks_same flags old new same marks =
    subst (λ (moment : Moment). Marks flags (record { bytes = moment.bytes; unsettled = moment.unsettled; earlier = new.earlier; calls = new.calls })) (sym same)
    (record { size = marks.size; up = marks.up; all = marks.all })

-- a write at the device, and its places added
pub marks_on : (flags more : List Bool) (old new : DeviceState) (at n : ℕ) → length new.bytes ≡ length old.bytes
    → ((place : ℕ) → (IsTrue (new.unsettled place) → IsTrue (old.unsettled place) ⊎ IsInRange at n place) × (IsTrue (old.unsettled place) ⊎ IsInRange at n place → IsTrue (new.unsettled place)))
    → Adds at n flags more → Marks flags old → Marks more new
marks_on flags more old new at n size unsettled adds marks = record {
  size = adds.size ∙ marks.size ∙ sym size;
  up = λ place up. (unsettled place).1 (⊎_elim (λ was. inl (marks.up place was)) (λ w. inr w) ((adds.up place).0 up));
  all = λ place up. (adds.up place).1 (⊎_elim (λ was. inl (marks.all place was)) (λ w. inr w) ((unsettled place).0 up));
}

-- no flag is up, and all is settled
pub marks_none : (flags : List Bool) (state : DeviceState) → length flags ≡ length state.bytes → ((place : ℕ) → IsUp flags place → ⊥) → IsSettled state → Marks flags state
marks_none flags state size none settled = record { size = size; up = λ place up. absurd (none place up); all = λ place up. absurd (settled place up) }

-- the unsettled places below this one were written again
abbrev pub IsCaughtUpBelow : ℕ → DeviceState → Kept → Type 0
IsCaughtUpBelow at state kept = (place : ℕ) → place < at → IsTrue (state.unsettled place) → (¬ IsTrue (kept.stale place)) × (get_or kept.bytes place 0 ≡ get_or state.bytes place 0)

-- one more that isn't unsettled
pub caught_up_more : (at : ℕ) (state : DeviceState) (kept : Kept) → IsCaughtUpBelow at state kept → ¬ IsTrue (state.unsettled at) → IsCaughtUpBelow (at + 1) state kept
caught_up_more at state kept below none place less up =
    elim (cases_lt place at) [
      | inl before ↦ below place before up
      | inr least ↦ let here : place ≡ at = omega (arith, least, less) in absurd (none (subst (λ (p : ℕ). IsTrue (state.unsettled p)) here up))
    ]

-- a run of them, written again
pub caught_up_by : (at n : ℕ) (state : DeviceState) (behind : Bool) (kept next : Kept) → at + n ≤ length state.bytes → BacksWhole behind state kept
    → Puts at (slice_range state.bytes at (at + n)) true kept next → IsCaughtUpBelow at state kept → IsCaughtUpBelow (at + n) state next
caught_up_by at n state behind kept next fits backs puts below place less up =
    let bytes : List ℕ = slice_range state.bytes at (at + n) in
    let long : length bytes ≡ n = length-range state.bytes at n fits in
    let room : at + n ≤ length kept.bytes = omega (arith, fits, backs.outside.size) in
    elim (cases_lt place at) [
      | inl before ↦
          let was = below place before up in
          let fresh : ¬ IsTrue (next.stale place) = λ now. ⊎_elim (λ old_one. was.0 old_one) (λ (w : IsInRange at (length bytes) place). let bad : ⊥ = omega (arith, w.0, before) in bad) (puts.stale place now) in
          (fresh, puts.done.outside place fresh ∙ holds-before kept.bytes (overwritten kept.bytes at bytes) bytes at n (sym long) room refl place 0 before ∙ was.1)
      | inr least ↦
          let fresh : ¬ IsTrue (next.stale place) = puts.renewed place (least, omega (arith, long, less)) in
          let same : at + (place - at) ≡ place = omega (arith, least) in
          let within : place - at < at + n - at = omega (arith, least, less) in (
            fresh,
            puts.done.outside place fresh ∙ holds-within kept.bytes (overwritten kept.bytes at bytes) bytes at n (sym long) room refl place 0 least less
                ∙ get_or-take (at + n - at) (drop at state.bytes) (place - at) 0 within ∙ get_or-drop at state.bytes (place - at) 0 ∙ ap (λ (k : ℕ). get_or state.bytes k 0) same,
          )
    ]

-- all of them
pub caught_up : (at : ℕ) (state : DeviceState) (behind : Bool) (kept : Kept) → BacksWhole behind state kept → ((place : ℕ) → IsTrue (state.unsettled place) → place < at) → IsCaughtUpBelow at state kept → IsCurrent state kept
caught_up at state behind kept backs all below = record {
  fresh = λ place up. let was = backs.stale place up in (below place (all place was) was).0 up;
  same = same_rows state.bytes kept.bytes (record {
    size = backs.outside.size;
    outside = λ place _. elim (cases_Bool (state.unsettled place)) [
      | inl up ↦ (below place (all place up) up).1
      | inr low ↦ backs.outside.outside place (λ up. let bad : true ≡ false = sym up ∙ low in let none : ⊥ = cc in none)
    ];
  });
}

pub caught_up_same : (at : ℕ) (old new : DeviceState) (kept : Kept) → present new ≡ present old → IsCaughtUpBelow at old kept → IsCaughtUpBelow at new kept
caught_up_same at old new kept same below =
    subst (λ (moment : Moment). IsCaughtUpBelow at (record { bytes = moment.bytes; unsettled = moment.unsettled; earlier = new.earlier; calls = new.calls }) kept) (sym same) below

pub current_backs : (state : DeviceState) (behind : Bool) (kept : Kept) → BacksWhole behind state kept → IsCurrent state kept → BacksWhole false state kept
current_backs state behind kept backs current = record { within = backs.within; stale = backs.stale; outside = backs.outside; current = λ no. current }
