-- What a stop leaves, byte by byte.
use Rattle.std.proofs.Common.{◌≡◌, ◌≢◌, ◌∙◌, ◌==◌, ◌<◌, ℕ, List, length, Bool, true, false, if◌then◌else◌, not, slice_index, inl, inr, refl, sym, ap, subst, arith}
use Rattle.std.specs.Prelude.{IfSome, IsTrue, None, Option, Some}
use Rattle.std.proofs.lemmas.Bool.{cases_lt, eq-eqb, false_from_ne_true, ne_eqb}
use Rattle.std.proofs.lemmas.List.{get_or_past}
use Rattle.save_device.specs.Copies.{AreAlike}
use Rattle.save_device.specs.Device.{DeviceState, Moment, present}
use Rattle.save_device.specs.Memory.{IsPicked, settled_row_of, state_of}
use Rattle.save_device.specs.Pick.{IsPickedFrom, picked}
use Rattle.save_device.specs.Rows.{DiffersOnlyAt}
use Rattle.save_device.specs.declared.memory.MemoryDevice.{MemoryDevice}
use Rattle.save_device.specs.declared.memory.Pick.{Pick}
use Rattle.save_device.specs.declared.memory.Pick.TheVariants.{New, Torn}
use Rattle.crash_table.specs.Lefts.{IsLeftOf, IsSettledIn, IsTornTo}
use Rattle.crash_table.specs.declared.left.Left.{Left}

-- a stop may leave what a pick says
pub picked_leaves : (pick : Pick) (settled : List ℕ) (unsettled : ℕ → Bool) (row image : List ℕ) → length image ≡ length row → IsPickedFrom pick settled unsettled row image
    → DiffersOnlyAt (λ place. IsTrue (unsettled place)) row image
picked_leaves pick settled unsettled row image size each = record {
  size = size;
  outside = λ place calm. elim (cases_lt place (length row)) [
    | inl less ↦
        each place less
        ∙ ap (λ (b : Bool). if b then picked pick (slice_index settled place) (slice_index row place) else slice_index row place) (false_from_ne_true (unsettled place) calm)
    | inr least ↦ get_or_past image place 0 (omega (arith, size, least)) ∙ sym (get_or_past row place 0 least)
  ];
}

-- a byte that none of the others is tells the places where it stands
tells_one : (b : Bool) (other now torn : ℕ) → now ≢ other → torn ≡ (if b then other else now) → b ≡ not (torn == now)
tells_one true other now torn not_so is = ap not (sym (ne_eqb torn now (λ same. not_so (sym same ∙ is))))
tells_one false other now torn not_so is = ap not (sym (eq-eqb torn now is))

pub tells_places : (device : MemoryDevice) (left : Left) (other : ℕ) → left.bytes.items ≡ (state_of device).bytes
    → ((place : ℕ) → place < length left.bytes.items → slice_index left.bytes.items place ≢ other) → IsPicked (Torn other) device left.torn.items → IsLeftOf device left
tells_places device left other bytes none each = record {
  bytes = bytes;
  tells = λ place less.
      let now : slice_index left.bytes.items place ≡ slice_index (state_of device).bytes place = ap (λ (row : List ℕ). slice_index row place) bytes in
      let inside : place < length (state_of device).bytes = subst (λ (row : List ℕ). place < length row) bytes less in
      tells_one ((state_of device).unsettled place) other (slice_index left.bytes.items place) (slice_index left.torn.items place) (none place less)
      (each place inside ∙ ap (λ (n : ℕ). if (state_of device).unsettled place then other else n) (sym now));
}

-- the byte of a place, told by both
choose_one : (b : Bool) (put now : ℕ) (same : Bool) → b ≡ not same → (if same then now else put) ≡ (if b then put else now)
choose_one b put now true is = ap (λ (c : Bool). if c then put else now) (sym is)
choose_one b put now false is = ap (λ (c : Bool). if c then put else now) (sym is)

-- the picks: a byte, what stands there, and what stood there where nothing is unsettled
pub torn_picked : (device : MemoryDevice) (left : Left) (byte : ℕ) (image : List ℕ) → IsLeftOf device left → IsTornTo byte left image → IsPicked (Torn byte) device image
torn_picked device left byte image is torn place less =
    let inside : place < length left.bytes.items = subst (λ (row : List ℕ). place < length row) (sym is.bytes) less in
    torn.each place inside
    ∙ choose_one ((state_of device).unsettled place) byte (slice_index left.bytes.items place) (slice_index left.torn.items place == slice_index left.bytes.items place) (is.tells place inside)
    ∙ ap (λ (row : List ℕ). if (state_of device).unsettled place then byte else slice_index row place) is.bytes

same_both : (b : Bool) (now : ℕ) → now ≡ (if b then now else now)
same_both true now = refl
same_both false now = refl

pub new_picked : (device : MemoryDevice) (left : Left) (image : List ℕ) → IsLeftOf device left → image ≡ left.bytes.items → IsPicked New device image
new_picked device left image is same place less =
    ap (λ (row : List ℕ). slice_index row place) (same ∙ is.bytes) ∙ same_both ((state_of device).unsettled place) (slice_index (state_of device).bytes place)

pub settled_picked : (pick : Pick) (device : MemoryDevice) (left : Left) (image : List ℕ) → IsLeftOf device left → IsSettledIn left → image ≡ left.bytes.items → IsPicked pick device image
settled_picked pick device left image is settled same place less =
    let inside : place < length left.bytes.items = subst (λ (row : List ℕ). place < length row) (sym is.bytes) less in
    let calm : (state_of device).unsettled place ≡ false =
    is.tells place inside ∙ ap not (eq-eqb (slice_index left.torn.items place) (slice_index left.bytes.items place) (ap (λ (row : List ℕ). slice_index row place) settled)) in
    ap (λ (row : List ℕ). slice_index row place) (same ∙ is.bytes)
    ∙ sym (ap (λ (b : Bool). if b then picked pick (slice_index (settled_row_of device) place) (slice_index (state_of device).bytes place) else slice_index (state_of device).bytes place) calm)

-- a pick of a device that was read is one of the device
pub same_picked : (pick : Pick) (device read : MemoryDevice) (image : List ℕ) → present (state_of read) ≡ present (state_of device) → settled_row_of read ≡ settled_row_of device
    → IsPicked pick read image → IsPicked pick device image
same_picked pick device read image same row is =
    subst (λ (m : Moment). IsPickedFrom pick (settled_row_of device) m.unsettled m.bytes image) same
    (subst (λ (settled : List ℕ). IsPickedFrom pick settled (state_of read).unsettled (state_of read).bytes image) row is)

-- what a stop may leave of a copy it may leave of the device itself
pub left_of_copy : (old new : MemoryDevice) → AreAlike old new → (left : Option Left) → IfSome left (IsLeftOf new) → IfSome left (IsLeftOf old)
left_of_copy old new alike None is = tt
left_of_copy old new alike (Some left) is = record {
  bytes = is.bytes ∙ ap (λ (state : DeviceState). state.bytes) alike.state;
  tells = λ place less. ap (λ (state : DeviceState). state.unsettled place) (sym alike.state) ∙ is.tells place less;
}
