-- What a store has whose spare place is shut.
use Rattle.std.proofs.Common.{◌≡◌, ℕ, ◌+◌, ◌*◌, Bool, false, List, ◌++◌, length, take, get_or, length-append, ◌∙◌, ap, arith}
use Rattle.std.specs.Prelude.{◌==◌, nat_lt, not, replicate, if◌then◌else◌}
use Rattle.std.proofs.Math.Seq.{take-append_seam}
use Rattle.std.proofs.lemmas.Bool.{and_left, eq-eqb, ne_eqb, not_from_true}
use Rattle.std.proofs.lemmas.List.{get_or-append-add, get_or-replicate, length-replicate}
use Rattle.sector_device.specs.Spare.{found_in, is_open, spare_content, spare_number}
use Rattle.save_device.specs.Rows.{overwritten}
use Rattle.store_file.specs.Stores.{device_in}

-- a store of the device's bytes alone has them
pub device_in_bare : (device bytes : List ℕ) → bytes ≡ device → device_in (length device) bytes ≡ device
device_in_bare device bytes is =
    ap (λ (same : Bool). if same then bytes else found_in (length device) bytes) (eq-eqb (length bytes) (length device) (ap length is)) ∙ is

-- behind a shut gate an opening finds the first bytes
found_shut : (size : ℕ) (bytes : List ℕ) → get_or bytes (size + 1024) 0 ≡ 0 → found_in size bytes ≡ take size bytes
found_shut size bytes shut =
    let closed : is_open size bytes ≡ false = and_left (not (get_or bytes (size + 1024) 0 == 0)) (nat_lt (512 * spare_number size bytes) size)
    (not_from_true (get_or bytes (size + 1024) 0 == 0) (eq-eqb (get_or bytes (size + 1024) 0) 0 shut)) in
    ap (λ (opened : Bool). if opened then overwritten (take size bytes) (512 * spare_number size bytes) (spare_content size bytes) else take size bytes) closed

-- so has one with zeros for its spare place
pub device_in_spare : (device bytes : List ℕ) → bytes ≡ device ++ replicate 1536 0 → device_in (length device) bytes ≡ device
device_in_spare device bytes is =
    let size = length device in let zeros : List ℕ = replicate 1536 0 in
    let long : length bytes ≡ size + 1536 = ap length is ∙ length-append device zeros ∙ ap (λ (n : ℕ). size + n) (length-replicate {A = ℕ} 1536 0) in
    let other : (length bytes == size) ≡ false = ne_eqb (length bytes) size (λ same. let never : ⊥ = omega (arith, same, long) in never) in
    let gate : get_or bytes (size + 1024) 0 ≡ 0 = ap (λ (row : List ℕ). get_or row (size + 1024) 0) is
    ∙ get_or-append-add device zeros 1024 0 ∙ get_or-replicate {A = ℕ} 1536 1024 0 0 (omega arith) in
    ap (λ (same : Bool). if same then bytes else found_in size bytes) other
    ∙ found_shut size bytes gate ∙ ap (λ (row : List ℕ). take size row) is ∙ take-append_seam device zeros
