-- The calls of a restore, by its answer.
use Rattle.std.proofs.Common.{append_assoc, not}
use Rattle.std.proofs.lemmas.List.{append-nil, replicate-append-replicate}
use Rattle.std.specs.Prelude.{IfErr, IfOk, None, Option, is_some}
use Rattle.save_device.proofs.CallLists.{more_planned}
use Rattle.save_device.proofs.Moments.{last_within, started}
use Rattle.save_device.proofs.ReadRuns.{reads_stop, settled_same, sync_leaves}
use Rattle.save_device.specs.declared.calls.CallKind.{CallKind}
use Rattle.save_device.specs.declared.calls.CallKind.TheVariants.{Read}
use Rattle.save_image.specs.declared.reading.Header.{Header}
use Rattle.slot_store.specs.Told.{CallsOfRestore, IsFailure, IsOfBodies, IsOfHeaders, checking_calls, header_at, header_calls, is_device, pages_checked, pages_read, reads_of_newest, restore_calls}
use Rattle.slot_store.specs.declared.restoring.Restored.{Restored}
use Rattle.slot_store.specs.declared.restoring.RestoreError.TheVariants as errors
use Rattle.slot_store.proofs.Common.{[], if◌then◌else◌, ℕ, ◌++◌, ◌+◌, ◌/◌, ◌∙◌, ◌∷◌, ◌≡◌, ◌≤◌, Bool, DeviceState, Err, First, IsSettled, LeavesOnly, List, Makes, MakesCalls, MayLeave, Ok, OnlyReads, RestoreError, Result, Settle, Slot, Some, Sync, and_then, ap, arith, calls_on, false, first_fails, inl, inr, is_fault, other, present, refl, replicate, subst, sym, true, weaker}

-- no read
pub no_reads : (state : DeviceState) → OnlyReads 0 true state state
no_reads state = record { calls = sym (append-nil state.calls); same = refl; time = started state (λ image left. left) }

-- the sync failed
pub calls_of_fault : (lines : ℕ) (old new : DeviceState) → Makes Settle false old new → CallsOfRestore lines (Err errors.Device) old new
calls_of_fault lines old new synced = first_fails Sync ((Read ∷ Read ∷ replicate (lines / 64) Read) ++ replicate (lines / 64) Read) old.calls new.calls synced.call.counted

-- no more pages are checked than a body has
pub checked-le : (lines : ℕ) (header : Option Header) → pages_checked lines header ≤ lines / 64
checked-le lines None = omega arith
checked-le lines (Some header) = by_digest (is_some header.digest)
  where
    by_digest : (b : Bool) → (if b then lines / 64 else 0) ≤ lines / 64
    by_digest true = omega arith
    by_digest false = omega arith

-- where the lines of the newest image were not read, or not all of them
failed_by : (T : Type 0) (error : RestoreError) (lines : ℕ) (behind : Option Header) (old new : DeviceState) → IsFailure error
    → OnlyReads (pages_read {T = T} (lines / 64) (Err error)) (not (is_fault {T = T} (Err error))) old new
    → OnlyReads (reads_of_newest {T = Restored} lines behind (Err error)) (not (is_fault {T = Restored} (Err error))) old new
failed_by T errors.NoImage lines behind old new is reads = absurd is
failed_by T (errors.Damaged slot) lines behind old new is reads = absurd is
failed_by T errors.WrongSize lines behind old new is reads = absurd is
failed_by T errors.Device lines behind old new is reads = reads_stop (lines / 64) (lines / 64 + pages_checked lines behind) old new (omega arith) reads
failed_by T errors.Memory lines behind old new is reads = reads

pub newest_failed : {T : Type 0} (result : Result T RestoreError) (error : RestoreError) → result ≡ Err error → (lines : ℕ) (behind : Option Header) (old new : DeviceState) → IsFailure error
    → OnlyReads (pages_read (lines / 64) result) (not (is_fault result)) old new
    → OnlyReads (reads_of_newest {T = Restored} lines behind (Err error)) (not (is_fault {T = Restored} (Err error))) old new
newest_failed {T} result error was lines behind old new is reads =
    failed_by T error lines behind old new is (subst (λ (r : Result T RestoreError). OnlyReads (pages_read (lines / 64) r) (not (is_fault r)) old new) was reads)

pub failed_bodies : (error : RestoreError) → IsFailure error → IsOfBodies error
failed_bodies errors.NoImage is = absurd is
failed_bodies (errors.Damaged slot) is = absurd is
failed_bodies errors.WrongSize is = absurd is
failed_bodies errors.Device is = tt
failed_bodies errors.Memory is = tt

module _ (lines : ℕ) (old mid two new : DeviceState) (synced : Makes Settle true old mid) (headers : OnlyReads 2 true mid two) where
  behind_headers : (n : ℕ) (good : Bool) → OnlyReads n good two new → MakesCalls (header_calls ++ replicate n Read) good old.calls new.calls
  behind_headers n good reads =
      calls_on header_calls (replicate n Read) good old.calls two.calls new.calls (calls_on (Sync ∷ []) (Read ∷ Read ∷ []) true old.calls mid.calls two.calls synced.call.counted headers.calls) reads.calls

  behind_pages : (n : ℕ) (good : Bool) → OnlyReads (lines / 64 + n) good two new → MakesCalls (restore_calls lines ++ replicate n Read) good old.calls new.calls
  behind_pages n good reads =
      subst (λ (kinds : List CallKind). MakesCalls kinds good old.calls new.calls)
      (ap (λ (kinds : List CallKind). header_calls ++ kinds) (sym (replicate-append-replicate (lines / 64) n Read)) ∙ sym (append_assoc header_calls (replicate (lines / 64) Read) (replicate n Read)))
      (behind_headers (lines / 64 + n) good reads)

  settled_now : (n : ℕ) → OnlyReads n true two new → IsSettled new
  settled_now n reads = settled_same two new reads.same (settled_same mid two headers.same synced.settled)

  -- the headers were read, and name no image
  pub calls_of_refusal : (error : RestoreError) (first : Option Header) → first ≡ header_at lines First old.bytes → IsOfHeaders error
      → (error ≡ errors.NoImage → pages_checked lines first ≡ 0) → OnlyReads (pages_checked lines first) (not (is_device error)) two new → CallsOfRestore lines (Err error) old new
  calls_of_refusal errors.NoImage first at is none reads =
      let nothing : OnlyReads 0 true two new = subst (λ (n : ℕ). OnlyReads n true two new) (none (let e : errors.NoImage ≡ errors.NoImage = refl in e)) reads in
      (behind_headers 0 true nothing, settled_now 0 nothing)
  calls_of_refusal (errors.Damaged slot) first at is none reads = (
    inl (subst (λ (h : Option Header). MakesCalls (header_calls ++ replicate (pages_checked lines h) Read) true old.calls new.calls) at (behind_headers (pages_checked lines first) true reads)),
    settled_now (pages_checked lines first) reads,
  )
  calls_of_refusal errors.WrongSize first at is none reads = absurd is
  calls_of_refusal errors.Device first at is none reads =
      behind_pages (lines / 64) false (reads_stop (pages_checked lines first) (lines / 64 + lines / 64) two new (omega (arith, checked-le lines first)) reads)
  calls_of_refusal errors.Memory first at is none reads = absurd is

  -- the newest image by its header was read
  pub calls_of_newest : (result : Result Restored RestoreError) (slot : Slot) (behind : Option Header) → behind ≡ header_at lines (other slot) old.bytes
      → IfOk result (λ it. it.head.newest.slot ≡ slot) → IfErr result IsOfBodies → OnlyReads (reads_of_newest lines behind result) (not (is_fault result)) two new → CallsOfRestore lines result old new
  calls_of_newest (Ok it) slot behind at same is reads = (
    subst (λ (h : Option Header). MakesCalls (checking_calls lines h) true old.calls new.calls) (at ∙ ap (λ (s : Slot). header_at lines (other s) old.bytes) (sym same)) (behind_pages (pages_checked lines behind) true reads),
    settled_now (lines / 64 + pages_checked lines behind) reads,
  )
  calls_of_newest (Err errors.NoImage) slot behind at same is reads = absurd is
  calls_of_newest (Err (errors.Damaged bad)) slot behind at same is reads = (
    inr (other slot, subst (λ (h : Option Header). MakesCalls (checking_calls lines h) true old.calls new.calls) at (behind_pages (pages_checked lines behind) true reads)),
    settled_now (lines / 64 + pages_checked lines behind) reads,
  )
  calls_of_newest (Err errors.WrongSize) slot behind at same is reads = absurd is
  calls_of_newest (Err errors.Device) slot behind at same is reads =
      behind_pages (lines / 64) false (reads_stop (lines / 64 + pages_checked lines behind) (lines / 64 + lines / 64) two new (omega (arith, checked-le lines behind)) reads)
  calls_of_newest (Err errors.Memory) slot behind at same is reads = (behind_headers 0 true reads, settled_now 0 reads)

-- a header could not be read
pub calls_of_headers : (lines : ℕ) (old mid new : DeviceState) → Makes Settle true old mid → OnlyReads 2 false mid new → CallsOfRestore lines (Err errors.Device) old new
calls_of_headers lines old mid new synced reads =
    let kinds : List CallKind = replicate (lines / 64) Read in
    more_planned (restore_calls lines) kinds old.calls new.calls
    (more_planned header_calls kinds old.calls new.calls (calls_on (Sync ∷ []) (Read ∷ Read ∷ []) false old.calls mid.calls new.calls synced.call.counted reads.calls))

-- what a stop leaves of a device that was synced and then read
pub sync_and_reads : (good : Bool) (old mid new : DeviceState) (n : ℕ) → Makes Settle true old mid → OnlyReads n good mid new → LeavesOnly old new (MayLeave (present old))
sync_and_reads good old mid new n synced reads =
    let first = sync_leaves true old mid synced in
    and_then old mid new first (weaker mid new (last_within old mid first) reads.time)
