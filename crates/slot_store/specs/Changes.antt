-- What the steps of a save change.
use Rattle.std.specs.Prelude.{◌≡◌, Bool, true, false, not, ℕ, ◌+◌, ◌*◌, if◌then◌else◌, List, [], ◌∷◌, drop, Some}
use Rattle.save_device.specs.Changes.{Change, Put, Settle}
use Rattle.save_image.specs.Header.{header, arm_byte}
use Rattle.save_image.specs.Body.{page_of}
use Rattle.slot_store.specs.declared.plan.Plan.{Plan}
use Rattle.slot_store.specs.declared.plan.Step.{Step}
use Rattle.slot_store.specs.declared.plan.Step.TheVariants.{Close, SyncClosed, Header, Page, SyncBody, Open, SyncOpen, Done}
use Rattle.slot_store.specs.Slots.{start_of}
use Rattle.save_image.specs.declared.page.TheConstants.{PAGE_BYTES}

-- where the gate of the slot lies
abbrev pub gate_of : Plan → ℕ
gate_of plan = start_of plan.lines plan.slot

-- the header of the image that is saved, with this digest and this byte as its gate
abbrev pub planned : Plan → List ℕ → ℕ → List ℕ
planned plan digest gate = header (Some digest) gate (arm_byte plan.armed) plan.generation plan.count plan.lines

-- What a step changes. The gate is closed, in place of a write by a sync where it is known closed and settled; then come
-- the pages, the header but for the gate and with this digest, and the open gate.
abbrev pub change_of : Plan → List ℕ → Step → List ℕ → Change
change_of plan digest Close page = if plan.closed then Settle else Put (gate_of plan) (0 ∷ [])
change_of plan digest SyncClosed page = Settle
change_of plan digest (Page k) page = Put (gate_of plan + PAGE_BYTES + PAGE_BYTES * k) page
change_of plan digest Header page = Put (gate_of plan + 1) (drop 1 (planned plan digest 0))
change_of plan digest SyncBody page = Settle
change_of plan digest Open page = Put (gate_of plan) (0xA5 ∷ [])
change_of plan digest SyncOpen page = Settle
change_of plan digest Done page = Settle

-- Whether the gate of the slot counts as closed where the save is given up before this step, which was tried and failed or
-- wasn't: at first where it did before, and then until the gate's opening was tried.
abbrev pub closed_before : Plan → Step → Bool → Bool
closed_before plan Close tried = plan.closed
closed_before plan SyncClosed tried = plan.closed
closed_before plan Open tried = not tried
closed_before plan SyncOpen tried = false
closed_before plan Done tried = false
closed_before plan step tried = true

-- a page step is given its page of this memory
abbrev pub GivesPage : List (List ℕ) → Step → List ℕ → Type 0
GivesPage memory (Page k) page = page ≡ page_of k memory
GivesPage memory step page = Unit {0}

-- the bytes of the body that a step writes
abbrev pub body_bytes : Step → List ℕ → List ℕ
body_bytes (Page k) page = page
body_bytes step page = []
