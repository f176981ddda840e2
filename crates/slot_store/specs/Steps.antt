-- The steps of a save, each one call of the device.
use Rattle.std.specs.Prelude.{ℕ, zero, suc, ◌+◌, ◌-◌, ◌*◌, ◌/◌, Bool, if◌then◌else◌, nat_lt, List, [], ◌∷◌, ◌++◌, replicate}
use Rattle.save_device.specs.declared.calls.CallKind.{CallKind}
use Rattle.save_device.specs.declared.calls.CallKind.TheVariants.{Write, Sync}
use Rattle.slot_store.specs.declared.plan.Step.{Step}
use Rattle.slot_store.specs.declared.plan.Step.TheVariants.{Close, SyncClosed, Header, Page, SyncBody, Open, SyncOpen, Done}
use Rattle.save_image.specs.declared.page.TheConstants.{PAGE_LINES}

-- how many lines of the body a step ends behind
abbrev pub reach_of : Step → ℕ
reach_of (Page k) = PAGE_LINES * (k + 1)
reach_of step = 0

-- how many lines of the body were written before it, in this save
abbrev pub lines_before : ℕ → Step → ℕ
lines_before lines Close = 0
lines_before lines SyncClosed = 0
lines_before lines (Page k) = PAGE_LINES * k
lines_before lines step = lines

-- the order of the steps
abbrev pub step_after : ℕ → Step → Step
step_after lines Close = SyncClosed
step_after lines SyncClosed = Page 0
step_after lines (Page k) = if nat_lt lines (PAGE_LINES * (k + 2)) then Header else Page (k + 1)
step_after lines Header = SyncBody
step_after lines SyncBody = Open
step_after lines Open = SyncOpen
step_after lines SyncOpen = Done
step_after lines Done = Done

-- the step that comes once so many more were made
abbrev pub step_later : ℕ → Step → ℕ → Step
step_later lines next zero = next
step_later lines next (suc made) = step_after lines (step_later lines next made)

-- how many steps are still to come
abbrev pub steps_left : ℕ → Step → ℕ
steps_left lines Close = lines / PAGE_LINES + 6
steps_left lines SyncClosed = lines / PAGE_LINES + 5
steps_left lines (Page k) = lines / PAGE_LINES + 4 - k
steps_left lines Header = 4
steps_left lines SyncBody = 3
steps_left lines Open = 2
steps_left lines SyncOpen = 1
steps_left lines Done = 0

-- the calls of the pages from the k-th on, of the header and of the opening
abbrev pub page_calls : ℕ → ℕ → List CallKind
page_calls lines k = replicate (lines / PAGE_LINES - k) Write ++ (Write ∷ Sync ∷ Write ∷ Sync ∷ [])

-- the calls of the steps that are still to come: where the gate is known closed the first one is a sync
abbrev pub calls_left : Bool → ℕ → Step → List CallKind
calls_left closed lines Close = (if closed then Sync else Write) ∷ Sync ∷ page_calls lines 0
calls_left closed lines SyncClosed = Sync ∷ page_calls lines 0
calls_left closed lines (Page k) = page_calls lines k
calls_left closed lines Header = Write ∷ Sync ∷ Write ∷ Sync ∷ []
calls_left closed lines SyncBody = Sync ∷ Write ∷ Sync ∷ []
calls_left closed lines Open = Write ∷ Sync ∷ []
calls_left closed lines SyncOpen = Sync ∷ []
calls_left closed lines Done = []

-- the calls of a format: both gates are closed and that is made durable, and then the first image is saved
abbrev pub format_calls : ℕ → List CallKind
format_calls lines = Write ∷ Write ∷ Sync ∷ page_calls lines 0
