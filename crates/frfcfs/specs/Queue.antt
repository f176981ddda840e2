-- What contracts see of a queue of requests.
use Rattle.std.specs.Prelude.{◌≡◌, ◌≢◌, ℕ, ◌+◌, ◌<◌, ◌≤◌, ◌↔◌, Bool, false, true, not, nat_lt, IsTrue, List, [], ◌∷◌, filter, length, map, slice_index, slice_get, slice_index_or, slice_set, Option, Some, None, All}
use Rattle.gap_list.specs.Bounded.{Bounded}
use Rattle.request_notes.specs.declared.key.Key.{Key}
use Rattle.frfcfs.specs.declared.line_counts.LineCounts.{LineCounts}
use Rattle.request_notes.specs.declared.notebook.Notebook.{Notebook}
use Rattle.request_notes.specs.declared.pending.Kind.{Kind}
use Rattle.request_notes.specs.declared.pending.Kind.TheVariants.{Read, Write}
use Rattle.request_notes.specs.declared.pending.Pending.{Pending}
use Rattle.frfcfs.specs.Keys.{AreKeys, firsts_of}
use Rattle.frfcfs.specs.LineCounts.{AreCounts}
use Rattle.request_notes.specs.Notebook.{KeepsNotes}
use Rattle.request_notes.specs.Requests.{AreInOrder}

-- how many requests it may hold, the seq of the next one, and those that it holds, in order of arrival
pub record Waiting : Type 0 where
  pub most : ℕ
  pub next : ℕ
  pub requests : List Pending

-- what is true of every queue
pub record IsWaiting (queue : Waiting) : Type 0 where
  pub order : AreInOrder queue.requests
  pub before : All (λ p. p.seq < queue.next) queue.requests
  pub few : length queue.requests ≤ queue.most

-- No earlier place of a list of lines has the line of this one.
abbrev pub IsFirstAt : List ℕ → ℕ → Type 0
IsFirstAt lines i = (j : ℕ) → j < i → slice_index lines j ≢ slice_index lines i

-- marks that say of each place whether it is the first of its line
pub record AreFirsts (lines : List ℕ) (firsts : List Bool) : Type 0 where
  pub size : length firsts ≡ length lines
  pub each : (i : ℕ) → i < length lines → (IsTrue (slice_index_or firsts i false) ↔ IsFirstAt lines i)

-- What is true of what a queue keeps: beside its requests a key of each, with room for as many, the counts of their lines, and notes of the banks.
pub record KeepsRequests (queue : Waiting) (keys : Bounded Key) (counts : LineCounts) (book : Notebook) : Type 0 where
  pub waiting : IsWaiting queue
  pub marks : AreFirsts (map (λ p. p.line) queue.requests) (firsts_of keys.items)
  pub keyed : AreKeys queue.requests keys.items
  pub room : keys.most ≡ queue.most
  pub counted : AreCounts (map (λ p. p.line) queue.requests) counts
  pub noted : KeepsNotes keys.items book

-- writes from a number on are held
abbrev pub is_held : Option ℕ → Kind → ℕ → Bool
is_held None kind number = false
is_held (Some from) Read number = false
is_held (Some from) Write number = not (nat_lt number from)

-- the request with the mark that a hold gives it
abbrev pub held_by : Option ℕ → Pending → Pending
held_by hold p = record p { held = is_held hold p.kind p.number }

-- where the first of these keys stands that names a line, if one does
abbrev pub IsOldestOf : ℕ → List Key → Option ℕ → Type 0
IsOldestOf line keys None = All (λ key. key.line ≢ line) keys
IsOldestOf line keys (Some i) =
    (key : Key) × (slice_get keys i ≡ Some key) × (key.line ≡ line) × ((j : ℕ) (other : Key) → j < i → slice_get keys j ≡ Some other → other.line ≢ line)

-- the marks with the one at a place set, if there is a place
abbrev pub marked_at : Option ℕ → List Bool → List Bool
marked_at None firsts = firsts
marked_at (Some i) firsts = slice_set firsts i true

-- the oldest request of a line is marked, and the other marks stay
abbrev pub MarksOldest : ℕ → List Key → List Bool → List Bool → Type 0
MarksOldest line keys old new = (place : Option ℕ) × IsOldestOf line keys place × (new ≡ marked_at place old)

-- a write among the requests
abbrev pub is_write : Kind → Bool
is_write Write = true
is_write Read = false

-- requests whose seqs are their places, counted from n
abbrev pub numbered_from : ℕ → List Pending → List Pending
numbered_from n [] = []
numbered_from n (p ∷ ps) = record p { seq = n } ∷ numbered_from (n + 1) ps

-- the writes alone
abbrev pub writes_among : List Pending → List Pending
writes_among requests = filter (λ p. is_write p.kind) requests
