-- What a queue keeps of each request for the choice.
use Rattle.std.specs.Prelude.{◌≡◌, ℕ, ◌<◌, Bool, List, length, map, slice_index_or}
use Rattle.ddr4_timing.specs.declared.timing.Geometry.{Geometry}
use Rattle.request_notes.specs.declared.key.Key.{Key}
use Rattle.request_notes.specs.declared.pending.Pending.{Pending}
use Rattle.frfcfs.specs.Search.{AreMarks}
use Rattle.request_notes.specs.KeyPlaces.{bank_number}

-- The key is the request's.
pub record IsKeyOf (p : Pending) (k : Key) : Type 0 where
  pub seq : k.seq ≡ p.seq
  pub row : k.row ≡ p.place.row
  pub line : k.line ≡ p.line
  pub bank : k.bank ≡ bank_number p.place
  pub kind : k.kind ≡ p.kind
  pub held : k.held ≡ p.held

-- The keys are those of the requests, in the same order.
pub record AreKeys (pending : List Pending) (keys : List Key) : Type 0 where
  pub size : length keys ≡ length pending
  pub each : (i : ℕ) (p : Pending) (k : Key) → i < length pending → IsKeyOf (slice_index_or pending i p) (slice_index_or keys i k)

-- whether each of the requests is the first of its line
abbrev pub firsts_of : List Key → List Bool
firsts_of keys = map (λ k. k.first) keys

-- Beside it the geometry has each place, and each key says rightly whether its request is the first of its line.
pub record AreKeysIn (g : Geometry) (pending : List Pending) (keys : List Key) : Type 0 where
  pub keyed : AreKeys pending keys
  pub marks : AreMarks g pending (firsts_of keys)

-- Each key has of its request its seq and whether it is held, and else is as it was.
pub record AreToldBy (pending : List Pending) (old new : List Key) : Type 0 where
  pub size : length new ≡ length old
  pub firsts : firsts_of new ≡ firsts_of old
  pub each : (i : ℕ) (p : Pending) (k : Key) → i < length old → slice_index_or new i k ≡ record (slice_index_or old i k) { seq = (slice_index_or pending i p).seq; held = (slice_index_or pending i p).held }
