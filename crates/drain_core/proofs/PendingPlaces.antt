-- The places of a channel's pending writes.
use Rattle.std.proofs.Common.{◌≡◌, ℕ, zero, suc, List, [], ◌∷◌, length, slice_get, get_or, Some, None, refl, sym, ap, subst, ◌∙◌}
use Rattle.std.specs.List.{All, filter_map, cons_option}
use Rattle.std.proofs.lemmas.Option.{slice_get-get_or}
use Rattle.drain_core.proofs.Common.{ChannelState, Geometry, LiesIn, Place, length-map, nil_from_length, pending_places}
use Rattle.drain_core.proofs.Common.{placed, placed_write, placed_writes}
use Rattle.request_notes.specs.declared.pending.Kind.{Kind}
use Rattle.request_notes.specs.declared.pending.Kind.TheVariants.{Read, Write}
use Rattle.request_notes.specs.declared.pending.Pending.{Pending}
use Rattle.frfcfs.proofs.Lists.{All-at}
use Rattle.chan_core.specs.Always.{HasRightContents}
use Rattle.chan_core.specs.Contents.{IsRightRequest, queued_key, write_key, write_of}
use Rattle.chan_core.proofs.Kept.{map-from}

-- each lies in the geometry

placed_head : (g : Geometry) (kind : Kind) (number : ℕ) (place : Place) (rest : List (ℕ × Place)) → LiesIn g place → ((j : ℕ) (w : ℕ × Place) → slice_get rest j ≡ Some w → LiesIn g w.1) →
    (j : ℕ) (w : ℕ × Place) → slice_get (cons_option (placed kind (number, place)) rest) j ≡ Some w → LiesIn g w.1
placed_head g Write number place rest here there zero w e = let same : (number, place) ≡ w = cc in subst (λ (w : ℕ × Place). LiesIn g w.1) same here
placed_head g Write number place rest here there (suc j) w e = there j w e
placed_head g Read number place rest here there j w e = there j w e

placed_lies : (g : Geometry) (requests : List Pending) → ((i : ℕ) (p : Pending) → slice_get requests i ≡ Some p → LiesIn g p.place) → (j : ℕ) (w : ℕ × Place) → slice_get (filter_map placed_write requests) j ≡ Some w → LiesIn g w.1
placed_lies g [] lie j w e = absurd cc
placed_lies g (p ∷ requests) lie j w e = placed_head g p.kind p.number p.place (filter_map placed_write requests) (lie zero p refl) (placed_lies g requests (λ i q at. lie (suc i) q at)) j w e

pub pending_lies : (s : ChannelState) (j : ℕ) (w : ℕ × Place) → HasRightContents s → slice_get (placed_writes s) j ≡ Some w → LiesIn s.checked.geometry w.1
pending_lies s j w contents e = placed_lies s.checked.geometry s.requests (λ i p at. (All-at (IsRightRequest s.checked.geometry s.channel s.hold) s.requests i p contents.right at).lies) j w e

pub all_lie : (s : ChannelState) → HasRightContents s → All (LiesIn s.checked.geometry) (pending_places s)
all_lie s contents k d within =
    let at = map-from (λ (w : ℕ × Place). w.1) (placed_writes s) k (get_or (pending_places s) k d) (slice_get-get_or (pending_places s) k d within) in
    subst (LiesIn s.checked.geometry) at.2 (pending_lies s k at.0 contents at.1)

-- there are as many as writes

as_long : (kind : Kind) (key : ℕ × ℕ) (w : ℕ × Place) (keys : List (ℕ × ℕ)) (ws : List (ℕ × Place)) → length ws ≡ length keys → length (cons_option (placed kind w) ws) ≡ length (cons_option (write_of kind key.0 key.1) keys)
as_long Write key w keys ws e = ap suc e
as_long Read key w keys ws e = e

as_many : (requests : List Pending) → length (filter_map placed_write requests) ≡ length (filter_map write_key requests)
as_many [] = refl
as_many (p ∷ requests) = as_long p.kind (p.number, p.line) (p.number, p.place) (filter_map write_key requests) (filter_map placed_write requests) (as_many requests)

pub placed_length : (s : ChannelState) → HasRightContents s → length (placed_writes s) ≡ length s.writes
placed_length s contents = as_many s.requests ∙ ap length contents.queued ∙ length-map s.writes queued_key

pub places_length : (s : ChannelState) → HasRightContents s → length (pending_places s) ≡ length s.writes
places_length s contents = length-map (placed_writes s) (λ (w : ℕ × Place). w.1) ∙ placed_length s contents

-- the oldest

no_oldest : {X : Type 0} (xs : List X) → slice_get xs 0 ≡ None → length xs ≡ 0
no_oldest [] e = refl
no_oldest (x ∷ xs) e = absurd cc

pub none_pending : (s : ChannelState) → HasRightContents s → slice_get (placed_writes s) 0 ≡ None → s.writes ≡ []
none_pending s contents e = nil_from_length s.writes (sym (placed_length s contents) ∙ no_oldest (placed_writes s) e)

pub first_and_rest : {X : Type 0} (xs : List X) (x : X) → slice_get xs 0 ≡ Some x → (rest : List X) × (xs ≡ x ∷ rest)
first_and_rest [] x e = absurd cc
first_and_rest (y ∷ xs) x e = (xs, let same : y ≡ x = cc in ap (λ z. z ∷ xs) same)
