use Rattle.std.proofs.Common.{◌≡◌, ◌<◌, ◌≢◌, ◌↔◌, ◌++◌, ◌∷◌, [], List, All, IsTrue, arith, length, refl, sym, subst, ap, ◌∙◌}
use Rattle.std.proofs.lemmas.List.{length-map}
use Rattle.gap_list.specs.Bounded.{Bounded}
use Rattle.frfcfs.specs.LineCounts.{AreCounts}
use Rattle.request_notes.specs.Notebook.{KeepsNotes}
use Rattle.request_notes.specs.Notes.{Joins}
use Rattle.frfcfs.proofs.Common.{AreKeys, IsKeyOf, Key, Pending, Waiting}
use Rattle.frfcfs.proofs.CountLemmas.{counts_few}
use Rattle.frfcfs.proofs.KeyLemmas.{keys_push, keys_within}
use Rattle.frfcfs.proofs.KeptRequests.{kept_push}
use Rattle.request_notes.proofs.NoteLemmas.{joins_push}
use Rattle.frfcfs.proofs.QueueLemmas.{lines}
use Rattle.frfcfs.proofs.queue.Queue.push.Goals as goal

pub add-requires : goal.add-requires
add-requires c =
    let inside = c.self.inside in
    let requests = inside.pending.items in
    let few = counts_few (lines requests) inside.counts c.args.line c.self.invariant.counted in
    let size = c.self.invariant.keyed.size in
    let read = ap (λ (keys : List Key). length keys) c.as_slice.ensures in
    omega (arith, few, size, read, length-map requests (λ (q : Pending). q.line))

pub add-requires-2-clause-keys : goal.add-requires-2-clause-keys
add-requires-2-clause-keys c =
    let inside = c.self.inside in
    let p : Pending = record { seq = inside.next; place = c.args.place; line = c.args.line; kind = c.args.kind; number = c.args.number; held = c.args.held } in
    let key : Key = record { seq = inside.next; row = c.args.place.row; line = c.args.line; bank = c.bank_number.result; kind = c.args.kind; first = c.is_new-first.result; held = c.args.held } in
    let own : IsKeyOf p key = record { seq = refl; row = refl; line = refl; bank = c.bank_number.ensures; kind = refl; held = refl } in
    let now : c.as_slice-2.result.now ≡ inside.keys.items ++ key ∷ [] = c.as_slice-2.ensures ∙ ap (λ (l : Bounded Key). l.items) c.push-2.ensures in
    rw now (keys_within (inside.pending.items ++ p ∷ []) (inside.keys.items ++ key ∷ []) (keys_push inside.pending.items inside.keys.items p key c.self.invariant.keyed own))

pub invariant_of-self : goal.invariant_of-self
invariant_of-self c =
    let inside = c.self.inside in
    let w : Waiting = record { most = inside.pending.most; next = inside.next; requests = inside.pending.items } in
    let p : Pending = record { seq = inside.next; place = c.args.place; line = c.args.line; kind = c.args.kind; number = c.args.number; held = c.args.held } in
    let room : length w.requests < w.most = subst (λ (v : Waiting). length v.requests < v.most) (sym c.self.view_is) c.requires.room in
    let first : IsTrue c.is_new-first.result ↔ All (λ key. key.line ≢ c.args.line) inside.keys.items =
    subst (λ (keys : List Key). (requests : List Pending) → AreKeys requests keys → AreCounts (lines requests) inside.counts → (IsTrue c.is_new-first.result ↔ All (λ key. key.line ≢ c.args.line) keys)) c.as_slice.ensures c.is_new-first.ensures
    w.requests c.self.invariant.keyed c.self.invariant.counted in
    let key : Key = record { seq = inside.next; row = c.args.place.row; line = c.args.line; bank = c.bank_number.result; kind = c.args.kind; first = c.is_new-first.result; held = c.args.held } in
    let own : IsKeyOf p key = record { seq = refl; row = refl; line = refl; bank = c.bank_number.ensures; kind = refl; held = refl } in
    let now : c.as_slice-2.result.now ≡ inside.keys.items ++ key ∷ [] = c.as_slice-2.ensures ∙ ap (λ (l : Bounded Key). l.items) c.push-2.ensures in
    let joins : Joins key inside.keys.items c.as_slice-2.result.now = rw now (joins_push inside.keys.items key) in
    let noted : KeepsNotes (inside.keys.items ++ key ∷ []) c.add-2.new.self = rw (← now) (c.add-2.ensures inside.keys.items joins c.self.invariant.noted) in
    rw (c.push.ensures, c.push-2.ensures) (kept_push w inside.keys p key inside.counts c.add.new.self inside.book c.add-2.new.self c.self.invariant room refl first own c.add.ensures noted)
