use Rattle.std.proofs.Common.{length, All, refl, subst, sym}
use Rattle.frfcfs.proofs.Common.{LiesIn, Waiting, limit_of}
use Rattle.frfcfs.proofs.KeyLemmas.{keys_lie}
use Rattle.frfcfs.proofs.KeyRequests.{keys_rise}
use Rattle.frfcfs.proofs.NextChoice.{best_in_turn}
use Rattle.frfcfs.proofs.WorkLemmas.{keys_of}
use Rattle.frfcfs.proofs.queue.Queue.soonest.Goals as goal

pub find_noted-requires-clause-keys : goal.find_noted-requires-clause-keys
find_noted-requires-clause-keys c =
    let inside = c.self.inside in
    let b = c.args.banks.now.checked in
    let places = subst (λ (v : Waiting). All (λ p. LiesIn b.geometry p.place) v.requests) (sym c.self.view_is) c.requires in
    let are = keys_of b.geometry inside.pending.items inside.pending.items inside.keys.items refl c.self.invariant.waiting.order places c.self.invariant.keyed c.self.invariant.marks in
    rw c.as_slice-keys.ensures (keys_lie b.geometry inside.pending.items inside.keys.items b.is_small are)

pub find_noted-requires-clause-order : goal.find_noted-requires-clause-order
find_noted-requires-clause-order c = let inside = c.self.inside in rw c.as_slice-keys.ensures (keys_rise inside.pending.items inside.keys.items c.self.invariant.waiting.order c.self.invariant.keyed)

pub find_soonest-requires : goal.find_soonest-requires
find_soonest-requires c =
    let inside = c.self.inside in
    let g = c.args.banks.now.checked.geometry in
    let places = subst (λ (v : Waiting). All (λ p. LiesIn g p.place) v.requests) (sym c.self.view_is) c.requires in
    rw (c.as_slice-pending.ensures, c.as_slice-keys.ensures) (keys_of g inside.pending.items inside.pending.items inside.keys.items refl c.self.invariant.waiting.order places c.self.invariant.keyed c.self.invariant.marks)

pub returns-in-Some-clause-any : goal.returns-in-Some-clause-any
returns-in-Some-clause-any c =
    let inside = c.self.inside in
    let g = c.args.banks.now.checked.geometry in
    let places = subst (λ (v : Waiting). All (λ p. LiesIn g p.place) v.requests) (sym c.self.view_is) c.requires in
    let are = keys_of g inside.pending.items inside.pending.items inside.keys.items refl c.self.invariant.waiting.order places c.self.invariant.keyed c.self.invariant.marks in
    rw (← c.self.view_is) (c.in-Some.ensures.any inside.pending.items (rw c.as_slice-keys.ensures are))

pub returns-in-Some-clause-found : goal.returns-in-Some-clause-found
returns-in-Some-clause-found c =
    let inside = c.self.inside in
    let g = c.args.banks.now.checked.geometry in
    let places = subst (λ (v : Waiting). All (λ p. LiesIn g p.place) v.requests) (sym c.self.view_is) c.requires in
    let are = keys_of g inside.pending.items inside.pending.items inside.keys.items refl c.self.invariant.waiting.order places c.self.invariant.keyed c.self.invariant.marks in
    rw (← c.self.view_is) (c.in-Some.ensures.found inside.pending.items (rw c.as_slice-keys.ensures are))

pub returns-in-Some-clause-best : goal.returns-in-Some-clause-best
returns-in-Some-clause-best c list s =
    let inside = c.self.inside in
    let g = c.args.banks.now.checked.geometry in
    let places = subst (λ (v : Waiting). All (λ p. LiesIn g p.place) v.requests) (sym c.self.view_is) c.requires in
    let are = keys_of g inside.pending.items inside.pending.items inside.keys.items refl c.self.invariant.waiting.order places c.self.invariant.keyed c.self.invariant.marks in
    rw (← c.self.view_is) (c.in-Some.ensures.best list inside.pending.items s (rw c.as_slice-keys.ensures are))

pub returns-in-None-clause-best : goal.returns-in-None-clause-best
returns-in-None-clause-best c list s =
    let b = c.args.banks.now.checked in
    let requests = c.self.inside.pending.items in
    rw (← c.self.view_is)
    (best_in_turn b list requests c.args.now c.args.last (limit_of c.args.last) (length requests) c.find_soonest.result.bests (rw (← c.as_slice-pending.ensures) (c.find_soonest.ensures.best list s)))
