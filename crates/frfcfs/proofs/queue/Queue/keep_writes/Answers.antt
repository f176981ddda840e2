use Rattle.std.proofs.Common.{◌≡◌, List, length, ap, ◌∙◌, arith, subst}
use Rattle.gap_list.specs.Bounded.{Bounded}
use Rattle.frfcfs.proofs.Common.{AreToldBy, Pending, Waiting, numbered_from}
use Rattle.frfcfs.proofs.KeepLemmas.{length-numbered}
use Rattle.frfcfs.proofs.KeyLemmas.{keys_numbered, keys_within}
use Rattle.frfcfs.proofs.KeptRequests.{kept_numbered}
use Rattle.frfcfs.proofs.queue.Queue.keep_writes.Goals as goal

pub tell_keys-requires : goal.tell_keys-requires
tell_keys-requires c =
    let inside = c.self.inside in
    let pending = ap (λ (l : Bounded Pending). l.items) c.number_each.ensures in
    omega (arith, c.self.invariant.keyed.size, length-numbered 0 inside.pending.items, ap (λ (xs : List Pending). length xs) (c.as_slice.ensures ∙ pending))

pub renew-requires : goal.renew-requires
renew-requires c =
    let inside = c.self.inside in
    let now = c.as_slice.ensures ∙ ap (λ (l : Bounded Pending). l.items) c.number_each.ensures in
    let told = subst (λ (xs : List Pending). AreToldBy xs inside.keys.items c.tell_keys.new.keys.items) now c.tell_keys.ensures.told in
    rw c.as_slice-2.ensures (keys_within (numbered_from 0 inside.pending.items) c.tell_keys.new.keys.items (keys_numbered inside.pending.items inside.keys.items c.tell_keys.new.keys.items told c.self.invariant.keyed))

pub invariant_of-self : goal.invariant_of-self
invariant_of-self c =
    let inside = c.self.inside in
    let w : Waiting = record { most = inside.pending.most; next = inside.next; requests = inside.pending.items } in
    let new = c.tell_keys.new.keys in
    let now = c.as_slice.ensures ∙ ap (λ (l : Bounded Pending). l.items) c.number_each.ensures in
    let told = subst (λ (xs : List Pending). AreToldBy xs inside.keys.items new.items) now c.tell_keys.ensures.told in
    let next : c.len.result ≡ length w.requests = c.len.ensures ∙ (ap (λ (l : Bounded Pending). length l.items) c.number_each.ensures ∙ length-numbered 0 w.requests) in
    rw (next, c.number_each.ensures) (kept_numbered w inside.keys new inside.counts inside.book c.renew.new.self c.self.invariant c.tell_keys.ensures.most told (rw (← c.as_slice-2.ensures) c.renew.ensures))
