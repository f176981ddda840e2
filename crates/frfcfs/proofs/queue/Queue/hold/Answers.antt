use Rattle.std.proofs.Common.{List, map, ap, ◌∙◌, subst}
use Rattle.gap_list.specs.Bounded.{Bounded}
use Rattle.frfcfs.proofs.Common.{AreToldBy, Pending, Waiting, held_by}
use Rattle.frfcfs.proofs.KeyLemmas.{keys_held, keys_within}
use Rattle.frfcfs.proofs.KeptRequests.{kept_held}
use Rattle.frfcfs.proofs.queue.Queue.hold.Goals as goal

pub renew-requires : goal.renew-requires
renew-requires c =
    let inside = c.self.inside in
    let now = c.as_slice.ensures ∙ ap (λ (l : Bounded Pending). l.items) c.hold_each.ensures in
    let told = subst (λ (xs : List Pending). AreToldBy xs inside.keys.items c.tell_keys.new.keys.items) now c.tell_keys.ensures.told in
    rw c.as_slice-2.ensures (keys_within (map (held_by c.args.from) inside.pending.items) c.tell_keys.new.keys.items (keys_held c.args.from inside.pending.items inside.keys.items c.tell_keys.new.keys.items told c.self.invariant.keyed))

pub invariant_of-self : goal.invariant_of-self
invariant_of-self c =
    let inside = c.self.inside in
    let w : Waiting = record { most = inside.pending.most; next = inside.next; requests = inside.pending.items } in
    let new = c.tell_keys.new.keys in
    let now = c.as_slice.ensures ∙ ap (λ (l : Bounded Pending). l.items) c.hold_each.ensures in
    let told = subst (λ (xs : List Pending). AreToldBy xs inside.keys.items new.items) now c.tell_keys.ensures.told in
    rw c.hold_each.ensures (kept_held c.args.from w inside.keys new inside.counts inside.book c.renew.new.self c.self.invariant c.tell_keys.ensures.most told (rw (← c.as_slice-2.ensures) c.renew.ensures))

pub returns : goal.returns
returns c =
    ap (λ (l : Bounded Pending). record { most = l.most; next = c.self.inside.next; requests = l.items }) c.hold_each.ensures
    ∙ ap (λ (w : Waiting). record w { requests = map (held_by c.args.from) w.requests }) c.self.view_is
