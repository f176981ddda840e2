use Rattle.std.proofs.Common.{◌≡◌, ◌<◌, Option, Some, length, ap, subst, ◌∙◌}
use Rattle.chan_core.proofs.Common.{Pending, writes_by}
use Rattle.chan_core.proofs.channel_memory.store_by.Goals as goal

same : {o : Option Pending} {p q : Pending} → o ≡ Some p → o ≡ Some q → p ≡ q
same s t = cc

pub take_write-bytes-requires : goal.take_write-bytes-requires
take_write-bytes-requires c = let o = c.requires.oldest (ap writes_by c.in-Wr.is) in (0, o.w, o.write, o.number ∙ ap (λ (p : Pending). p.number) (same o.request c.take-oldest.ensures.taken))

pub bounds-array-oldest : goal.bounds-array-oldest
bounds-array-oldest c = let o = c.requires.oldest (ap writes_by c.in-Wr.is) in subst (λ (p : Pending). p.line < length c.args.array.now) (same o.request c.take-oldest.ensures.taken) o.within
