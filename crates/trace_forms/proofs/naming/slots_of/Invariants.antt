use Rattle.std.proofs.Common.{◌≡◌, map, take}
use Rattle.trace_forms.specs.Forms.{slot_name}
use Rattle.trace_forms.specs.Words.{texts_of}
use Rattle.trace_forms.proofs.naming.slots_of.Given as goal

abbrev pub invariant-loop-i : goal.invariant-loop-i
invariant-loop-i l = map slot_name l.order.items ≡ texts_of (take l.i l.words)
