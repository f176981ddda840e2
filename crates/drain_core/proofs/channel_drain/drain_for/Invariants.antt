use Rattle.std.proofs.Common.{◌≡◌, suc, length}
use Rattle.drain_core.specs.Paying.{GrantsActions}
use Rattle.drain_core.proofs.PaidDrain.{IsEntering}
use Rattle.drain_core.proofs.channel_drain.drain_for.Given as goal

abbrev pub invariant-loop-entry : goal.invariant-loop-entry
invariant-loop-entry g l = record {
  entering : IsEntering l.numbers l.fn.channel l.channel l.end l._entry;
  granted : GrantsActions g.P.Payment.pays (suc l._entry) l.fn.payment l.payment;
  all : l._entry-end ≡ length l.fn.channel.writes;
}
