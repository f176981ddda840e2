use Rattle.std.proofs.Common.{◌≡◌, ◌+◌, ap, subst, arith}
use Rattle.board_hosts.specs.Client.{Client}
use Rattle.board_hosts.proofs.ending.end_host.Goals as goal

pub returns-clause-parts : goal.returns-clause-parts
returns-clause-parts g c = omega (arith, c.merge.ensures.parts, c.host.invariant.2)

pub returns-clause-amount : goal.returns-clause-amount
returns-clause-amount g c = subst (λ (host : Client). c.merge.new.self.amount ≡ c.args.rest.now.amount + host.writes) c.host.view_is c.merge.ensures.amount

pub returns-clause-below : goal.returns-clause-below
returns-clause-below g c = let seen = ap (λ (host : Client). host.persisted) c.host.view_is in omega (arith, seen)
