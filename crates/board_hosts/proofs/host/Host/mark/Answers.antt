use Rattle.std.proofs.Common.{◌≡◌, ◌≤◌, refl, subst}
use Rattle.board_hosts.specs.Client.{Client, client}
use Rattle.board_hosts.proofs.host.Host.mark.Goals as goal

pub returns-clause-rises : goal.returns-clause-rises
returns-clause-rises g c = subst (λ (host : Client). host.persisted ≤ c.persisted.result) c.self.view_is c.persisted.ensures.rises

pub returns-clause-seen : goal.returns-clause-seen
returns-clause-seen g c =
    let seat = c.persisted.new.self in
    subst (λ (host : Client). client seat.accepted seat.persisted c.self.inside.share.amount c.self.inside.delivered.items ≡ client host.accepted c.persisted.result host.writes host.delivered) c.self.view_is (rw c.persisted.ensures.seen refl)
