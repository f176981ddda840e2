use Rattle.std.proofs.Common.{sym, ap, ◌∙◌}
use Rattle.ddr4_port.proofs.DrainCosts.{drain-covers}
use Rattle.ddr4_port.proofs.Draining.{drain-checked, drain-keeps, drain-left, drain-lost, drain-pays, drain-takes}
use Rattle.ddr4_port.proofs.Paying.{paid_by}
use Rattle.ddr4_port.proofs.Standing.{lost-on-backup, right-drained}
use Rattle.ddr4_port.proofs.port.Ddr4PortChannelPort.drain.Goals.{in-Err, in-Ok}
use Rattle.ddr4_port.proofs.port.Ddr4PortChannelPort.drain.Goals as goal

pub invariant_of-self : goal.invariant_of-self
invariant_of-self g c =
    let s = c.self.inside.channel.value in
    let t = c.drain_paying-drained.new.channel in
    let did = rw c.deref_mut.ensures.value at c.drain_paying-drained.ensures.drains in
    let none = lost-on-backup c.self.inside.stage c.self.inside.channel.value c.self.invariant.1.staged (rw (← c.self.view_is) at c.requires.backup) in
    right-drained (g.M.LineMap.is_lawful c.self.inside.map.now) (g.M.LineMap.geometry_of c.self.inside.map.now) (g.M.LineMap.place_of c.self.inside.map.now) s t (drain-checked c.args.costs.now c.drain_paying-drained.result s t _ _ did) (rw c.deref.ensures at c.always.ensures)
    c.self.inside.stage c.self.invariant (drain-lost c.args.costs.now c.drain_paying-drained.result s t _ _ did none)

pub returns-clause-pays : goal.returns-clause-pays
returns-clause-pays g c =
    let s = c.self.inside.channel.value in
    let t = c.drain_paying-drained.new.channel in
    let did = rw c.deref_mut.ensures.value at c.drain_paying-drained.ensures.drains in
    rw (← c.self.view_is)
    (elim c.match-drained.branch [
      | in-Ok w ↦ drain-pays c.args.costs.now c.drain_paying-drained.result s t _ _ did c.match-drained.result (w.result-is ∙ sym (ap paid_by w.in-Ok.is))
      | in-Err w ↦ drain-pays c.args.costs.now c.drain_paying-drained.result s t _ _ did c.match-drained.result (w.result-is ∙ sym (ap paid_by w.in-Err.is))
    ])

pub returns-clause-takes : goal.returns-clause-takes
returns-clause-takes g c =
    let did = rw c.deref_mut.ensures.value at c.drain_paying-drained.ensures.drains in
    let none = lost-on-backup c.self.inside.stage c.self.inside.channel.value c.self.invariant.1.staged (rw (← c.self.view_is) at c.requires.backup) in
    let s = c.self.inside.channel.value in
    let t = c.drain_paying-drained.new.channel in
    rw (← c.self.view_is)
    (elim c.match-drained.branch [
      | in-Ok w ↦ drain-takes c.args.costs.now c.drain_paying-drained.result s t _ _ did none c.match-drained.result (w.result-is ∙ sym (ap paid_by w.in-Ok.is))
      | in-Err w ↦ drain-takes c.args.costs.now c.drain_paying-drained.result s t _ _ did none c.match-drained.result (w.result-is ∙ sym (ap paid_by w.in-Err.is))
    ])

pub returns-clause-drained : goal.returns-clause-drained
returns-clause-drained g c =
    let s = c.self.inside.channel.value in
    let t = c.drain_paying-drained.new.channel in
    let did = rw c.deref_mut.ensures.value at c.drain_paying-drained.ensures.drains in
    let f = g.M.LineMap.place_of c.self.inside.map.now in
    rw (← c.self.view_is)
    (elim c.match-drained.branch [
      | in-Ok w ↦ drain-left c.args.costs.now c.drain_paying-drained.result s t _ _ did f c.self.inside.stage c.match-drained.result (w.result-is ∙ sym (ap paid_by w.in-Ok.is))
      | in-Err w ↦ drain-left c.args.costs.now c.drain_paying-drained.result s t _ _ did f c.self.inside.stage c.match-drained.result (w.result-is ∙ sym (ap paid_by w.in-Err.is))
    ])

pub returns-clause-covers : goal.returns-clause-covers
returns-clause-covers g c =
    let right = c.self.invariant.1 in
    let awaits = right.staged.backup (rw (← c.self.view_is) at c.requires.backup) in
    rw (← c.self.view_is) (drain-covers c.args.costs.now c.self.inside.channel.value awaits.can right.channel.contents)

pub returns-clause-keeps : goal.returns-clause-keeps
returns-clause-keeps g c =
    let did = rw c.deref_mut.ensures.value at c.drain_paying-drained.ensures.drains in
    rw (← c.self.view_is)
    (drain-keeps c.args.costs.now c.drain_paying-drained.result c.self.inside.channel.value c.drain_paying-drained.new.channel _ _ did (g.M.LineMap.place_of c.self.inside.map.now) c.self.invariant.1.channel.contents)
