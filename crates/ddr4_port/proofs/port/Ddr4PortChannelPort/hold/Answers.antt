use Rattle.chan_core.specs.State.{ChannelState}
use Rattle.std.proofs.Common.{ap}
use Rattle.std.specs.Prelude.{Some, None}
use Rattle.ddr4_port.proofs.DrainCosts.{hold-cost}
use Rattle.ddr4_port.proofs.Standing.{hold-keeps, right-kept}
use Rattle.ddr4_port.proofs.port.Ddr4PortChannelPort.hold.Goals.{in-None, in-Some}
use Rattle.ddr4_port.proofs.port.Ddr4PortChannelPort.hold.Goals as goal

pub invariant_of-self : goal.invariant_of-self
invariant_of-self g c =
    let s = c.self.inside.channel.value in
    let is = rw c.deref.ensures at c.always.ensures in
    let right = right-kept (g.M.LineMap.is_lawful c.self.inside.map.now) (g.M.LineMap.geometry_of c.self.inside.map.now) (g.M.LineMap.place_of c.self.inside.map.now) s in
    elim c.match-from.branch [
      | in-Some w ↦
          let held = rw w.deref_mut.ensures.value at w.hold_from.ensures in
          rw (w.self-inside-is)
          (right w.hold_from.new.self (ap (λ (x : ChannelState). x.checked) held) (rw w.self-inside-is at is) c.self.inside.stage
          (ap (λ (x : ChannelState). x.phase) held) (ap (λ (x : ChannelState). x.commands) held) (ap (λ (x : ChannelState). x.tickets) held) c.self.invariant)
      | in-None w ↦
          let held = rw w.deref_mut-in-None.ensures.value at w.release.ensures in
          rw (w.self-inside-is)
          (right w.release.new.self (ap (λ (x : ChannelState). x.checked) held) (rw w.self-inside-is at is) c.self.inside.stage
          (ap (λ (x : ChannelState). x.phase) held) (ap (λ (x : ChannelState). x.commands) held) (ap (λ (x : ChannelState). x.tickets) held) c.self.invariant)
    ]

pub returns-clause-cost : goal.returns-clause-cost
returns-clause-cost g c =
    let s = c.self.inside.channel.value in
    rw (← c.self.view_is)
    (elim c.match-from.branch [
      | in-Some w ↦ rw (w.self-inside-is) (hold-cost s w.hold_from.new.self (Some w.in-Some.number) (rw w.deref_mut.ensures.value at w.hold_from.ensures))
      | in-None w ↦ rw (w.self-inside-is) (hold-cost s w.release.new.self None (rw w.deref_mut-in-None.ensures.value at w.release.ensures))
    ])

pub returns-clause-keeps : goal.returns-clause-keeps
returns-clause-keeps g c =
    let f = g.M.LineMap.place_of c.self.inside.map.now in
    let s = c.self.inside.channel.value in
    rw (← c.self.view_is)
    (elim c.match-from.branch [
      | in-Some w ↦ rw (w.self-inside-is) (hold-keeps f s w.hold_from.new.self (Some w.in-Some.number) (rw w.deref_mut.ensures.value at w.hold_from.ensures))
      | in-None w ↦ rw (w.self-inside-is) (hold-keeps f s w.release.new.self None (rw w.deref_mut-in-None.ensures.value at w.release.ensures))
    ])

pub returns-clause-issued : goal.returns-clause-issued
returns-clause-issued g c =
    rw (← c.self.view_is)
    (elim c.match-from.branch [
      | in-Some w ↦ rw (w.self-inside-is) (ap (λ (x : ChannelState). x.commands) (rw w.deref_mut.ensures.value at w.hold_from.ensures))
      | in-None w ↦ rw (w.self-inside-is) (ap (λ (x : ChannelState). x.commands) (rw w.deref_mut-in-None.ensures.value at w.release.ensures))
    ])
