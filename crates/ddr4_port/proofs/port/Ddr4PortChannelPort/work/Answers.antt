use Rattle.std.proofs.Common.{ap}
use Rattle.chan_core.specs.State.{ChannelState}
use Rattle.ddr4_port.proofs.EarlyClocks.{work-rests, work-sends}
use Rattle.ddr4_port.proofs.Seen.{carries-seen, places_of}
use Rattle.ddr4_port.proofs.Sending.{works-issues, works-next}
use Rattle.ddr4_port.proofs.Standing.{right-worked}
use Rattle.ddr4_port.proofs.Telling.{tells-served}
use Rattle.ddr4_port.proofs.Working.{works}
use Rattle.ddr4_port.proofs.port.Ddr4PortChannelPort.work.Goals as goal

pub invariant_of-self : goal.invariant_of-self
invariant_of-self g c =
    let s = c.self.inside.channel.value in
    let did = c.work-done.ensures in
    let mains = rw (← c.self.view_is) at c.requires.mains in
    let running = (c.self.invariant.1.staged.mains mains).running in
    right-worked (g.M.LineMap.is_lawful c.self.inside.map.now) (g.M.LineMap.geometry_of c.self.inside.map.now) (g.M.LineMap.place_of c.self.inside.map.now) s c.work-done.new.self (ap (λ (x : ChannelState). x.checked) (rw c.deref_mut.ensures.value at did.rest)) (rw c.deref.ensures at c.always.ensures)
    c.self.inside.stage c.work-done.result mains c.self.invariant (work-sends s c.work-done.result running (rw c.deref_mut.ensures.value at did.none)) (rw c.deref_mut.ensures.value at did.stays) (rw c.deref_mut.ensures.value at did.issues)

pub returns-clause-served : goal.returns-clause-served
returns-clause-served g c = rw (← c.self.view_is) (tells-served c.self.inside.channel.value c.work-done.new.self c.work-done.result (rw c.deref_mut.ensures.value at c.work-done.ensures.issues))

pub returns-clause-next : goal.returns-clause-next
returns-clause-next g c =
    let s = c.self.inside.channel.value in
    let did = c.work-done.ensures in
    let mains = rw (← c.self.view_is) at c.requires.mains in
    let running = (c.self.invariant.1.staged.mains mains).running in
    rw (← c.self.view_is)
    (works-next s c.self.invariant.1.channel.contents.order c.work-done.new.self c.work-done.result (work-rests s c.work-done.result running (rw c.deref_mut.ensures.value at did.none)) (work-sends s c.work-done.result running (rw c.deref_mut.ensures.value at did.none)) (rw c.deref_mut.ensures.value at did.issues))

pub returns-clause-keeps : goal.returns-clause-keeps
returns-clause-keeps g c =
    let f = g.M.LineMap.place_of c.self.inside.map.now in
    let s = c.self.inside.channel.value in
    let t = c.work-done.new.self in
    let did = c.work-done.ensures in
    rw (← c.self.view_is)
    (carries-seen f s t (ap (λ (x : ChannelState). x.checked) (rw c.deref_mut.ensures.value at did.rest)) (works (places_of f s) s t c.work-done.result c.self.invariant.1.channel.contents (rw c.deref_mut.ensures.value at did.memory) (rw c.deref_mut.ensures.value at did.stays) (rw c.deref_mut.ensures.value at did.issues)))

pub returns-clause-issued : goal.returns-clause-issued
returns-clause-issued g c =
    let did = c.work-done.ensures in
    rw (← c.self.view_is) (works-issues c.self.inside.channel.value c.work-done.new.self c.work-done.result (rw c.deref_mut.ensures.value at did.stays) (rw c.deref_mut.ensures.value at did.issues))
