use Rattle.std.specs.Prelude.{IfOk}
use Rattle.std.proofs.Common.{◌≡◌, ℕ, subst}
use Rattle.nv_session.proofs.Common.{IsShapeFor}
use Rattle.channel_port.specs.Shape.{Shape}
use Rattle.slot_store.specs.declared.restoring.Restored.{Restored}
use Rattle.nv_session.proofs.Beginning.{BeginsLife}
use Rattle.ddr4_timing.specs.declared.timing.Checked.{Checked}
use Rattle.nv_session.proofs.session.Session.open.Goals as goal

pub returns-clause-begins : goal.returns-clause-begins
returns-clause-begins g c =
    let self = c.args.self.now in let shape : Shape = g.A.Wires.shape self.wires c.args.map in let fits : IsShapeFor self.profile shape = self.fits c.args.map in
    let it : Restored = c.args.restored in
    subst (λ (lines : ℕ). IfOk c.open.result (BeginsLife g.K.ChannelPort it.head it.lines.items lines)) fits.lines c.open.ensures.begins

pub returns-clause-checked : goal.returns-clause-checked
returns-clause-checked g c = subst (λ (k : Checked). IfOk c.open.result (λ it. it.channels.terms.checked ≡ k)) c.args.self.now.wired c.open.ensures.checked
