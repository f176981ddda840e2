-- A call of the module that pieces are.
use Rattle.std.proofs.Common.{ap, map, refl, subst, sym, ◌∙◌}
use Rattle.line_memory.specs.History.{Recorded}
use Rattle.module_core.specs.declared.front.Front.{Front}
use Rattle.std.proofs.Math.Logic.{∥∥₁_elim, ∥∥₁_map, ∥∥₁_prop}
use Rattle.std.proofs.Props.{props}
use Rattle.board_desk.proofs.Joined.{fits_named}
use Rattle.board_desk.proofs.Parted.{did, record_joined}
use Rattle.board_desk.proofs.Restored.{fits_lent}
use Rattle.std.specs.Global.{Global}
use Rattle.std.specs.Prelude.{Vec}
use Rattle.board_desk.proofs.pieces.RecordedPieces.call.Goals as goal

pub gather-it-requires : goal.gather-it-requires
gather-it-requires g c =
    let pieces = c.args.self.pieces in
    fits_lent g.K.ChannelPort pieces (∥∥₁_elim c.requires ∥∥₁_prop (λ t. ∥∥₁_elim t.1.stands ∥∥₁_prop (λ u. ∥∥₁_map t.1.have (λ have. fits_named g.K.ChannelPort g.B.PartsName _ pieces.ports.items t.1 u.0 u.1 have pieces refl refl refl))))

pub call-answer-requires : goal.call-answer-requires
call-answer-requires g c =
    let self = c.args.self in
    ∥∥₁_elim c.requires (hlevel props) (λ t.
    record_joined g.K.ChannelPort g.D.SaveDevice g.E.Energy g.B.PartsName self.pieces self.device self.energy self.history t.0 t.1 c.gather-it.result c.gather-it.ensures.pieces c.gather-it.ensures.stands c.gather-it.ensures.device
    c.gather-it.ensures.energy c.gather-it.ensures.history)

pub returns-clause-did : goal.returns-clause-did
returns-clause-did g c = λ logs kept.
    let self = c.args.self in
    let rest = c.of-rest.result in
    did g.K.ChannelPort g.D.SaveDevice g.E.Energy g.B.PartsName self.pieces self.device self.energy self.history logs kept c.gather-it.result c.gather-it.ensures.pieces c.gather-it.ensures.stands c.gather-it.ensures.device
    c.gather-it.ensures.energy c.gather-it.ensures.history c.call-answer.new.it c.call-answer.ensures.setup
    rest.pieces rest.device rest.energy rest.history c.of-rest.ensures.pieces c.of-rest.ensures.fit c.of-rest.ensures.stands c.of-rest.ensures.device c.of-rest.ensures.energy
    (λ port. record { writes = g.met.K.ChannelPort.own_writes port; reads = g.met.K.ChannelPort.own_reads port; given = g.met.K.ChannelPort.own_tickets port })
    (g.W.WholeCall.course c.call-answer.result) (g.met.W.WholeCall.adds_none c.call-answer.result) c.call-answer.ensures.goes c.call-answer.ensures.room c.of-rest.ensures.history c.always.ensures

pub returns-clause-told : goal.returns-clause-told
returns-clause-told g c =
    let told = g.W.WholeCall.told in
    let self = c.args.self in
    let answer = c.call-answer.result in
    let it = c.gather-it.result in
    let after = c.call-answer.new.it in
    subst (λ (h : Recorded). told answer self.pieces.front.front.saved self.history h) (sym c.of-rest.ensures.history)
    (subst (λ (h : Recorded). told answer self.pieces.front.front.saved h after.history) c.gather-it.ensures.history
    (subst (λ (f : Front). told answer f.saved it.history after.history) (sym c.gather-it.ensures.pieces.front) c.call-answer.ensures.told))

pub returns-clause-issued : goal.returns-clause-issued
returns-clause-issued g c =
    let Lists = λ (v : Vec g.row.K.Denot Global). map g.K.ChannelPort.issued v.items in
    ap Lists c.of-rest.ensures.pieces.ports ∙ c.call-answer.ensures.issues.lists ∙ sym (ap Lists c.gather-it.ensures.pieces.ports)
