-- Mains are lost, of the module that pieces are.
use Rattle.std.proofs.Common.{ap, map, refl, sym, ◌∙◌}
use Rattle.std.specs.Global.{Global}
use Rattle.std.specs.Prelude.{Vec}
use Rattle.std.proofs.Math.Logic.{∥∥₁_elim, ∥∥₁_map, ∥∥₁_prop}
use Rattle.std.proofs.Props.{props}
use Rattle.board_desk.specs.Calling.{loss_course}
use Rattle.board_desk.proofs.Joined.{fits_named}
use Rattle.split_module.specs.Telling.{AreOwn}
use Rattle.board_desk.proofs.Drained.{drains_same}
use Rattle.board_desk.proofs.Quiet.{undrained_by}
use Rattle.board_desk.proofs.Parted.{did, lost_restated, record_joined}
use Rattle.board_desk.proofs.Restored.{fits_lent}
use Rattle.board_desk.proofs.pieces.RecordedPieces.lose.Given.{Over}
use Rattle.board_desk.proofs.pieces.RecordedPieces.lose.Goals.{After-of-rest}
use Rattle.board_desk.proofs.pieces.RecordedPieces.lose.Goals as goal

pub gather-it-requires : goal.gather-it-requires
gather-it-requires g c =
    let pieces = c.args.self.pieces in
    fits_lent g.K.ChannelPort pieces (∥∥₁_elim c.requires.kept ∥∥₁_prop (λ t. ∥∥₁_elim t.1.stands ∥∥₁_prop (λ u. ∥∥₁_map t.1.have (λ have. fits_named g.K.ChannelPort g.B.PartsName _ pieces.ports.items t.1 u.0 u.1 have pieces refl refl refl))))

pub lose_mains-answer-requires-clause-kept : goal.lose_mains-answer-requires-clause-kept
lose_mains-answer-requires-clause-kept g c _ _ =
    let self = c.args.self in
    ∥∥₁_elim c.requires.kept (hlevel props) (λ t.
    record_joined g.K.ChannelPort g.D.SaveDevice g.E.Energy g.B.PartsName self.pieces self.device self.energy self.history t.0 t.1 c.gather-it.result c.gather-it.ensures.pieces c.gather-it.ensures.stands c.gather-it.ensures.device
    c.gather-it.ensures.energy c.gather-it.ensures.history)

module _ (g : Over) (c : After-of-rest g) where
  laws : (port : g.row.K.Denot) → AreOwn (g.K.ChannelPort.view port).number (g.K.ChannelPort.view port).waits
  laws port = record { writes = (g.met.K.ChannelPort g.world.𝓛 g.world.𝓜 g.world.𝓡 ((λ s x. x), (λ x. x), (λ x. x), λ x. x)).own_writes port; reads = (g.met.K.ChannelPort g.world.𝓛 g.world.𝓜 g.world.𝓡 ((λ s x. x), (λ x. x), (λ x. x), λ x. x)).own_reads port; given = (g.met.K.ChannelPort g.world.𝓛 g.world.𝓜 g.world.𝓡 ((λ s x. x), (λ x. x), (λ x. x), λ x. x)).own_tickets port }

pub returns : goal.returns
returns g c =
    let at = goal.at.returns g c in
    let self = c.args.self in
    let it = c.gather-it in
    let lost = c.lose_mains-answer in
    let rest = c.of-rest.result in
    let of = c.of-rest.ensures in
    record {
      did = λ logs kept.
          did g.K.ChannelPort g.D.SaveDevice g.E.Energy g.B.PartsName self.pieces self.device self.energy self.history logs kept it.result it.ensures.pieces it.ensures.stands it.ensures.device it.ensures.energy it.ensures.history
          lost.new.it lost.ensures.setup rest.pieces rest.device rest.energy rest.history of.pieces of.fit of.stands of.device of.energy (laws g at.After-of-rest)
          (loss_course lost.result) refl lost.ensures.goes lost.ensures.room of.history c.always.ensures;
      loses = λ logs kept.
          lost_restated g.K.ChannelPort g.D.SaveDevice g.E.Energy g.B.PartsName self.pieces self.device self.energy self.history logs kept it.result it.ensures.pieces it.ensures.stands it.ensures.device it.ensures.energy it.ensures.history
          lost.new.it lost.ensures.setup rest.pieces rest.device rest.energy rest.history of.pieces of.fit of.stands of.device of.energy (laws g at.After-of-rest)
          lost.result lost.ensures.loses;
      issued = undrained_by lost.result lost.result refl
          (λ none. ap (λ (v : Vec g.row.K.Denot Global). map g.K.ChannelPort.issued v.items) of.pieces.ports ∙ none.lists ∙ sym (ap (λ (v : Vec g.row.K.Denot Global). map g.K.ChannelPort.issued v.items) it.ensures.pieces.ports)) lost.ensures.issues;
      drains = drains_same g.K.ChannelPort g.G.Gate c.args.gate.now lost.result lost.result refl self.pieces.ports.items rest.pieces.ports.items it.result.running.channels.ports.items lost.new.it.running.channels.ports.items
          (ap (λ (v : Vec g.row.K.Denot Global). v.items) (sym it.ensures.pieces.ports)) (ap (λ (v : Vec g.row.K.Denot Global). v.items) (sym of.pieces.ports)) lost.ensures.drains;
    }
