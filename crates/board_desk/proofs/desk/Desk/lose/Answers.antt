-- A loss of mains, once all ports were lent.
use Rattle.std.proofs.Common.{ap, subst, sym, ◌∙◌}
use Rattle.std.specs.Arc.{arc_value}
use Rattle.channel_log.specs.Seats.{AllLogs}
use Rattle.board_desk.specs.Asking.{pieces_with}
use Rattle.board_desk.specs.Calling.{loss_course}
use Rattle.board_desk.specs.Desk.{DeskView}
use Rattle.board_desk.specs.Loans.{HaveLent}
use Rattle.board_desk.specs.Locking.{LossTells}
use Rattle.board_desk.specs.Pieces.{ArePiecesKept}
use Rattle.board_desk.specs.Views.{desk_of}
use Rattle.board_desk.proofs.Frames.{called_last}
use Rattle.board_desk.proofs.KeptWhole.{pieces_kept}
use Rattle.board_desk.proofs.desk.Desk.lose.Given.{Over}
use Rattle.board_desk.proofs.desk.Desk.lose.Goals.{After-apart-rest}
use Rattle.board_desk.proofs.desk.Desk.lose.Goals as goal

module _ (g : Over) (c : After-apart-rest g) where
  abbrev asked : DeskView
  asked = pieces_with g.K.ChannelPort g.D.SaveDevice g.E.Energy g.B.PartsName c.apart-rest.result.rest c.apart-rest.result.books.known.logs

  have : ∥ HaveLent g.K.ChannelPort g.B.PartsName c.apart-rest.result.books.known.logs 8 c.apart-rest.result.rest.pieces.ports.items ∥₁
  have =
      let L = g.K.ChannelPort in
      let P = g.B.PartsName in
      let ports = c.apart-rest.result.rest.pieces.ports.items in
      subst (λ (f : AllLogs). ∥ HaveLent L P f.logs 8 ports ∥₁) (sym c.apart-rest.ensures.known)
      (subst (λ ports. ∥ HaveLent L P c.args.self.known.logs 8 ports ∥₁) (sym c.apart-rest.ensures.ports) c.requires)

  kept : ArePiecesKept g.K.ChannelPort g.B.PartsName asked c.apart-rest.result.rest.pieces.ports.items
  kept = pieces_kept g.K.ChannelPort g.B.BoardName g.B.PartsName asked _ _ _ _ _ c.apart-rest.ensures.kept c.apart-rest.result.rest.pieces.ports.items have

pub lose-rest-requires-clause-kept : goal.lose-rest-requires-clause-kept
lose-rest-requires-clause-kept g c _ _ =
    let at = goal.at.lose-rest-requires-clause-kept g c in
    ∣ (c.apart-rest.result.books.known.logs, kept g at.After-apart-rest) ∣₁

pub returns : goal.returns
returns g c =
    let at = goal.at.returns g c in
    let L = g.K.ChannelPort in let M = g.D.SaveDevice in let N = g.E.Energy in let O = g.B.BoardName in let P = g.B.PartsName in
    let apart = c.apart-rest in
    let rest = apart.result.rest in
    let books = apart.result.books in
    let did = c.lose-rest.ensures in
    let answer = c.lose-rest.result.answer in
    called_last L M N O P (loss_course answer) (LossTells L M N O P g.G.Gate c.args.gate.now answer) (desk_of L M N O P c.args.self) c.args.self.room.items rest c.lose-rest.result.rest books.known (arc_value books.marks) books.seat books.tally.book.total books.logs
    (ap (λ (f : AllLogs). pieces_with L M N P rest f.logs) apart.ensures.known ∙ apart.ensures.view) apart.ensures.kept (have g at.After-apart-rest) apart.ensures.ports
    (did.did books.known.logs (kept g at.After-apart-rest)) (record { led = did.loses; issued = did.issued; drains = did.drains })
