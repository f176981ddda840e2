-- A board is put together for good.
use Rattle.std.proofs.Common.{ap, refl, subst, sym, ◌∙◌}
use Rattle.std.proofs.Math.Logic.{∥∥₁_elim, ∥∥₁_map, ∥∥₁_prop}
use Rattle.board_desk.specs.Asking.{pieces_with}
use Rattle.channel_log.specs.Seats.{AllLogs}
use Rattle.split_module.specs.declared.front.SplitFront.{SplitFront}
use Rattle.board_desk.specs.Desk.{DeskView}
use Rattle.board_desk.specs.Loans.{HaveLent}
use Rattle.board_desk.specs.Pieces.{ArePiecesKept}
use Rattle.board_desk.proofs.Joined.{fits_named}
use Rattle.board_desk.proofs.KeptWhole.{pieces_kept}
use Rattle.board_desk.proofs.Parted.{record_joined}
use Rattle.board_desk.proofs.Restored.{fits_lent}
use Rattle.board_desk.proofs.closing.gather_all.Given.{Over}
use Rattle.board_desk.proofs.closing.gather_all.Goals.{After-apart-rest}
use Rattle.board_desk.proofs.closing.gather_all.Goals as goal

module _ (g : Over) (c : After-apart-rest g) where
  abbrev lent : DeskView
  lent = pieces_with g.K.ChannelPort g.D.SaveDevice g.E.Energy g.B.PartsName c.apart-rest.result.rest c.apart-rest.result.books.known.logs

  are_kept : ArePiecesKept g.K.ChannelPort g.B.PartsName lent c.apart-rest.result.rest.pieces.ports.items
  are_kept =
      let L = g.K.ChannelPort in
      let P = g.B.PartsName in
      let rest = c.apart-rest.result.rest in
      let made = c.apart-rest.ensures in
      let desk = c.take_channels.new.self in
      pieces_kept L g.B.BoardName P lent _ _ _ _ _ made.kept rest.pieces.ports.items
      (subst (λ (f : AllLogs). ∥ HaveLent L P f.logs 8 rest.pieces.ports.items ∥₁) (sym made.known)
      (subst (λ ports. ∥ HaveLent L P desk.known.logs 8 ports ∥₁) (sym made.ports) c.take_channels.ensures.have))

pub gather-requires : goal.gather-requires
gather-requires g c =
    let at = goal.at.gather-requires g c in
    let kept = are_kept g at.After-apart-rest in
    let rest = c.apart-rest.result.rest in
    fits_lent g.K.ChannelPort rest.pieces (∥∥₁_elim kept.stands ∥∥₁_prop (λ u. ∥∥₁_map kept.have (λ have.
    fits_named g.K.ChannelPort g.B.PartsName (lent g at.After-apart-rest) rest.pieces.ports.items kept u.0 u.1 have rest.pieces refl refl refl)))

pub new-requires-clause-kept : goal.new-requires-clause-kept
new-requires-clause-kept g c =
    let at = goal.at.new-requires-clause-kept g c in
    let rest = c.apart-rest.result.rest in
    record_joined g.K.ChannelPort g.D.SaveDevice g.E.Energy g.B.PartsName rest.pieces rest.device rest.energy rest.history c.apart-rest.result.books.known.logs (are_kept g at.After-apart-rest) c.gather.result c.gather.ensures.pieces
    c.gather.ensures.stands c.gather.ensures.device c.gather.ensures.energy c.gather.ensures.history

pub returns : goal.returns
returns g c =
    let made = c.gather.ensures.pieces in
    let apart = c.apart-rest.ensures in
    let recorded = c.new.ensures in
    let took = c.take_channels.ensures in
    record {
      front = ap (λ r. r.running.front) recorded ∙ sym made.front ∙ ap (λ (s : SplitFront). s.front) apart.front ∙ took.same.front;
      terms = ap (λ r. r.running.channels.terms) recorded ∙ sym made.terms ∙ apart.terms ∙ took.same.terms;
      costs = ap (λ r. r.running.channels.costs) recorded ∙ sym made.costs ∙ ap (λ (s : SplitFront). s.costs) apart.front ∙ took.same.costs;
      ports = ap (λ r. r.running.channels.ports.items) recorded ∙ sym (ap (λ ports. ports.items) made.ports) ∙ apart.ports ∙ took.ports;
      device = ap (λ r. r.device) recorded ∙ c.gather.ensures.device ∙ apart.device ∙ took.same.device;
      energy = ap (λ r. r.energy) recorded ∙ c.gather.ensures.energy ∙ apart.energy ∙ took.same.energy;
      history = ap (λ r. r.history) recorded ∙ c.gather.ensures.history ∙ apart.history ∙ took.same.history;
    }
