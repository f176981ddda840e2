-- Mains are lost.
use Rattle.std.proofs.Common.{ap, map, refl, subst, sym, ◌∙◌, ◌≡◌}
use Rattle.arm_state.specs.Modes.{has_ended}
use Rattle.nv_machine.specs.State.{Machine}
use Rattle.board_desk.specs.Asking.{pieces_with}
use Rattle.board_desk.specs.Calling.{loss_course}
use Rattle.board_desk.specs.Desk.{DeskStands, DeskView}
use Rattle.board_desk.specs.Locking.{LossTells}
use Rattle.board_desk.specs.Losing.{LostAtOnce}
use Rattle.board_desk.specs.Views.{desk_of}
use Rattle.board_desk.proofs.Drained.{drains_same}
use Rattle.board_desk.proofs.Frames.{all_leave, all_lend, answers_whole, eight_parts, pieces_same}
use Rattle.board_desk.proofs.KeptWhole.{pieces_kept}
use Rattle.board_desk.proofs.Lent.{have_none_yet}
use Rattle.board_desk.proofs.Quiet.{undrained_by}
use Rattle.board_desk.proofs.Returned.{all_back}
use Rattle.board_desk.proofs.Wholly.{loses_whole}
use Rattle.board_desk.proofs.all_locks.lose.Goals as goal

pub lose_from-lent-requires-clause-have : goal.lose_from-lent-requires-clause-have
lose_from-lent-requires-clause-have g c _ _ = have_none_yet g.K.ChannelPort g.B.PartsName c.in-Some.desk.known.logs c.clear.new.self.items c.clear.ensures.items

pub together-requires : goal.together-requires
together-requires g c =
    let called = c.lose_from-lent.ensures in
    record { came = (called.asked, called.done, called.first, loss_course c.lose_from-lent.result.answer, called.came, called.back) }

pub returns : goal.returns
returns g c =
    let L = g.K.ChannelPort in let M = g.D.SaveDevice in let N = g.E.Energy in let O = g.B.BoardName in let P = g.B.PartsName in
    let called = c.lose_from-lent.ensures in
    let lent = c.lose_from-lent.result.lent in
    let lost = c.lose_from-lent.result.answer in
    let course = loss_course lost in
    let Tells = LossTells L M N O P g.G.Gate c.args.gate.now lost in
    let old = desk_of L M N O P c.in-Some.desk in
    let new = desk_of L M N O P c.together.result in
    let ports = c.clear.new.self.items in
    let none = c.clear.ensures.items in
    let Lists = map L.issued in
    let asked = pieces_with L M N P called.asked called.first.logs in
    let done = called.done in
    let leave = all_leave L M N O P course Tells old ports none lent.rest _ _ _ _ lent.books.known called in
    let lend = all_lend L M N O P course Tells old ports none lent.rest _ _ _ _ lent.books.known called in
    let now_is : pieces_with L M N P done lent.books.known.logs ≡ new = sym (pieces_same L M N O P 0 done lent.rest called.first lent.books.known called.back lent.books.known.logs) ∙ sym c.together.ensures.view in
    record {
      before = c.in-Some.desk;
      after = c.together.result;
      old_is = sym c.take.ensures.value ∙ c.in-Some.is;
      new_is = refl;
      loses = record {
        answers = answers_whole L M N O P course Tells old ports none lent.rest _ _ _ _ lent.books.known called new (c.together.ensures.answers called.asked called.done called.first course called.came called.back);
        loses = loses_whole P lost old asked new called.settles called.same
            (subst (λ (d : DeskView). (m : Machine) → DeskStands P asked m → ∥ LostAtOnce P lost asked d m ∥₁) now_is
            (λ m s. called.tells.led called.first.logs (pieces_kept L O P asked _ _ _ _ _ called.came.kept called.asked.pieces.ports.items called.have) m s lent.books.known.logs
            (all_back L done.pieces.terms.hold (has_ended done.pieces.front.front.mode) done.pieces.ports.items called.first.logs lent.rest.pieces.ports.items lent.books.known.logs called.back.back)));
        parts = called.parts;
        eight = eight_parts L M N O P course Tells old ports none lent.rest _ _ _ _ lent.books.known called;
        lent = called.lent;
        left = called.left;
        issued = undrained_by lost lost refl (λ quiet. sym (ap Lists leave) ∙ quiet ∙ ap Lists lend) called.tells.issued;
        drains = drains_same L g.G.Gate c.args.gate.now lost lost refl _ _ called.asked.pieces.ports.items done.pieces.ports.items lend leave called.tells.drains;
      };
    }
