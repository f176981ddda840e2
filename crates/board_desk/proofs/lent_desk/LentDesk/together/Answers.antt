-- The desk is put together behind a call.
use Rattle.std.proofs.Common.{ap, ◌∙◌}
use Rattle.board_hosts.specs.SeenMarks.{seen_marks}
use Rattle.board_desk.specs.Asking.{pieces_with}
use Rattle.board_desk.proofs.Frames.{all_restated, did_then}
use Rattle.board_desk.proofs.KeptWhole.{call_answers, kept_whole, shows_whole}
use Rattle.board_desk.proofs.lent_desk.LentDesk.together.Goals as goal

pub publish-requires-clause-shown : goal.publish-requires-clause-shown
publish-requires-clause-shown g c =
    let L = g.K.ChannelPort in let M = g.D.SaveDevice in let N = g.E.Energy in let O = g.B.BoardName in let P = g.B.PartsName in
    let came = c.requires.came in
    let self = c.args.self in
    let did = did_then L M N O P came.1 self.rest came.2 self.books.known came.5 came.3 came.0 came.4.did in
    rw (c.accepted.ensures.is, c.mark.ensures)
    (shows_whole L O P (pieces_with L M N P came.0 came.2.logs) _ self.books.seat _ _ _ came.4.kept came.3 (pieces_with L M N P self.rest self.books.known.logs) came.1.pieces.ports.items did)

pub invariant_of-result : goal.invariant_of-result
invariant_of-result g c =
    let L = g.K.ChannelPort in let M = g.D.SaveDevice in let N = g.E.Energy in let O = g.B.BoardName in let P = g.B.PartsName in
    let came = c.requires.came in
    let self = c.args.self in
    let did = did_then L M N O P came.1 self.rest came.2 self.books.known came.5 came.3 came.0 came.4.did in
    record {
      spacious = came.5.room;
      kept = kept_whole L O P (pieces_with L M N P came.0 came.2.logs) _ self.books.seat _ _ _ came.4.kept came.3 (pieces_with L M N P self.rest self.books.known.logs) came.1.pieces.ports.items did
          (all_restated L M N O P came.1 self.rest came.2 self.books.known came.5) c.publish.new.seat c.deref.result.now c.deref.ensures
          (c.publish.ensures ∙ ap (λ n. seen_marks c.deref.result.now n c.mark.result) c.accepted.ensures.is ∙ ap (λ n. seen_marks c.deref.result.now self.rest.pieces.front.front.accepted n) c.mark.ensures)
          self.books.known.table came.5.table;
    }

pub returns-clause-answers : goal.returns-clause-answers
returns-clause-answers g c = λ asked done first course came come.
    let L = g.K.ChannelPort in let M = g.D.SaveDevice in let N = g.E.Energy in let O = g.B.BoardName in let P = g.B.PartsName in
    let self = c.args.self in
    call_answers L O P (pieces_with L M N P asked first.logs) _ self.books.seat _ _ _ came.kept course (pieces_with L M N P self.rest self.books.known.logs) done.pieces.ports.items
    (did_then L M N O P done self.rest first self.books.known come course asked came.did) (all_restated L M N O P done self.rest first self.books.known come)
