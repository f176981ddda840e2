-- A call of the whole module.
use Rattle.std.proofs.Common.{ap, map, refl, subst, sym, ◌∙◌, ◌≡◌}
use Rattle.line_memory.specs.History.{Recorded}
use Rattle.module_core.specs.declared.front.Front.{Front}
use Rattle.board_desk.specs.Locking.{CallTells}
use Rattle.board_desk.specs.Views.{desk_of}
use Rattle.board_desk.proofs.Frames.{all_leave, all_lend, answers_whole, eight_parts}
use Rattle.board_desk.proofs.Lent.{have_none_yet}
use Rattle.board_desk.proofs.all_locks.whole.Goals as goal

pub call_from-lent-requires-clause-have : goal.call_from-lent-requires-clause-have
call_from-lent-requires-clause-have g c = have_none_yet g.K.ChannelPort g.B.PartsName c.in-Some.desk.known.logs c.clear.new.self.items c.clear.ensures.items

pub together-requires : goal.together-requires
together-requires g c =
    let called = c.call_from-lent.ensures in
    record { came = (called.asked, called.done, called.first, g.W.WholeCall.course c.call_from-lent.result.answer, called.came, called.back) }

pub returns : goal.returns
returns g c =
    let L = g.K.ChannelPort in let M = g.D.SaveDevice in let N = g.E.Energy in let O = g.B.BoardName in let P = g.B.PartsName in
    let called = c.call_from-lent.ensures in
    let lent = c.call_from-lent.result.lent in
    let books = lent.books in
    let answer = c.call_from-lent.result.answer in
    let course = g.W.WholeCall.course answer in
    let told = g.W.WholeCall.told answer in
    let Tells = CallTells L M N O P told in
    let desk = c.in-Some.desk in
    let later = c.together.result in
    let old = desk_of L M N O P desk in
    let ports = c.clear.new.self.items in
    let none = c.clear.ensures.items in
    let Lists = map L.issued in
    let history : later.history ≡ called.done.history = c.together.ensures.history ∙ called.back.history in
    record {
      before = desk;
      after = later;
      old_is = sym c.take.ensures.value ∙ c.in-Some.is;
      new_is = refl;
      calls = record {
        answers = answers_whole L M N O P course Tells old ports none lent.rest _ _ _ _ books.known called (desk_of L M N O P later) (c.together.ensures.answers called.asked called.done called.first course called.came called.back);
        parts = called.parts;
        eight = eight_parts L M N O P course Tells old ports none lent.rest _ _ _ _ books.known called;
        lent = called.lent;
        left = called.left;
        issued = sym (ap Lists (all_leave L M N O P course Tells old ports none lent.rest _ _ _ _ books.known called)) ∙ called.tells.issued ∙ ap Lists (all_lend L M N O P course Tells old ports none lent.rest _ _ _ _ books.known called);
      };
      tells = subst (λ (h : Recorded). told desk.split.front.saved desk.history h) (sym history)
          (subst (λ (h : Recorded). told desk.split.front.saved h called.done.history) called.record_is
          (subst (λ (f : Front). told f.saved called.asked.history called.done.history) called.front called.tells.tells));
    }
