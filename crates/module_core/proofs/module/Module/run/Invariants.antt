use Rattle.std.proofs.Common.{vec_capacity}
use Rattle.std.specs.Prelude.{take}
use Rattle.module_core.specs.Cutting.{AnswersCut}
use Rattle.module_core.specs.Stands.{HasDevice}
use Rattle.module_core.proofs.Common.{◌≡◌, ◌≤◌, assembly, length, setup_of}
use Rattle.module_core.proofs.module.Module.run.Given as goal

abbrev pub invariant-loop-event : goal.invariant-loop-event
invariant-loop-event g l =
    let L = g.K.ChannelPort in let S = g.D.SaveDevice in let E = g.E.Energy in
    record {
      size : HasDevice L l.self (S.state l.device);
      setup : setup_of L l.self ≡ setup_of L l.fn.self;
      count : length l.replies.items ≡ l.event-index;
      room : length l.events ≤ vec_capacity l.replies;
      cut : l.self.front.terms.cut ≡ l.self.front.saved;
      answers : AnswersCut L (take l.event-index l.events) l.replies.items
          (assembly l.fn.self (S.state l.fn.device) (E.gauge l.fn.energy)) (assembly l.self (S.state l.device) (E.gauge l.energy));
    }
