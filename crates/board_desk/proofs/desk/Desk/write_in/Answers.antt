use Rattle.std.proofs.Common.{ℕ, ◌∙◌, ap, append-nil, arith, refl, subst}
use Rattle.arm_state.specs.declared.refusal.WriteRefusal.{WriteRefusal}
use Rattle.nv_machine.specs.declared.events.Accepted.{Accepted}
use Rattle.nv_machine.specs.declared.events.Event.TheVariants as events
use Rattle.nv_machine.specs.declared.events.Reply.TheVariants as replies
use Rattle.board_hosts.proofs.Common.{Client, Ok, Result, SeenMarks, told_at}
use Rattle.board_desk.specs.Answering.{DeskAnswers}
use Rattle.board_desk.specs.Views.{desk_of}
use Rattle.board_desk.proofs.desk.Desk.write_in.Goals.{in-Ok, in-Err}
use Rattle.board_desk.proofs.desk.Desk.write_in.Goals as goal

pub returns-clause-writes : goal.returns-clause-writes
returns-clause-writes g c =
    let view = desk_of g.K.ChannelPort g.D.SaveDevice g.E.Energy g.B.BoardName g.B.PartsName in
    let Told : Result Accepted WriteRefusal → Type 0 = λ r. DeskAnswers g.B.PartsName c.args.channel.now.number (events.Write c.args.write) (replies.Write r) (view c.args.self.now) (view c.write.new.self) in
    let writes = ap (λ (host : Client). host.writes) c.host.view_is in
    elim c.match-write.branch [
      | in-Ok w ↦ rw w.result-is (
        subst (λ (mark : ℕ). Told (Ok (told_at w.in-Ok.accepted.number mark))) w.in-Ok.ensures.accepts.mark w.in-Ok.ensures.answers,
        record {
          number = w.in-Ok.ensures.accepts.number;
          line = refl;
          stored = refl;
          seen = omega (arith, ap (λ (s : SeenMarks). s.accepted) w.in-Ok.ensures.seen, w.in-Ok.ensures.accepts.number, w.in-Ok.ensures.accepts.one_more);
          one = omega (arith, w.in-Ok.ensures.amount, writes);
          adds = w.in-Ok.ensures.history;
        },
      )
      | in-Err w ↦ rw w.result-is
          (w.in-Err.ensures.answers, record { none = omega (arith, w.in-Err.ensures.amount, writes); stays = w.in-Err.ensures.history ∙ append-nil _ })
    ]

pub returns-clause-puts : goal.returns-clause-puts
returns-clause-puts g c =
    elim c.match-write.branch [
      | in-Ok w ↦ rw w.result-is w.in-Ok.ensures.puts
      | in-Err w ↦ rw w.result-is tt
    ]

pub returns-clause-keeps : goal.returns-clause-keeps
returns-clause-keeps g c =
    elim c.match-write.branch [
      | in-Ok w ↦ rw w.result-is tt
      | in-Err w ↦ rw w.result-is w.in-Err.ensures.keeps
    ]
