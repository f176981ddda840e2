use Rattle.std.proofs.Common.{◌≡◌, ◌∙◌, ℕ, List, inl, inr, true, false, ap, subst, sym}
use Rattle.command_trace.specs.Sources.{bytes_of}
use Rattle.command_trace.specs.declared.tally.BrokenRule.{BrokenRule}
use Rattle.report_json.specs.Checked.{TellsChannel, TellsEachTally, TellsTallies}
use Rattle.report_json.specs.Verdicts.{lawful_in}
use Rattle.trace_statistics.proofs.Writing.{wrote_more, wrote_nothing}
use Rattle.report_json.proofs.verdicts.write_tallies.Goals as goal
use Rattle.report_json.proofs.verdicts.write_tallies.Goals.{then-is_lawful+in_ok-write_lawful, else-is_lawful+in_ok-tallies+in_ok-write_channel}

pub loop-channel-init : goal.loop-channel-init
loop-channel-init g c = λ follows.
    let r = c.args.rules.now in let check = c.args.check.now in let j = c.args.is_json in
    wrote_nothing (TellsChannel (TellsTallies r c.args.form (bytes_of c.args.source.now) j) r check j) (g.W.Write.contents c.args.writer.now)

pub loop-channel-preserved : goal.loop-channel-preserved
loop-channel-preserved g c = λ follows.
    let contents = g.W.Write.contents in
    let r = c.args.rules.now in let check = c.args.check.now in let j = c.args.is_json in
    let channel = c.loop-channel.channel in
    let tells = TellsChannel (TellsTallies r c.args.form (bytes_of c.args.source.now) j) r check j in
    let old = contents c.args.writer.now in let mid = contents c.loop-channel.writer in
    elim c.if-is_lawful.branch [
      | then-is_lawful+in_ok-write_lawful w ↦
          rw w.writer-is (wrote_more tells channel old mid (contents w.write_lawful.new.writer) (lawful_in j channel w.count.result)
          (inl ((c.is_lawful.ensures follows).0 w.if-is_lawful.true, ap (λ (n : ℕ). lawful_in j channel n) (w.count.ensures r follows)))
          w.in_ok-write_lawful.ensures (c.loop-channel.invariant follows))
      | else-is_lawful+in_ok-tallies+in_ok-write_channel w ↦
          let told = w.in_ok-write_channel.ensures in
          rw w.writer-is (wrote_more tells channel old mid (contents w.write_channel.new.writer) told.0
          (inr (
            (λ holds. let lawful = (c.is_lawful.ensures follows).1 holds in let e : true ≡ false = sym lawful ∙ w.if-is_lawful.false in cc),
            (
              w.in_ok-tallies.tallies.items,
              w.in_ok-tallies.ensures,
              subst (λ (tallies : List BrokenRule). TellsEachTally j channel tallies told.0) w.deref.ensures.value told.1,
            ),
          ))
          told.2 (c.loop-channel.invariant follows))
    ]
