use Rattle.std.proofs.Common.{◌≡◌, ◌<◌, ◌∙◌, List, inl, inr, true, false, arith, refl, subst, sym}
use Rattle.auto_precharge.specs.declared.issued.Issued.{Issued}
use Rattle.trace_statistics.specs.Telling.{TellsChannel}
use Rattle.statistics_report.specs.Telling.{AreObjectsOf}
use Rattle.trace_statistics.proofs.Writing.{wrote_more, wrote_none, wrote_nothing}
use Rattle.statistics_report.proofs.telling.write_statistics.Goals as goal
use Rattle.statistics_report.proofs.telling.write_statistics.Goals.{then-is_lawful+in_ok-write_objects, else-is_lawful}

pub loop-channel-init : goal.loop-channel-init
loop-channel-init g c = λ measured.
    wrote_nothing (TellsChannel (AreObjectsOf c.args.rules.now) c.args.rules.now c.args.measured.now.check.given.items) (g.W.Write.contents c.args.writer.now)

pub loop-channel-preserved : goal.loop-channel-preserved
loop-channel-preserved g c = λ measured.
    let contents = g.W.Write.contents in
    let r = c.args.rules.now in
    let channel = c.loop-channel.channel in
    let tells = TellsChannel (AreObjectsOf r) r c.args.measured.now.check.given.items in
    elim c.if-is_lawful.branch [
      | then-is_lawful+in_ok-write_objects w ↦
          let lawful = (c.is_lawful.ensures measured.follows).0 w.if-is_lawful.true in
          let told = w.in_ok-write_objects.ensures measured.rules in
          let small : channel < 8 = omega (arith, r.few_channels, c.loop-channel-test.true) in
          rw w.writer-is (wrote_more tells channel (contents c.args.writer.now) (contents c.loop-channel.writer) (contents w.write_objects.new.writer) told.0
          (inl (lawful, subst (λ (list : List Issued). AreObjectsOf r channel list told.0) (measured.lawful channel small lawful) told.1))
          told.2 (c.loop-channel.invariant measured))
      | else-is_lawful w ↦
          rw w.writer-is (wrote_none tells channel (contents c.args.writer.now) (contents c.loop-channel.writer)
          (inr ((λ holds. let lawful = (c.is_lawful.ensures measured.follows).1 holds in let e : true ≡ false = sym lawful ∙ w.if-is_lawful.false in cc), refl))
          (c.loop-channel.invariant measured))
    ]
