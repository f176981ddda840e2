-- A read of a line of a channel that was looked at.
use Rattle.std.proofs.Common.{All, arith, refl, subst, sym, ◌<◌, ◌∙◌, ◌≡◌}
use Rattle.line_memory.specs.Memory.{after, line_of}
use Rattle.line_memory.specs.Parts.{writes_of}
use Rattle.channel_log.specs.Log.{log_tells}
use Rattle.channel_port.specs.Answers.{IsGot}
use Rattle.nv_machine.specs.State.{base_of_life}
use Rattle.split_module.specs.Telling.{AreOwn}
use Rattle.split_module.proofs.Lent.{read, tells_read}
use Rattle.split_module.proofs.lending.read_on.Goals as goal

pub returns-in-Err-clause-reads : goal.returns-in-Err-clause-reads
returns-in-Err-clause-reads g c = λ shape m logs log s of seen stands on.
    let L = g.K.ChannelPort in
    let front = c.args.front.now in
    let within : c.args.line < front.lines = omega arith in
    let least : c.args.line < shape.lines = subst (λ k. c.args.line < k) s.lines within in
    let full = tells_read L front c.args.part.now c.args.line c.is_full_of_reads.result c.is_full_of_reads.ensures shape m logs log s of seen (on least) in
    (c.in-Err.ensures.refusal shape m c.args.line s.matches least full, refl)

pub returns-in-Ok-clause-reads : goal.returns-in-Ok-clause-reads
returns-in-Ok-clause-reads g c = λ shape m logs log s of seen stands on.
    let L = g.K.ChannelPort in
    let front = c.args.front.now in
    let part = c.args.part.now in
    let later = c.read.new.self in
    let within : c.args.line < front.lines = omega arith in
    let least : c.args.line < shape.lines = subst (λ k. c.args.line < k) s.lines within in
    let full = tells_read L front part c.args.line c.is_full_of_reads.result c.is_full_of_reads.ensures shape m logs log s of seen (on least) in
    let here : (L.view later.port).number ≡ part.channel = sym later.here ∙ c.read.ensures.same.channel in
    let own : AreOwn part.channel (L.view later.port).waits = record {
      writes = subst (λ n. All (λ w. w.channel ≡ n) (L.view later.port).waits.writes) here (g.met.K.ChannelPort.own_writes later.port);
      reads = subst (λ n. All (λ r. r.ticket.channel ≡ n) (L.view later.port).waits.reads) here (g.met.K.ChannelPort.own_reads later.port);
      given = subst (λ n. All (λ t. t.channel ≡ n) (L.view later.port).waits.given) here (g.met.K.ChannelPort.own_tickets later.port);
    } in
    let bytes = line_of (after (base_of_life m.life) (writes_of (log_tells log).written)) c.args.line in
    let got = subst (λ k. IsGot bytes c.args.line k part.channel c.read.result (L.view part.port).waits (L.view later.port).waits) c.in-Ok.ensures.at (c.read.ensures.got part.channel (base_of_life m.life) log stands) in
    read L front part later c.args.line c.read.result c.read.ensures.writes shape m logs log s of seen (on least) own got
    (c.in-Ok.ensures.admitted shape m c.args.line s.matches least full)

pub returns-in-Ok-clause-got : goal.returns-in-Ok-clause-got
returns-in-Ok-clause-got g c = λ base log stands.
    let L = g.K.ChannelPort in
    let part = c.args.part.now in
    let bytes = line_of (after base (writes_of (log_tells log).written)) c.args.line in
    subst (λ k. IsGot bytes c.args.line k part.channel c.read.result (L.view part.port).waits (L.view c.read.new.self.port).waits) c.in-Ok.ensures.at (c.read.ensures.got part.channel base log stands)
