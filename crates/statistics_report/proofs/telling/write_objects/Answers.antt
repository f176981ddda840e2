use Rattle.std.proofs.Common.{◌≡◌, ℕ, List, ◌++◌, ap}
use Rattle.std.proofs.KnownBytes.{Appends-trans}
use Rattle.std.proofs.lemmas.Result.{on_ok_weaker}
use Rattle.command_trace.specs.Channels.{issued_to}
use Rattle.statistics_report.specs.Objects.{channel_data, shared_data}
use Rattle.statistics_report.specs.Telling.{AreObjectsOf, object_line}
use Rattle.trace_statistics.proofs.Writing.{wrote_three}
use Rattle.statistics_report.proofs.telling.write_objects.Goals as goal

pub returns : goal.returns
returns g c = λ rules.
    let contents = g.W.Write.contents in
    let channel = c.args.channel in
    let list = issued_to channel c.args.statistics.now.given.items in
    let stands = c.channel-of.ensures in
    let total = c.total.result in
    let shared = c.shared.result in
    let ranks = c.in_ok-write_ranks.ensures rules in
    let first = object_line (channel_data channel c.last.result total) in
    let second = object_line (shared_data channel shared) in
    on_ok_weaker c.write_banks.result (λ banks. (
      first ++ (second ++ (ranks.0 ++ banks.0)),
      record {
        total = total;
        shared = shared;
        ranks = ranks.0;
        banks = banks.0;
        of_all = c.total.ensures list stands;
        of_ranks = c.shared.ensures list stands;
        each_rank = ranks.1;
        each_bank = banks.1;
        objects = ap (λ (last : ℕ). object_line (channel_data channel last total) ++ (second ++ (ranks.0 ++ banks.0))) (c.last.ensures list stands);
      },
      Appends-trans (contents c.args.writer.now) (contents c.write_channel.new.writer) (contents c.write_banks.new.writer) first (second ++ (ranks.0 ++ banks.0)) c.in_ok-write_channel.ensures
          (wrote_three (contents c.write_channel.new.writer) (contents c.write_shared.new.writer) (contents c.write_ranks.new.writer) (contents c.write_banks.new.writer) second ranks.0 banks.0
          c.in_ok-write_shared.ensures ranks.2 banks.2),
    )) (c.write_banks.ensures list stands)
