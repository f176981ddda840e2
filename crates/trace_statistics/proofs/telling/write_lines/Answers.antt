use Rattle.std.proofs.Common.{◌≡◌, ℕ, List, ◌++◌, ap}
use Rattle.std.specs.Io.KnownBytes.{Appends}
use Rattle.std.proofs.lemmas.Result.{on_ok_weaker}
use Rattle.command_trace.specs.Channels.{issued_to}
use Rattle.trace_statistics.specs.Telling.{AreLinesOf, TellsBelow, TellsRank}
use Rattle.trace_statistics.specs.Texts.{channel_line, rank_line}
use Rattle.trace_statistics.proofs.Writing.{wrote_three}
use Rattle.trace_statistics.proofs.telling.write_lines.Goals as goal

pub returns : goal.returns
returns g c = λ rules.
    let contents = g.W.Write.contents in
    let channel = c.args.channel in
    let list = issued_to channel c.args.statistics.now.given.items in
    let stands = c.channel-of.ensures in
    let total = c.total.result in
    let shared = c.shared.result in
    let banks = c.in_ok-write_banks.ensures list stands in
    let first = channel_line channel (record { numbers = total; last = c.last.result }) shared in
    on_ok_weaker c.write_ranks.result (λ ranks. (
      first ++ (banks.0 ++ ranks.0),
      record {
        total = total;
        shared = shared;
        banks = banks.0;
        ranks = ranks.0;
        of_all = c.total.ensures list stands;
        of_ranks = c.shared.ensures list stands;
        each_bank = banks.1;
        each_rank = ranks.1;
        lines = ap (λ (last : ℕ). channel_line channel (record { numbers = total; last = last }) shared ++ (banks.0 ++ ranks.0)) (c.last.ensures list stands);
      },
      wrote_three (contents c.args.writer.now) (contents c.write_channel.new.writer) (contents c.write_banks.new.writer) (contents c.write_ranks.new.writer) first banks.0 ranks.0
          c.in_ok-write_channel.ensures banks.2 ranks.2,
    )) (c.write_ranks.ensures rules)
