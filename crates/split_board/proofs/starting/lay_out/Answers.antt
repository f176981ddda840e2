use Rattle.std.proofs.Common.{◌≡◌, ◌∙◌, ap, arith, map, refl, sym}
use Rattle.std.specs.Arc.{arc_value}
use Rattle.std.specs.List.{range_with_len}
use Rattle.module_core.specs.declared.front.Front.{Front}
use Rattle.split_module.specs.Telling.{AreOwn}
use Rattle.split_board.proofs.Beginning.{accepted_is, below_eight, count, desk_kept, few, first_ports, laid_as, lines_laid}
use Rattle.split_board.proofs.starting.lay_out.Goals as goal

pub begin_channels-channels-requires-clause-eight : goal.begin_channels-channels-requires-clause-eight
begin_channels-channels-requires-clause-eight g c =
    let split = c.of-ports.ensures in let asked = c.requires.named in let it = c.args.recorded in let pieces = c.of-ports.result in
    let L = g.K.ChannelPort in let M = g.D.SaveDevice in let N = g.E.Energy in let O = g.B.BoardName in let P = g.B.PartsName in let table = c.args.made.lines in
    let laid : table ≡ map (λ line. (P.make.place_of line).channel) (range_with_len 0 P.make.lines) = laid_as P it c.args.made.lines it.running.channels c.requires.lines refl asked.made in
    let laws : (port : g.row.K.Denot) → AreOwn (L.view port).number (L.view port).waits =
    λ port. record { writes = g.met.K.ChannelPort.own_writes port; reads = g.met.K.ChannelPort.own_reads port; given = g.met.K.ChannelPort.own_tickets port } in
    below_eight L M N O P it pieces split.pieces split.stands split.fit asked.made asked.ports asked.base asked.whole asked.kept table laid laws

pub begin_channels-channels-requires-clause-to : goal.begin_channels-channels-requires-clause-to
begin_channels-channels-requires-clause-to g c =
    let split = c.of-ports.ensures in let asked = c.requires.named in let it = c.args.recorded in let pieces = c.of-ports.result in
    let L = g.K.ChannelPort in let M = g.D.SaveDevice in let N = g.E.Energy in let O = g.B.BoardName in let P = g.B.PartsName in let table = c.args.made.lines in
    let laid : table ≡ map (λ line. (P.make.place_of line).channel) (range_with_len 0 P.make.lines) = laid_as P it c.args.made.lines it.running.channels c.requires.lines refl asked.made in
    let laws : (port : g.row.K.Denot) → AreOwn (L.view port).number (L.view port).waits =
    λ port. record { writes = g.met.K.ChannelPort.own_writes port; reads = g.met.K.ChannelPort.own_reads port; given = g.met.K.ChannelPort.own_tickets port } in
    accepted_is L M N O P it pieces split.pieces split.stands split.fit asked.made asked.ports asked.base asked.whole asked.kept table laid laws

pub begin_channels-channels-requires-clause-count : goal.begin_channels-channels-requires-clause-count
begin_channels-channels-requires-clause-count g c =
    let split = c.of-ports.ensures in let asked = c.requires.named in let it = c.args.recorded in let pieces = c.of-ports.result in
    let L = g.K.ChannelPort in let M = g.D.SaveDevice in let N = g.E.Energy in let O = g.B.BoardName in let P = g.B.PartsName in let table = c.args.made.lines in
    let laid : table ≡ map (λ line. (P.make.place_of line).channel) (range_with_len 0 P.make.lines) = laid_as P it c.args.made.lines it.running.channels c.requires.lines refl asked.made in
    let laws : (port : g.row.K.Denot) → AreOwn (L.view port).number (L.view port).waits =
    λ port. record { writes = g.met.K.ChannelPort.own_writes port; reads = g.met.K.ChannelPort.own_reads port; given = g.met.K.ChannelPort.own_tickets port } in
    count L M N O P it pieces split.pieces split.stands split.fit asked.made asked.ports asked.base asked.whole asked.kept table laid laws

pub begin_channels-channels-requires-clause-few : goal.begin_channels-channels-requires-clause-few
begin_channels-channels-requires-clause-few g c =
    let split = c.of-ports.ensures in let asked = c.requires.named in let it = c.args.recorded in let pieces = c.of-ports.result in
    let L = g.K.ChannelPort in let M = g.D.SaveDevice in let N = g.E.Energy in let O = g.B.BoardName in let P = g.B.PartsName in let table = c.args.made.lines in
    let laid : table ≡ map (λ line. (P.make.place_of line).channel) (range_with_len 0 P.make.lines) = laid_as P it c.args.made.lines it.running.channels c.requires.lines refl asked.made in
    let laws : (port : g.row.K.Denot) → AreOwn (L.view port).number (L.view port).waits =
    λ port. record { writes = g.met.K.ChannelPort.own_writes port; reads = g.met.K.ChannelPort.own_reads port; given = g.met.K.ChannelPort.own_tickets port } in
    few L M N O P it pieces split.pieces split.stands split.fit asked.made asked.ports asked.base asked.whole asked.kept table laid laws

pub begin_channels-channels-requires-clause-ports : goal.begin_channels-channels-requires-clause-ports
begin_channels-channels-requires-clause-ports g c =
    let split = c.of-ports.ensures in let asked = c.requires.named in let it = c.args.recorded in let pieces = c.of-ports.result in
    let L = g.K.ChannelPort in let M = g.D.SaveDevice in let N = g.E.Energy in let O = g.B.BoardName in let P = g.B.PartsName in let table = c.args.made.lines in
    let laid : table ≡ map (λ line. (P.make.place_of line).channel) (range_with_len 0 P.make.lines) = laid_as P it c.args.made.lines it.running.channels c.requires.lines refl asked.made in
    let laws : (port : g.row.K.Denot) → AreOwn (L.view port).number (L.view port).waits =
    λ port. record { writes = g.met.K.ChannelPort.own_writes port; reads = g.met.K.ChannelPort.own_reads port; given = g.met.K.ChannelPort.own_tickets port } in
    first_ports L M N O P it pieces split.pieces split.stands split.fit asked.made asked.ports asked.base asked.whole asked.kept table laid laws

pub begin_channels-channels-requires-clause-from : goal.begin_channels-channels-requires-clause-from
begin_channels-channels-requires-clause-from g c = ap (λ (f : Front). f.terms.start) c.of-ports.ensures.pieces.front ∙ sym c.requires.named.whole

pub invariant_of-desk : goal.invariant_of-desk
invariant_of-desk g c =
    let split = c.of-ports.ensures in let asked = c.requires.named in let it = c.args.recorded in let pieces = c.of-ports.result in
    let L = g.K.ChannelPort in let M = g.D.SaveDevice in let N = g.E.Energy in let O = g.B.BoardName in let P = g.B.PartsName in let table = c.args.made.lines in
    let laid : table ≡ map (λ line. (P.make.place_of line).channel) (range_with_len 0 P.make.lines) = laid_as P it c.args.made.lines it.running.channels c.requires.lines refl asked.made in
    let laws : (port : g.row.K.Denot) → AreOwn (L.view port).number (L.view port).waits =
    λ port. record { writes = g.met.K.ChannelPort.own_writes port; reads = g.met.K.ChannelPort.own_reads port; given = g.met.K.ChannelPort.own_tickets port } in
    let known = c.begin_channels-channels.new.known in
    let most = few L M N O P it pieces split.pieces split.stands split.fit asked.made asked.ports asked.base asked.whole asked.kept table laid laws in
    record {
      spacious = (let room = c.args.made.ports in omega (arith, room, most));
      kept = desk_kept L M N O P it pieces split.pieces split.stands split.fit asked.made asked.ports asked.base asked.whole asked.kept table laid laws
          known.logs c.begin_channels-channels.ensures.first (arc_value c.args.made.marks) c.args.words.logs known.table c.args.words.seat c.args.words.tally.book.total
          c.args.made.board c.requires.logs c.begin_channels-channels.ensures.table (sym asked.channels ∙ asked.ports) c.requires.shown asked.before c.requires.counted;
    }

pub returns-clause-lines : goal.returns-clause-lines
returns-clause-lines g c =
    let split = c.of-ports.ensures in let asked = c.requires.named in let it = c.args.recorded in let pieces = c.of-ports.result in
    let L = g.K.ChannelPort in let M = g.D.SaveDevice in let N = g.E.Energy in let O = g.B.BoardName in let P = g.B.PartsName in let table = c.args.made.lines in
    let laid : table ≡ map (λ line. (P.make.place_of line).channel) (range_with_len 0 P.make.lines) = laid_as P it c.args.made.lines it.running.channels c.requires.lines refl asked.made in
    let laws : (port : g.row.K.Denot) → AreOwn (L.view port).number (L.view port).waits =
    λ port. record { writes = g.met.K.ChannelPort.own_writes port; reads = g.met.K.ChannelPort.own_reads port; given = g.met.K.ChannelPort.own_tickets port } in
    lines_laid L M N O P it pieces split.pieces split.stands split.fit asked.made asked.ports asked.base asked.whole asked.kept table laid laws (sym asked.channels ∙ asked.ports)

pub returns-clause-have : goal.returns-clause-have
returns-clause-have g c =
    let made = c.of-ports.ensures.pieces in
    record {
      front = sym made.front;
      terms = sym made.terms;
      costs = sym made.costs;
      ports = sym (ap (λ ports. ports.items) made.ports) ∙ c.begin_channels-channels.ensures.ports;
      device = refl;
      energy = refl;
      history = refl;
    }
