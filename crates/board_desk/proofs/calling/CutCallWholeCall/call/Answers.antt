use Rattle.std.proofs.Common.{ap, arith, ℕ, ◌∙◌, ◌≤◌}
use Rattle.line_memory.specs.History.{cut_at}
use Rattle.board_hosts.proofs.Keeping.{counted_with, starts_with}
use Rattle.board_desk.proofs.CutCalled.{goes_by_cut}
use Rattle.channel_set.specs.Issuing.{issued_in}
use Rattle.channel_set.specs.declared.set.ChannelSet.{ChannelSet}
use Rattle.board_desk.proofs.calling.CutCallWholeCall.call.Goals as goal

pub cut-requires-clause-from : goal.cut-requires-clause-from
cut-requires-clause-from g c =
    let it = c.args.it.now in
    let starts = starts_with g.K.ChannelPort g.D.SaveDevice g.E.Energy it c.requires in
    let stored : it.running.front.terms.cut ≤ it.running.front.saved = it.running.front.stored in
    let at = c.saved-from.ensures in
    omega (arith, starts, stored, at)

pub cut-requires-clause-all : goal.cut-requires-clause-all
cut-requires-clause-all g c =
    let it = c.args.it.now in
    let counts = counted_with g.K.ChannelPort g.D.SaveDevice g.E.Energy it c.requires in
    let settled : it.running.front.saved ≤ it.running.front.accepted = it.running.front.settled in
    let at = c.saved-from.ensures in
    omega (arith, counts, settled, at)

pub returns-clause-goes : goal.returns-clause-goes
returns-clause-goes g c =
    let it = c.args.it.now in
    goes_by_cut g.K.ChannelPort g.D.SaveDevice g.E.Energy it c.cut-gone.new.self c.cut.new.self c.cut-gone.ensures.cuts c.cut-gone.ensures.to (c.cut.ensures ∙ ap (λ (k : ℕ). cut_at k it.history) c.saved-from.ensures)

pub returns-clause-issues : goal.returns-clause-issues
returns-clause-issues g c =
    let same = c.cut-gone.ensures.cuts.channels in
    record { lists = ap (issued_in g.K.ChannelPort) same; checked = ap (λ (s : ChannelSet _ _). s.terms.checked) same }
