use Rattle.std.proofs.Common.{List, ◌≡◌, ◌≤◌, ◌∙◌, All, [], ap, subst, sym}
use Rattle.atomic_table.specs.Seated.{TableId}
use Rattle.board_hosts.specs.SeenMarks.{AllHaveSeen, SeenMarks, seen_marks}
use Rattle.board_hosts.specs.Client.{Client, client}
use Rattle.board_hosts.specs.Marks.{ShowsNoMore}
use Rattle.board_hosts.specs.Opening.{OpeningView}
use Rattle.board_hosts.proofs.Holding.{opening_shows_no_more}
use Rattle.split_board.proofs.starting.start.Goals as goal

pub prepare-requires-clause-seats : goal.prepare-requires-clause-seats
prepare-requires-clause-seats g c =
    let inside = c.opening.inside in
    let board = ap (λ (o : OpeningView). o.board) c.opening.view_is ∙ c.requires.board in
    subst (λ (b : TableId). AllHaveSeen (seen_marks b inside.mark inside.mark) inside.seats.items) board c.opening.invariant.2

pub publish-requires-clause-shown : goal.publish-requires-clause-shown
publish-requires-clause-shown g c =
    let it = c.args.recorded in let inside = c.opening.inside in
    let least = subst (λ (o : OpeningView). o.mark ≤ it.running.front.persisted) (sym c.opening.view_is) c.requires.mark in
    rw (c.accepted.ensures.is, c.mark.ensures)
    (subst (λ (m : SeenMarks). ShowsNoMore it.running.front.accepted it.running.front.persisted m) (sym c.opening.invariant.0)
    (opening_shows_no_more g.K.ChannelPort g.D.SaveDevice g.E.Energy it c.requires.kept inside.marks inside.mark least))

pub returns-clause-hosts : goal.returns-clause-hosts
returns-clause-hosts g c =
    subst (λ (hosts : List Client). All (λ (h : Client). h ≡ client c.args.tables.opening.mark c.args.tables.opening.mark 0 []) hosts) (sym (ap (λ v. v.items) c.lay_out-desk.ensures.hosts))
    (subst (λ (o : OpeningView). All (λ (h : Client). h ≡ client o.mark o.mark 0 []) c.in-Ok.made.hosts.items) c.opening.view_is c.in-Ok.ensures.hosts)

pub returns-clause-lies : goal.returns-clause-lies
returns-clause-lies g c = record { desk = c.lay_out-desk.result.desk; channels = c.lay_out-desk.result.channels; have = c.lay_out-desk.ensures.have }
