use Rattle.std.proofs.Common.{List, set, ap, ◌∙◌}
use Rattle.std.proofs.lemmas.List.{drop-set-add}
use Rattle.gap_list.specs.Bounded.{Bounded}
use Rattle.gap_list.proofs.list.GapList.set.Goals as goal

pub returns : goal.returns
returns g c =
    let list = c.self.inside in
    ap (λ (xs : List g.row.T.Denot). record { most = list.most; items = xs }) (drop-set-add list.start list.row.items c.args.place c.args.item)
    ∙ ap (λ (l : Bounded g.row.T.Denot). record l { items = set l.items c.args.place c.args.item }) c.self.view_is
