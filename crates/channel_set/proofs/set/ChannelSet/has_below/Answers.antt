use Rattle.std.proofs.Common.{tests}
use Rattle.std.proofs.lemmas.Iterator.{YieldsList-from_slice}
use Rattle.std.proofs.lemmas.Iterator.Search.{any_from_yields_List}
use Rattle.channel_set.proofs.Common.{rules, sym, ◌∙◌, list_any, nat_lt, Waiting}
use Rattle.channel_set.proofs.Counted.{writes_in}
use Rattle.channel_set.proofs.Piles.{any-pile}
use Rattle.channel_set.proofs.set.ChannelSet.has_below.Goals as goal

pub returns : goal.returns
returns g c =
    let L = g.K.ChannelPort in
    let ports = c.args.self.now.ports.items in
    let test = λ (w : Waiting). nat_lt w.number c.args.number in
    any_from_yields_List (λ port. list_any test (writes_in L port)) _ _ _ c.any.ensures.ran (YieldsList-from_slice ports cc) (λ x b q k. search (rules, tests))
    ∙ sym (any-pile test (writes_in L) ports)
