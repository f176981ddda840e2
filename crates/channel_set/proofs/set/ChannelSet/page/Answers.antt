use Rattle.channel_set.proofs.Common.{arith, ◌∙◌, stored_in}
use Rattle.channel_set.proofs.Paging.{page-is}
use Rattle.channel_set.proofs.set.ChannelSet.page.Goals as goal

pub returns : goal.returns
returns g c =
    let channels = c.args.self.now in
    let was = c.loop-index.invariant in
    c.page_bytes.ensures
    ∙ page-is (stored_in g.K.ChannelPort channels.ports.items) channels.terms.lines c.args.page c.loop-index.bytes-items c.requires was.size
    (λ k less. was.lines k (omega (arith, less, was.size, c.loop-index-test.false)))
