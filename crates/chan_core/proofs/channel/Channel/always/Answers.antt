use Rattle.chan_core.proofs.RightContents.{right-contents}
use Rattle.chan_core.proofs.channel.Channel.always.Goals as goal

pub returns : goal.returns
returns c =
    let is = c.self.invariant in
    rw (← c.self.view_is) (record {
      contents = rw (← c.self-inside.view_is) (right-contents _ c.self-inside.invariant.are (rw c.requests-order.ensures.value at c.requests-order.ensures.order));
      lawful = rw is.checked at is.stands.lawful;
      early = rw is.clock at is.early;
      phase = is.phase;
    })
