use Rattle.std.proofs.Common.{◌<◌, arith, length}
use Rattle.trace_statistics.proofs.ListSteps.{channel_more}
use Rattle.trace_statistics.proofs.lists.measure_lists.Goals as goal

pub loop-channel-preserved : goal.loop-channel-preserved
loop-channel-preserved c =
    let inside : c.loop-channel.channel < length c.args.channels.now = omega (arith, c.min-channel-end.ensures, c.loop-channel-test.true) in
    record {
      follows = c.take_list.ensures.follows;
      lawful = c.take_list.ensures.lawful;
      rules = c.take_list.ensures.rules;
      given = λ early. channel_more _ c.args.channels.now c.loop-channel.channel c.index-channels-channel.result c.deref.result.now _ _ inside
          c.index-channels-channel.is c.deref.ensures.value early (c.loop-channel.invariant.given early) c.take_list.ensures.given;
    }
