use Rattle.std.proofs.Common.{◌<◌, arith, refl}
use Rattle.ddr4_timing.proofs.Addresses.{has_room}
use Rattle.trace_statistics.specs.declared.phase.Phase.TheVariants.{Closed}
use Rattle.trace_statistics.proofs.channel.Channel.bank.Goals as goal

pub returns : goal.returns
returns c list s =
    let few = c.args.rules.now.few_banks in
    let small : c.args.at.rank < 8 = omega (arith, few.ranks, c.requires.rank) in
    rw c.slot_of.ensures.value (((s.ranks c.args.at.rank _ small).banks c.args.at Closed _ (has_room c.args.rules.now.geometry c.args.at few c.requires) refl).numbers)
