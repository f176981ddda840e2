use Rattle.std.proofs.Common.{rules}
use Rattle.interleave_map.specs.declared.ready.Interleaving.TheVariants.{Xor}
use Rattle.interleave_map.proofs.Closures.{closures_by_ready}
use Rattle.tests_timing.proofs.tests.maps.place_by_map.Goals as goal

pub new-requires : goal.new-requires
new-requires c = closures_by_ready c.args.checked Xor (search rules) (record { callable = search rules; value = search rules; only = search rules })
