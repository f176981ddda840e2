use Rattle.std.proofs.Common.{rules}
use Rattle.interleave_map.specs.declared.ready.Interleaving.TheVariants.{Xor}
use Rattle.interleave_map.proofs.Closures.{closures_by_ready}
use Rattle.tests_timing.proofs.tests.maps.try_xor.Goals as goal

pub new-map-requires : goal.new-map-requires
new-map-requires g c = closures_by_ready c.args.checked Xor (search rules) (record { callable = search rules; value = search rules; only = search rules })
