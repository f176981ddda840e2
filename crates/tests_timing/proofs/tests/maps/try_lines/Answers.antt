use Rattle.std.proofs.Common.{rules}
use Rattle.interleave_map.specs.declared.ready.Interleaving.TheVariants.{Lines}
use Rattle.interleave_map.proofs.Closures.{closures_by_ready}
use Rattle.tests_timing.proofs.tests.maps.try_lines.Goals as goal

pub new-map-requires : goal.new-map-requires
new-map-requires g c = closures_by_ready c.args.checked Lines (search rules) (record { callable = search rules; value = search rules; only = search rules })
