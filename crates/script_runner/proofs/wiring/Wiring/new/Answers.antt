use Rattle.std.proofs.Common.{refl, subst}
use Rattle.ddr4_timing.specs.declared.timing.Geometry.{Geometry}
use Rattle.interleave_map.specs.Inverse.{IsInterleaving}
use Rattle.interleave_map.specs.declared.line_map.LineMap.{Ghosts}
use Rattle.interleave_map.specs.declared.ready.Interleaving.{Interleaving}
use Rattle.interleave_map.specs.declared.ready.Interleaving.TheVariants.{Lines, Xor}
use Rattle.ddr4_port.proofs.Shaping.{is-shape}
use Rattle.script_runner.specs.Wiring.{WiredMaps, map_in}
use Rattle.script_runner.proofs.wiring.Wiring.new.Goals as goal

each-interleaves : {M : Type 0} (L : Ghosts M) (wired : WiredMaps M) (g : Geometry) → IsInterleaving g (L.place_of wired.lines_map) → IsInterleaving g (L.place_of wired.xor_map)
    → (map : Interleaving) → IsInterleaving g (L.place_of (map_in wired map))
each-interleaves L wired g lines xor Lines = lines
each-interleaves L wired g lines xor Xor = xor

pub returns-clause-fits : goal.returns-clause-fits
returns-clause-fits g c = λ map.
    let profile = c.args.profile.now in
    let wired : WiredMaps _ = record { lines_map = c.args.lines_map.now; xor_map = c.args.xor_map.now; profile = profile; costs = c.with_retries.result } in
    let L = g.M.LineMap in
    let lines = subst (λ q. IsInterleaving q (L.place_of c.args.lines_map.now)) c.requires.lines_map.geometry c.interleaves.ensures in
    let xor = subst (λ q. IsInterleaving q (L.place_of c.args.xor_map.now)) c.requires.xor_map.geometry c.interleaves-2.ensures in
    record {
      shaped = is-shape (L.place_of (map_in wired map)) profile.checked profile.sizes.depth profile.sizes.reads c.with_retries.result (c.with_retries.ensures.profile profile.checked c.of.ensures.profile)
          (each-interleaves L wired profile.checked.geometry lines xor map);
      lines = refl;
      channels = refl;
    }
