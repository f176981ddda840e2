use Rattle.std.proofs.Common.{refl, subst}
use Rattle.interleave_map.specs.Inverse.{IsInterleaving}
use Rattle.interleave_map.specs.Ready.{place_by}
use Rattle.ddr4_port.proofs.Shaping.{is-shape}
use Rattle.panguhero_c.proofs.wiring.ProfileWires.new.Goals as goal

pub returns-clause-fits : goal.returns-clause-fits
returns-clause-fits c = λ interleaving.
    let profile = c.args.profile.now in let map = c.args.map.now in let places = place_by map.interleaving map.checked.geometry in
    record {
      shaped = is-shape places profile.checked profile.sizes.depth profile.sizes.reads c.with_retries.result (c.with_retries.ensures.profile profile.checked c.of.ensures.profile)
          (subst (λ g. IsInterleaving g places) c.requires c.interleaves.ensures);
      lines = refl;
      channels = refl;
    }
