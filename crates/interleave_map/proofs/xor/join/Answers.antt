use Rattle.std.proofs.Common.{ap, subst, sym, ◌∙◌}
use Rattle.ddr4_timing.specs.Places.{LiesIn}
use Rattle.interleave_map.specs.Interleaving.{line_by_lines, line_by_xor}
use Rattle.interleave_map.proofs.Exchange.{exchanged_lies_in}
use Rattle.interleave_map.proofs.xor.join.Goals as goal

pub join-requires : goal.join-requires
join-requires c =
    let checked = c.args.checked.now in
    subst (LiesIn checked.geometry) (sym c.exchanged_place.ensures) (exchanged_lies_in checked.geometry c.args.place checked.is_small checked.is_geometry c.requires)

pub returns : goal.returns
unfolding line_by_xor
returns c = c.join.ensures ∙ ap (line_by_lines c.args.checked.now.geometry) c.exchanged_place.ensures
