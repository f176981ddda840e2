use Rattle.std.proofs.Common.{refl, subst, sym, IsTrue, ℕ}
use Rattle.std.specs.Int.{is_power_of_two}
use Rattle.std.specs.Int.Count.{ones}
use Rattle.interleave_map.specs.Interleaving.{place_by_lines}
use Rattle.interleave_map.proofs.lines.split.Goals as goal

pub parts_by-ranks-requires : goal.parts_by-ranks-requires
unfolding ones
parts_by-ranks-requires c =
    let four : IsTrue (is_power_of_two 4) = refl in
    subst (λ (size : ℕ). IsTrue (is_power_of_two size)) (sym c.args.checked.now.is_geometry.banks) four

pub returns : goal.returns
unfolding place_by_lines
returns c =
    let cell = c.parts_by-cell.ensures in
    let groups = c.parts_by-groups.ensures in
    let banks = c.parts_by-banks.ensures in
    let ranks = c.parts_by-ranks.ensures in
    let row = c.parts_by-row.ensures in
    rw (row, ranks, banks, groups, cell) refl
