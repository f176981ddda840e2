-- Cells of places, and the map `lines`.
use Rattle.std.proofs.Common.{◌≡◌, ℕ, ◌+◌, ◌*◌, ◌/◌, ◌%◌, ◌<◌, ◌≤◌, ap, subst, ◌∙◌, arith}
use Rattle.std.proofs.lemmas.Nat.{mul-add-lt, div-add-mod'}
use Rattle.std.proofs.Math.Nat.{mod-lt, div-lt_iff_lt-mul, mul-le-mul_left, le_trans, le_of_lt}
use Rattle.ddr4_timing.specs.declared.timing.Geometry.{Geometry}
use Rattle.ddr4_timing.specs.Limits.{lines_of, IsSmall}
use Rattle.ddr4_timing.specs.declared.place.Place.{Place}
use Rattle.ddr4_timing.specs.Places.{LiesIn}
use Rattle.interleave_map.specs.Cells.{cells_of, cell_of}
use Rattle.interleave_map.specs.Interleaving.{place_by_lines, line_by_lines}
use Rattle.interleave_map.specs.Inverse.{IsInverse}
use Rattle.interleave_map.proofs.Digits.{left_factor, right_factor, le_with_digit, same_digits}

-- each number of the geometry is at least 1
pub record IsWhole (g : Geometry) : Type 0 where
  pub channels : 1 ≤ g.channels
  pub ranks : 1 ≤ g.ranks
  pub groups : 1 ≤ g.groups
  pub banks : 1 ≤ g.banks
  pub rows : 1 ≤ g.rows
  pub columns : 1 ≤ g.columns

pub is_whole : (g : Geometry) → IsSmall g → IsWhole g
unfolding lines_of
is_whole g small =
    let some = small.lines.0 in
    let all : 1 ≤ g.channels * g.ranks * g.groups * g.banks * g.rows * g.columns = omega (arith, some) in
    let rows = left_factor (g.channels * g.ranks * g.groups * g.banks * g.rows) g.columns all in
    let banks = left_factor (g.channels * g.ranks * g.groups * g.banks) g.rows rows in
    let groups = left_factor (g.channels * g.ranks * g.groups) g.banks banks in
    let ranks = left_factor (g.channels * g.ranks) g.groups groups in
    record {
      channels = left_factor g.channels g.ranks ranks;
      ranks = right_factor g.channels g.ranks ranks;
      groups = right_factor (g.channels * g.ranks) g.groups groups;
      banks = right_factor (g.channels * g.ranks * g.groups) g.banks banks;
      rows = right_factor (g.channels * g.ranks * g.groups * g.banks) g.rows rows;
      columns = right_factor (g.channels * g.ranks * g.groups * g.banks * g.rows) g.columns all;
    }

-- the channels have as many lines together as the geometry
pub lines_by_channel : (g : Geometry) → g.channels * cells_of g ≡ lines_of g
unfolding lines_of cells_of
lines_by_channel g = omega arith

pub some_cells : (g : Geometry) → IsSmall g → 8 ≤ cells_of g
some_cells g small =
    let e = mul-le-mul_left (cells_of g) small.channels in
    omega (arith, e, lines_by_channel g, small.lines.0)

pub few_cells : (g : Geometry) → IsSmall g → cells_of g ≤ 65536
few_cells g small =
    let e = mul-le-mul_left (cells_of g) (is_whole g small).channels in
    omega (arith, e, lines_by_channel g, small.lines.1)

-- the rows of a channel's banks
pub few_rows : (g : Geometry) → IsSmall g → g.ranks * g.groups * g.banks * g.rows ≤ 65536
unfolding cells_of
few_rows g small =
    let e = le_with_digit (g.ranks * g.groups * g.banks * g.rows) g.columns 0 (is_whole g small).columns in
    let f = few_cells g small in
    omega (arith, e, f)

-- the banks of all channels, and their rows
pub few_rows_in_all : (g : Geometry) → IsSmall g → g.channels * g.ranks * g.groups * g.banks * g.rows ≤ 65536
unfolding lines_of
few_rows_in_all g small =
    let e = le_with_digit (g.channels * g.ranks * g.groups * g.banks * g.rows) g.columns 0 (is_whole g small).columns in
    omega (arith, e, small.lines.1)

pub cell_within : (g : Geometry) (place : Place) → LiesIn g place → cell_of g place < cells_of g
unfolding cell_of cells_of
cell_within g p lies =
    let ranks = mul-add-lt p.row g.ranks p.rank g.rows lies.row lies.rank in
    let banks = mul-add-lt (p.row * g.ranks + p.rank) g.banks p.bank (g.ranks * g.rows) ranks lies.bank in
    let groups = mul-add-lt ((p.row * g.ranks + p.rank) * g.banks + p.bank) g.groups p.group (g.banks * (g.ranks * g.rows)) banks lies.group in
    let columns = mul-add-lt (((p.row * g.ranks + p.rank) * g.banks + p.bank) * g.groups + p.group) g.columns p.column (g.groups * (g.banks * (g.ranks * g.rows))) groups lies.column in
    let same : g.columns * (g.groups * (g.banks * (g.ranks * g.rows))) ≡ cells_of g = omega arith in
    subst (λ n. cell_of g p < n) same columns

-- the parts of a cell's number are no more than the number
pub record CellParts (g : Geometry) (p : Place) : Type 0 where
  pub rank : p.row * g.ranks + p.rank ≤ 65536
  pub bank : (p.row * g.ranks + p.rank) * g.banks + p.bank ≤ 65536
  pub group : ((p.row * g.ranks + p.rank) * g.banks + p.bank) * g.groups + p.group ≤ 65536
  pub column : (((p.row * g.ranks + p.rank) * g.banks + p.bank) * g.groups + p.group) * g.columns + p.column ≤ 65536

pub cell_parts : (g : Geometry) (place : Place) → IsSmall g → LiesIn g place → CellParts g place
unfolding cell_of
cell_parts g p small lies =
    let whole = is_whole g small in
    let rank = p.row * g.ranks + p.rank in
    let bank = rank * g.banks + p.bank in
    let group = bank * g.groups + p.group in
    let cell : group * g.columns + p.column ≤ 65536 = le_trans (le_of_lt (cell_within g p lies)) (few_cells g small) in
    let groups : group ≤ 65536 = le_trans (le_with_digit group g.columns p.column whole.columns) cell in
    let banks : bank ≤ 65536 = le_trans (le_with_digit bank g.groups p.group whole.groups) groups in
    record {
      rank = le_trans (le_with_digit rank g.banks p.bank whole.banks) banks;
      bank = banks;
      group = groups;
      column = cell;
    }

-- places are the same where their numbers are
pub same_place : (p q : Place) → p.channel ≡ q.channel → p.rank ≡ q.rank → p.group ≡ q.group → p.bank ≡ q.bank → p.row ≡ q.row → p.column ≡ q.column → p ≡ q
same_place p q channel rank group bank row column =
    ap (λ n. record { channel = n; rank = p.rank; group = p.group; bank = p.bank; row = p.row; column = p.column }) channel
    ∙ (ap (λ n. record { channel = q.channel; rank = n; group = p.group; bank = p.bank; row = p.row; column = p.column }) rank
    ∙ (ap (λ n. record { channel = q.channel; rank = q.rank; group = n; bank = p.bank; row = p.row; column = p.column }) group
    ∙ (ap (λ n. record { channel = q.channel; rank = q.rank; group = q.group; bank = n; row = p.row; column = p.column }) bank
    ∙ (ap (λ n. record { channel = q.channel; rank = q.rank; group = q.group; bank = q.bank; row = n; column = p.column }) row
    ∙ ap (λ n. record { channel = q.channel; rank = q.rank; group = q.group; bank = q.bank; row = q.row; column = n }) column))))

-- places of one channel with one cell are one place
pub same_cell_same_place : (g : Geometry) (p q : Place) → LiesIn g p → LiesIn g q → p.channel ≡ q.channel → cell_of g p ≡ cell_of g q → p ≡ q
unfolding cell_of
same_cell_same_place g p q in_p in_q channel cell =
    let columns = same_digits g.columns (((p.row * g.ranks + p.rank) * g.banks + p.bank) * g.groups + p.group) p.column (((q.row * g.ranks + q.rank) * g.banks + q.bank) * g.groups + q.group) q.column in_p.column in_q.column cell in
    let groups = same_digits g.groups ((p.row * g.ranks + p.rank) * g.banks + p.bank) p.group ((q.row * g.ranks + q.rank) * g.banks + q.bank) q.group in_p.group in_q.group columns.front in
    let banks = same_digits g.banks (p.row * g.ranks + p.rank) p.bank (q.row * g.ranks + q.rank) q.bank in_p.bank in_q.bank groups.front in
    let ranks = same_digits g.ranks p.row p.rank q.row q.rank in_p.rank in_q.rank banks.front in
    same_place p q channel ranks.last groups.last banks.last ranks.front columns.last

-- the number of a place among all places, which is its line by `lines`
pub number_below : (g : Geometry) (place : Place) → LiesIn g place → line_by_lines g place < lines_of g
unfolding line_by_lines
number_below g p lies = subst (λ n. cell_of g p * g.channels + p.channel < n) (lines_by_channel g) (mul-add-lt (cell_of g p) g.channels p.channel (cells_of g) (cell_within g p lies) lies.channel)

pub same_number_same_place : (g : Geometry) (p q : Place) → LiesIn g p → LiesIn g q → line_by_lines g p ≡ line_by_lines g q → p ≡ q
unfolding line_by_lines
same_number_same_place g p q in_p in_q same =
    let digits = same_digits g.channels (cell_of g p) p.channel (cell_of g q) q.channel in_p.channel in_q.channel same in
    same_cell_same_place g p q in_p in_q digits.last digits.front

-- below a product
div_below : (n k m : ℕ) → 1 ≤ k → n < m * k → n / k < m
div_below n k m some less = (div-lt_iff_lt-mul some).1 less

lies_in : (g : Geometry) (line : ℕ) → IsSmall g → line < lines_of g → LiesIn g (place_by_lines g line)
unfolding lines_of place_by_lines
lies_in g line small less =
    let whole = is_whole g small in
    let all : line < g.rows * g.ranks * g.banks * g.groups * g.columns * g.channels = omega (arith, less) in
    let cell = div_below line g.channels (g.rows * g.ranks * g.banks * g.groups * g.columns) whole.channels all in
    let groups = div_below (line / g.channels) g.columns (g.rows * g.ranks * g.banks * g.groups) whole.columns cell in
    let banks = div_below (line / g.channels / g.columns) g.groups (g.rows * g.ranks * g.banks) whole.groups groups in
    let ranks = div_below (line / g.channels / g.columns / g.groups) g.banks (g.rows * g.ranks) whole.banks banks in
    record {
      channel = mod-lt line whole.channels;
      rank = mod-lt (line / g.channels / g.columns / g.groups / g.banks) whole.ranks;
      group = mod-lt (line / g.channels / g.columns) whole.groups;
      bank = mod-lt (line / g.channels / g.columns / g.groups) whole.banks;
      row = div_below (line / g.channels / g.columns / g.groups / g.banks) g.ranks g.rows whole.ranks ranks;
      column = mod-lt (line / g.channels) whole.columns;
    }

-- a line's cell by `lines` is what its number has above the channel
cell_of_line : (g : Geometry) (line : ℕ) → cell_of g (place_by_lines g line) ≡ line / g.channels
unfolding cell_of place_by_lines
cell_of_line g line =
    let cell = line / g.channels in
    let groups = cell / g.columns in
    let banks = groups / g.groups in
    let ranks = banks / g.banks in
    ap (λ n. ((n * g.banks + banks % g.banks) * g.groups + groups % g.groups) * g.columns + cell % g.columns) (div-add-mod' ranks g.ranks)
    ∙ (ap (λ n. (n * g.groups + groups % g.groups) * g.columns + cell % g.columns) (div-add-mod' banks g.banks)
    ∙ (ap (λ n. n * g.columns + cell % g.columns) (div-add-mod' groups g.groups)
    ∙ div-add-mod' cell g.columns))

back : (g : Geometry) (line : ℕ) → line_by_lines g (place_by_lines g line) ≡ line
unfolding line_by_lines place_by_lines
back g line =
    ap (λ n. n * g.channels + line % g.channels) (cell_of_line g line) ∙ div-add-mod' line g.channels

pub lines_are_inverse : (g : Geometry) → IsSmall g → IsInverse g (place_by_lines g) (line_by_lines g)
lines_are_inverse g small = record { lies_in = λ line below. lies_in g line small below; back = λ line below. back g line }
