use Rattle.std.proofs.Common.{◌≡◌, ◌==◌, ◌<◌, ◌≤◌, ℕ, if◌then◌else◌, length, slice_index}
use Rattle.crash_table.proofs.left.Left.torn_to.Given as goal

abbrev pub invariant-loop-place : goal.invariant-loop-place
invariant-loop-place l =
    let bytes = l.self.bytes.items in let torn = l.self.torn.items in
    record {
      size : length l.image.items ≡ length bytes;
      done : (j : ℕ) → j < l.place → slice_index l.image.items j ≡ (if slice_index torn j == slice_index bytes j then slice_index bytes j else l.byte);
      rest : (j : ℕ) → l.place ≤ j → slice_index l.image.items j ≡ slice_index bytes j;
    }
