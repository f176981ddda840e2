use Rattle.std.specs.Prelude.{vec_capacity}
use Rattle.slot_store.proofs.Common.{◌*◌, ◌≡◌, OnlyReads, drop, lines_in, true}
use Rattle.slot_store.proofs.checking.read_pages.Given as goal

abbrev pub invariant-loop-page : goal.invariant-loop-page
invariant-loop-page g l =
    let S = g.D.SaveDevice in
    record {
      lines : l.memory.items ≡ lines_in (64 * l.page) (drop l.at (S.state l.initial.device).bytes);
      capacity : vec_capacity l.memory ≡ 64 * l.pages;
      reads : OnlyReads l.page true (S.state l.initial.device) (S.state l.device);
    }
