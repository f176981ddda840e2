use Rattle.std.proofs.Common.{◌≡◌, take}
use Rattle.board_use.specs.Ends.{answers_of, receipts_of}
use Rattle.board_use.proofs.ending.gather.Given as goal

abbrev pub invariant-loop-end : goal.invariant-loop-end
invariant-loop-end g l =
    (l.wanted.receipts.items ≡ receipts_of (take l.end-index l.ends)) × (l.wanted.answers.items ≡ answers_of (take l.end-index l.ends))
