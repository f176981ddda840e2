use Rattle.sha2.specs.Hashers.{Holds256}
use Rattle.save_image.specs.Body.{bytes_of}
use Rattle.slot_store.proofs.Common.{◌*◌, OnlyReads, drop, lines_in, true}
use Rattle.slot_store.proofs.checking.body_digest.Given as goal

abbrev pub invariant-loop-page : goal.invariant-loop-page
invariant-loop-page g l =
    let S = g.D.SaveDevice in
    record {
      holds : Holds256 l.hasher (bytes_of (lines_in (64 * l.page) (drop l.at (S.state l.initial.device).bytes)));
      reads : OnlyReads l.page true (S.state l.initial.device) (S.state l.device);
    }
