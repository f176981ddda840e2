use Rattle.chan_core.proofs.Lasting.{run-lasts}
use Rattle.chan_core.proofs.laws.commands_keep.Goals as goal

pub returns : goal.returns
returns c = record {
  checked = λ old new commands runs. (run-lasts old commands new runs).checked;
  channel = λ old new commands runs. (run-lasts old commands new runs).channel;
  numbers = λ old new commands n runs. (run-lasts old commands new runs).numbers n;
}
