use Rattle.live_store.proofs.Blank.{zeros_read}
use Rattle.live_store.proofs.unused.is_zero_behind.Goals as goal

pub returns-clause-zeros : goal.returns-clause-zeros
returns-clause-zeros g c = λ zero.
    zeros_read c.args.at c.args.front (g.D.SaveDevice.state c.args.device.now).bytes c.in_ok-page.page c.requires.within c.requires.front c.in_ok-page.ensures.page (c.are_zero.ensures zero)
