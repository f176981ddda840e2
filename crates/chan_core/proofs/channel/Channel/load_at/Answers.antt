use Rattle.chan_core.proofs.Telling.{loads}
use Rattle.chan_core.proofs.channel.Channel.load_at.Goals as goal

pub returns-clause-loaded : goal.returns-clause-loaded
returns-clause-loaded c =
    let quiet = rw (← c.self.view_is, ← c.self-inside.view_is) at c.requires.quiet in
    rw (← c.self.view_is, ← c.self-inside.view_is) (loads _ c.args.place c.cell_of-cell.result c.args.bytes c.self-inside.invariant.are quiet c.cell_of-cell.ensures.is)
