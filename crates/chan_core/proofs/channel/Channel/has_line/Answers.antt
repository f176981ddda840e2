use Rattle.std.proofs.Common.{rules}
use Rattle.chan_core.proofs.channel.Channel.has_line.Goals as goal

pub returns-then-line-line_count : goal.returns-then-line-line_count
returns-then-line-line_count g c = search rules
