use Rattle.channel_log.proofs.RuleSteps.{begins}
use Rattle.channel_log.proofs.table.ChannelLogs.new.Goals as goal

pub of_words-requires : goal.of_words-requires
of_words-requires c = begins
