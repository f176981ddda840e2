-- What the commands of a trace come to, as data.
use Rattle.std.specs.Prelude.{ℕ, List, Option, None, Some, codes}
use Rattle.ddr4_timing.specs.declared.place.BankAddress.{BankAddress}
use Rattle.serde_json.specs.Data.{Data, null, number, unsigned, string, object, Members, member, no_members}
use Rattle.trace_statistics.specs.Margins.{mean_of}
use Rattle.trace_statistics.specs.declared.margins.Margins.{Margins}
use Rattle.trace_statistics.specs.declared.numbers.BankNumbers.{BankNumbers}
use Rattle.trace_statistics.specs.declared.numbers.RankNumbers.{RankNumbers}

-- a number behind its name
abbrev pub told : List ℕ → ℕ → Members → Members
told name n behind = member name (number (unsigned n)) behind

-- how many commands of each kind went to banks, and what their accesses found
abbrev pub numbers_data : BankNumbers → Data
numbers_data n =
    object (told (codes "activates") n.activates (told (codes "conflicts") n.conflicts (told (codes "hits") n.hits
    (told (codes "misses") n.misses (told (codes "precharges") n.precharges (told (codes "reads") n.reads
    (told (codes "writes") n.writes no_members)))))))

-- all banks of a channel, and the clock of its last command
abbrev pub channel_data : ℕ → ℕ → BankNumbers → Data
channel_data channel last n =
    object (member (codes "answer") (string (codes "channel")) (member (codes "banks") (numbers_data n)
    (told (codes "channel") channel (told (codes "last") last no_members))))

abbrev pub bank_data : ℕ → BankAddress → BankNumbers → Data
bank_data channel at n =
    object (member (codes "answer") (string (codes "bank")) (told (codes "bank") at.bank (told (codes "channel") channel
    (told (codes "group") at.group (member (codes "numbers") (numbers_data n) (told (codes "rank") at.rank no_members))))))

-- the commands that went to whole ranks of a channel
abbrev pub shared_data : ℕ → RankNumbers → Data
shared_data channel n =
    object (member (codes "answer") (string (codes "ranks")) (told (codes "channel") channel (told (codes "precharges") n.precharges
    (told (codes "refreshes") n.refreshes (told (codes "sleeps") n.sleeps no_members)))))

-- null where there is none
abbrev pub maybe_data : Option ℕ → Data
maybe_data None = null
maybe_data (Some n) = number (unsigned n)

-- the refreshes of a rank, and what the rules left to spare
abbrev pub rank_data : ℕ → ℕ → Margins → Data
rank_data channel rank m =
    object (member (codes "answer") (string (codes "rank")) (told (codes "channel") channel (member (codes "least") (maybe_data m.refresh)
    (told (codes "longest") m.longest (told (codes "mean") (mean_of m) (told (codes "rank") rank (told (codes "refreshes") m.refreshes
    (member (codes "window") (maybe_data m.window) no_members))))))))
