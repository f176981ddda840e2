-- The lines that tell what the commands of a trace come to.
use Rattle.std.specs.Prelude.{ℕ, ◌/◌, ◌%◌, List, [], ◌∷◌, ◌++◌, Option, Some, None, codes, decimal}
use Rattle.ddr4_timing.specs.declared.place.BankAddress.{BankAddress}
use Rattle.trace_statistics.specs.Margins.{mean_of}
use Rattle.trace_statistics.specs.Numbers.{bytes_of, share_of}
use Rattle.trace_statistics.specs.declared.margins.Margins.{Margins}
use Rattle.trace_statistics.specs.declared.numbers.BankNumbers.{BankNumbers}
use Rattle.trace_statistics.specs.declared.numbers.RankNumbers.{RankNumbers}
use Rattle.trace_statistics.specs.declared.telling.Told.{Told}

-- how many commands of each kind went to some banks, and what their accesses found
unfoldable pub numbers_text : BankNumbers → List ℕ
numbers_text n =
    codes "ACT " ++ (decimal n.activates ++ (codes " RD " ++ (decimal n.reads ++ (codes " WR " ++ (decimal n.writes ++ (codes " PRE " ++ (decimal n.precharges
    ++ (codes " hits " ++ (decimal n.hits ++ (codes " misses " ++ (decimal n.misses ++ (codes " conflicts " ++ decimal n.conflicts))))))))))))

-- how many went to whole ranks
unfoldable pub shared_text : RankNumbers → List ℕ
shared_text n = codes "PREA " ++ decimal n.precharges ++ codes " REF " ++ decimal n.refreshes ++ codes " SRE " ++ decimal n.sleeps

-- a number behind its word, where there is one
abbrev pub known_text : List ℕ → Option ℕ → List ℕ
known_text word None = []
known_text word (Some n) = word ++ decimal n

-- the refreshes of a rank, and what the rules left to spare
unfoldable pub margins_text : Margins → List ℕ
margins_text m =
    codes "REF " ++ decimal m.refreshes ++ codes " longest " ++ decimal m.longest ++ codes " mean " ++ decimal (mean_of m)
    ++ known_text (codes " least ") m.refresh ++ known_text (codes " window ") m.window

-- the numbers of banks; the share of clocks in which the bus carries data for them, in percent, with two digits behind the point; and
-- the bytes of a thousand clocks
unfoldable pub told_text : Told → List ℕ
told_text t =
    numbers_text t.numbers ++ (codes " bus " ++ (decimal (share_of t.numbers t.last / 100) ++ (codes "." ++ (decimal (share_of t.numbers t.last / 10 % 10)
    ++ (decimal (share_of t.numbers t.last % 10) ++ (codes "% bytes " ++ decimal (bytes_of t.numbers t.last)))))))

-- a channel, all its banks together, and the commands to whole ranks
unfoldable pub channel_line : ℕ → Told → RankNumbers → List ℕ
channel_line channel total shared =
    (decimal channel ++ (codes " channel " ++ (told_text total ++ (codes " " ++ shared_text shared)))) ++ 10 ∷ []

-- a bank of a channel
unfoldable pub bank_line : ℕ → BankAddress → Told → List ℕ
bank_line channel at told =
    (decimal channel ++ (codes " bank " ++ (decimal at.rank ++ (codes " " ++ (decimal at.group ++ (codes " " ++ (decimal at.bank ++ (codes " " ++ told_text told))))))))
    ++ 10 ∷ []

-- a rank
unfoldable pub rank_line : ℕ → ℕ → Margins → List ℕ
rank_line channel rank margins = (decimal channel ++ (codes " rank " ++ (decimal rank ++ (codes " " ++ margins_text margins)))) ++ 10 ∷ []
