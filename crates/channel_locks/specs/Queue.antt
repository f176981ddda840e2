-- The writes that wait in a channel, and the credits that a command of it returns.
use Rattle.std.specs.Prelude.{◌==◌, ℕ, Bool, List, Option, Some, None, not}
use Rattle.std.specs.List.{list_any}
use Rattle.line_memory.specs.declared.parts.Numbered.{Numbered}
use Rattle.channel_port.specs.declared.answers.Done.{Done}
use Rattle.channel_port.specs.declared.answers.Served.{Served}
use Rattle.channel_port.specs.declared.answers.Served.TheVariants as served
use Rattle.channel_port.specs.declared.waiting.Waiting.{Waiting}

-- whether a write isn't one of those that wait
abbrev pub waits_no_more : List Waiting → Numbered → Bool
waits_no_more writes w = not (list_any (λ v. v.number == w.number) writes)

-- the credit that a command returns, by whom it served: that of a write
abbrev pub returned_for : Option Served → ℕ
returned_for None = 0
returned_for (Some (served.Write number)) = 1
returned_for (Some (served.Read ticket)) = 0

-- the same, where there was a command at all
abbrev pub returned_by : Option Done → ℕ
returned_by None = 0
returned_by (Some done) = returned_for done.served
