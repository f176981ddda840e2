-- The marks that are drawn are those of the commands.
use Rattle.std.proofs.Common.{◌≡◌, ℕ, List, [], ◌∷◌, ◌++◌, Option, Some, None, map, refl, ap, ◌∙◌}
use Rattle.std.specs.Prelude.{filter, find}
use Rattle.std.specs.Option.{option_to_list}
use Rattle.ddr4_timing.specs.declared.command.Command.{Command}
use Rattle.ddr4_timing.specs.declared.command.Command.TheVariants.{Act, Rd, Wr, Pre, PreAll, Ref, Sre}
use Rattle.ddr4_timing.specs.declared.timing.Timing.{Timing}
use Rattle.command_trace.specs.declared.entry.ChannelCommand.{ChannelCommand}
use Rattle.schedule_drawing.specs.declared.lanes.Lane.{Lane}
use Rattle.schedule_drawing.specs.declared.shapes.Shape.{Shape}
use Rattle.schedule_drawing.specs.Lanes.{bank_lane}
use Rattle.schedule_drawing.specs.Drawing.{closes, drawn, is_mark, mark_of, row_bar, span_for}

-- a bar is no mark
bar-unmarked : (lane : Lane) (row from end : ℕ) (close : Option ChannelCommand) (rest : List Shape)
    → filter is_mark (row_bar lane row from end close ∷ rest) ≡ filter is_mark rest
bar-unmarked lane row from end None rest = refl
bar-unmarked lane row from end (Some close) rest = refl

-- what is drawn from a command on is no mark
span-unmarked : (t : Timing) (end channel clock : ℕ) (behind : List ChannelCommand) (x : Command) (rest : List Shape)
    → filter is_mark (option_to_list (span_for t end channel clock behind x) ++ rest) ≡ filter is_mark rest
span-unmarked t end channel clock behind (Act at row) rest =
    bar-unmarked (bank_lane channel at) row clock end (find (closes channel at) behind) rest
span-unmarked t end channel clock behind (Rd at column) rest = refl
span-unmarked t end channel clock behind (Wr at column) rest = refl
span-unmarked t end channel clock behind (Pre at) rest = refl
span-unmarked t end channel clock behind (PreAll rank) rest = refl
span-unmarked t end channel clock behind (Ref rank) rest = refl
span-unmarked t end channel clock behind (Sre rank) rest = refl

pub marks-drawn : (t : Timing) (end : ℕ) (entries : List ChannelCommand) → filter is_mark (drawn t end entries) ≡ map mark_of entries
marks-drawn t end [] = refl
marks-drawn t end (entry ∷ behind) =
    ap (λ (marks : List Shape). mark_of entry ∷ marks)
    (span-unmarked t end entry.channel entry.command.clock behind entry.command.cmd (drawn t end behind) ∙ marks-drawn t end behind)
