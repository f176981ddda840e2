-- What is told of a bad line.
use Rattle.std.specs.Prelude.{ℕ, List, [], ◌∷◌, ◌++◌, codes, decimal, flat_map, Some, None}
use Rattle.nv_script.specs.declared.reading.TheConstants.{MOST_LINE_BYTES, MOST_SCRIPT_LINES}
use Rattle.script_report.specs.declared.lint.BadLine.{BadLine}
use Rattle.script_report.specs.declared.reason.Reason.{Reason}
use Rattle.script_report.specs.declared.reason.Reason.TheVariants as reason

-- why it is none
abbrev pub reason_text : Reason → List ℕ
reason_text reason.TooMany = codes "a script has at most " ++ decimal MOST_SCRIPT_LINES ++ codes " lines"
reason_text (reason.TooLong bytes) = codes "a line has at most " ++ (decimal MOST_LINE_BYTES ++ (codes " bytes, here " ++ decimal bytes))
reason_text reason.Mark =
    codes "a byte order mark stands at the beginning: leave it out with sed '1s/^" ++ 92 ∷ codes "xef" ++ 92 ∷ codes "xbb" ++ 92 ∷ codes "xbf//'"
reason_text reason.NoText = codes "the line is not UTF-8"
reason_text reason.CarriageReturn = codes "the line ends in a carriage return: convert it with sed 's/" ++ 92 ∷ codes "r$//'"
reason_text reason.Tab = codes "a tab: words are separated by spaces"
reason_text (reason.Verb verb (Some near)) = codes "unknown verb " ++ verb.now ++ codes "; " ++ near.now ++ codes "?"
reason_text (reason.Verb verb None) = codes "unknown verb " ++ verb.now
reason_text (reason.Words usage) = codes "the line is written " ++ usage.now
reason_text (reason.Number word) = codes "a number is decimal digits: " ++ word.now
reason_text (reason.Large word) = codes "a number fits 64 bits: " ++ word.now
reason_text reason.Zero = codes "calls are counted from 1 on: 0"
reason_text (reason.Byte word) = codes "a byte is two hexadecimal digits: " ++ word.now
reason_text (reason.Pick word) = codes "a pick is old, new, or torn and a byte, as torna5: " ++ word.now
reason_text (reason.Map word) = codes "a map is lines or xor: " ++ word.now
reason_text (reason.Channel channel channels) = codes "channel " ++ (decimal channel ++ (codes ", and this profile has " ++ decimal channels))
reason_text reason.Other = codes "no line of a script"

-- its number and the reason
unfoldable pub bad_line_text : BadLine → List ℕ
bad_line_text line = codes "script line " ++ decimal line.number ++ codes ": " ++ reason_text line.reason

-- bad lines in their order, each with a newline behind it
abbrev pub bad_lines_text : List BadLine → List ℕ
bad_lines_text bad = flat_map (λ line. bad_line_text line ++ 10 ∷ []) bad
