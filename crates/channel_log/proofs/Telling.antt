-- What a log tells after one more entry, and what that makes of the credits.
use Rattle.std.proofs.Common.{◌≡◌, ◌+◌, ◌<◌, List, [], ◌∷◌, ◌++◌, length, set, sym, ap, ◌∙◌, subst, arith}
use Rattle.std.specs.Prelude.{AllPairs}
use Rattle.std.proofs.lemmas.List.Sums.{fold_push, sum_by-set}
use Rattle.std.proofs.lemmas.List.Quantifiers.{all_pairs_push}
use Rattle.line_memory.specs.declared.parts.Numbered.{Numbered}
use Rattle.channel_log.specs.declared.entry.LogEntry.{LogEntry}
use Rattle.channel_log.specs.declared.entry.LogEntry.TheVariants.{Wrote, Looked, HeldFrom, Released, Ended}
use Rattle.channel_log.specs.Seats.{AllLogs, OneLog, IsNoted}
use Rattle.channel_log.specs.Log.{LogNote, Told, IsLog, MayFollow, credits_of, credits_out, note_of, told_after, log_tells, untold}
use Rattle.channel_port.specs.Waits.{Waits}

pub told_push : (log : List LogNote) (x : LogNote) → log_tells (log ++ x ∷ []) ≡ told_after (log_tells log) x
told_push log x = fold_push told_after untold log x

-- a log with another entry behind it, by its writes
told_log : (log : List LogNote) (written : List Numbered) → (log_tells log).written ≡ written → AllPairs (λ v w. v.number < w.number) written → IsLog log
told_log log written is rise = record { rise = subst (λ (ws : List Numbered). AllPairs (λ v w. v.number < w.number) ws) (sym is) rise }

pub empty_log : IsLog []
empty_log = record { rise = λ i j d less within. absurd (omega (arith, within)) }

following : (log : List LogNote) (x : LogEntry) (waits : Waits) → IsLog log → MayFollow log x → IsLog (log ++ note_of x waits ∷ [])
following log (Wrote w) waits it asks =
    told_log (log ++ note_of (Wrote w) waits ∷ []) ((log_tells log).written ++ w ∷ []) (ap (λ (t : Told). t.written) (told_push log (note_of (Wrote w) waits)))
    (all_pairs_push (λ v w. v.number < w.number) (log_tells log).written w it.rise asks)
following log Looked waits it asks = told_log (log ++ note_of Looked waits ∷ []) (log_tells log).written (ap (λ (t : Told). t.written) (told_push log (note_of Looked waits))) it.rise
following log (HeldFrom n) waits it asks = told_log (log ++ note_of (HeldFrom n) waits ∷ []) (log_tells log).written (ap (λ (t : Told). t.written) (told_push log (note_of (HeldFrom n) waits))) it.rise
following log Released waits it asks = told_log (log ++ note_of Released waits ∷ []) (log_tells log).written (ap (λ (t : Told). t.written) (told_push log (note_of Released waits))) it.rise
following log Ended waits it asks = told_log (log ++ note_of Ended waits ∷ []) (log_tells log).written (ap (λ (t : Told). t.written) (told_push log (note_of Ended waits))) it.rise

pub following_log : (log : List LogNote) (note : LogNote) → IsLog log → MayFollow log note.entry → IsLog (log ++ note ∷ [])
following_log log note it asks = following log note.entry note.waits it asks

-- the credits that are out on all channels change by those of the one
pub noted_out : (note : LogNote) (front : AllLogs) (seat : OneLog) (new_front : AllLogs) (new_seat : OneLog) → IsNoted note front seat new_front new_seat
    → credits_out new_front.logs + credits_of seat.log ≡ credits_out front.logs + length note.waits.writes
noted_out note front seat new_front new_seat it =
    let all = sum_by-set credits_of front.logs seat.channel new_seat.log [] it.agreed.there in
    let new : credits_of new_seat.log ≡ length note.waits.writes = ap (λ (s : OneLog). credits_of s.log) it.seat_is ∙ ap (λ (t : Told). length t.waits.writes) (told_push seat.log note) in
    ap (λ (f : AllLogs). credits_out f.logs + credits_of seat.log) it.front_is
    ∙ ap (λ (l : List LogNote). credits_out (set front.logs seat.channel new_seat.log) + credits_of l) (sym it.agreed.same)
    ∙ all ∙ ap (λ n. credits_out front.logs + n) new
