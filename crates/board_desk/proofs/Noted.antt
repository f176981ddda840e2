-- What both seats know once a note was made of a channel.
use Rattle.std.proofs.Common.{List, [], ap, arith, subst, sym, ℕ, ◌++◌, ◌∙◌, ◌∷◌, ◌≡◌}
use Rattle.std.specs.Prelude.{slice_index_or, slice_set}
use Rattle.std.proofs.lemmas.List.{get_or-set_other, get_or-set_same, length-set}
use Rattle.channel_log.specs.Log.{IsLogOf, LogNote, Told, log_tells}
use Rattle.channel_log.specs.Seats.{AllLogs, IsNoted, OneLog}
use Rattle.split_module.proofs.ToldOf.{told_push}
use Rattle.split_module.specs.Telling.{with_note}
use Rattle.board_desk.specs.Answering.{SameElsewhere}

module _ (note : LogNote) (front seat_front new_front : AllLogs) (seat own new_seat : OneLog) (noted : IsNoted note front seat new_front new_seat) (front_is : front ≡ seat_front) (seat_is : seat ≡ own) where
  pub seat_noted : new_seat ≡ record own { log = own.log ++ note ∷ [] }
  seat_noted = noted.seat_is ∙ ap (λ (s : OneLog). record s { log = s.log ++ note ∷ [] }) seat_is

  pub front_noted : new_front ≡ record seat_front { logs = with_note own.channel own.log note seat_front.logs }
  front_noted =
      noted.front_is ∙ ap (λ (s : OneLog). record front { logs = slice_set front.logs seat.channel s.log }) noted.seat_is
      ∙ ap (λ (s : OneLog). record front { logs = slice_set front.logs s.channel (s.log ++ note ∷ []) }) seat_is
      ∙ ap (λ (f : AllLogs). record f { logs = slice_set f.logs own.channel (own.log ++ note ∷ []) }) front_is

  pub logs_noted : (channel : ℕ) → own.channel ≡ channel → new_front.logs ≡ with_note channel own.log note seat_front.logs
  logs_noted channel is = ap (λ (f : AllLogs). f.logs) front_noted ∙ ap (λ c. with_note c own.log note seat_front.logs) is

  -- the log tells what waits
  pub waits_told : (log_tells new_seat.log).waits ≡ note.waits
  waits_told = ap (λ (s : OneLog). (log_tells s.log).waits) seat_noted ∙ ap (λ (t : Told). t.waits) (told_push own.log note)

  -- the log is the one that the front knows
  pub still_of : (channel : ℕ) → own.channel ≡ channel → IsLogOf seat_front.logs channel own.log → IsLogOf new_front.logs channel new_seat.log
  still_of channel is of =
      let size = length-set seat_front.logs channel (own.log ++ note ∷ []) in
      let there = of.there in
      subst (λ ls. IsLogOf ls channel new_seat.log) (sym (logs_noted channel is))
      (subst (λ (s : OneLog). IsLogOf (with_note channel own.log note seat_front.logs) channel s.log) (sym seat_noted)
      (record { there = omega (arith, size, there); same = get_or-set_same seat_front.logs channel (own.log ++ note ∷ []) [] of.there }))

  -- what is known of another channel is what was known
  pub elsewhere_noted : (channel : ℕ) → own.channel ≡ channel → SameElsewhere channel seat_front.logs new_front.logs
  elsewhere_noted channel is other apart =
      ap (λ (ls : List (List LogNote)). slice_index_or ls other []) (logs_noted channel is)
      ∙ get_or-set_other seat_front.logs channel other (own.log ++ note ∷ []) [] apart
