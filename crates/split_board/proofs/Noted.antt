-- What the logs of a board that begins tell once all was noted.
use Rattle.std.proofs.Common.{◌≡◌, ◌∙◌, ℕ, ◌<◌, Bool, List, [], ◌∷◌, length, slice_get, take, Option, Some, ap, arith, refl, subst, sym}
use Rattle.std.proofs.lemmas.Option.{slice_get_within}
use Rattle.line_memory.specs.declared.Write.{Write}
use Rattle.line_memory.specs.History.{Recorded}
use Rattle.line_memory.specs.Parts.{written_on}
use Rattle.channel_log.specs.Log.{LogNote, Told, log_tells}
use Rattle.channel_log.specs.Seats.{AllLogs, OneLog}
use Rattle.channel_port.specs.declared.port.ChannelPort.{Ghosts}
use Rattle.channel_locks.specs.declared.parts_name.PartsName.{Ghosts as PartsGhosts}
use Rattle.split_board.specs.FirstLogs.{AreFirstLogs, AreFirstPorts, AreFirstSlots, AreToldOfPorts, HaveSeats, IsFirstPort, TellNoWrite, TellWrites, channel_by, told_first, told_without_writes}
use Rattle.split_board.proofs.Wrote.{seat_is}

take_all : (ws : List Write) → take (length ws) ws ≡ ws
take_all [] = refl
take_all (w ∷ ws) = ap (λ (xs : List Write). w ∷ xs) (take_all ws)

module _ {K : Type 0} (L : Ghosts K) (hold : Option ℕ) (ended : Bool) (ports : List K) where
  module _ (dealt : List (List LogNote)) (are : AreToldOfPorts L hold ended ports 8 dealt) where
    pub none_written : TellNoWrite dealt
    none_written channel less = ap (λ (t : Told). t.written) (are.told channel less)

    pub first_logs : (table : List ℕ) (history : Recorded) (logs : List (List LogNote)) → length logs ≡ 8 → TellWrites table history (length history.writes) dealt logs
        → AreFirstLogs L table history hold ended ports logs
    first_logs table history logs size wrote = record {
      eight = size;
      told = λ channel less.
          wrote channel less
          ∙ ap (λ (t : Told). record t { written = written_on (channel_by table) channel history.start (take (length history.writes) history.writes) }) (are.told channel less)
          ∙ ap (λ (ws : List Write). record (told_without_writes L hold ended (slice_get ports channel)) { written = written_on (channel_by table) channel history.start ws }) (take_all history.writes);
      few = λ channel less. let same = ap (λ (t : Told). length t.waits.writes) (wrote channel less) in let few = are.few channel less in omega (arith, same, few);
    }

  module _ {B : Type 0} (P : PartsGhosts B) where
    -- each seat knows what is told of its channel
    pub first_slots : (table : List ℕ) (history : Recorded) (known : AllLogs) (seats : List OneLog) → HaveSeats 8 known seats → known.table ≡ P.logs
        → AreFirstLogs L table history hold ended ports known.logs → AreFirstPorts L P ended table history hold ports → AreFirstSlots L P ended ports seats
    first_slots table history known seats have table_is logs each = record {
      seats_are = λ channel seat at.
          let is = seat_is known seats have channel (within channel seat at) seat at in
          (ap (λ (s : OneLog). s.table) is ∙ table_is, ap (λ (s : OneLog). s.channel) is);
      ports_are = λ channel seat port at there.
          let less = within channel seat at in
          let tells : log_tells seat.log ≡ told_first L table history hold ended (Some port) channel =
          ap (λ (s : OneLog). log_tells s.log) (seat_is known seats have channel less seat at) ∙ logs.told channel less ∙ ap (λ (o : Option K). told_first L table history hold ended o channel) there in
          subst (λ (told : Told). IsFirstPort L P ended channel told port) (sym tells) (each channel port there);
    }
      where
        within : (channel : ℕ) (seat : OneLog) → slice_get seats channel ≡ Some seat → channel < 8
        within channel seat at = let less = slice_get_within seats channel seat at in let size = have.seats_are in omega (arith, less, size)
