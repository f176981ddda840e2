-- What is told after a channel was given a write, or a read.
use Rattle.std.proofs.Common.{List, Some, [], ap, refl, subst, sym, ℕ, ◌++◌, ◌<◌, ◌∙◌, ◌∷◌, ◌≡◌, ◌≢◌, ⊎_elim}
use Rattle.std.specs.Prelude.{nat_le, slice_get, slice_set}
use Rattle.std.proofs.lemmas.Bool.{cases_eq, le-leb, lt-leb}
use Rattle.std.proofs.lemmas.List.{set-get_or}
use Rattle.std.proofs.lemmas.List.Elements.{All-append, All-cons, All-nil}
use Rattle.std.proofs.lemmas.Option.{get_or_from_slice_get, same_Some}
use Rattle.line_memory.specs.Parts.{numbered}
use Rattle.line_memory.specs.declared.Write.{Write}
use Rattle.channel_port.specs.Answers.{IsGot, Puts}
use Rattle.channel_port.specs.Waits.{Has, IsNeverGiven, IsNewTicket, OpenRead, Waits, is_write_up_to, waiting}
use Rattle.channel_port.specs.declared.answers.Got.{Got}
use Rattle.channel_port.specs.declared.answers.Ticket.{Ticket}
use Rattle.channel_port.specs.declared.waiting.Waiting.{Waiting}
use Rattle.channel_set.proofs.Lists.{all-at, all-of}
use Rattle.channel_set.proofs.Piles.{from-pile, one-behind, one-joins, one-stays}
use Rattle.channel_set.proofs.Written.{written-else, written-here}
use Rattle.channel_log.specs.Log.{IsLogOf, LogNote, log_tells, note_of}
use Rattle.channel_log.specs.declared.entry.LogEntry.{LogEntry}
use Rattle.nv_machine.specs.Moves.{written}
use Rattle.nv_machine.specs.State.{Machine, Setup, all_of, start_of_life}
use Rattle.split_module.specs.OwnEvents.{looked}
use Rattle.split_module.specs.Telling.{AreLogsOf, laid_out, waits_told, with_note, with_waiting}
use Rattle.split_module.proofs.ToldOf.{logs_noted, own_at, told_of_log, waits_noted, waits_of_log}

module _ (setup : Setup) (m : Machine) (logs : List (List LogNote)) (are : AreLogsOf setup m logs) (channel : ℕ) (log : List LogNote) (of : IsLogOf logs channel log) where
  abbrev here : Waits
  here = (log_tells log).waits

  abbrev each : List Waits
  each = waits_told logs

  at : slice_get each channel ≡ Some here
  at = waits_of_log setup m logs are channel log of

  module _ (write : Write) where
    abbrev wrote : LogNote
    wrote = note_of (LogEntry.Wrote (numbered (all_of m) write)) (with_waiting (all_of m) channel here)

    abbrev later : List (List LogNote)
    later = with_note channel log wrote logs

    abbrev next : Machine
    next = record m { life = written m.mode m.life write; waits = laid_out (waits_told later) }

    pub puts_told : Puts (all_of m) channel m.waits next.waits
    puts_told = subst (λ (w : Waits). Puts (all_of m) channel w next.waits) (sym are.waits) (subst (λ ws. Puts (all_of m) channel (laid_out each) (laid_out ws)) (sym (waits_noted logs channel log wrote)) (record {
      joins = one-behind (waiting (all_of m) channel) (is_write_up_to channel) (λ j. nat_le j channel) (λ (w : Waits). w.writes) each channel here (with_waiting (all_of m) channel here)
          (λ j less. le-leb j channel less) (λ j past. lt-leb j channel past) at refl
          (λ j w v there has. ap (λ c. nat_le c channel) (all-at (λ (x : Waiting). x.channel ≡ j) w.writes v (own_at setup m logs are j w there).writes has));
      reads = one-stays (λ (w : Waits). w.reads) each channel here (with_waiting (all_of m) channel here) at refl;
      given = one-stays (λ (w : Waits). w.given) each channel here (with_waiting (all_of m) channel here) at refl;
    }))

    pub logs_wrote : setup.shape.channel_of write.line ≡ channel → channel < setup.shape.channels → AreLogsOf setup next later
    logs_wrote on known =
        let was = told_of_log setup m logs are channel log of in
        logs_noted setup m logs are channel log of wrote next
        (record {
          written = ap (λ ws. ws ++ numbered (all_of m) write ∷ []) was.written ∙ sym (written-here setup.shape.channel_of channel (start_of_life m.life) m.life.writes write (all_of m) refl on);
          hold = was.hold;
          ended = was.ended;
          own = record {
            writes = All-append (λ (v : Waiting). v.channel ≡ channel) here.writes (waiting (all_of m) channel ∷ []) was.own.writes (All-cons (λ (v : Waiting). v.channel ≡ channel) (waiting (all_of m) channel) [] refl (All-nil (λ (v : Waiting). v.channel ≡ channel)));
            reads = was.own.reads;
            given = was.own.given;
          };
        })
        (λ other apart less. let it = are.told other less in record {
          written = it.written ∙ sym (written-else setup.shape.channel_of other (start_of_life m.life) m.life.writes write (λ e. apart (sym on ∙ e)));
          hold = it.hold;
          ended = it.ended;
          own = it.own;
        })
        refl
        (All-append (λ (w : Write). setup.shape.channel_of w.line < setup.shape.channels) m.life.writes (write ∷ []) are.lie
        (All-cons (λ (w : Write). setup.shape.channel_of w.line < setup.shape.channels) write [] (subst (λ c. c < setup.shape.channels) (sym on) known) (All-nil (λ (w : Write). setup.shape.channel_of w.line < setup.shape.channels))))

  -- what a read makes of all that waits
  module _ (bytes : List ℕ) (line count : ℕ) (new : Waits) where
    abbrev all : Waits
    all = laid_out (slice_set each channel new)

    stays_same : new ≡ here → all ≡ laid_out each
    stays_same same = ap (λ w. laid_out (slice_set each channel w)) (same ∙ sym (get_or_from_slice_get each channel here here at)) ∙ ap laid_out (set-get_or each channel here)

    new_ticket : (ticket : Ticket) → ticket.channel ≡ channel → IsNewTicket ticket here.reads → IsNewTicket ticket (laid_out each).reads
    new_ticket ticket named none = all-of (λ (r : OpenRead). r.ticket ≢ ticket) (laid_out each).reads (λ k r there.
        let pile = from-pile (λ (w : Waits). w.reads) each r (k, there) in
        let is : r.ticket.channel ≡ pile.place = all-at (λ (x : OpenRead). x.ticket.channel ≡ pile.place) pile.pile.reads r (own_at setup m logs are pile.place pile.pile pile.at).reads pile.has in
        ⊎_elim
        (λ (e : pile.place ≡ channel).
        let same : pile.pile ≡ here = same_Some pile.pile here (sym pile.at ∙ ap (slice_get each) e ∙ at) in
        all-at (λ (x : OpenRead). x.ticket ≢ ticket) here.reads r none (subst (λ (w : Waits). Has r w.reads) same pile.has))
        (λ (apart : pile.place ≢ channel) t. apart (sym is ∙ ap (λ (x : Ticket). x.channel) t ∙ named))
        (cases_eq pile.place channel))

    never_given : (ticket : Ticket) → ticket.channel ≡ channel → IsNeverGiven ticket here.given → IsNeverGiven ticket (laid_out each).given
    never_given ticket named none = all-of (λ (t : Ticket). t ≢ ticket) (laid_out each).given (λ k t there.
        let pile = from-pile (λ (w : Waits). w.given) each t (k, there) in
        let is : t.channel ≡ pile.place = all-at (λ (x : Ticket). x.channel ≡ pile.place) pile.pile.given t (own_at setup m logs are pile.place pile.pile pile.at).given pile.has in
        ⊎_elim
        (λ (e : pile.place ≡ channel).
        let same : pile.pile ≡ here = same_Some pile.pile here (sym pile.at ∙ ap (slice_get each) e ∙ at) in
        all-at (λ (x : Ticket). x ≢ ticket) here.given t none (subst (λ (w : Waits). Has t w.given) same pile.has))
        (λ (apart : pile.place ≢ channel) e. apart (sym is ∙ ap (λ (x : Ticket). x.channel) e ∙ named))
        (cases_eq pile.place channel))

    got_out : (got : Got) → IsGot bytes line count channel got here new → IsGot bytes line count channel got (laid_out each) all
    got_out (Got.Now given) is = (is.0, stays_same is.1)
    got_out (Got.Later ticket) is = (
      is.0,
      new_ticket ticket is.0 is.1,
      one-joins _ (λ (w : Waits). w.reads) each channel here new at is.2,
      one-stays (λ (w : Waits). w.writes) each channel here new at is.3,
      never_given ticket is.0 is.4,
      one-joins ticket (λ (w : Waits). w.given) each channel here new at is.5,
    )

    pub got_told : (got : Got) → IsGot bytes line count channel got here new → IsGot bytes line count channel got m.waits (laid_out (waits_told (looked channel log new logs)))
    got_told got is =
        subst (λ (w : Waits). IsGot bytes line count channel got w (laid_out (waits_told (looked channel log new logs)))) (sym are.waits)
        (subst (λ ws. IsGot bytes line count channel got (laid_out each) (laid_out ws)) (sym (waits_noted logs channel log (note_of LogEntry.Looked new))) (got_out got is))
