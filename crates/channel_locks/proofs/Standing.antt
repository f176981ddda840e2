-- What a part stands for after its calls.
use Rattle.std.specs.Option.{ForSome}
use Rattle.std.specs.Prelude.{IfNone, IfSome}
use Rattle.std.proofs.Common.{◌≡◌, ◌≤◌, ℕ, refl, sym, ap, subst, ◌∙◌, List, [], ◌∷◌, ◌++◌, length, Option, Some, None, true}
use Rattle.std.proofs.lemmas.List.Elements.{All-weaker}
use Rattle.std.proofs.lemmas.List.Sums.{fold_push}
use Rattle.std.proofs.lemmas.Option.{same_Some}
use Rattle.line_memory.specs.declared.Write.{Write}
use Rattle.line_memory.specs.declared.parts.Numbered.{Numbered}
use Rattle.line_memory.specs.Parts.{AreBefore, numbered}
use Rattle.channel_log.specs.declared.entry.LogEntry.{LogEntry}
use Rattle.channel_log.specs.declared.entry.LogEntry.TheVariants.{Wrote, Looked, HeldFrom, Released, Ended}
use Rattle.channel_log.specs.Between.{CameOf}
use Rattle.channel_log.specs.Log.{LogNote, Told, log_tells, note_of, told_after, untold}
use Rattle.channel_port.specs.declared.answers.Done.{Done}
use Rattle.channel_port.specs.declared.port.ChannelPort.{Ghosts}
use Rattle.channel_port.specs.Answers.{IsServed}
use Rattle.channel_port.specs.Carried.{KeepsCarried, WaitFrom}
use Rattle.channel_port.specs.View.{PortView, with_write}
use Rattle.channel_port.specs.Waits.{IsPending, Remain}
use Rattle.channel_set.specs.Carrying.{CarriesOwn, WaitAmong}
use Rattle.channel_set.proofs.Answered.{work-remain}
use Rattle.channel_set.proofs.Piles.{remain-same}
use Rattle.channel_locks.specs.declared.part.Part.{Part}
use Rattle.channel_locks.specs.Stands.{PartStands, PortStands, SameButPort, StandsStill, StandsNoted, queue_of}
use Rattle.channel_locks.proofs.Queueing.{KeepsFrom, put_among, put_held, worked_held}

told_push : (log : List LogNote) (note : LogNote) → log_tells (log ++ note ∷ []) ≡ told_after (log_tells log) note
told_push log note = fold_push told_after untold log note

-- what was noted just now came of itself
noted : (channel : ℕ) (told : Told) → CameOf channel told told.waits
noted channel told = record { count = 0; steps = refl }

module _ {K : Type 0} (L : Ghosts K) where
  -- a port that carries what it did, with the same hold, and in which no write is new and each held one waits still
  pub record KeptPort (old new : K) : Type 0 where
    pub number : (L.view new).number ≡ (L.view old).number
    pub hold : (L.view new).hold ≡ (L.view old).hold
    pub keeps : KeepsCarried (L.carries old) (L.carries new)
    pub remain : Remain (L.view old).waits.writes (L.view new).waits.writes
    pub held : ForSome (L.view old).hold (λ n. KeepsFrom n (L.view old).waits.writes (L.view new).waits.writes)

  -- a port in which the same writes wait
  pub quiet_port : (old new : K) (seen : PortView) → L.view new ≡ seen → seen.number ≡ (L.view old).number → seen.hold ≡ (L.view old).hold → seen.waits.writes ≡ (L.view old).waits.writes
      → KeepsCarried (L.carries old) (L.carries new) → KeptPort old new
  quiet_port old new seen is number hold writes keeps =
      let same : (L.view new).waits.writes ≡ (L.view old).waits.writes = ap (λ (v : PortView). v.waits.writes) is ∙ writes in
      record {
        number = ap (λ (v : PortView). v.number) is ∙ number;
        hold = ap (λ (v : PortView). v.hold) is ∙ hold;
        keeps = keeps;
        remain = remain-same (L.view old).waits.writes (L.view new).waits.writes same;
        held = λ n some k from waits. subst (IsPending k) (sym same) waits;
      }

  -- a port after a command, where it had one
  pub worked_port : (old new : K) (result : Option Done) → L.view new ≡ record (L.view old) { waits = (L.view new).waits; stored = (L.view new).stored }
      → IfSome result (λ done. IsServed (L.view old).hold (L.view old).number done.served (L.view old).waits (L.view new).waits) → IfNone result (L.view new ≡ L.view old)
      → KeepsCarried (L.carries old) (L.carries new) → KeptPort old new
  worked_port old new result rest served stays keeps = record {
    number = ap (λ (v : PortView). v.number) rest;
    hold = ap (λ (v : PortView). v.hold) rest;
    keeps = keeps;
    remain = work-remain L (L.view old).hold (L.view old).number old new result served stays;
    held = worked_held (L.view old) (L.view new) (L.view old).number result served stays;
  }

  kept_port : (old new : K) → KeptPort old new → (channel : ℕ) (base : List (List ℕ)) (told : Told) → PortStands L old channel base told → CameOf channel told (L.view new).waits → PortStands L new channel base told
  kept_port old new kept channel base told s came = record {
    number = kept.number ∙ s.number;
    own = record { carries = kept.keeps base told.written s.own.carries; given = λ v has. s.own.given v (kept.remain v has) };
    hold = kept.hold ∙ s.hold;
    held = λ n some.
        All-weaker (λ w. n ≤ w.number → IsPending w.number (L.view old).waits.writes) (λ w. n ≤ w.number → IsPending w.number (L.view new).waits.writes)
        (λ w waits from. kept.held n (s.hold ∙ some) w.number from (waits from)) told.written (s.held n some);
    came = came;
  }

  -- what waits in the one came of what waits in the other, by the steps that are the channel's own
  abbrev pub ComesOn : Part K L → Part K L → Type 0
  ComesOn old new = (channel : ℕ) (told : Told) → (L.view old.port).number ≡ channel → (L.view old.port).hold ≡ told.hold → old.ended ≡ told.ended
      → CameOf channel told (L.view old.port).waits → CameOf channel told (L.view new.port).waits

  pub still : (old new : Part K L) → SameButPort L old new → KeptPort old.port new.port → ComesOn old new → StandsStill L old new
  still old new same kept comes channel base log s = record {
    port = kept_port old.port new.port kept channel base (log_tells log) s.port (comes channel (log_tells log) s.port.number s.port.hold s.ended s.port.came);
    credits = same.credits ∙ s.credits;
    ended = same.ended ∙ s.ended;
  }

  -- for the log with one more entry, and what waits now
  abbrev told_now : Part K L → List LogNote → LogEntry → Told
  told_now part log entry = told_after (log_tells log) (note_of entry (L.view part.port).waits)

  with_entry : (part : Part K L) (channel : ℕ) (base : List (List ℕ)) (log : List LogNote) (entry : LogEntry) → PortStands L part.port channel base (told_now part log entry)
      → part.credits ≡ length (queue_of L part) → part.ended ≡ (told_now part log entry).ended → PartStands L part channel base (log ++ note_of entry (L.view part.port).waits ∷ [])
  with_entry part channel base log entry port credits ended =
      let told = sym (told_push log (note_of entry (L.view part.port).waits)) in
      record {
        port = subst (PortStands L part.port channel base) told port;
        credits = credits ∙ ap (λ (t : Told). length t.waits.writes) told;
        ended = ended ∙ ap (λ (t : Told). t.ended) told;
      }

  -- a port that has kept what it carries stands for what is told of the same writes and the same hold, once what waits is noted
  kept_now : (old new : Part K L) → KeptPort old.port new.port → (channel : ℕ) (base : List (List ℕ)) (told now : Told) → now.written ≡ told.written → now.hold ≡ told.hold → now.waits ≡ (L.view new.port).waits
      → PortStands L old.port channel base told → PortStands L new.port channel base now
  kept_now old new kept channel base told now written hold waits s = record {
    number = kept.number ∙ s.number;
    own = subst (CarriesOwn L new.port base) (sym written) (record { carries = kept.keeps base told.written s.own.carries; given = λ v has. s.own.given v (kept.remain v has) });
    hold = kept.hold ∙ s.hold ∙ sym hold;
    held = λ n some.
        subst (λ mine. WaitFrom n mine (L.view new.port).waits.writes) (sym written)
        (All-weaker (λ w. n ≤ w.number → IsPending w.number (L.view old.port).waits.writes) (λ w. n ≤ w.number → IsPending w.number (L.view new.port).waits.writes)
        (λ w waits from. kept.held n (s.hold ∙ sym hold ∙ some) w.number from (waits from)) told.written (s.held n (sym hold ∙ some)));
    came = subst (CameOf channel now) waits (noted channel now);
  }

  -- its port has kept what it carries, and what waits in it is noted
  pub looked : (old new : Part K L) → KeptPort old.port new.port → new.credits ≡ length (queue_of L new) → new.ended ≡ old.ended → StandsNoted L Looked old new
  looked old new kept credits ended channel base log s is may =
      let told = log_tells log in
      let now = told_now new log Looked in
      with_entry new channel base log Looked (kept_now old new kept channel base told now refl refl refl s.port) credits (ended ∙ s.ended)

  pub ended : (old new : Part K L) → KeptPort old.port new.port → new.credits ≡ length (queue_of L new) → new.ended ≡ true → StandsNoted L Ended old new
  ended old new kept credits over channel base log s is may =
      let told = log_tells log in
      let now = told_now new log Ended in
      with_entry new channel base log Ended (kept_now old new kept channel base told now refl refl refl s.port) credits over

  pub wrote : (old new : Part K L) (number : ℕ) (write : Write) → L.view new.port ≡ with_write number (L.view old.port)
      → ((base : List (List ℕ)) (mine : List Numbered) → L.carries old.port base mine → AreBefore number mine → L.carries new.port base (mine ++ numbered number write ∷ []))
      → new.credits ≡ length (queue_of L new) → new.ended ≡ old.ended → StandsNoted L (Wrote (numbered number write)) old new
  wrote old new number write puts carries credits ended channel base log s is may =
      let told = log_tells log in
      let w = numbered number write in
      with_entry new channel base log (Wrote w)
      (record {
        number = ap (λ (x : PortView). x.number) puts ∙ s.port.number;
        own = record {
          carries = carries base told.written s.port.own.carries may;
          given = subst (λ (x : PortView). WaitAmong (told.written ++ w ∷ []) x.waits.writes) (sym puts) (put_among number (L.view old.port).number write told.written (queue_of L old) s.port.own.given);
        };
        hold = ap (λ (x : PortView). x.hold) puts ∙ s.port.hold;
        held = λ n some.
            subst (λ (x : PortView). WaitFrom n (told.written ++ w ∷ []) x.waits.writes) (sym puts)
            (put_held n number (L.view old.port).number write told.written (queue_of L old) (s.port.held n some));
        came = noted channel (told_now new log (Wrote w));
      })
      credits (ended ∙ s.ended)

  -- a port with another hold, and the same with all its writes
  pub record HoldsPort (hold : Option ℕ) (old new : K) : Type 0 where
    pub is : L.view new ≡ record (L.view old) { hold = hold }
    pub keeps : KeepsCarried (L.carries old) (L.carries new)

  held_port : (old new : K) (hold : Option ℕ) → HoldsPort hold old new → (channel : ℕ) (base : List (List ℕ)) (told : Told) → PortStands L old channel base told
      → ForSome hold (λ n. WaitFrom n told.written (L.view old).waits.writes) → PortStands L new channel base (record told { hold = hold; waits = (L.view new).waits })
  held_port old new hold holds channel base told s held = record {
    number = ap (λ (x : PortView). x.number) holds.is ∙ s.number;
    own = record {
      carries = holds.keeps base told.written s.own.carries;
      given = subst (λ (x : PortView). WaitAmong told.written x.waits.writes) (sym holds.is) s.own.given;
    };
    hold = ap (λ (x : PortView). x.hold) holds.is;
    held = λ n some. subst (λ (x : PortView). WaitFrom n told.written x.waits.writes) (sym holds.is) (held n some);
    came = noted channel (record told { hold = hold; waits = (L.view new).waits });
  }

  pub held_from : (old new : Part K L) (number : ℕ) → HoldsPort (Some number) old.port new.port → new.credits ≡ length (queue_of L new) → new.ended ≡ old.ended
      → (channel : ℕ) (base : List (List ℕ)) (log : List LogNote) → PartStands L old channel base log
      → WaitFrom number (log_tells log).written (queue_of L old) → PartStands L new channel base (log ++ note_of (HeldFrom number) (L.view new.port).waits ∷ [])
  held_from old new number holds credits ended channel base log s held =
      with_entry new channel base log (HeldFrom number)
      (held_port old.port new.port (Some number) holds channel base (log_tells log) s.port (λ n some. subst (λ k. WaitFrom k (log_tells log).written (queue_of L old)) (same_Some number n some) held))
      credits (ended ∙ s.ended)

  pub released : (old new : Part K L) → HoldsPort None old.port new.port → new.credits ≡ length (queue_of L new) → new.ended ≡ old.ended → StandsNoted L Released old new
  released old new holds credits ended channel base log s is may =
      with_entry new channel base log Released (held_port old.port new.port None holds channel base (log_tells log) s.port (λ n some. absurd cc)) credits (ended ∙ s.ended)
