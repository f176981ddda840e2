-- A channel goes on: its banks, clock and last commands stay those of its list of commands.
use Rattle.std.proofs.Common.{◌≡◌, ◌≢◌, ◌-◌, ◌<◌, ◌≤◌, ◌^◌, ◌↔◌, ◌⊎◌, List, [], ◌∷◌, ◌++◌, length, drop, Option, Some, None, refl, sym, ap, ◌∙◌, arith}
use Rattle.chan_core.proofs.Common.{Asleep, BanksState, Buffer, ChannelState, Checked, HasNothingToSend, IsIdle, IsInPhase, IsNext, IsRunning, IssuesAlone, KeepsMargin, Next, Pending, Phase, Running, Stamped, Stands, Stepping, after_command, clock_of, last_clock, with_command}
use Rattle.frfcfs.proofs.refreshes.RefreshCounts.{last_clock_push}
use Rattle.chan_core.specs.declared.channel.Channel.TheInside.{Inside}
use Rattle.chan_core.proofs.Sleeping.{asleep-more, awake-more, chosen-awake}
use Rattle.chan_core.proofs.Clocks.{few-commands}
use Rattle.chan_core.proofs.Recent.{last-push}

-- there are at most 2^63 commands
pub running-few : (c : Inside) → IsRunning c → length c.memory.commands ≤ 2 ^ 63
running-few c is = omega (arith, few-commands c.banks.checked c.memory.commands is.stands.lawful, is.clock, is.early)

in-time-here : (c : Inside) → IsRunning c → c.memory.phase ≢ Stepping → KeepsMargin c.banks.checked c.memory.commands
in-time-here c is not = rw is.checked (is.phase.in_time not)

-- one more command
pub running-more : (c : Inside) (x : Stamped) (banks : BanksState Checked) (recent : Buffer Stamped) (new : ChannelState) → IsRunning c → new.commands ≡ c.memory.commands ++ x ∷ [] → new.checked ≡ c.memory.checked
    → banks.checked ≡ c.banks.checked → ((list : List Stamped) → Stands c.banks list → Stands banks (with_command list x.clock x.cmd))
    → recent ≡ record { items = drop (length (c.recent.items ++ x ∷ []) - c.recent.capacity) (c.recent.items ++ x ∷ []); capacity = c.recent.capacity } → x.clock < 2 ^ 63 → IsInPhase new
    → IsRunning (record { banks = banks; clock = x.clock; recent = recent; memory = new })
running-more c x banks recent new is commands profile checked stands recent-is early phase =
    let old = c.memory.commands in
    record {
      stands = rw commands (stands old is.stands);
      checked = checked ∙ is.checked ∙ sym profile;
      clock = rw commands (sym (last_clock_push old x));
      early = early;
      recent = rw (recent-is, is.capacity, is.recent, commands) (last-push 64 old x);
      capacity = ap (λ (b : Buffer Stamped). b.capacity) recent-is ∙ is.capacity;
      phase = phase;
    }

-- one that the scheduler chose
pub running-on : (c : Inside) (next : Next) (banks : BanksState Checked) (recent : Buffer Stamped) (new : ChannelState) → IsRunning c
    → let x : Stamped = record { clock = next.clock; cmd = next.cmd } in
    new ≡ after_command c.memory x new → banks.checked ≡ c.banks.checked → ((list : List Stamped) → Stands c.banks list → Stands banks (with_command list next.clock next.cmd))
    → recent ≡ record { items = drop (length (c.recent.items ++ x ∷ []) - c.recent.capacity) (c.recent.items ++ x ∷ []); capacity = c.recent.capacity } → next.clock < 2 ^ 63
    → ((list : List Stamped) → Stands c.banks list → KeepsMargin c.banks.checked list → c.clock ≡ last_clock list → KeepsMargin c.banks.checked (with_command list next.clock next.cmd))
    → ((list : List Stamped) → Stands c.banks list → IsNext c.banks.checked list c.memory.requests c.clock (Some next))
    → IsRunning (record { banks = banks; clock = next.clock; recent = recent; memory = new })
running-on c next banks recent new is same checked stands recent-is early keeps chosen =
    let x : Stamped = record { clock = next.clock; cmd = next.cmd } in
    let old = c.memory.commands in
    rw same (running-more c x banks recent (after_command c.memory x new) is refl refl checked stands recent-is early (record {
      in_time = λ not. rw (← is.checked) (keeps old is.stands (in-time-here c is not) is.clock);
      awake = λ e. awake-more c.memory.checked old x (chosen-awake c.banks.checked old c.memory.requests c.clock next (chosen old is.stands)) (is.phase.awake e);
      asleep = λ e. asleep-more c.memory.checked old x (is.phase.asleep e);
    }))

-- a phase of single commands is one of two
alone-asleep : (phase : Phase) → phase ≢ Running → phase ≢ Stepping → phase ≡ Asleep
alone-asleep Running single not = absurd (single refl)
alone-asleep Stepping single not = absurd (not refl)
alone-asleep Asleep single not = refl

-- a single one
pub running-alone : (c : Inside) (x : Stamped) (banks : BanksState Checked) (recent : Buffer Stamped) (new : ChannelState) → IsRunning c → IssuesAlone c.memory x new → banks.checked ≡ c.banks.checked
    → ((list : List Stamped) → Stands c.banks list → Stands banks (with_command list x.clock x.cmd))
    → recent ≡ record { items = drop (length (c.recent.items ++ x ∷ []) - c.recent.capacity) (c.recent.items ++ x ∷ []); capacity = c.recent.capacity } → x.clock < 2 ^ 63
    → IsRunning (record { banks = banks; clock = x.clock; recent = recent; memory = new })
running-alone c x banks recent new is issues checked stands recent-is early =
    running-more c x banks recent new is (ap (λ (s : ChannelState). s.commands) issues.same) (ap (λ (s : ChannelState). s.checked) issues.same) checked stands recent-is early (record {
      in_time = λ not rank within awake. absurd (awake (issues.asleep.0 (alone-asleep new.phase issues.single not) rank within));
      awake = λ e. absurd (issues.single e);
      asleep = issues.asleep.0;
    })

-- the next command at the clock of the commands
pub next-here : (c : Inside) → IsRunning c → (pending : List Pending) (next : Option Next) → pending ≡ c.memory.requests → ((list : List Stamped) → Stands c.banks list → IsNext c.banks.checked list pending c.clock next)
    → IsNext c.memory.checked c.memory.commands c.memory.requests (clock_of c.memory) next
next-here c is pending next same next-is = rw (← is.checked, ← is.clock, ← same) (next-is c.memory.commands is.stands)

-- there is none exactly where there is nothing to send
pub none-here : (c : Inside) → IsRunning c → c.memory.phase ≢ Stepping → (pending : List Pending) (next : Option Next) → pending ≡ c.memory.requests
    → ((list : List Stamped) → Stands c.banks list → KeepsMargin c.banks.checked list → c.clock ≡ last_clock list → (next ≡ None) ↔ (IsIdle c.banks.checked list pending c.clock ⊎ (2 ^ 62 ≤ c.clock)))
    → (next ≡ None) ↔ HasNothingToSend c.memory
none-here c is not pending next same idle = rw (← is.checked, ← is.clock, ← same) (idle c.memory.commands is.stands (in-time-here c is not) is.clock)
