-- How far the clock of a running channel goes, and that it may be drained there.
use Rattle.std.proofs.Common.{◌≡◌, ◌≢◌, ◌↔◌, ℕ, ◌+◌, ◌-◌, ◌*◌, ◌^◌, ◌<◌, ◌≤◌, [], ◌∷◌, ◌++◌, refl, sym, ap, subst, ◌∙◌, inl, inr, arith}
use Rattle.ddr4_port.proofs.Common.{ChannelState, Checked, Done, HasNothingToSend, IfNone, IfSome, IsChannel}
use Rattle.ddr4_port.proofs.Common.{IssuesChoice, None, Option, RunsEarly, Some, cases_order, clock_of}
use Rattle.ddr4_timing.specs.declared.rules.Rule.TheVariants.{Refi, Rows}
use Rattle.ddr4_timing.specs.Command.{rank_of}
use Rattle.ddr4_timing.specs.Lawful.{IsLawful, last_ref}
use Rattle.ddr4_timing.proofs.Ready.{admits_from}
use Rattle.ddr4_timing.proofs.Addresses.{rank_within}
use Rattle.frfcfs.specs.Margin.{last_clock}
use Rattle.frfcfs.proofs.refreshes.RefreshCounts.{last_clock_push}
use Rattle.chan_core.specs.declared.phase.Phase.TheVariants.{Running, Stepping}
use Rattle.drain_core.specs.Standing.{CanDrain}
use Rattle.drain_core.proofs.Whole.{early_lets_drain}

pub still-running : (s : ChannelState) → s.phase ≡ Running → s.phase ≡ Stepping → ⊥
still-running s running stepping = let both : Running ≡ Stepping = sym running ∙ stepping in cc

clock-bound : (x last now t : ℕ) → x - last ≤ 9 * t → last ≤ now → now < 2 ^ 62 → t ≤ 1000000 → x < 2 ^ 62 + 2 ^ 24
clock-bound x last now t h l m k = omega arith

-- A command of the scheduler goes at most nine refresh intervals behind the clock.
issue-early : (s t : ChannelState) (done : Done) → IsChannel s → IsChannel t → s.phase ≡ Running → clock_of s < 2 ^ 62 → IssuesChoice s done t → clock_of t < 2 ^ 62 + 2 ^ 24
issue-early s t done is new running early issues =
    let x = done.command in
    let commands : t.commands ≡ s.commands ++ x ∷ [] = ap (λ (u : ChannelState). u.commands) issues.same in
    let checked : t.checked ≡ s.checked = ap (λ (u : ChannelState). u.checked) issues.same in
    let lawful = subst (λ (c : Checked). IsLawful c (s.commands ++ x ∷ [])) checked (subst (IsLawful t.checked) commands new.lawful) in
    let next = admits_from s.checked s.commands x lawful in
    let within = rank_within s.checked.geometry x.cmd ((next Rows _).rows refl refl).place in
    let awake = is.phase.awake running (rank_of x.cmd) within in
    let past = (is.phase.in_time (still-running s running) (rank_of x.cmd) within awake).past in
    let bound = clock-bound x.clock (last_ref (rank_of x.cmd) s.commands) (last_clock s.commands) s.checked.timing.t_refi ((next Refi _).refresh refl refl).in_time past early s.checked.in_limits.t_refi.1 in
    subst (λ (n : ℕ). n < 2 ^ 62 + 2 ^ 24) (sym (ap last_clock commands ∙ last_clock_push s.commands x)) bound

-- where it has something to send, it isn't past the last clock at which it sends
sends-early : (s : ChannelState) → (HasNothingToSend s → ⊥) → clock_of s < 2 ^ 62
sends-early s sends = elim (cases_order (clock_of s) (2 ^ 62)) [
  | inl e ↦ absurd (sends (inr (omega (arith, e))))
  | inr (inl below) ↦ below
  | inr (inr above) ↦ absurd (sends (inr (omega (arith, above))))
]

-- A running channel that issues a command has something to send.
pub work-sends : (s : ChannelState) (result : Option Done) → s.phase ≡ Running → (s.phase ≢ Stepping → ((result ≡ None) ↔ HasNothingToSend s)) → IfSome result (λ done. ¬ HasNothingToSend s)
work-sends s None running sends = tt
work-sends s (Some done) running sends = λ has. let none : Some done ≡ None = (sends (still-running s running)).1 has in cc

-- One that issues none has none.
pub work-rests : (s : ChannelState) (result : Option Done) → s.phase ≡ Running → (s.phase ≢ Stepping → ((result ≡ None) ↔ HasNothingToSend s)) → IfNone result (HasNothingToSend s)
work-rests s None running sends = (sends (still-running s running)).0 refl
work-rests s (Some done) running sends = tt

-- A channel's work.
pub work-early : (s t : ChannelState) (result : Option Done) → IsChannel s → IsChannel t → IfSome result (λ done. ¬ HasNothingToSend s) → IfNone result (t ≡ s) → IfSome result (λ done. IssuesChoice s done t) → RunsEarly s → RunsEarly t
work-early s t None is new sends stays issues early = subst RunsEarly (sym stays) early
work-early s t (Some done) is new sends stays issues early =
    record { running = ap (λ (u : ChannelState). u.phase) issues.same ∙ early.running; early = issue-early s t done is new early.running (sends-early s sends) issues }

-- A running channel may be drained.
pub may-drain : (s : ChannelState) → IsChannel s → RunsEarly s → CanDrain s.checked s.commands
may-drain s is early = early_lets_drain s.checked s.commands is.lawful (is.phase.in_time (still-running s early.running)) (is.phase.awake early.running) early.early
