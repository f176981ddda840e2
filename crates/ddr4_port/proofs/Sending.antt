-- A channel has one command to send next, or none.
use Rattle.std.proofs.Common.{◌≡◌, ◌<◌, ℕ, inl, inr, refl, ap, subst, sym, ◌∙◌}
use Rattle.std.specs.Option.{option_map}
use Rattle.ddr4_port.proofs.Common.{ChannelState, Done, HasNothingToSend, IfNone, IfSome, IssuesChoice, None, Option}
use Rattle.ddr4_port.proofs.Common.{Sends, SendsOnly, Some, cases_order, clock_of}
use Rattle.channel_port.specs.Issuing.{with_issued}
use Rattle.ddr4_timing.specs.declared.command.Command.{Command}
use Rattle.ddr4_timing.specs.declared.command.Stamped.{Stamped}
use Rattle.frfcfs.specs.Candidates.{IsLeast}
use Rattle.frfcfs.specs.Next.{IsNext}
use Rattle.request_notes.specs.Requests.{AreInOrder}
use Rattle.frfcfs.proofs.ChoiceLaws.{one_choice}

-- of two first clocks with a candidate neither is before the other
module _ (s : ChannelState) (order : AreInOrder s.requests) where
  not-sooner : (i j : Option ℕ) (a b : Stamped) → IsNext s.checked s.commands s.requests (clock_of s) (Some (record { clock = a.clock; cmd = a.cmd; serves = i }))
      → IsNext s.checked s.commands s.requests (clock_of s) (Some (record { clock = b.clock; cmd = b.cmd; serves = j })) → ¬ (a.clock < b.clock)
  not-sooner i j a b is other less = other.sooner a.clock is.from less is.turn a.cmd is.choice.candidate

  one-command : (i j : Option ℕ) (a b : Stamped) → IsNext s.checked s.commands s.requests (clock_of s) (Some (record { clock = a.clock; cmd = a.cmd; serves = i }))
      → IsNext s.checked s.commands s.requests (clock_of s) (Some (record { clock = b.clock; cmd = b.cmd; serves = j })) → a ≡ b
  one-command i j a b is other = elim (cases_order a.clock b.clock) [
    | inl same ↦
        let alike = (one_choice s.checked s.commands s.requests a.clock is.turn other.turn a.cmd b.cmd order is.choice (subst (λ k. IsLeast s.checked s.commands s.requests k other.turn b.cmd) (sym same) other.choice)).1 in
        ap (λ (cmd : Command). record { clock = a.clock; cmd = cmd }) alike ∙ ap (λ clock. record { clock = clock; cmd = b.cmd }) same
    | inr (inl less) ↦ absurd (not-sooner i j a b is other less)
    | inr (inr more) ↦ absurd (not-sooner j i b a other is more)
  ]

  one-sends : (a b : Option Stamped) → Sends s a → Sends s b → a ≡ b
  one-sends None None is other = refl
  one-sends None (Some b) is other = absurd (other.0 is)
  one-sends (Some a) None is other = absurd (is.0 other)
  one-sends (Some a) (Some b) is other = ap Some (one-command is.1 other.1 a b is.2 other.2)

  -- what a work answers is that one
  pub works-next : (t : ChannelState) (result : Option Done) → IfNone result (HasNothingToSend s) → IfSome result (λ done. ¬ HasNothingToSend s) → IfSome result (λ done. IssuesChoice s done t) → SendsOnly s (option_map (λ done. done.command) result)
  works-next t None none some issues = record { sends = none; only = λ other sends. one-sends other None sends none }
  works-next t (Some done) none some issues =
      let here : Sends s (Some done.command) = (some, issues.index, issues.chosen) in
      record { sends = here; only = λ other sends. one-sends other (Some done.command) sends here }

-- a work adds the command that it answers to the list
pub works-issues : (s t : ChannelState) (result : Option Done) → IfNone result (t ≡ s) → IfSome result (λ done. IssuesChoice s done t) → t.commands ≡ with_issued (option_map (λ done. done.command) result) s.commands
works-issues s t None stays issues = ap (λ (x : ChannelState). x.commands) stays
works-issues s t (Some done) stays issues = ap (λ (x : ChannelState). x.commands) issues.same
