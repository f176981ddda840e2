-- The ticket of a read is of its line's channel.
use Rattle.std.proofs.Common.{None, Ok, arith, ◌<◌, ◌∙◌, ◌≡◌, ℕ}
use Rattle.std.proofs.Math.Logic.{∥∥₁_elim}
use Rattle.std.proofs.Math.Nat.{ℕ_set}
use Rattle.channel_port.specs.declared.answers.Got.{Got}
use Rattle.channel_port.specs.declared.answers.Got.TheVariants.{Now, Later}
use Rattle.nv_machine.specs.Machine.{ReadStep}
use Rattle.nv_machine.specs.Refusals.{read_refusal}
use Rattle.nv_machine.specs.State.{Machine, Setup}
use Rattle.board_desk.specs.Answering.{IsTicketOf}

-- a read that isn't refused is of a line that there is
line_below : (setup : Setup) (m : Machine) (line : ℕ) → read_refusal setup m line ≡ None → line < setup.shape.lines
line_below setup m line unrefused = grind arith

pub ticket_stepped : (setup : Setup) (m n : Machine) (line : ℕ) (got : Got) (channel : ℕ) → ReadStep setup line (Ok got) m n → (line < setup.shape.lines → setup.shape.channel_of line ≡ channel) → IsTicketOf channel got
ticket_stepped setup m n line (Now bytes) channel step on = tt
ticket_stepped setup m n line (Later ticket) channel step on = step.1.0 ∙ on (line_below setup m line step.0)

pub ticket_of : (got : Got) (channel : ℕ) → ∥ IsTicketOf channel got ∥₁ → IsTicketOf channel got
ticket_of (Now bytes) channel known = tt
ticket_of (Later ticket) channel known = ∥∥₁_elim known (ℕ_set _ _) (λ is. is)
