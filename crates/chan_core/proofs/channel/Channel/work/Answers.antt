use Rattle.std.proofs.Common.{◌≡◌, Option, Some, None, refl}
use Rattle.chan_core.proofs.Common.{Next}
use Rattle.chan_core.proofs.Going.{next-here, none-here, running-on}
use Rattle.chan_core.proofs.channel.Channel.work.Goals as goal

pub next_command-requires : goal.next_command-requires
next_command-requires c = rw (rw (← c.self-inside.view_is) at c.self.invariant).checked (λ k d less. (c.self-inside.invariant.are.right k d less).lies)

-- there is none exactly where there is nothing to send
pub returns-in_err-next-clause-none : goal.returns-in_err-next-clause-none
returns-in_err-next-clause-none c =
    let is = rw (← c.self-inside.view_is) at c.self.invariant in
    rw (← c.self.view_is, ← c.self-inside.view_is)
    (λ not. let none = none-here _ is not _ c.next_command.result refl c.next_command.ensures.idle in (λ e. none.0 c.in_err-next.was, λ h. c.from_residual.ensures))

pub invariant_of-self : goal.invariant_of-self
invariant_of-self c =
    running-on _ c.in_ok-next.next c.issue.new.self c.push_back.new.self c.issue-served.new.self (rw (← c.self-inside.view_is) at c.self.invariant) c.issue-served.ensures.same c.issue.ensures.checked c.issue.ensures.stands
    c.push_back.ensures.items c.in_ok-next.ensures.early c.in_ok-next.ensures.keeps c.in_ok-next.ensures.next

not-both : (next : Option Next) (x : Next) → next ≡ Some x → next ≡ None → ⊥
not-both next x some none = absurd cc

pub returns-clause-none : goal.returns-clause-none
returns-clause-none c =
    let is = rw (← c.self-inside.view_is) at c.self.invariant in
    rw (← c.self.view_is, ← c.self-inside.view_is)
    (λ not. let none = none-here _ is not _ c.next_command.result refl c.next_command.ensures.idle in (λ e. absurd cc, λ h. absurd (not-both c.next_command.result c.in_ok-next.next c.in_ok-next.was (none.1 h))))

pub returns-clause-issues : goal.returns-clause-issues
returns-clause-issues c =
    let is = rw (← c.self-inside.view_is) at c.self.invariant in
    rw (← c.self.view_is, ← c.self-inside.view_is) (record {
      index = c.in_ok-next.next.serves;
      chosen = next-here _ is _ (Some c.in_ok-next.next) refl c.in_ok-next.ensures.next;
      same = c.issue-served.ensures.same;
      serves = c.issue-served.ensures.serves;
    })
