use Rattle.std.proofs.Common.{inl, refl}
use Rattle.frfcfs.proofs.WorkLemmas.{allows_of, idle_of, idle_without, keeps_of, next_of, work_of}
use Rattle.frfcfs.proofs.next.next_command.Goals as goal

pub first_of-requires-clause-found : goal.first_of-requires-clause-found
first_of-requires-clause-found c = rw c.requests.ensures.value c.soonest-soonest.ensures.found

pub first_of-requires-clause-best : goal.first_of-requires-clause-best
first_of-requires-clause-best c = rw c.requests.ensures.value c.soonest-soonest.ensures.best

pub returns-then-not-has_work-clause-idle : goal.returns-then-not-has_work-clause-idle
returns-then-not-has_work-clause-idle c list s m at = (
  λ _. inl (idle_without c.args.banks.now.checked list c.args.queue.now.requests c.args.now
      (work_of c.args.banks.now.checked list c.args.queue.now.requests c.args.queue.now.requests c.args.now c.soonest-soonest.result.any _ refl c.requires c.soonest-soonest.ensures.any (c.if-not-has_work.ensures list s))),
  λ _. refl,
)

pub returns-clause-allows : goal.returns-clause-allows
returns-clause-allows c = allows_of c.args.banks.now c.requests.result.now c.args.now c.first_of.result c.first_of.ensures.next

pub returns-clause-next : goal.returns-clause-next
returns-clause-next c = next_of c.args.banks.now c.requests.result.now c.args.queue.now.requests c.args.now c.first_of.result c.requests.ensures.value c.first_of.ensures.next

pub returns-clause-idle : goal.returns-clause-idle
returns-clause-idle c list s m at =
    idle_of c.args.banks.now.checked list c.requests.result.now c.args.queue.now.requests c.args.now c.first_of.result c.requests.ensures.value m s.lawful at c.if-now.false
    (work_of c.args.banks.now.checked list c.args.queue.now.requests c.args.queue.now.requests c.args.now c.soonest-soonest.result.any _ refl c.requires c.soonest-soonest.ensures.any (c.if-not-has_work.ensures list s))
    (c.first_of.ensures.next list s)

pub returns-clause-keeps : goal.returns-clause-keeps
returns-clause-keeps c =
    keeps_of c.args.banks.now c.args.queue.now.requests c.args.now c.first_of.result
    (next_of c.args.banks.now c.requests.result.now c.args.queue.now.requests c.args.now c.first_of.result c.requests.ensures.value c.first_of.ensures.next)
