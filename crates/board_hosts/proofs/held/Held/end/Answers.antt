use Rattle.std.proofs.Common.{All, List, ℕ, ◌≡◌, ◌≤◌, [], ◌∷◌, ap, subst, sym, ◌∙◌, arith}
use Rattle.std.proofs.lemmas.Iterator.Adapters.{YieldsList-from_vec}
use Rattle.std.proofs.lemmas.Iterator.Consumers.{YieldsList-end}
use Rattle.std.proofs.lemmas.List.{map-id}
use Rattle.std.proofs.lemmas.List.{length-append}
use Rattle.std.proofs.lemmas.List.Elements.{All-push}
use Rattle.std.proofs.lemmas.List.Sums.{sum_by-append}
use Rattle.board_hosts.proofs.Common.{Client, SeenMarks}
use Rattle.board_hosts.proofs.held.Held.end.Goals as goal

pub loop-host-preserved : goal.loop-host-preserved
loop-host-preserved g c =
    let before = c.loop-host.invariant in
    let host : Client = c.in-Some.host in
    let size = length-append c.loop-host.yielded (host ∷ []) in
    let sum = sum_by-append (λ (h : Client). h.writes) c.loop-host.yielded (host ∷ []) in
    let same : c.loop-host.seat.persisted ≡ c.args.self.seat.persisted = ap (λ (m : SeenMarks). m.persisted) before.2 in (
      omega (arith, c.end_host.ensures.parts, before.0, size),
      omega (arith, c.end_host.ensures.amount, before.1, sum),
      c.end_host.ensures.same ∙ before.2,
      All-push (λ (h : Client). h.persisted ≤ c.args.self.seat.persisted) c.loop-host.yielded host before.3 (omega (arith, c.end_host.ensures.below, same)),
    )

pub returns-clause-marks : goal.returns-clause-marks
returns-clause-marks g c =
    let gives = c.into_iter-host-iterator.ensures.into_iter_gives in
    let whole = YieldsList-end (YieldsList-from_vec c.args.hosts.items gives.0 (omega (arith, gives.1, c.args.hosts.ok))) c.loop-host.yielded c.loop-host.host-iterator c.loop-host.yielded_by c.next.result c.next.new.self c.in-None.is c.next.ensures.steps in
    let all : c.loop-host.yielded ≡ c.args.hosts.items = sym (map-id c.loop-host.yielded) ∙ whole.0 in
    let shown : c.args.self.seat.persisted ≡ c.args.self.recorded.running.front.persisted = ap (λ (m : SeenMarks). m.persisted) c.args.self.kept.shown in
    subst (λ (hosts : List Client). All (λ (h : Client). h.persisted ≤ c.args.self.recorded.running.front.persisted) hosts) all
    (subst (λ (p : ℕ). All (λ (h : Client). h.persisted ≤ p) c.loop-host.yielded) shown c.loop-host.invariant.3)
