use Rattle.std.proofs.Common.{◌≡◌, ◌+◌, ◌*◌, ◌<◌, ◌≤◌, ℕ, Some, List, [], length, slice_get, take, arith, subst, sym}
use Rattle.std.proofs.lemmas.List.{length-take-le, take_more}
use Rattle.std.proofs.lemmas.Option.{slice_get_within}
use Rattle.ddr4_timing.specs.declared.command.Stamped.{Stamped}
use Rattle.ddr4_timing.specs.declared.fault.Fault.{Fault}
use Rattle.all_faults.specs.Faults.{AreFaultsUpTo, AreLatest}
use Rattle.all_faults.specs.Left.{IsLeftBy}
use Rattle.all_faults.proofs.FaultLemmas.{all_places, highest_more, latest_more, latest_none, none_yet}
use Rattle.all_faults.proofs.faults.all_faults.Goals as goal

pub loop-second-init : goal.loop-second-init
loop-second-init c = record {
  faults = subst (λ (faults : List Fault). AreFaultsUpTo c.args.c.now c.args.list.now 0 faults) (sym c.new-faults.ensures.items) (none_yet c.args.c.now c.args.list.now);
  left = c.new-left.ensures;
  latest = subst (λ (latest : List ℕ). AreLatest [] latest) (sym c.new-latest.ensures.items) latest_none;
  highest = λ k a s. absurd (let within = slice_get_within [] k a s in omega (arith, within));
}

pub loop-second-preserved : goal.loop-second-preserved
loop-second-preserved c =
    let list : List Stamped = c.args.list.now in
    let n : ℕ = c.loop-second.second in
    let here : n < length list = c.loop-second-test.true in
    let front : length (take n list) ≡ n = length-take-le n list (omega (arith, here)) in
    let highest : (k : ℕ) (a : Stamped) → slice_get (take (n + 1) list) k ≡ Some a → a.clock ≤ c.max-highest.result =
    λ k a s. subst (λ (most : ℕ). a.clock ≤ most) (sym c.max-highest.ensures) (highest_more list n c.loop-second.highest _ here c.loop-second.invariant.highest k a s) in
    record {
      faults = c.in_ok-add_faults.ensures c.loop-second.invariant.faults;
      left = subst (λ (before : List Stamped). IsLeftBy c.args.c.now.geometry c.take.new.self before) (sym (take_more list n _ here))
          (c.take.ensures (take n list) (omega (arith, here, front)) c.loop-second.invariant.left);
      latest = subst (λ (latest : List ℕ). AreLatest (take (n + 1) list) latest) (sym c.in_ok-push.ensures.items)
          (latest_more list c.loop-second.latest.items n c.max-highest.result here c.loop-second.invariant.latest highest);
      highest = highest;
    }

pub returns : goal.returns
returns c =
    let list : List Stamped = c.args.list.now in
    let whole : c.loop-second.second ≡ length list = omega (arith, c.loop-second-test.false, c.loop-second.auto.second-end) in
    all_places c.args.c.now list c.loop-second.faults.items
    (subst (λ (n : ℕ). AreFaultsUpTo c.args.c.now list (16 * n) c.loop-second.faults.items) whole c.loop-second.invariant.faults)
