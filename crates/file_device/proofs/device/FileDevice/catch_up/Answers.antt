use Rattle.std.proofs.Common.{◌≡◌, ◌+◌, ◌∙◌, ◌<◌, ◌≤◌, ℕ, true, ap, subst, arith, length}
use Rattle.std.specs.Prelude.{IsTrue, Bool, slice_range}
use Rattle.save_device.specs.Memory.{state_of}
use Rattle.file_device.specs.declared.places.Places.{Places}
use Rattle.file_device.specs.Kept.{IfKept, Puts, BacksWhole}
use Rattle.file_device.proofs.Backing.{IsCaughtUpBelow, caught_up, caught_up_by, caught_up_same, current_backs, kept_on}
use Rattle.file_device.proofs.device.FileDevice.catch_up.Goals as goal

pub loop-at-smaller-then-n-eq0 : goal.loop-at-smaller-then-n-eq0
loop-at-smaller-then-n-eq0 g c =
    let same : length c.loop-at.self.unsettled.flags.items ≡ length c.args.self.now.unsettled.flags.items = ap (λ (places : Places). length places.flags.items) c.loop-at.invariant.places in
    omega (arith, same, c.end.ensures.within, c.loop-at-test.true)

pub loop-at-preserved : goal.loop-at-preserved
loop-at-preserved g c =
    let K = g.F.DiskFile in let now = c.loop-at.self in let next = c.put_again.new.self in let I = c.loop-at.invariant in
    let room : c.loop-at.at + c.run_at-n.result ≤ length (state_of now.mirror).bytes = omega (arith, c.run_at-n.ensures.within, now.marked.size) in
    let good : c.put_again.result ≡ true = c.if-put_again.true in
    let below : IfKept (IsCaughtUpBelow (c.loop-at.at + c.run_at-n.result) (state_of now.mirror)) (K.kept next.file) =
    kept_on {A = λ kept. BacksWhole now.is_behind (state_of now.mirror) kept × IsCaughtUpBelow c.loop-at.at (state_of now.mirror) kept} (K.kept now.file) (K.kept next.file) c.put_again.ensures.puts
    (λ kept after puts both. caught_up_by c.loop-at.at c.run_at-n.result (state_of now.mirror) now.is_behind kept after room both.0
    (subst (λ (b : Bool). Puts c.loop-at.at (slice_range (state_of now.mirror).bytes c.loop-at.at (c.loop-at.at + c.run_at-n.result)) b kept after) good puts) both.1)
    (λ kept is. (now.backed kept is, I.done kept is)) in
    record {
      same = c.put_again.ensures.same ∙ I.same;
      earlier = c.put_again.ensures.earlier ∙ I.earlier;
      calls = c.put_again.ensures.calls ∙ I.calls;
      places = c.put_again.ensures.places ∙ I.places;
      behind = c.put_again.ensures.behind;
      done = λ kept is. caught_up_same (c.loop-at.at + c.run_at-n.result) (state_of now.mirror) (state_of next.mirror) kept c.put_again.ensures.same (below kept is);
    }

pub invariant_of-self : goal.invariant_of-self
invariant_of-self g c =
    let now = c.loop-at.self in
    let all : (place : ℕ) → IsTrue ((state_of now.mirror).unsettled place) → place < c.loop-at.at = λ place up.
    let below : place < c.end.result = c.end.ensures.below place (now.marked.all place up) in omega (arith, below, c.loop-at-test.false) in
    record {
      fits = now.fits;
      marked = now.marked;
      backed = λ kept is. current_backs (state_of now.mirror) now.is_behind kept (now.backed kept is) (caught_up c.loop-at.at (state_of now.mirror) now.is_behind kept (now.backed kept is) all (c.loop-at.invariant.done kept is));
    }
