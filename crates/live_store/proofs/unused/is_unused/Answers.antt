use Rattle.std.proofs.Common.{◌≡◌, ◌∙◌, ℕ, ◌+◌, ◌-◌, ◌*◌, ◌/◌, List, ap, rules, subst}
use Rattle.save_device.specs.Device.{Moment}
use Rattle.live_store.specs.Starts.{HasZeros}
use Rattle.live_store.proofs.Blank.{zeros_paged}
use Rattle.live_store.proofs.unused.is_unused.Goals as goal

pub loop-page-preserved : goal.loop-page-preserved
loop-page-preserved g c =
    let state = g.D.SaveDevice.state in let slot : ℕ = c.device_size-slot.result / 2 in let page : ℕ = c.loop-page.page in let front : ℕ = c.saturating_sub-front.result in
    let bytes : List ℕ = (state c.args.device.now).bytes in
    let same : (state c.loop-page.device).bytes ≡ bytes = ap (λ (m : Moment). m.bytes) c.loop-page.invariant.same in
    let here : HasZeros (slot + 4096 * page + front) (4096 - front) bytes =
    subst (λ (row : List ℕ). HasZeros (slot + 4096 * page + front) (4096 - front) row) same (c.in_ok-is_zero_behind.ensures.zeros (search rules)) in
    record {
      same = c.is_zero_behind.ensures.same ∙ c.loop-page.invariant.same;
      zeros = zeros_paged slot page front bytes c.saturating_sub-front.ensures c.loop-page.invariant.zeros here;
    }
