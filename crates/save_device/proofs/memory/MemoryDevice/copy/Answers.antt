use Rattle.std.proofs.Common.{◌≡◌, ◌∙◌, ◌<◌, ◌≤◌, ◌^◌, Bool, List, ap, false, length, slice_index, slice_index_or, subst, sym, ℕ}
use Rattle.std.specs.Prelude.{map}
use Rattle.save_device.specs.Flags.{AllUpWithin}
use Rattle.save_device.specs.Memory.{moment_of}
use Rattle.save_device.proofs.memory.MemoryDevice.copy.Goals as goal

pub invariant_of-result : goal.invariant_of-result
invariant_of-result c =
    let it = c.args.self.now in
    let bytes : it.content.bytes.items ≡ c.in_ok-bytes.bytes.items = sym (c.in_ok-bytes.ensures.items ∙ c.deref.ensures.value) in
    let flags : it.content.unsettled.items ≡ c.in_ok-unsettled.unsettled.items = sym (c.in_ok-unsettled.ensures.items ∙ c.deref-2.ensures.value) in
    let row : it.settled.items ≡ c.in_ok-settled.settled.items = sym (c.in_ok-settled.ensures.items ∙ c.deref-3.ensures.value) in
    record {
      small = subst (λ (some : List ℕ). length some < 2 ^ 64) bytes it.small;
      flags = sym (ap (λ (some : List Bool). length some) flags) ∙ it.flags ∙ ap (λ (some : List ℕ). length some) bytes;
      whole = sym (ap (λ (some : List ℕ). length some) row) ∙ it.whole ∙ ap (λ (some : List ℕ). length some) bytes;
      agrees = λ k calm.
          sym (ap (λ (some : List ℕ). slice_index some k) row)
          ∙ it.agrees k (ap (λ (some : List Bool). slice_index_or some k false) flags ∙ calm)
          ∙ ap (λ (some : List ℕ). slice_index some k) bytes;
      spanned = subst (λ (some : List Bool). AllUpWithin it.span.low it.span.high some) flags it.spanned;
      inside = subst (λ (some : List ℕ). it.span.high ≤ length some) bytes it.inside;
    }

pub returns : goal.returns
returns c = record {
  state = λ i. record {
    bytes = (c.in_ok-bytes.ensures.items ∙ c.deref.ensures.value) i;
    unsettled = λ place. slice_index_or ((c.in_ok-unsettled.ensures.items ∙ c.deref-2.ensures.value) i) place false;
    earlier = map moment_of (c.copy-earlier.ensures i);
    calls = c.copy-calls.ensures i;
  };
  settled = c.in_ok-settled.ensures.items ∙ c.deref-3.ensures.value;
}
