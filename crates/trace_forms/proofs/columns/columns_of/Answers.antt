use Rattle.std.proofs.Common.{◌≡◌, ℕ, false, List, Option, Some, IsTrue, is_some, length, arith, ap, subst, sym, ◌∙◌}
use Rattle.std.proofs.lemmas.List.{length-set}
use Rattle.std.proofs.lemmas.Option.{slice_get-get_or}
use Rattle.trace_forms.specs.Columns.{part_number}
use Rattle.trace_forms.specs.declared.part.Part.{Part}
use Rattle.trace_forms.proofs.Places.{AreColumnsUpTo, no_some, passed_over, placed_whole, put_in, stands_again}
use Rattle.trace_forms.proofs.columns.columns_of.Goals as goal

pub loop-place-preserved-in_default : goal.loop-place-preserved-in_default
loop-place-preserved-in_default c =
    let passed = slice_get-get_or c.args.order.now c.loop-place.place _ c.loop-place-test.true ∙ ap (λ (o : Option Part). Some o) c.in_default.is in
    (c.loop-place.invariant.0, passed_over c.args.order.now c.loop-place.columns c.loop-place.place passed c.loop-place.invariant.1)

pub returns-then-is_some-clause-twice : goal.returns-then-is_some-clause-twice
returns-then-is_some-clause-twice c =
    let there : IsTrue (is_some c.place.result) = cc in
    stands_again c.args.order.now c.loop-place.columns c.loop-place.place c.in-Some.part c.place.result (sym c.place.ensures) there
    (slice_get-get_or c.args.order.now c.loop-place.place _ c.loop-place-test.true ∙ ap (λ (o : Option Part). Some o) c.in-Some.is) c.loop-place.invariant.1

pub loop-place-preserved : goal.loop-place-preserved
loop-place-preserved c =
    let no : is_some c.place.result ≡ false = cc in
    let size = c.loop-place.invariant.0 in
    let found = slice_get-get_or c.args.order.now c.loop-place.place _ c.loop-place-test.true ∙ ap (λ (o : Option Part). Some o) c.in-Some.is in (
      subst (λ (l : List (Option ℕ)). length l ≡ 8) (sym c.put.ensures)
          (length-set c.loop-place.columns.places (part_number c.in-Some.part) (Some c.loop-place.place) ∙ size),
      put_in c.args.order.now c.loop-place.columns c.put.new.self c.loop-place.place c.in-Some.part size c.put.ensures
          (sym c.place.ensures ∙ no_some c.place.result no) found c.loop-place.invariant.1,
    )

pub returns-clause-columns : goal.returns-clause-columns
returns-clause-columns c =
    let whole : c.loop-place.place ≡ length c.args.order.now = omega (arith, c.loop-place-test.false, c.loop-place.auto.place-end) in
    placed_whole c.args.order.now c.loop-place.columns
    (subst (λ (n : ℕ). AreColumnsUpTo n c.args.order.now c.loop-place.columns) whole c.loop-place.invariant.1)
