use Rattle.std.proofs.Common.{◌≡◌, ◌-◌, ℕ, length, take, drop, ap, sym, ◌∙◌, length-drop, subst, List}
use Rattle.std.specs.Prelude.{All}
use Rattle.std.proofs.Math.Seq.{take-length}
use Rattle.save_image.specs.Reading.{HasPadding, fields_end, version_in}
use Rattle.save_image.proofs.reading.has_padding.Goals as goal

rest_is : (end : ℕ) (xs : List ℕ) → take (length xs - end) (drop end xs) ≡ drop end xs
rest_is end xs = ap (λ n. take n (drop end xs)) (sym (length-drop end xs)) ∙ take-length (drop end xs)

pub returns-then-all_zero : goal.returns-then-all_zero
unfolding HasPadding
returns-then-all_zero c =
    let P : List ℕ → Type 0 = All (λ b. b ≡ 0) in let page : List ℕ = c.args.page.now in let end : ℕ = c.end_of_fields.result in
    let at : drop end page ≡ drop (fields_end (version_in page)) page = ap (λ (n : ℕ). drop n page) (c.end_of_fields.ensures ∙ ap fields_end c.requires.version) in
    let same : take (length page - end) (drop end page) ≡ drop (fields_end (version_in page)) page = rest_is end page ∙ at in (
      (λ t. (c.all_zero.ensures.0 c.if-all_zero.true, subst P same (c.all_zero-then-all_zero.ensures.0 t))),
      (λ h. c.all_zero-then-all_zero.ensures.1 (subst P (sym same) h.1)),
    )
