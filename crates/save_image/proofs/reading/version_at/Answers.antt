use Rattle.std.proofs.Common.{inl, inr, sym, ⊎_elim}
use Rattle.save_image.specs.Header.{magic_1, magic_2}
use Rattle.save_image.specs.Reading.{HasMagic}
use Rattle.save_image.proofs.Found.{version_one, version_two}
use Rattle.save_image.proofs.reading.version_at.Goals as goal

pub returns-then-has_text-clause-some : goal.returns-then-has_text-clause-some
unfolding HasMagic magic_2
returns-then-has_text-clause-some c =
    let is = c.has_text.ensures.0 c.if-has_text.true in (inr is, sym (version_two c.args.page.now is))

pub returns-then-has_text-2-clause-some : goal.returns-then-has_text-2-clause-some
unfolding HasMagic magic_1
returns-then-has_text-2-clause-some c =
    let is = c.has_text-2.ensures.0 c.if-has_text-2.true in (inl is, sym (version_one c.args.page.now is))

pub returns-clause-none : goal.returns-clause-none
unfolding HasMagic magic_1 magic_2
returns-clause-none c = λ none has. ⊎_elim
    (λ one. let yes = c.has_text-2.ensures.1 one in let no = c.if-has_text-2.false in cc)
    (λ two. let yes = c.has_text.ensures.1 two in let no = c.if-has_text.false in cc)
    has
