use Rattle.std.proofs.Common.{◌==◌, ◌∙◌, rules, sym, tests}
use Rattle.std.proofs.lemmas.Iterator.{YieldsList-from_slice}
use Rattle.std.proofs.lemmas.Iterator.Search.{all_from_yields_List}
use Rattle.nv_script.proofs.Blanks.{blank_by_spaces}
use Rattle.nv_script.proofs.numbering.is_blank.Goals as goal

pub returns : goal.returns
returns c =
    all_from_yields_List (λ byte. byte == 32) _ _ _ c.all.ensures.ran (YieldsList-from_slice c.args.line.now cc) (λ x b q k. search (rules, tests))
    ∙ sym (blank_by_spaces c.args.line.now)
