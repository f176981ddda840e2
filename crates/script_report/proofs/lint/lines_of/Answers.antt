use Rattle.std.proofs.Common.{◌==◌, rules, tests}
use Rattle.std.proofs.lemmas.Iterator.Consumers.{map_from_collect}
use Rattle.std.proofs.lemmas.Iterator.Splits.{YieldsList-from_slice_split}
use Rattle.nv_script.specs.Texts.{without_last_newline}
use Rattle.script_report.proofs.lint.lines_of.Goals as goal

pub returns : goal.returns
returns c =
    map_from_collect _ c.collect.ensures.ran
    (YieldsList-from_slice_split _ (λ byte. byte == 10) (without_last_newline c.args.text.now) (cc) (cc) c.split.ensures.closure (λ x b q k. search (rules, tests)))
