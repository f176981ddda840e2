use Rattle.std.proofs.Common.{◌==◌, not, length, lit<, rules, tests}
use Rattle.std.proofs.lemmas.Iterator.Consumers.{YieldsList-from_filter, map_from_collect}
use Rattle.std.proofs.lemmas.Iterator.Splits.{YieldsList-from_str_split}
use Rattle.trace_forms.proofs.words.between_spaces.Goals as goal

pub returns : goal.returns
returns c =
    map_from_collect _ c.collect.ensures.ran
    (YieldsList-from_filter _ (λ word. not (length word == 0)) (YieldsList-from_str_split 32 c.args.line.now (lit< tt) (cc) (cc) (cc)) c.filter.ensures.closure (λ x b q k. search (rules, tests)))
