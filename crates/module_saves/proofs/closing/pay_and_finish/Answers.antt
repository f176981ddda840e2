use Rattle.std.proofs.lemmas.List.FromFn.{length-map-range_with_len}
use Rattle.module_saves.proofs.Common.{refl, rules, sym}
use Rattle.module_saves.proofs.ClosingPayments.{finishes_paid}
use Rattle.module_saves.proofs.closing.pay_and_finish.Goals as goal

pub finish_repeating-requires-clause-lines : goal.finish_repeating-requires-clause-lines
finish_repeating-requires-clause-lines g c = rw length-map-range_with_len (sym c.requires.lines)

pub returns : goal.returns
returns g c = finishes_paid g.K.ChannelPort g.E.Energy.gauge _ (λ old step result new asked. asked) (λ arrays. refl) c.args.repeats c.finish_repeating.result _ _ c.finish_repeating.ensures _ (search rules)
