use Rattle.std.proofs.Common.{ap, sym, ◌∙◌}
use Rattle.interleave_map.specs.Ready.{line_by}
use Rattle.interleave_map.proofs.ReadyMaps.{ready_back}
use Rattle.interleave_map.proofs.ready.ReadyMapLineMap.line.Goals as goal

pub returns-in-Lines-clause-below : goal.returns-in-Lines-clause-below
returns-in-Lines-clause-below c = (ready_back c.args.self.now.checked c.args.self.now.interleaving c.args.place c.join.result c.requires.place (c.join.ensures ∙ ap (λ i. line_by i c.args.self.now.checked.geometry c.args.place) (sym c.in-Lines.is))).0

pub returns-in-Lines-clause-back : goal.returns-in-Lines-clause-back
returns-in-Lines-clause-back c = (ready_back c.args.self.now.checked c.args.self.now.interleaving c.args.place c.join.result c.requires.place (c.join.ensures ∙ ap (λ i. line_by i c.args.self.now.checked.geometry c.args.place) (sym c.in-Lines.is))).1

pub returns-in-Xor-clause-below : goal.returns-in-Xor-clause-below
returns-in-Xor-clause-below c = (ready_back c.args.self.now.checked c.args.self.now.interleaving c.args.place c.join-in-Xor.result c.requires.place (c.join-in-Xor.ensures ∙ ap (λ i. line_by i c.args.self.now.checked.geometry c.args.place) (sym c.in-Xor.is))).0

pub returns-in-Xor-clause-back : goal.returns-in-Xor-clause-back
returns-in-Xor-clause-back c = (ready_back c.args.self.now.checked c.args.self.now.interleaving c.args.place c.join-in-Xor.result c.requires.place (c.join-in-Xor.ensures ∙ ap (λ i. line_by i c.args.self.now.checked.geometry c.args.place) (sym c.in-Xor.is))).1
