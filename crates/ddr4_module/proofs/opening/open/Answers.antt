use Rattle.std.proofs.Common.{ℕ, ◌∙◌, List, [], ap, refl, slice_get, subst, sym}
use Rattle.channel_port.specs.Shape.{Shape}
use Rattle.channel_set.specs.Carrying.{CarriesAll}
use Rattle.channel_set.specs.declared.set.ChannelSet.{ChannelSet}
use Rattle.slot_store.specs.Rest.{IsAtRestOn}
use Rattle.slot_store.specs.Told.{image_of_restored}
use Rattle.slot_store.specs.declared.restoring.Restored.{Restored}
use Rattle.ddr4_module.proofs.opening.open.Goals as goal

pub returns-in-Ok-clause-begins : goal.returns-in-Ok-clause-begins
returns-in-Ok-clause-begins g c = λ arm device rest.
    let it : Restored = c.args.restored in let image = image_of_restored it arm in let made = c.in-Ok.ensures in
    c.open.ensures.begins image device
    (record {
      generation = refl;
      count = refl;
      carries = subst (λ (m : List (List ℕ)). CarriesAll _ c.in-Ok.channels m it.head.count []) c.deref.ensures.value (made.carries it.head.count);
      rest = subst (λ (n : ℕ). IsAtRestOn it.head.newest.slot image n it.head.closed device) (sym (ap (λ (s : Shape). s.lines) made.shape)) rest;
    })

pub returns-in-Ok-clause-issued : goal.returns-in-Ok-clause-issued
returns-in-Ok-clause-issued g c number port at = c.in-Ok.ensures.issued number port (ap (λ (set : ChannelSet _ _). slice_get set.ports.items number) (sym c.open.ensures.channels) ∙ at)
