use Rattle.std.proofs.lemmas.Option.{slice_get_read}
use Rattle.std.specs.Option.{option_map}
use Rattle.channel_set.proofs.Common.{refl, ap, length, length-set, slice_set, OnMains}
use Rattle.channel_set.proofs.Alike.{are-set, stage-set, places-set, seen-again, shaped-set}
use Rattle.channel_set.proofs.Answered.{work-next, work-remain, work-served, work-stays}
use Rattle.channel_set.proofs.Carried.{carries-set}
use Rattle.channel_set.proofs.Issued.{issues-set}
use Rattle.channel_set.proofs.set.ChannelSet.work.Goals as goal

pub invariant_of-self : goal.invariant_of-self
invariant_of-self g c =
    let L = g.K.ChannelPort in
    let channels = c.args.self.now in
    let i = c.args.channel in
    let p = c.index_mut.result.now in
    let at = slice_get_read channels.ports.items (length channels.ports.items) i p refl c.requires.channel c.index_mut.ensures.value in
    record { are = are-set L channels i p c.work.new.self _ _ _ at c.work.ensures.rest; shaped = shaped-set L channels i p c.work.new.self at (ap (λ v. v.place_of) c.work.ensures.rest); reckoned = channels.reckoned }

pub returns : goal.returns
returns g c =
    let L = g.K.ChannelPort in
    let channels = c.args.self.now in
    let ports = channels.ports.items in
    let i = c.args.channel in
    let p = c.index_mut.result.now in
    let q = c.work.new.self in
    let at = slice_get_read ports (length ports) i p refl c.requires.channel c.index_mut.ensures.value in
    let done = c.work.result in
    let did = c.work.ensures in
    record {
      served = work-served L channels.terms ports i p q channels.are at done did.served;
      next = work-next L channels i p _ at did.next;
      stays = work-stays L channels i p q at done did.stays;
      rest = seen-again L channels.terms channels.costs ports (slice_set ports i q) (length-set ports i q) (places-set L ports i p q at (ap (λ v. v.place_of) did.rest));
      issued = issues-set L channels _ i p q (option_map (λ done. done.command) done) refl refl at did.issued;
      mains = stage-set L OnMains ports i p q _ _ at did.rest c.requires.mains;
      keeps = carries-set L channels _ i p q refl refl at (ap (λ v. v.place_of) did.rest) (record { keeps = did.keeps; remain = work-remain L (L.view p).hold (L.view p).number p q done did.served did.stays });
    }
