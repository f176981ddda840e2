use Rattle.channel_port.specs.Answers.{IsGot}
use Rattle.channel_set.proofs.Common.{arith, refl, sym, ap, subst, ◌∙◌, None, Place, after, line_of, shape_of, written_on, OnMains}
use Rattle.channel_set.proofs.Alike.{are-set, stage-set, place-there, seen-set, shaped-set, stands-for}
use Rattle.channel_set.proofs.Answered.{got-there, whole-line, writes-stay}
use Rattle.channel_set.proofs.Carried.{carries-set}
use Rattle.channel_set.proofs.Counted.{full-of-reads-there, writes_in}
use Rattle.channel_set.proofs.Piles.{remain-same}
use Rattle.channel_set.proofs.Issued.{issues-set}
use Rattle.channel_set.proofs.set.ChannelSet.get.Goals as goal

pub get-requires : goal.get-requires
get-requires g c =
    let L = g.K.ChannelPort in
    let channels = c.args.self.now in
    let i = c.args.place.channel in
    let p = c.index_mut.result.now in
    let at = stands-for L channels c.args.line c.args.place p c.requires.line c.requires.place c.index_mut.ensures.value in
    let is = channels.are.each i p at in
    record {
      line = omega (arith, c.requires.line, is.lines);
      place = c.requires.place ∙ sym (place-there L channels.terms channels.ports.items channels.are i c.args.line p at);
      here = sym is.number_is;
      room = full-of-reads-there L channels.terms channels.ports.items channels.are g.met.K.ChannelPort.own_reads i p at ∙ c.requires.room;
      mains = c.requires.mains i p at;
    }

pub invariant_of-self : goal.invariant_of-self
invariant_of-self g c =
    let L = g.K.ChannelPort in
    let channels = c.args.self.now in
    let i = c.args.place.channel in
    let p = c.index_mut.result.now in
    let at = stands-for L channels c.args.line c.args.place p c.requires.line c.requires.place c.index_mut.ensures.value in
    record { are = are-set L channels i p c.get.new.self _ _ _ at c.get.ensures.rest; shaped = shaped-set L channels i p c.get.new.self at (ap (λ v. v.place_of) c.get.ensures.rest); reckoned = channels.reckoned }

pub returns : goal.returns
returns g c =
    let L = g.K.ChannelPort in
    let channels = c.args.self.now in
    let ports = channels.ports.items in
    let i = c.args.place.channel in
    let p = c.index_mut.result.now in
    let q = c.get.new.self in
    let line = c.args.line in
    let at = stands-for L channels line c.args.place p c.requires.line c.requires.place c.index_mut.ensures.value in
    let got = c.get.ensures in
    record {
      got = λ base start writes carries.
          let mine = written_on (shape_of L channels).channel_of i start writes in
          let bytes = whole-line L base start writes line i (shape_of L channels).channel_of (ap (λ (x : Place). x.channel) (sym c.requires.place)) in
          got-there L channels.terms ports i p q channels.are at g.met.K.ChannelPort.own_reads g.met.K.ChannelPort.own_tickets (line_of (after base writes) line) line c.args.at c.get.result
          (subst (λ b. IsGot b line c.args.at (L.view p).number c.get.result (L.view p).waits (L.view q).waits) bytes (got.got base mine (carries.each i p at).carries));
      rest = seen-set L channels i p q _ at got.rest;
      writes = writes-stay L channels.terms ports i p q channels.are at got.writes;
      issued = issues-set L channels _ i p q None refl refl at got.issued;
      mains = stage-set L OnMains ports i p q _ _ at got.rest c.requires.mains;
      keeps = carries-set L channels _ i p q refl refl at (ap (λ v. v.place_of) got.rest) (record { keeps = got.keeps; remain = remain-same (writes_in L p) (writes_in L q) got.writes });
    }
