-- Ports that keep their numbers and sizes, and what is seen of them then.
use Rattle.std.proofs.lemmas.Option.{slice_get_read}
use Rattle.channel_set.proofs.Common.{get_or, Place, arith, ◌≡◌, ◌<◌, ℕ, zero, suc, refl, sym, ap, ◌∙◌, List, [], ◌∷◌, length, length-set, slice_get, slice_set, Option, Some, AllZip, range_with_len, Costs, Ghosts, IsShape, Waits, PortTerms, ChannelSet, ArePorts, array_of, places_of, shape_with, stored_by, stored_in, waits_in, ChannelsView, view_of, Stage}
use Rattle.channel_set.proofs.Lists.{map-same, zip-set, zip-size, zip-was, zip-weaker}

module _ {K : Type 0} (L : Ghosts K) where
  -- the port of a line
  pub stands-for : (channels : ChannelSet K L) (line : ℕ) (place : Place) (p : K) → line < channels.terms.lines → place ≡ places_of L channels.ports.items line → p ≡ get_or channels.ports.items place.channel p
      → slice_get channels.ports.items place.channel ≡ Some p
  stands-for channels line place p less is read =
      let known = channels.shaped.known line less in
      slice_get_read channels.ports.items (length channels.ports.items) place.channel p refl (omega (arith, known, ap (λ (x : Place). x.channel) is)) read

  -- a port with the number and the sizes of another one, and with this hold
  pub record Alike (hold : Option ℕ) (old new : K) : Type 0 where
    pub number : (L.view new).number ≡ (L.view old).number
    pub checked : (L.view new).checked ≡ (L.view old).checked
    pub lines : (L.view new).lines ≡ (L.view old).lines
    pub places : (L.view new).place_of ≡ (L.view old).place_of
    pub depth : (L.view new).depth ≡ (L.view old).depth
    pub most_reads : (L.view new).most_reads ≡ (L.view old).most_reads
    pub hold_is : (L.view new).hold ≡ hold

  pub alike-from : (hold : Option ℕ) (old new : K) (waits : Waits) (stage : Stage) (stored : ℕ → List ℕ) → (L.view old).hold ≡ hold
      → L.view new ≡ record (L.view old) { waits = waits; stage = stage; stored = stored } → Alike hold old new
  alike-from hold old new waits stage stored held is = record {
    number = ap (λ v. v.number) is;
    checked = ap (λ v. v.checked) is;
    lines = ap (λ v. v.lines) is;
    places = ap (λ v. v.place_of) is;
    depth = ap (λ v. v.depth) is;
    most_reads = ap (λ v. v.most_reads) is;
    hold_is = ap (λ v. v.hold) is ∙ held;
  }

  -- ports with the same places of the lines
  pub places-again : (old new : List K) → AllZip (λ p q. (L.view q).place_of ≡ (L.view p).place_of) old new → places_of L new ≡ places_of L old
  places-again [] [] zip = refl
  places-again [] (q ∷ new) zip = absurd zip
  places-again (p ∷ old) [] zip = absurd zip
  places-again (p ∷ old) (q ∷ new) zip = zip.0

  pub places-set : (ports : List K) (i : ℕ) (p q : K) → slice_get ports i ≡ Some p → (L.view q).place_of ≡ (L.view p).place_of → places_of L (slice_set ports i q) ≡ places_of L ports
  places-set ports i p q at same = places-again ports (slice_set ports i q) (zip-set (λ p q. (L.view q).place_of ≡ (L.view p).place_of) ports i p q (λ j z there. refl) at same)

  -- the place of a line, by each of them
  pub place-there : (terms : PortTerms) (ports : List K) → ArePorts L terms ports → (i line : ℕ) (p : K) → slice_get ports i ≡ Some p → (L.view p).place_of line ≡ places_of L ports line
  place-there terms ports are i line p at = ap (λ f. f line) (are.each i p at).places_are

  place-first : (ports : List K) (line : ℕ) (p : K) → 0 < length ports → p ≡ get_or ports 0 p → (L.view p).place_of line ≡ places_of L ports line
  place-first [] line p some is = absurd (omega (arith, some))
  place-first (q ∷ ports) line p some is = ap (λ x. (L.view x).place_of line) is

  -- the place of a line, as the first port told it
  pub named : (channels : ChannelSet K L) (line : ℕ) (place : Place) (first : K) → line < channels.terms.lines → place ≡ (L.view first).place_of line → first ≡ get_or channels.ports.items 0 first
      → place ≡ places_of L channels.ports.items line
  named channels line place first less told read = told ∙ place-first channels.ports.items line first (omega (arith, channels.shaped.known line less)) read

  pub ports-alike : (terms : PortTerms) (hold : Option ℕ) (old new : List K) → ArePorts L terms old → AllZip (Alike hold) old new → ArePorts L (record terms { hold = hold }) new
  ports-alike terms hold old new are zip =
      let places = places-again old new (zip-weaker (Alike hold) (λ p q. (L.view q).place_of ≡ (L.view p).place_of) old new (λ j p q at a. a.places) zip) in
      record {
        each = λ j q at.
            let was = zip-was (Alike hold) old new j q zip at in
            let is = are.each j was.old was.stood in
            record {
              number_is = was.related.number ∙ is.number_is;
              checked = was.related.checked ∙ is.checked;
              lines = was.related.lines ∙ is.lines;
              places_are = was.related.places ∙ is.places_are ∙ sym places;
              depth = was.related.depth ∙ is.depth;
              most_reads = was.related.most_reads ∙ is.most_reads;
              hold = was.related.hold_is;
            };
        few = omega (arith, are.few, zip-size (Alike hold) old new zip);
      }

  pub ports-set : (terms : PortTerms) (ports : List K) (i : ℕ) (p q : K) → ArePorts L terms ports → slice_get ports i ≡ Some p → Alike terms.hold p q → ArePorts L terms (slice_set ports i q)
  ports-set terms ports i p q are at alike =
      ports-alike terms terms.hold ports (slice_set ports i q) are
      (zip-set (Alike terms.hold) ports i p q (λ j z there. record { number = refl; checked = refl; lines = refl; places = refl; depth = refl; most_reads = refl; hold_is = (are.each j z there).hold }) at alike)

  pub shaped-again : (terms : PortTerms) (costs : Costs) (old new : List K) → length new ≡ length old → places_of L new ≡ places_of L old → IsShape (shape_with L terms costs old) → IsShape (shape_with L terms costs new)
  shaped-again terms costs old new size places shaped = record {
    some = shaped.some;
    most = shaped.most;
    whole = shaped.whole;
    pages = shaped.pages;
    channels = size ∙ shaped.channels;
    known = λ line less. omega (arith, shaped.known line less, ap (λ f. (f line).channel) places, size);
  }

  -- one port of the channels has changed
  pub are-set : (channels : ChannelSet K L) (i : ℕ) (p q : K) (waits : Waits) (stage : Stage) (stored : ℕ → List ℕ) → slice_get channels.ports.items i ≡ Some p
      → L.view q ≡ record (L.view p) { waits = waits; stage = stage; stored = stored } → ArePorts L channels.terms (slice_set channels.ports.items i q)
  are-set channels i p q waits stage stored at is =
      ports-set channels.terms channels.ports.items i p q channels.are at (alike-from channels.terms.hold p q waits stage stored (channels.are.each i p at).hold is)

  pub shaped-set : (channels : ChannelSet K L) (i : ℕ) (p q : K) → slice_get channels.ports.items i ≡ Some p → (L.view q).place_of ≡ (L.view p).place_of
      → IsShape (shape_with L channels.terms channels.costs (slice_set channels.ports.items i q))
  shaped-set channels i p q at same =
      let ports = channels.ports.items in
      shaped-again channels.terms channels.costs ports (slice_set ports i q) (length-set ports i q) (places-set ports i p q at same) channels.shaped

  -- the ports as they are seen
  abbrev pub seen : PortTerms → Costs → List K → ChannelsView
  seen terms costs ports = record { shape = shape_with L terms costs ports; waits = waits_in L ports; hold = terms.hold; array = array_of L ports terms.lines }

  pub seen-again : (terms : PortTerms) (costs : Costs) (old new : List K) → length new ≡ length old → places_of L new ≡ places_of L old → seen terms costs new ≡ record (seen terms costs old) { waits = waits_in L new; array = array_of L new terms.lines }
  seen-again terms costs old new size places =
      ap (λ n. record (seen terms costs new) { shape = record (shape_with L terms costs new) { channels = n } }) size
      ∙ ap (λ f. record (seen terms costs new) { shape = record (shape_with L terms costs old) { channel_of = λ line. (f line).channel } }) places

  stored-again : (old new : List K) (channel line : ℕ) → AllZip (λ p q. (L.view q).stored ≡ (L.view p).stored) old new → stored_by L line (slice_get new channel) ≡ stored_by L line (slice_get old channel)
  stored-again [] [] channel line zip = refl
  stored-again [] (q ∷ new) channel line zip = absurd zip
  stored-again (p ∷ old) [] channel line zip = absurd zip
  stored-again (p ∷ old) (q ∷ new) zero line zip = ap (λ stored. stored line) zip.0
  stored-again (p ∷ old) (q ∷ new) (suc channel) line zip = stored-again old new channel line zip.1

  pub array-again : (old new : List K) (lines : ℕ) → places_of L new ≡ places_of L old → AllZip (λ p q. (L.view q).stored ≡ (L.view p).stored) old new → array_of L new lines ≡ array_of L old lines
  array-again old new lines places zip =
      map-same (stored_in L new) (stored_in L old) (range_with_len 0 lines) (λ line. ap (λ f. stored_by L line (slice_get new (f line).channel)) places ∙ stored-again old new (places_of L old line).channel line zip)

  -- where the arrays stay
  pub seen-stored : (terms : PortTerms) (costs : Costs) (old new : List K) → places_of L new ≡ places_of L old → AllZip (λ p q. (L.view q).stored ≡ (L.view p).stored) old new → seen terms costs new ≡ record (seen terms costs old) { waits = waits_in L new }
  seen-stored terms costs old new places zip =
      seen-again terms costs old new (zip-size (λ p q. (L.view q).stored ≡ (L.view p).stored) old new zip) places
      ∙ ap (λ lines. record (seen terms costs old) { waits = waits_in L new; array = lines }) (array-again old new terms.lines places zip)

  -- ports that were all at a stage are all at another now
  pub stage-again : (was is : Stage) (old new : List K) → AllZip (λ p q. (L.view p).stage ≡ was → (L.view q).stage ≡ is) old new
      → ((number : ℕ) (port : K) → slice_get old number ≡ Some port → (L.view port).stage ≡ was) → (number : ℕ) (port : K) → slice_get new number ≡ Some port → (L.view port).stage ≡ is
  stage-again was is old new zip each j q at = let found = zip-was (λ p q. (L.view p).stage ≡ was → (L.view q).stage ≡ is) old new j q zip at in found.related (each j found.old found.stood)

  -- one port has changed, by what waits in it alone
  pub seen-set : (channels : ChannelSet K L) (i : ℕ) (p q : K) (waits : Waits) → slice_get channels.ports.items i ≡ Some p → L.view q ≡ record (L.view p) { waits = waits }
      → seen channels.terms channels.costs (slice_set channels.ports.items i q) ≡ record (view_of L channels) { waits = waits_in L (slice_set channels.ports.items i q) }
  seen-set channels i p q waits at is =
      let ports = channels.ports.items in
      seen-stored channels.terms channels.costs ports (slice_set ports i q) (places-set ports i p q at (ap (λ v. v.place_of) is)) (zip-set (λ p q. (L.view q).stored ≡ (L.view p).stored) ports i p q (λ j z there. refl) at (ap (λ v. v.stored) is))

  pub stage-set : (stage : Stage) (ports : List K) (i : ℕ) (p q : K) (waits : Waits) (stored : ℕ → List ℕ) → slice_get ports i ≡ Some p → L.view q ≡ record (L.view p) { waits = waits; stored = stored }
      → ((number : ℕ) (port : K) → slice_get ports number ≡ Some port → (L.view port).stage ≡ stage) → (number : ℕ) (port : K) → slice_get (slice_set ports i q) number ≡ Some port → (L.view port).stage ≡ stage
  stage-set stage ports i p q waits stored at is =
      stage-again stage stage ports (slice_set ports i q) (zip-set (λ p q. (L.view p).stage ≡ stage → (L.view q).stage ≡ stage) ports i p q (λ j z there same. same) at (λ same. ap (λ v. v.stage) is ∙ same))
