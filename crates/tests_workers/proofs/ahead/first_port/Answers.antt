use Rattle.std.proofs.Common.{List, Some, [], ap, refl, slice_get, subst, sym, ◌++◌, ◌∙◌, ◌∷◌, ◌≡◌}
use Rattle.std.specs.List.{flat_map}
use Rattle.std.specs.Vec.Iter.{into_iter_items}
use Rattle.channel_port.specs.Waits.{OpenRead, Waits, nothing}
use Rattle.channel_port.specs.declared.answers.Ticket.{Ticket}
use Rattle.channel_port.specs.declared.port.ChannelPort.{Ghosts}
use Rattle.channel_port.specs.declared.waiting.Waiting.{Waiting}
use Rattle.channel_set.specs.Ports.{waits_in}
use Rattle.tests_workers.proofs.ahead.first_port.Goals as goal

-- of lists that make none together the first is empty
none_in_front : {X : Type 0} (xs ys : List X) → xs ++ ys ≡ [] → xs ≡ []
none_in_front [] ys none = refl
none_in_front (x ∷ xs) ys none = cc

-- where nothing waits in ports nothing waits in the first one
nothing_in_first : {K : Type 0} (L : Ghosts K) (port : K) (ports : List K) → waits_in L (port ∷ ports) ≡ nothing → (L.view port).waits ≡ nothing
nothing_in_first L port ports none =
    let waits = (L.view port).waits in
    let writes : waits.writes ≡ [] = none_in_front waits.writes (flat_map (λ it. (L.view it).waits.writes) ports) (ap (λ (w : Waits). w.writes) none) in
    let reads : waits.reads ≡ [] = none_in_front waits.reads (flat_map (λ it. (L.view it).waits.reads) ports) (ap (λ (w : Waits). w.reads) none) in
    let given : waits.given ≡ [] = none_in_front waits.given (flat_map (λ it. (L.view it).waits.given) ports) (ap (λ (w : Waits). w.given) none) in
    ap (λ (list : List Waiting). record waits { writes = list }) writes ∙ ap (λ (list : List OpenRead). record waits { writes = []; reads = list }) reads
    ∙ ap (λ (list : List Ticket). record waits { writes = []; reads = []; given = list }) given

pub returns : goal.returns
returns g c =
    let L = g.K.ChannelPort in
    let channels = c.args.channels in
    let port = c.in-Some.port in
    let all : channels.ports.items ≡ port ∷ into_iter_items c.next.new.self = sym (ap (λ ports. ports.items) c.take_apart-ports.ensures.ports) ∙ sym c.into_iter-ports.ensures.rest ∙ c.in-Some.ensures.cases.0 in
    let here : slice_get channels.ports.items 0 ≡ Some port = ap (λ (items : List g.row.K.Denot). slice_get items 0) all in
    let is = channels.are.each 0 port here in
    record {
      number = is.number_is;
      waits = nothing_in_first L port _ (subst (λ (items : List g.row.K.Denot). waits_in L items ≡ nothing) all c.requires.waits);
      hold = is.hold ∙ c.requires.hold;
      mains = c.requires.mains 0 port here;
      carries = (c.requires.carries.each 0 port here).carries;
    }
