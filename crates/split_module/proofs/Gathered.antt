-- The pieces of a module, and the machine for which it and they stand.
use Rattle.std.proofs.Common.{List, None, Some, [], ap, arith, length, refl, rules, subst, suc, sym, zero, ℕ, ⊎_elim, ◌++◌, ◌+◌, ◌-◌, ◌<◌, ◌∙◌, ◌∷◌, ◌≡◌, ◌≤◌}
use Rattle.std.specs.List.{flat_map}
use Rattle.std.specs.Option.{ForSome}
use Rattle.std.specs.Global.{Global}
use Rattle.std.specs.Prelude.{Option, Vec, slice_get, slice_index_or, ◌==◌}
use Rattle.std.proofs.lemmas.Bool.{cases_lt, eqb-true}
use Rattle.std.proofs.lemmas.Option.{same_Some, slice_get_within}
use Rattle.line_memory.specs.Memory.{IsMemory}
use Rattle.line_memory.specs.Parts.{written_on}
use Rattle.line_memory.specs.declared.Write.{Write}
use Rattle.line_memory.specs.declared.parts.Numbered.{Numbered}
use Rattle.slot_store.specs.declared.plan.Step.{Step}
use Rattle.energy_budget.specs.declared.costs.Costs.{Costs}
use Rattle.channel_port.specs.Carried.{WaitFrom}
use Rattle.arm_state.specs.Modes.{has_ended}
use Rattle.energy_budget.specs.Costs.{AreReckonedFor}
use Rattle.channel_port.specs.Shape.{IsShape, Shape}
use Rattle.channel_port.specs.Waits.{AllBelow, Has, IsPending, OpenRead, Waits, nothing}
use Rattle.channel_port.specs.declared.answers.Ticket.{Ticket}
use Rattle.channel_port.specs.declared.stage.Stage.TheVariants.{OnMains}
use Rattle.channel_port.specs.declared.waiting.Waiting.{Waiting}
use Rattle.channel_port.specs.declared.port.ChannelPort.{Ghosts}
use Rattle.channel_set.specs.declared.set.ChannelSet.{ChannelSet}
use Rattle.channel_set.specs.declared.terms.PortTerms.{PortTerms}
use Rattle.channel_set.specs.Carrying.{CarriesOwn, WaitAmong, WaitsFrom}
use Rattle.channel_set.specs.Ports.{ArePorts, shape_with, waits_in}
use Rattle.channel_set.specs.Set.{shape_of}
use Rattle.channel_set.proofs.Lists.{all-at, all-of, at-within}
use Rattle.channel_set.proofs.Piles.{any-found, any-has, from-pile}
use Rattle.channel_set.proofs.Written.{written-before, written-is, written-once}
use Rattle.channel_log.specs.Log.{LogNote, Told, log_tells}
use Rattle.channel_locks.specs.Stands.{PortStands}
use Rattle.module_core.specs.Fronts.{FrontMatches, setup_in}
use Rattle.module_core.specs.Parts.{FitTogether}
use Rattle.module_saves.specs.Saving.{IsOfLines}
use Rattle.module_core.specs.Stands.{IsCarried, Matches, setup_of}
use Rattle.module_core.specs.declared.front.Front.{Front}
use Rattle.module_core.specs.declared.module.Module.{Module}
use Rattle.nv_machine.specs.Guard.{IsGuarded}
use Rattle.nv_machine.specs.State.{Machine, RunningSave, Setup, all_of, base_of_life, hold_at, hold_of, memory_of, start_of_life}
use Rattle.nv_machine.proofs.Guarded.{cut_below}
use Rattle.split_module.specs.Telling.{AreLogsOf, IsToldOf, laid_out, waits_told}
use Rattle.split_module.proofs.ToldOf.{held_told}
use Rattle.split_module.specs.declared.gathering.SplitModule.{SplitModule}
use Rattle.split_module.specs.Gathering.{ArePortsOf, FitAsModule, IsMadeOf, StandsGathered, StandsSplit, shape_in}
use Rattle.split_module.specs.Lending.{SplitStands}

-- where no pile has anything, there is nothing
none_piled : {Y Z : Type 0} (g : Y → List Z) (d : Y) (ys : List Y) → ((i : ℕ) → g (slice_index_or ys i d) ≡ []) → flat_map g ys ≡ []
none_piled g d [] none = refl
none_piled {Y} {Z} g d (y ∷ ys) none = ap (λ (zs : List Z). zs ++ flat_map g ys) (none zero) ∙ none_piled g d ys (λ i. none (suc i))

-- piles that are the same one by one, as far as there are such, and then none
piled : {X Y Z : Type 0} (f : X → List Z) (g : Y → List Z) (d : Y) (xs : List X) (ys : List Y) → length xs ≤ length ys
    → ((i : ℕ) (x : X) → slice_get xs i ≡ Some x → g (slice_index_or ys i d) ≡ f x) → ((i : ℕ) → length xs ≤ i → g (slice_index_or ys i d) ≡ []) → flat_map g ys ≡ flat_map f xs
piled f g d [] ys few same none = none_piled g d ys (λ i. none i (omega arith))
piled f g d (x ∷ xs) [] few same none = absurd (omega (arith, few))
piled {X} {Y} {Z} f g d (x ∷ xs) (y ∷ ys) few same none =
    ap (λ (zs : List Z). zs ++ flat_map g ys) (same zero x refl)
    ∙ ap (λ (zs : List Z). f x ++ zs) (piled f g d xs ys (omega (arith, few)) (λ i z at. same (suc i) z at) (λ i most. none (suc i) (omega (arith, most))))

told_at : (logs : List (List LogNote)) (i : ℕ) → slice_index_or (waits_told logs) i nothing ≡ (log_tells (slice_index_or logs i [])).waits
told_at [] i = refl
told_at (l ∷ logs) zero = refl
told_at (l ∷ logs) (suc i) = told_at logs i

told_size : (logs : List (List LogNote)) → length (waits_told logs) ≡ length logs
told_size [] = refl
told_size (l ∷ logs) = ap suc (told_size logs)

-- no write of a history lies on a channel that there isn't
none_written : (setup : Setup) (m : Machine) (logs : List (List LogNote)) → AreLogsOf setup m logs → (channel : ℕ) → setup.shape.channels ≤ channel
    → (w : Numbered) → (k : ℕ) → slice_get (written_on setup.shape.channel_of channel (start_of_life m.life) m.life.writes) k ≡ Some w → ⊥
none_written setup m logs are channel beyond w k at =
    let is = written-is setup.shape.channel_of channel (start_of_life m.life) m.life.writes w (k, at) in
    let lies = all-at (λ (v : Write). setup.shape.channel_of v.line < setup.shape.channels) m.life.writes w.write are.lie (w.number - start_of_life m.life, is.stands) in
    let here = is.here in
    omega (arith, beyond, lies, here)

-- a save that holds writes back holds back those from its count on
hold_count : (n count : ℕ) (next : Step) → hold_at count next ≡ Some n → n ≡ count
hold_count n count next some = search rules

-- and so from no number before the life's first one
hold_least : (m : Machine) → IsGuarded m → (n : ℕ) → hold_of m.store.saving ≡ Some n → start_of_life m.life ≤ n
hold_least m guarded n some = by m.store.saving refl some
  where
    by : (saving : Option RunningSave) → m.store.saving ≡ saving → hold_of saving ≡ Some n → start_of_life m.life ≤ n
    by None is held = absurd (let bad : ⊥ = cc in bad)
    by (Some save) is held =
        let cut = cut_below m guarded in
        let made = cut.made save is in
        let count = hold_count n save.made.count save.next held in
        let opened = cut.opened in
        omega (arith, made, count, opened)

module _ {K : Type 0} (L : Ghosts K) where
  -- a write from n on that lies on a channel waits in its port
  pending_in_port : (ports : List K) (channel_of : ℕ → ℕ) (start : ℕ) (writes : List Write)
      → ((number : ℕ) (port : K) → slice_get ports number ≡ Some port → WaitAmong (written_on channel_of number start writes) (L.view port).waits.writes)
      → (n : ℕ) → WaitsFrom n (start + length writes) (waits_in L ports).writes → (number : ℕ) (port : K) → slice_get ports number ≡ Some port
      → WaitFrom n (written_on channel_of number start writes) (L.view port).waits.writes
  pending_in_port ports channel_of start writes given n waits number port at =
      all-of (λ (w : Numbered). n ≤ w.number → IsPending w.number (L.view port).waits.writes) (written_on channel_of number start writes) (λ k w there from.
      let has : Has w (written_on channel_of number start writes) = (k, there) in
      let test = λ (v : Waiting). v.number == w.number in
      let found = any-found test (waits_in L ports).writes (waits w.number from (written-before channel_of number start writes w has)) in
      let pile = from-pile (λ (p : K). (L.view p).waits.writes) ports found.it found.has in
      let (u, lies, named) = given pile.place pile.pile pile.at found.it pile.has in
      let place = written-once channel_of number pile.place start writes w u has lies (named ∙ eqb-true found.it.number w.number found.passes) in
      let same : pile.pile ≡ port = same_Some pile.pile port (sym pile.at ∙ ap (slice_get ports) place ∙ at) in
      any-has test (L.view port).waits.writes found.it (subst (λ (p : K). Has found.it (L.view p).waits.writes) same pile.has) found.passes)

  -- each port of a module stands for what is told of its channel
  each_stands : (whole : Module K L) (m : Machine) (number : ℕ) (port : K) (told : Told) → Matches L whole m → slice_get whole.channels.ports.items number ≡ Some port
      → IsToldOf (setup_of L whole) m number told → told.waits ≡ (L.view port).waits → PortStands L port number (base_of_life m.life) told
  each_stands whole m number port told h at of waits =
      let channels = whole.channels in
      let shape = shape_of L channels in
      let start = start_of_life m.life in
      let is = channels.are.each number port at in
      let queue = (L.view port).waits.writes in
      record {
        number = is.number_is;
        own = subst (CarriesOwn L port (base_of_life m.life)) (sym of.written) (h.carried.carries.each number port at);
        hold = is.hold ∙ h.carried.hold ∙ sym of.hold;
        held = subst (λ (o : Option ℕ). ForSome o (λ n. WaitFrom n told.written queue)) (sym of.hold) (λ n some.
            subst (λ (mine : List Numbered). WaitFrom n mine queue) (sym of.written)
            (pending_in_port channels.ports.items shape.channel_of start m.life.writes (λ i p there. (h.carried.carries.each i p there).given) n
            (subst (λ (w : Waits). WaitsFrom n (all_of m) w.writes) (sym h.carried.waits) (h.carried.held n some)) number port at));
        came = record { count = 0; steps = sym waits };
      }

  -- the pieces of a module have its channels' shape
  pub shape_made : (whole : Module K L) (pieces : SplitModule K) → IsMadeOf L whole pieces → shape_in L pieces ≡ shape_of L whole.channels
  shape_made whole pieces made =
      ap (λ (t : PortTerms). shape_with L t pieces.front.costs pieces.ports.items) made.terms
      ∙ ap (λ (c : Costs). shape_with L whole.channels.terms c pieces.ports.items) made.costs
      ∙ ap (λ (v : Vec K Global). shape_with L whole.channels.terms whole.channels.costs v.items) made.ports

  -- the pieces of a module fit together
  pub fits : (whole : Module K L) (pieces : SplitModule K) → IsMadeOf L whole pieces → FitAsModule L pieces
  fits whole pieces made =
      let channels = whole.channels in
      record {
        are_ports = subst (λ (v : Vec K Global). ArePorts L pieces.terms v.items) (sym made.ports) (subst (λ (t : PortTerms). ArePorts L t channels.ports.items) (sym made.terms) channels.are);
        shaped = subst IsShape (sym (shape_made whole pieces made)) channels.shaped;
        reckoned = subst (λ (t : PortTerms). AreReckonedFor t.checked pieces.front.costs) (sym made.terms) (subst (AreReckonedFor channels.terms.checked) (sym made.costs) channels.reckoned);
        lines = made.lines ∙ ap (λ (t : PortTerms). t.lines) (sym made.terms);
        out = made.out ∙ ap (λ (v : Vec K Global). length (waits_in L v.items).writes) (sym made.ports);
        below = subst (λ (f : Front). AllBelow f.accepted (waits_in L pieces.ports.items).writes) (sym made.front)
            (subst (λ (v : Vec K Global). AllBelow whole.front.accepted (waits_in L v.items).writes) (sym made.ports) whole.below);
        mains = λ going. subst (λ (v : Vec K Global). (number : ℕ) (port : K) → slice_get v.items number ≡ Some port → (L.view port).stage ≡ OnMains) (sym made.ports)
            (whole.mains (ap (λ (f : Front). has_ended f.mode) (sym made.front) ∙ going));
      }

  -- a module's front stands for the machine for which the module stood
  front_stands : (whole : Module K L) (pieces : SplitModule K) → IsMadeOf L whole pieces → (m : Machine) (logs : List (List LogNote)) → Matches L whole m
      → AreLogsOf (setup_of L whole) m logs → SplitStands (shape_in L pieces) logs pieces.front m
  front_stands whole pieces made m logs h told =
      let shape = shape_of L whole.channels in
      subst (λ (s : Shape). SplitStands s logs pieces.front m) (sym (shape_made whole pieces made)) (record {
        matches = subst (λ (f : Front). FrontMatches f m) (sym made.front) h.front;
        out = made.out ∙ ap (λ (w : Waits). length w.writes) h.carried.waits;
        lines = made.lines;
        costs = made.costs;
        memory = h.memory;
        told = subst (λ (f : Front). AreLogsOf (setup_in shape f) m logs) (sym made.front) told;
      })

  pub stands_split : (whole : Module K L) (pieces : SplitModule K) → IsMadeOf L whole pieces → StandsSplit L whole pieces
  stands_split whole pieces made = record {
    front = front_stands whole pieces made;
    each = λ m number port told h at of waits. each_stands whole m number port told h (ap (λ (v : Vec K Global). slice_get v.items number) (sym made.ports) ∙ at) of waits;
  }

  -- what the logs tell to wait is what waits in the ports
  pub waits_gathered : (logs : List (List LogNote)) (ports : List K) → length ports ≤ length logs
      → ((i : ℕ) (port : K) → slice_get ports i ≡ Some port → (log_tells (slice_index_or logs i [])).waits ≡ (L.view port).waits) → ((i : ℕ) → length ports ≤ i → (log_tells (slice_index_or logs i [])).waits ≡ nothing)
      → laid_out (waits_told logs) ≡ waits_in L ports
  waits_gathered logs ports few tells tell_none =
      let told = waits_told logs in
      let enough : length ports ≤ length told = (let size = told_size logs in omega (arith, few, size)) in
      let here : (i : ℕ) (p : K) → slice_get ports i ≡ Some p → slice_index_or told i nothing ≡ (L.view p).waits = λ i p at. told_at logs i ∙ tells i p at in
      let none : (i : ℕ) → length ports ≤ i → slice_index_or told i nothing ≡ nothing = λ i most. told_at logs i ∙ tell_none i most in
      let writes = piled (λ (p : K). (L.view p).waits.writes) (λ (w : Waits). w.writes) nothing ports told enough (λ i p at. ap (λ (w : Waits). w.writes) (here i p at)) (λ i most. ap (λ (w : Waits). w.writes) (none i most)) in
      let reads = piled (λ (p : K). (L.view p).waits.reads) (λ (w : Waits). w.reads) nothing ports told enough (λ i p at. ap (λ (w : Waits). w.reads) (here i p at)) (λ i most. ap (λ (w : Waits). w.reads) (none i most)) in
      let given = piled (λ (p : K). (L.view p).waits.given) (λ (w : Waits). w.given) nothing ports told enough (λ i p at. ap (λ (w : Waits). w.given) (here i p at)) (λ i most. ap (λ (w : Waits). w.given) (none i most)) in
      let w = waits_in L ports in
      ap (λ (ws : List Waiting). record (laid_out told) { writes = ws }) writes
      ∙ ap (λ (rs : List OpenRead). record (laid_out told) { writes = w.writes; reads = rs }) reads
      ∙ ap (λ (ts : List Ticket). record w { given = ts }) given

  -- Channels of the same ports, terms and costs as the pieces.
  module _ (pieces : SplitModule K) (fit : FitAsModule L pieces) (channels : ChannelSet K L) (ports : channels.ports ≡ pieces.ports) (terms : channels.terms ≡ pieces.terms) (costs : channels.costs ≡ pieces.front.costs) where
    pub shape_gathered : shape_of L channels ≡ shape_in L pieces
    shape_gathered =
        ap (λ (t : PortTerms). shape_with L t channels.costs channels.ports.items) terms
        ∙ ap (λ (c : Costs). shape_with L pieces.terms c channels.ports.items) costs
        ∙ ap (λ (v : Vec K Global). shape_with L pieces.terms pieces.front.costs v.items) ports

    module _ (m : Machine) (logs : List (List LogNote)) (s : SplitStands (shape_in L pieces) logs pieces.front m) (are : ArePortsOf L (base_of_life m.life) logs pieces.ports.items) where
      abbrev setup : Setup
      setup = setup_in (shape_in L pieces) pieces.front.front

      abbrev log_at : ℕ → List LogNote
      log_at number = slice_index_or logs number []

      enough : length pieces.ports.items ≤ length logs
      enough = s.told.enough

      of_port : (number : ℕ) (port : K) → slice_get pieces.ports.items number ≡ Some port → IsToldOf setup m number (log_tells (log_at number))
      of_port number port at = s.told.told number (let within = slice_get_within pieces.ports.items number port at in let most = enough in omega (arith, within, most))

      hold_is : pieces.terms.hold ≡ hold_of m.store.saving
      hold_is =
          let first = (shape_in L pieces).channel_of 0 in
          let found = at-within pieces.ports.items first (fit.shaped.known 0 (let some = fit.shaped.some in omega (arith, some))) in
          sym (fit.are_ports.each first found.it found.stands).hold ∙ (are.stand first found.it found.stands).hold ∙ (of_port first found.it found.stands).hold

      waits_are : waits_in L pieces.ports.items ≡ m.waits
      waits_are = sym (waits_gathered logs pieces.ports.items enough are.told are.none) ∙ sym s.told.waits

      held_at : (n : ℕ) → hold_of m.store.saving ≡ Some n → (channel : ℕ) → channel < length logs → WaitFrom n (log_tells (log_at channel)).written (log_tells (log_at channel)).waits.writes
      held_at n some channel less = ⊎_elim
          (λ (there : channel < length pieces.ports.items).
          let found = at-within pieces.ports.items channel there in
          let stands = are.stand channel found.it found.stands in
          subst (λ (w : Waits). WaitFrom n (log_tells (log_at channel)).written w.writes) (sym (are.told channel found.it found.stands)) (stands.held n ((of_port channel found.it found.stands).hold ∙ some)))
          (λ (beyond : length pieces.ports.items ≤ channel).
          all-of (λ (w : Numbered). n ≤ w.number → IsPending w.number (log_tells (log_at channel)).waits.writes) (log_tells (log_at channel)).written (λ k w at.
          absurd (none_written setup m logs s.told channel beyond w k (subst (λ (mine : List Numbered). slice_get mine k ≡ Some w) (s.told.told channel less).written at))))
          (cases_lt channel (length pieces.ports.items))

      pub carried : IsGuarded m → IsMemory pieces.front.lines (base_of_life m.life) → IsCarried L channels m
      carried guarded memory = record {
        carries = record {
          memory = subst (λ n. IsMemory n (base_of_life m.life)) (fit.lines ∙ ap (λ (t : PortTerms). t.lines) (sym terms)) memory;
          each = λ number port at.
              let there : slice_get pieces.ports.items number ≡ Some port = ap (λ (v : Vec K Global). slice_get v.items number) (sym ports) ∙ at in
              subst (λ (s : Shape). CarriesOwn L port (base_of_life m.life) (written_on s.channel_of number (start_of_life m.life) m.life.writes)) (sym shape_gathered)
              (subst (CarriesOwn L port (base_of_life m.life)) (of_port number port there).written (are.stand number port there).own);
        };
        waits = ap (λ (v : Vec K Global). waits_in L v.items) ports ∙ waits_are;
        hold = ap (λ (t : PortTerms). t.hold) terms ∙ hold_is;
        held = λ n some. held_told setup m logs s.told n (hold_least m guarded n some) (held_at n some);
      }

  -- the front fits these channels
  pub fit_together : (pieces : SplitModule K) → FitAsModule L pieces → (channels : ChannelSet K L) → channels.ports ≡ pieces.ports → channels.terms ≡ pieces.terms → FitTogether L pieces.front.front channels
  fit_together pieces fit channels ports terms = record {
    below = subst (λ (v : Vec K Global). AllBelow pieces.front.front.accepted (waits_in L v.items).writes) (sym ports) fit.below;
    mains = λ going. subst (λ (v : Vec K Global). (number : ℕ) (port : K) → slice_get v.items number ≡ Some port → (L.view port).stage ≡ OnMains) (sym ports) (fit.mains going);
    running = subst (λ n. IsOfLines n pieces.front.front.saves.saving) (fit.lines ∙ ap (λ (t : PortTerms). t.lines) (sym terms)) pieces.front.running;
  }

  -- the machine that the front stood for, once its channels are there
  pub matches_gathered : (pieces : SplitModule K) → FitAsModule L pieces → (channels : ChannelSet K L) → channels.ports ≡ pieces.ports → channels.terms ≡ pieces.terms → channels.costs ≡ pieces.front.costs
      → (whole : Module K L) → ((m : Machine) → FrontMatches pieces.front.front m → IsMemory (shape_of L channels).lines (memory_of m) → IsCarried L channels m → Matches L whole m) → StandsGathered L pieces whole
  matches_gathered pieces fit channels ports terms costs whole matches m logs s are memory guarded =
      matches m s.matches (subst (λ (shape : Shape). IsMemory shape.lines (memory_of m)) (sym (shape_gathered pieces fit channels ports terms costs)) s.memory)
      (carried pieces fit channels ports terms costs m logs s are guarded memory)
