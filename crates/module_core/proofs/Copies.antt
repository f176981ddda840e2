-- A module with the same front over the same channels stands for the same machines, and has lived the same.
use Rattle.std.specs.Prelude.{map, slice_get}
use Rattle.ddr4_timing.specs.declared.command.Stamped.{Stamped}
use Rattle.channel_set.specs.declared.terms.PortTerms.{PortTerms}
use Rattle.arm_state.specs.declared.loss.Loss.{Loss}
use Rattle.arm_state.specs.declared.loss.Loss.TheVariants as loss
use Rattle.channel_port.specs.Waits.{AllBelow}
use Rattle.channel_port.specs.declared.stage.Stage.{Stage}
use Rattle.channel_port.specs.declared.stage.Stage.TheVariants.{OnMains}
use Rattle.channel_set.specs.Carrying.{CarriesAll, CarriesOwn}
use Rattle.channel_set.specs.Copies.{SameChannels}
use Rattle.channel_set.specs.Issuing.{IssuesNone, IssuesOn}
use Rattle.channel_set.specs.Ports.{array_of, shape_with, waits_in}
use Rattle.channel_set.specs.Set.{AreAt}
use Rattle.channel_set.specs.declared.set.ChannelSet.{ChannelSet}
use Rattle.line_memory.specs.Parts.{written_on}
use Rattle.line_memory.specs.declared.Write.{Write}
use Rattle.nv_machine.specs.Headline.{RecoversAfterwards}
use Rattle.nv_machine.specs.declared.events.Event.TheVariants as events
use Rattle.nv_machine.specs.declared.events.Reply.TheVariants as replies
use Rattle.module_core.specs.Copies.{IsCopyOf, SameModule}
use Rattle.module_core.specs.Draining.{AreDrainedFrom}
use Rattle.module_core.specs.Fronts.{FrontMatches, setup_in}
use Rattle.module_core.specs.Issuing.{Issues, IssuesAtLoss}
use Rattle.module_core.specs.ModuleLives.{HasAnswered, LifeSoFar}
use Rattle.module_core.specs.Opening.{opened_with}
use Rattle.module_core.specs.Parts.{FitTogether}
use Rattle.module_saves.specs.Saving.{IsOfLines}
use Rattle.module_core.specs.Stands.{HappensNextAt, IsCarried, Point, RestsAt, RunAt}
use Rattle.module_core.specs.declared.front.Front.{Front}
use Rattle.slot_store.specs.declared.head.Head.{Head}
use Rattle.module_core.proofs.Common.{[], ℕ, ◌∙◌, ◌∷◌, ◌≡◌, Assembly, ChannelsView, DeviceState, Event, Gauge, Ghosts, Holds, Image, IsMemory, List, Machine, Module, ModuleStands, Option, Reply, Setup, Shape, ap, assembly, base_of_life, lines_of_module, memory_of, point_of, refl, restored, setup_of, shape_of, start_of_life, subst, sym, view_of}

module _ {K : Type 0} (L : Ghosts K) where
  -- what contracts see of the channels
  pub shape_same : (old new : ChannelSet K L) → SameChannels L old new → shape_of L new ≡ shape_of L old
  shape_same old new same = λ i. shape_with L (same.terms i) (same.costs i) (same.ports i)

  pub view_same : (old new : ChannelSet K L) → SameChannels L old new → view_of L new ≡ view_of L old
  view_same old new same = λ i. record {
    shape = shape_with L (same.terms i) (same.costs i) (same.ports i);
    waits = waits_in L (same.ports i);
    hold = (same.terms i).hold;
    array = array_of L (same.ports i) (same.terms i).lines;
  }

  pub at_same : (stage : Stage) (old new : ChannelSet K L) → SameChannels L old new → AreAt L stage old → AreAt L stage new
  at_same stage old new same at = λ number port stands. at number port (ap (λ (ports : List K). slice_get ports number) (sym same.ports) ∙ stands)

  carries-same : (old new : ChannelSet K L) → SameChannels L old new → (base : List (List ℕ)) (start : ℕ) (writes : List Write) → CarriesAll L old base start writes → CarriesAll L new base start writes
  carries-same old new same base start writes carries = record {
    memory = subst (λ (shape : Shape). IsMemory shape.lines base) (sym (shape_same old new same)) carries.memory;
    each = λ number port stands.
        subst (λ (shape : Shape). CarriesOwn L port base (written_on shape.channel_of number start writes)) (sym (shape_same old new same))
        (carries.each number port (ap (λ (ports : List K). slice_get ports number) (sym same.ports) ∙ stands));
  }

  carried-same : (old new : ChannelSet K L) → SameChannels L old new → (m : Machine) → IsCarried L old m → IsCarried L new m
  carried-same old new same m carried = record {
    carries = carries-same old new same (base_of_life m.life) (start_of_life m.life) m.life.writes carried.carries;
    waits = ap (λ (view : ChannelsView). view.waits) (view_same old new same) ∙ carried.waits;
    hold = ap (λ (view : ChannelsView). view.hold) (view_same old new same) ∙ carried.hold;
    held = carried.held;
  }

  -- what doesn't change of a module
  pub setup_same : (old new : Module K L) → SameModule L old new → setup_of L new ≡ setup_of L old
  setup_same old new same = λ i. setup_in (shape_same old.channels new.channels same.channels i) (same.front i)

  lines-same : (old new : Module K L) → SameModule L old new → lines_of_module L new ≡ lines_of_module L old
  lines-same old new same = ap (λ (shape : Shape). shape.lines) (shape_same old.channels new.channels same.channels)

  -- the machines that it stands for
  pub stands_same : (old new : Module K L) → SameModule L old new → (device : DeviceState) (m : Machine) → ModuleStands L old device m → ModuleStands L new device m
  stands_same old new same device m stands = record {
    matches = record {
      front = subst (λ (front : Front). FrontMatches front m) (sym same.front) stands.matches.front;
      memory = subst (λ (lines : ℕ). IsMemory lines (memory_of m)) (sym (lines-same old new same)) stands.matches.memory;
      carried = carried-same old.channels new.channels same.channels m stands.matches.carried;
    };
    holds =
        let by_lines : Holds (lines_of_module L new) m.store old.front.saves.saving device = subst (λ (lines : ℕ). Holds lines m.store old.front.saves.saving device) (sym (lines-same old new same)) stands.holds in
        subst (λ (front : Front). Holds (lines_of_module L new) m.store front.saves.saving device) (sym same.front) by_lines;
    guarded = stands.guarded;
    saved = ap (λ (front : Front). front.saved) same.front ∙ stands.saved;
  }

  -- what the channels issued by an event
  none-same : (old mid new : ChannelSet K L) → SameChannels L mid new → IssuesNone L old mid → IssuesNone L old new
  none-same old mid new same issues = record {
    lists = ap (λ (ports : List K). map L.issued ports) same.ports ∙ issues.lists;
    checked = ap (λ (terms : PortTerms). terms.checked) same.terms ∙ issues.checked;
  }

  on-same : (channel : ℕ) (command : Option Stamped) (old mid new : ChannelSet K L) → SameChannels L mid new → IssuesOn L channel command old mid → IssuesOn L channel command old new
  on-same channel command old mid new same issues = record {
    lists = ap (λ (ports : List K). map L.issued ports) same.ports ∙ issues.lists;
    checked = ap (λ (terms : PortTerms). terms.checked) same.terms ∙ issues.checked;
    others = λ other apart. ap (λ (ports : List K). slice_get ports other) same.ports ∙ issues.others other apart;
  }

  drained-same : (old mid new : ChannelSet K L) → SameChannels L mid new → AreDrainedFrom L old mid → AreDrainedFrom L old new
  drained-same old mid new same drained = record { begun = drained.begun; ends = drained.ends; backup = drained.backup; each = same.ports ∙ drained.each }

  loss-same : (lost : Loss) (old mid new : ChannelSet K L) → SameChannels L mid new → IssuesAtLoss L lost old mid → IssuesAtLoss L lost old new
  loss-same loss.Closed old mid new same issues = none-same old mid new same issues
  loss-same loss.Unsaved old mid new same issues = none-same old mid new same issues
  loss-same (loss.Saved generation count) old mid new same issues = drained-same old mid new same issues
  loss-same loss.Fault old mid new same issues = drained-same old mid new same issues
  loss-same loss.Dark old mid new same issues = tt

  issues-same : (event : Event) (reply : Reply) (old mid new : ChannelSet K L) → SameChannels L mid new → Issues L event reply old mid → Issues L event reply old new
  issues-same (events.Work channel) (replies.Work result) old mid new same issues = on-same channel _ old mid new same issues
  issues-same events.Lose (replies.Lose lost) old mid new same issues = loss-same lost old mid new same issues
  issues-same event reply old mid new same issues = none-same old mid new same issues

  -- a moment with these channels in place of its own
  abbrev with_channels : ChannelSet K L → Point L → Point L
  with_channels channels point = record { channels = channels; world = point.world }

  rests-same : (old new : Point L) (before after : ChannelSet K L) → before ≡ after → RestsAt old new → RestsAt (with_channels before old) (with_channels after new)
  rests-same old new before after same rests = record { may = rests.may; is = λ i. record { channels = sym same i; world = (rests.is i).world } }

  -- a run of some events that ends with the same channels
  run-same : (setup : Setup) (event : Event) (events : List Event) (reply : Reply) (replies : List Reply) (old new : Point L) (channels : ChannelSet K L)
      → SameChannels L new.channels channels → RunAt L setup (event ∷ events) (reply ∷ replies) old new → RunAt L setup (event ∷ events) (reply ∷ replies) old (with_channels channels new)
  run-same setup event [] reply [] old new channels same (mid, goes, rests) =
      let stayed : new.channels ≡ mid.channels = ap (λ (point : Point L). point.channels) rests.is in
      let alike : SameChannels L mid.channels channels = subst (λ (was : ChannelSet K L). SameChannels L was channels) stayed same in
      let later : HappensNextAt L setup event reply old (with_channels channels mid) = record {
        pause = goes.pause;
        may = goes.may;
        happens = record { happens = goes.happens.happens; works = goes.happens.works; issues = issues-same event reply old.channels mid.channels channels alike goes.happens.issues };
      } in (with_channels channels mid, later, rests-same mid new channels channels refl rests)
  run-same setup event (next ∷ events) reply (told ∷ replies) old new channels same (mid, goes, run) = (mid, goes, run-same setup next events told replies mid new channels same run)
  run-same setup event [] reply (told ∷ replies) old new channels same (mid, goes, run) = absurd run
  run-same setup event (next ∷ events) reply [] old new channels same (mid, goes, run) = absurd run

  -- the module over these channels
  abbrev over : (it : Module K L) (channels : ChannelSet K L) → SameChannels L it.channels channels → Module K L
  over it channels same = record {
    front = it.front;
    channels = channels;
    below = subst (λ (view : ChannelsView). AllBelow it.front.accepted view.waits.writes) (sym (view_same it.channels channels same)) it.below;
    mains = λ going. at_same OnMains it.channels channels same (it.mains going);
    running = subst (λ (shape : Shape). IsOfLines shape.lines it.front.saves.saving) (sym (shape_same it.channels channels same)) it.running;
  }

  -- so do a front that is the same and such channels
  pub parts_fit : (it : Module K L) (front : Front) (channels : ChannelSet K L) → front ≡ it.front → SameChannels L it.channels channels → FitTogether L front channels
  parts_fit it front channels is same =
      let made : Module K L = over it channels same in
      let fit : FitTogether L it.front channels = record { below = made.below; mains = made.mains; running = made.running } in
      subst (λ (f : Front). FitTogether L f channels) (sym is) fit

  ran-same : (found : Head) (image : Image) (events : List Event) (replies : List Reply) (first : Assembly L) (old new : Module K L) (device : DeviceState) (gauge : Gauge)
      → SameModule L old new → HasAnswered L found image events replies first (assembly old device gauge) → LifeSoFar L (assembly new device gauge)
  ran-same found image (event ∷ events) (reply ∷ replies) first old new device gauge same answered = record {
    found = found;
    image = image;
    events = event ∷ events;
    replies = reply ∷ replies;
    first = first;
    answered = record {
      begins = answered.begins;
      runs = record {
        last = answered.runs.last;
        stands = stands_same old new same device answered.runs.last answered.runs.stands;
        run = run-same (setup_of L first.it) event events reply replies _ _ new.channels same.channels answered.runs.run;
        left = answered.runs.left;
      };
      setup = setup_same old new same ∙ answered.setup;
    };
  }
  ran-same found image [] [] first old new device gauge same answered =
      let rests = answered.runs.run in
      let stayed : old.channels ≡ first.it.channels = ap (λ (point : Point L). point.channels) rests.is in
      let alike : SameChannels L first.it.channels new.channels = subst (λ (was : ChannelSet K L). SameChannels L was new.channels) stayed same.channels in
      let begun : Module K L = over first.it new.channels alike in
      let begun_same : SameModule L first.it begun = record { front = refl; channels = alike } in
      let setup : setup_of L begun ≡ setup_of L first.it = setup_same first.it begun begun_same in
      record {
        found = found;
        image = image;
        events = [];
        replies = [];
        first = assembly begun first.device first.gauge;
        answered = record {
          begins = stands_same first.it begun begun_same first.device (opened_with found image) answered.begins;
          runs = record {
            last = answered.runs.last;
            stands = stands_same old new same device answered.runs.last answered.runs.stands;
            run = rests-same (point_of L first (opened_with found image)) (point_of L (assembly old device gauge) answered.runs.last) new.channels new.channels refl rests;
            left = λ bytes leaves. subst (λ (of : Setup). RecoversAfterwards answered.runs.last (restored of.shape.lines bytes)) (sym setup) (answered.runs.left bytes leaves);
          };
          setup = setup_same old new same ∙ answered.setup ∙ sym setup;
        };
      }
  ran-same found image [] (reply ∷ replies) first old new device gauge same answered = absurd answered.runs.run
  ran-same found image (event ∷ events) [] first old new device gauge same answered = absurd answered.runs.run

  pub is_copy : (old new : Module K L) → SameModule L old new → IsCopyOf L old new
  is_copy old new same = record {
    same = same;
    setup = setup_same old new same;
    stands = stands_same old new same;
    lived = λ device gauge life. ran-same life.found life.image life.events life.replies life.first old new device gauge same life.answered;
  }
