-- A closing save behind the drains of the channels.
use Rattle.std.specs.Prelude.{IsErr, is_err}
use Rattle.channel_port.specs.Draining.{DrainOrder, Paid}
use Rattle.channel_set.proofs.Settling.{PortsSettle, settled}
use Rattle.channel_set.specs.Carrying.{CarriesAll}
use Rattle.line_memory.proofs.MemoryLaws.{memory_at-all}
use Rattle.line_memory.specs.declared.Write.{Write}
use Rattle.slot_store.specs.Finishing.{Finish}
use Rattle.slot_store.specs.declared.source.BrokenOff.TheVariants as broken
use Rattle.module_core.specs.declared.front.Front.{Front}
use Rattle.module_saves.specs.Closing.{ClosesSave, SavesAt, SavesClosing}
use Rattle.module_core.specs.Drained.{ClosesChannels, ClosingAt, HasDrained, closing_at}
use Rattle.module_core.proofs.Common.{ℕ, ◌+◌, ◌∙◌, ◌≡◌, false, Assembly, ChannelsView, DeviceState, Err, Gauge, Ghosts, Holds, Image, IsReadyToClose, IsResting, List, Newest, None, Ok, Option, SaveRun, Saves, Shape, Some, Store, after, ap, begun_save, inl, inr, length, lines_of_module, refl, saves_at, shape_of, subst, sym, view_of}
use Rattle.module_core.proofs.Emptied.{all_wait, none_waits}
use Rattle.module_saves.proofs.StoreSteps.{at_rest}

-- no payment was refused
pub all_paid : (drained : Paid) → is_err drained ≡ false → drained ≡ Ok tt
all_paid (Ok done) none = refl
all_paid (Err dark) none = absurd (let bad : ⊥ = cc in bad)

module _ {K : Type 0} (L : Ghosts K) (order : DrainOrder) (old mid : Assembly L) where
  -- with the channels as the drains left them
  abbrev at : Saves → DeviceState → Gauge → ClosingAt
  at saves device gauge = record { channels = view_of L mid.it.channels; at = saves_at saves device gauge }

  module _ (s : Store) (made : Image) (base : List (List ℕ)) (start : ℕ) (writes : List Write) (ready : IsReadyToClose (lines_of_module L old.it) s made old.it.front.saves old.device)
      (carries : CarriesAll L old.it.channels base start writes) (same : after base writes ≡ made.memory) where
    -- a payment for the drains was refused, and the save is given up
    pub closes_dark : (drained : Paid) → IsErr drained → HasDrained order drained old mid → (saves : Saves) → saves.saving ≡ None → saves.newest ≡ mid.it.front.saves.newest → saves.closed ≡ mid.it.front.saves.closed → saves.unsettled ≡ mid.it.front.saves.unsettled
        → ClosesChannels order s made (Err broken.Refused) (closing_at old) (at saves mid.device mid.gauge)
    closes_dark (Ok done) is h saves none newest closed unsettled = absurd (let bad : ⊥ = cc in bad)
    closes_dark (Err answer) is h saves none newest closed unsettled =
        let lines : ℕ = lines_of_module L old.it in
        let begun : Store = record s { saving = Some (begun_save made) } in
        let rest : Store = record s { saving = None } in
        let here : IsResting lines begun old.device = at_rest lines begun old.device (Some (begun_save made)) old.it.front.saves.saving ready.holds in
        let resting : Holds lines rest None old.device = record { candidates = here.candidates; image = here.image; newest = here.newest; rest = here.rest; among = here.among } in
        let first : saves.newest ≡ old.it.front.saves.newest = newest ∙ ap (λ (f : Front). f.saves.newest) h.front in
        inl (
          refl,
          record {
            answer = answer;
            drains = h.drains;
            unasked = h.device;
            knows = record {
              slot = ap (λ (x : Newest). x.slot) first ∙ ready.knows.slot;
              generation = ap (λ (x : Newest). x.generation) first ∙ ready.knows.generation;
              shut = closed ∙ ap (λ (f : Front). f.saves.closed) h.front ∙ ready.knows.shut;
              open_end = unsettled ∙ ap (λ (f : Front). f.saves.unsettled) h.front ∙ ready.knows.open_end;
            };
            holds = subst (λ (o : Option SaveRun). Holds lines rest o mid.device) (sym none) (subst (λ (d : DeviceState). Holds lines rest None d) (sym h.device) resting);
          },
        )

    -- all was paid for, and the save was made until its end
    pub closes_on : HasDrained order (Ok tt) old mid → PortsSettle L → (finish : Finish) (saves : Saves) (device : DeviceState) (gauge : Gauge)
        → ClosesSave (view_of L mid.it.channels) finish (saves_at mid.it.front.saves mid.device mid.gauge) (saves_at saves device gauge) → ClosesChannels order s made finish (closing_at old) (at saves device gauge)
    closes_on h law finish saves device gauge closes =
        let drains = h.drains in let now = mid.it.channels in let end : ℕ = start + length writes in
        let shape : shape_of L now ≡ shape_of L old.it.channels = ap (λ (v : ChannelsView). v.shape) drains.rest in
        let array : (view_of L now).array ≡ made.memory =
        settled L now base start writes (h.keeps base start writes carries) end law (none_waits end (view_of L old.it.channels).waits (view_of L now).waits drains.dry) (all_wait end (view_of L now).waits.writes)
        ∙ memory_at-all base start writes ∙ same in
        let first : SavesAt = saves_at old.it.front.saves old.device mid.gauge in
        let is : saves_at mid.it.front.saves mid.device mid.gauge ≡ first =
        ap (λ (f : Front). saves_at f.saves mid.device mid.gauge) h.front ∙ ap (λ (d : DeviceState). saves_at old.it.front.saves d mid.gauge) h.device in
        let ready' : IsReadyToClose (shape_of L now).lines s made mid.it.front.saves mid.device =
        subst (λ (h : Shape). IsReadyToClose h.lines s made mid.it.front.saves mid.device) (sym shape)
        (subst (λ (a : SavesAt). IsReadyToClose (shape_of L old.it.channels).lines s made a.saves a.device) (sym is) ready) in
        let last : SavesAt = saves_at saves device gauge in
        let made_so : SavesClosing (shape_of L now) s made finish (saves_at mid.it.front.saves mid.device mid.gauge) last = closes s made ready' array in
        inr (
          mid.gauge,
          drains,
          subst (λ (h : Shape). SavesClosing h s made finish first last) shape (subst (λ (a : SavesAt). SavesClosing (shape_of L now) s made finish a last) is made_so),
        )
