-- A life so far goes on by each event and through each pause, and a stop ends it.
use Rattle.std.proofs.Common.{◌≡◌, Bool, List, [], ◌∷◌, ◌++◌, arith, false, refl, subst, sym}
use Rattle.std.proofs.Math.Logic.{∥∥₁_map}
use Rattle.board_hosts.proofs.Common.{Ghosts as GaugeGhosts, IsRecordKept, LivedUntil, Machine, RecordedModule, Setup, World, setup_of, world_for}
use Rattle.save_device.specs.declared.device.SaveDevice.{Ghosts as DeviceGhosts}
use Rattle.channel_port.specs.declared.port.ChannelPort.{Ghosts}
use Rattle.energy_budget.proofs.Charging.{rises_none}
use Rattle.energy_budget.specs.Charging.{RisesTo}
use Rattle.nv_machine.proofs.StoppedRuns.{stops_survived}
use Rattle.save_image.specs.Image.{Image}
use Rattle.save_device.specs.Device.{StopsWithin, present}
use Rattle.slot_store.specs.declared.slots.Slot.{Slot}
use Rattle.slot_store.specs.Outcomes.{Found, restored}
use Rattle.arm_state.specs.Modes.{is_stranded}
use Rattle.nv_machine.specs.declared.events.Event.{Event}
use Rattle.nv_machine.specs.declared.events.Reply.{Reply}
use Rattle.nv_machine.specs.Headline.{Happens, Rests, Run}
use Rattle.nv_machine.specs.Honesty.{IsBackedAt, IsHonestAlong}
use Rattle.nv_machine.specs.Opening.{new_life}
use Rattle.nv_machine.proofs.Backing.{not_backed}
use Rattle.nv_machine.proofs.CountedFaults.{honest_ends}
use Rattle.nv_machine.proofs.HonestRuns.{backed_along, saved_along}
use Rattle.nv_machine.proofs.JoinedRuns.{any_run, happens_now, join_runs, rests_here}
use Rattle.nv_machine.proofs.SparedDevices.{spared_ends}
use Rattle.board_hosts.specs.Lived.{HasBeenHonest, IsInLife, StopsSurvive}

-- it begins
pub lived_first : (setup : Setup) (slot : Slot) (closed : Bool) (image : Image) (first : World) → first.machine ≡ new_life slot closed image
    → StopsWithin (λ bytes. restored setup.shape.lines bytes ≡ Found slot image) (present first.device) → LivedUntil setup first
lived_first setup slot closed image first begins opened = record {
  slot = slot;
  closed = closed;
  image = image;
  events = [];
  replies = [];
  first = first;
  begins = begins;
  opened = opened;
  run = rests_here first;
}

module _ (setup : Setup) (old new : World) (so : LivedUntil setup old) where
  -- it goes on by a run
  pub lived_run : (events : List Event) (replies : List Reply) → Run setup events replies old new → LivedUntil setup new
  lived_run events replies run = record {
    slot = so.slot;
    closed = so.closed;
    image = so.image;
    events = so.events ++ events;
    replies = so.replies ++ replies;
    first = so.first;
    begins = so.begins;
    opened = so.opened;
    run = join_runs setup so.events so.replies events replies so.first old new so.run run;
  }

  -- by one event
  pub lived_event : (event : Event) (reply : Reply) → Happens setup event reply old new → LivedUntil setup new
  lived_event event reply happens = lived_run (event ∷ []) (reply ∷ []) (new, happens_now setup event reply old new happens, rests_here new)

  -- and through a pause
  pub lived_pause : Rests old new → LivedUntil setup new
  lived_pause rests = lived_run [] [] rests

module _ (setup : Setup) (now : World) (so : LivedUntil setup now) where
  -- the life was disarmed at first, so nothing was to be backed
  backed_first : IsBackedAt setup so.first
  backed_first = subst (λ (m : Machine). IsBackedAt setup (record so.first { machine = m })) (sym so.begins) (not_backed setup (new_life so.slot so.closed so.image) so.first.gauge refl)

  honest : HasBeenHonest setup now so → IsHonestAlong setup so.events so.replies so.first now so.run
  honest been = honest_ends setup so.events so.replies so.first now so.run been.gauge been.spared

  pub in_life : IsInLife setup now
  in_life = record {
    so = so;
    ends = λ bytes left. record {
      begins = so.begins;
      opened = so.opened;
      run = any_run setup so.events so.replies so.first now so.run;
      unanswered = λ unanswered is. absurd (let bad : ⊥ = cc in bad);
      left = record { moment = present now.device; among = (0, omega arith, refl); left = left };
    };
    backed = λ been. backed_along setup so.events so.replies so.first now so.run (honest been) backed_first;
    saves = λ been. saved_along setup so.events so.replies so.first now so.run (honest been) backed_first;
    faultless = λ same. spared_ends setup so.events so.replies so.first now so.run (subst (λ (m : Machine). is_stranded m.mode ≡ false) (sym so.begins) refl) same;
  }

module _ {K D E : Type 0} (L : Ghosts K) (M : DeviceGhosts D) (N : GaugeGhosts E) where
  -- a stop at any moment of it
  pub kept_survives : (it : RecordedModule K D E L) → IsRecordKept L M N it → ∥ (StopsSurvive L M N it) ∥₁
  kept_survives it kept = ∥∥₁_map kept.stands (λ s. record { machine = s.0; stands = s.1.stands; so = s.2; survives = stops_survived RisesTo rises_none (setup_of L it.running) (world_for L M N it s.0) s.2 })
