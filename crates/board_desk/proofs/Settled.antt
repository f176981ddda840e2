-- A channel that was looked at: the machine of the desk went on by the channel's own events.
use Rattle.std.proofs.Common.{List, [], true, ap, arith, subst, sym, length, ℕ, ◌++◌, ◌∙◌, ◌∷◌, ◌≡◌, ◌<◌, ◌≤◌}
use Rattle.std.proofs.lemmas.List.{get_or-set_other, length-set}
use Rattle.std.proofs.lemmas.List.Elements.{All-nil, All-set}
use Rattle.channel_locks.specs.declared.parts_name.PartsName.{Ghosts as PartsGhosts}
use Rattle.channel_log.specs.Between.{CameOf}
use Rattle.channel_log.specs.Log.{IsLogOf, LogNote, Told, credits_of, log_tells, note_of}
use Rattle.energy_budget.specs.declared.costs.Costs.{Costs}
use Rattle.module_saves.specs.Device.{Holds}
use Rattle.module_core.specs.Fronts.{setup_in}
use Rattle.module_core.specs.declared.front.Front.{Front}
use Rattle.channel_log.specs.declared.entry.LogEntry.{LogEntry}
use Rattle.channel_port.specs.Waits.{Waits}
use Rattle.module_saves.proofs.StoreSteps.{stop_now}
use Rattle.nv_machine.proofs.JoinedRuns.{rests_here}
use Rattle.nv_machine.specs.declared.events.Event.{Event}
use Rattle.nv_machine.specs.State.{Machine, Setup, World}
use Rattle.split_module.proofs.OwnRuns.{came_run, guarded_waits}
use Rattle.split_module.proofs.ToldOf.{told_push}
use Rattle.split_module.specs.OwnEvents.{ComesOfOwn, LeavesCandidates, is_own, looked}
use Rattle.split_module.specs.Telling.{laid_out, waits_told, with_note}
use Rattle.split_module.specs.declared.front.SplitFront.{SplitFront}
use Rattle.split_module.specs.Lending.{SplitStands}
use Rattle.board_desk.specs.Answering.{SeesOwn}
use Rattle.board_desk.specs.Desk.{AreBoardLogs, DeskStands, DeskView, setup_at, shape_at, shape_named, world_at}
use Rattle.board_hosts.proofs.Living.{lived_run}
use Rattle.nv_machine.specs.Lives.{LivedUntil}

-- no event leads from a world to itself
pub comes_of_none : (setup : Setup) (channel : ℕ) (world : World) → ComesOfOwn setup channel world world
comes_of_none setup channel world = record { events = []; replies = []; own = All-nil (λ (e : Event). is_own channel e ≡ true); run = rests_here world; fewer = omega arith }

-- with one more note of a channel that the board has, on which at most 64 writes wait, the logs are the board's still
pub logs_with : (ports : ℕ) (logs : List (List LogNote)) (channel : ℕ) (log : List LogNote) (note : LogNote) → channel < ports → length note.waits.writes ≤ 64 → AreBoardLogs ports logs → AreBoardLogs ports (with_note channel log note logs)
logs_with ports logs channel log note known most are = record {
  eight = length-set logs channel (log ++ note ∷ []) ∙ are.eight;
  few = All-set (λ (l : List LogNote). credits_of l ≤ 64) logs channel (log ++ note ∷ []) (subst (λ k. k ≤ 64) (sym (ap (λ (t : Told). length t.waits.writes) (told_push log note))) most) are.few;
  none = λ other beyond. ap (λ (l : List LogNote). (log_tells l).waits) (get_or-set_other logs channel other (log ++ note ∷ []) [] (λ e. omega (arith, e, beyond, known))) ∙ are.none other beyond;
}

module _ {B : Type 0} (P : PartsGhosts B) where
  -- what a stop now leaves is among the images that the machine says
  pub leaves : (desk : DeskView) (m : Machine) → DeskStands P desk m → LeavesCandidates (setup_at P desk) (world_at desk m)
  leaves desk m s = stop_now P.make.lines m.store desk.split.front.saves.saving desk.device s.holds

  -- the setup is that of the front and of the costs
  pub same_setup : (old new : DeskView) → new.split.front ≡ old.split.front → new.split.costs ≡ old.split.costs → setup_at P new ≡ setup_at P old
  same_setup old new front costs = ap (λ (c : Costs). setup_in (shape_named P c) new.split.front) costs ∙ ap (λ (f : Front). setup_in (shape_at P old) f) front

  module _ (old : DeskView) (m : Machine) (s : DeskStands P old m) (channel : ℕ) (log : List LogNote) (waits : Waits) (of : IsLogOf old.logs channel log) (came : CameOf channel (log_tells log) waits)
      (known : channel < P.ports) (most : length waits.writes ≤ 64) (split : SplitFront) (front : split.front ≡ old.split.front) (costs : split.costs ≡ old.split.costs) where
    abbrev noted : List (List LogNote)
    noted = looked channel log waits old.logs

    abbrev seen : Machine
    seen = record m { waits = laid_out (waits_told noted) }

    abbrev new : DeskView
    new = record old { split = split; logs = noted }

    comes : ComesOfOwn (setup_at P old) channel (world_at old m) (world_at old seen)
    comes = came_run (setup_at P old) (world_at old m) old.logs channel log waits s.stands.told of came s.guarded (leaves old m s)

    pub settled : SplitStands (shape_at P old) noted split seen → SeesOwn P channel old new m
    settled stands = record {
      seen = seen;
      comes = comes;
      stands = record {
        stands = subst (λ c. SplitStands (shape_named P c) noted split seen) (sym costs) stands;
        logs_are = logs_with P.ports old.logs channel log (note_of LogEntry.Looked waits) known most s.logs_are;
        hold = s.hold;
        holds = subst (λ (f : Front). Holds P.make.lines m.store f.saves.saving old.device) (sym front) s.holds;
        guarded = guarded_waits m (laid_out (waits_told noted)) s.guarded;
        saved = ap (λ (f : Front). f.saved) front ∙ s.saved;
        stored = s.stored;
        base = s.base;
        lived = subst (λ x. LivedUntil x (world_at old seen)) (sym (same_setup old new front costs)) (lived_run (setup_at P old) (world_at old m) (world_at old seen) s.lived comes.events comes.replies comes.run);
      };
    }
