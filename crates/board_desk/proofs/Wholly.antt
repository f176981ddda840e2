-- All channels are settled, one after another.
use Rattle.std.proofs.Common.{List, Option, None, Some, [], ap, arith, refl, rules, subst, true, ℕ, ◌++◌, ◌∙◌, ◌≡◌}
use Rattle.std.proofs.Math.Logic.{∥∥₁_elim, ∥∥₁_map, ∥∥₁_prop}
use Rattle.std.proofs.lemmas.List.Elements.{All-append, All-weaker}
use Rattle.channel_locks.specs.declared.parts_name.PartsName.{Ghosts as PartsGhosts}
use Rattle.channel_log.specs.Log.{LogNote}
use Rattle.channel_locks.specs.declared.part.Part.{Part}
use Rattle.channel_port.specs.declared.port.ChannelPort.{Ghosts}
use Rattle.energy_budget.specs.Gauge.{Gauge}
use Rattle.energy_budget.specs.declared.energy.Energy.{Ghosts as GaugeGhosts}
use Rattle.nv_machine.specs.declared.events.Event.{Event}
use Rattle.channel_port.specs.Draining.{at_once}
use Rattle.arm_state.specs.declared.loss.Loss.{Loss}
use Rattle.nv_machine.specs.Losses.{LoseStep}
use Rattle.nv_machine.specs.State.{Machine, Setup, World}
use Rattle.nv_machine.proofs.JoinedRuns.{join_runs, rests_here}
use Rattle.board_hosts.specs.declared.board_name.BoardName.{Ghosts as BoardGhosts}
use Rattle.save_device.specs.Device.{DeviceState}
use Rattle.split_module.specs.declared.front.SplitFront.{SplitFront}
use Rattle.save_device.specs.declared.device.SaveDevice.{Ghosts as DeviceGhosts}
use Rattle.split_module.specs.OwnEvents.{ComesOfOwn, is_own}
use Rattle.board_desk.specs.Answering.{HasSettled, Settles}
use Rattle.board_desk.specs.Calling.{Course, GoesAlong}
use Rattle.board_desk.specs.Desk.{DeskStands, DeskView, setup_at, world_at}
use Rattle.board_desk.specs.Loans.{IsReadyToLend}
use Rattle.board_desk.specs.Losing.{LosesWhole, LostAtOnce}
use Rattle.board_desk.specs.Views.{SameButCounts, SameButLoans, SameModule, desk_of}
use Rattle.board_desk.specs.declared.desk.Desk.{Desk}
use Rattle.board_desk.specs.Whole.{CallAnswers, ComesOfChannels, SameWorld, SettlesAll, WholeAnswers, is_of_channels}
use Rattle.board_desk.proofs.Settled.{same_setup}

own_of_channels : (channel : ℕ) (event : Event) → is_own channel event ≡ true → is_of_channels event ≡ true
own_of_channels channel event own = search rules

-- and then by own events of one channel more
comes_more : (setup : Setup) (channel : ℕ) (first mid last : World) → ComesOfChannels setup first mid → ComesOfOwn setup channel mid last → ComesOfChannels setup first last
comes_more setup channel first mid last old new = record {
  events = old.events ++ new.events;
  replies = old.replies ++ new.replies;
  own = All-append (λ event. is_of_channels event ≡ true) old.events new.events old.own (All-weaker (λ event. is_own channel event ≡ true) (λ event. is_of_channels event ≡ true) (λ event. own_of_channels channel event) new.events new.own);
  run = join_runs setup old.events old.replies new.events new.replies first mid last old.run new.run;
}

-- one after the other
comes_join : (setup : Setup) (first mid last : World) → ComesOfChannels setup first mid → ComesOfChannels setup mid last → ComesOfChannels setup first last
comes_join setup first mid last old new = record {
  events = old.events ++ new.events;
  replies = old.replies ++ new.replies;
  own = All-append (λ event. is_of_channels event ≡ true) old.events new.events old.own new.own;
  run = join_runs setup old.events old.replies new.events new.replies first mid last old.run new.run;
}

comes_none : (setup : Setup) (world : World) → ComesOfChannels setup world world
comes_none setup world = record { events = []; replies = []; own = λ k d less. absurd (omega (arith, less)); run = rests_here world }

-- a part that was settled is ready to lend its port
pub settled_ready : {K : Type 0} (L : Ghosts K) (logs : List (List LogNote)) (part : Option (Part K L)) (log : List LogNote) → HasSettled L logs part log → IsReadyToLend L part log
settled_ready L logs None log settled = tt
settled_ready L logs (Some part) log settled = (settled.taken, settled.waits)

module _ {B : Type 0} (P : PartsGhosts B) where
  pub world_of_same : (old new : DeskView) → SameWorld P old new → (m : Machine) → world_at new m ≡ world_at old m
  world_of_same old new same m = ap (λ (d : DeviceState). record (world_at new m) { device = d }) same.device ∙ ap (λ (e : Gauge). record (world_at old m) { gauge = e }) same.gauge

  -- a call behind channels that were settled
  pub whole_answers : (course : Course) (old mid new : DeskView) → SettlesAll P old mid → SameWorld P old mid → CallAnswers P course mid new → WholeAnswers P course old new
  whole_answers course old mid new settles same called m s =
      ∥∥₁_elim (settles m s) ∥∥₁_prop (λ on. ∥∥₁_map (called on.seen on.stands) (λ l. record {
        seen = on.seen;
        comes = on.comes;
        later = l.later;
        leads = subst (λ (x : Setup). GoesAlong course x (world_at old on.seen) (world_at new l.later)) same.setup
            (subst (λ (w : World). GoesAlong course (setup_at P mid) w (world_at new l.later)) (world_of_same old mid same on.seen) l.leads);
        stands = l.stands;
      }))

  -- and a loss of mains behind them
  pub loses_whole : (lost : Loss) (old mid new : DeskView) → SettlesAll P old mid → SameWorld P old mid → ((m : Machine) → DeskStands P mid m → ∥ LostAtOnce P lost mid new m ∥₁) → LosesWhole P lost old new
  loses_whole lost old mid new settles same called m s =
      ∥∥₁_elim (settles m s) ∥∥₁_prop (λ on. ∥∥₁_map (called on.seen on.stands) (λ l. record {
        seen = on.seen;
        comes = on.comes;
        led = record {
          later = l.later;
          loses = subst (λ (x : Setup). LoseStep at_once x lost (world_at old on.seen) (world_at new l.later)) same.setup
              (subst (λ (w : World). LoseStep at_once (setup_at P mid) lost w (world_at new l.later)) (world_of_same old mid same on.seen) l.loses);
          stands = l.stands;
        };
      }))

  pub same_join : (old mid new : DeskView) → SameWorld P old mid → SameWorld P mid new → SameWorld P old new
  same_join old mid new a b = record { setup = b.setup ∙ a.setup; device = b.device ∙ a.device; gauge = b.gauge ∙ a.gauge }

  pub same_here : (desk : DeskView) → SameWorld P desk desk
  same_here desk = record { setup = refl; device = refl; gauge = refl }

  pub settles_none : (desk : DeskView) → SettlesAll P desk desk
  settles_none desk m s = ∣ record { seen = m; comes = comes_none (setup_at P desk) (world_at desk m); stands = s } ∣₁

  -- a channel was settled, and then others
  pub settles_first : (channel : ℕ) (old mid new : DeskView) → Settles P channel old mid → SameWorld P old mid → SettlesAll P mid new → SettlesAll P old new
  settles_first channel old mid new first same more m s =
      ∥∥₁_elim (first m s) ∥∥₁_prop (λ on. ∥∥₁_map (more on.seen on.stands) (λ next.
      let setup = setup_at P old in
      let others : ComesOfChannels setup (world_at old on.seen) (world_at old next.seen) =
      subst (λ (x : Setup). ComesOfChannels x (world_at old on.seen) (world_at old next.seen)) same.setup
      (subst (λ (w : World). ComesOfChannels (setup_at P mid) w (world_at old next.seen)) (world_of_same old mid same on.seen)
      (subst (λ (w : World). ComesOfChannels (setup_at P mid) (world_at mid on.seen) w) (world_of_same old mid same next.seen) next.comes)) in
      record {
        seen = next.seen;
        comes = comes_join setup (world_at old m) (world_at old on.seen) (world_at old next.seen) (comes_more setup channel (world_at old m) (world_at old m) (world_at old on.seen) (comes_none setup (world_at old m)) on.comes) others;
        stands = next.stands;
      }))

module _ {K D E B : Type 0} (L : Ghosts K) (M : DeviceGhosts D) (N : GaugeGhosts E) (O : BoardGhosts B) (P : PartsGhosts B) where
  abbrev pub ADesk : Type 0
  ADesk = Desk K D E B L M N O P

  pub same_world : (old new : ADesk) → SameButCounts L M N O P old new → SameWorld P (desk_of L M N O P old) (desk_of L M N O P new)
  same_world old new same = record {
    setup = same_setup P (desk_of L M N O P old) (desk_of L M N O P new) same.front same.costs;
    device = ap (λ (d : D). M.state d) same.device;
    gauge = ap (λ (e : E). N.gauge e) same.energy;
  }

  -- the module is the same, whichever channels were settled and lent their ports
  pub module_lent : (old mid new : ADesk) → SameButCounts L M N O P old mid → SameButLoans L M N O P mid new → SameModule L M N O P old new
  module_lent old mid new counts loans = record {
    front = ap (λ (s : SplitFront). s.front) loans.split ∙ counts.front;
    costs = ap (λ (s : SplitFront). s.costs) loans.split ∙ counts.costs;
    terms = loans.terms ∙ counts.terms;
    device = loans.device ∙ counts.device;
    energy = loans.energy ∙ counts.energy;
    history = loans.history ∙ counts.history;
  }

  pub module_join : (old mid new : ADesk) → SameModule L M N O P old mid → SameModule L M N O P mid new → SameModule L M N O P old new
  module_join old mid new a b = record {
    front = b.front ∙ a.front;
    costs = b.costs ∙ a.costs;
    terms = b.terms ∙ a.terms;
    device = b.device ∙ a.device;
    energy = b.energy ∙ a.energy;
    history = b.history ∙ a.history;
  }
