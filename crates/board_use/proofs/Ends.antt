-- How a board ended that was used.
use Rattle.std.proofs.Common.{◌≡◌, ◌∙◌, ℕ, List, [], ◌∷◌, ◌++◌, refl, sym, ap, subst, IfOk}
use Rattle.std.proofs.Math.Logic.{∥∥₁_map}
use Rattle.std.proofs.lemmas.List.{append_assoc, append-nil}
use Rattle.line_memory.specs.History.{Recorded, recorded}
use Rattle.save_device.specs.Device.{DeviceState}
use Rattle.save_device.specs.declared.device.SaveDevice.{Ghosts as DeviceGhosts}
use Rattle.energy_budget.specs.Gauge.{Gauge}
use Rattle.energy_budget.specs.declared.costs.Costs.{Costs}
use Rattle.energy_budget.specs.declared.energy.Energy.{Ghosts as GaugeGhosts}
use Rattle.channel_port.specs.Shape.{Shape}
use Rattle.channel_port.specs.declared.port.ChannelPort.{Ghosts}
use Rattle.channel_locks.specs.declared.parts_name.PartsName.{Ghosts as PartsGhosts}
use Rattle.module_core.specs.declared.front.Front.{Front}
use Rattle.nv_machine.specs.State.{Machine, stored_base, stored_writes, start_of_life}
use Rattle.nv_machine.specs.Lives.{LivedUntil}
use Rattle.board_hosts.specs.Ending.{AreChecked}
use Rattle.board_hosts.specs.declared.board_name.BoardName.{Ghosts as BoardGhosts}
use Rattle.board_hosts.specs.declared.host.Receipt.{Receipt}
use Rattle.board_hosts.specs.declared.recorded_module.RecordedModule.{RecordedModule}
use Rattle.worker_turns.specs.declared.awaiting.Seen.{Seen}
use Rattle.board_desk.specs.Desk.{DeskStands, DeskView, desk_view, setup_at, shape_named}
use Rattle.split_board.specs.Starting.{LiesBehindLocks}
use Rattle.board_use.specs.Ends.{EndsLife, answers_of, receipts_of}
use Rattle.board_use.specs.declared.ending.LifeEnd.{LifeEnd}
use Rattle.board_use.specs.declared.hosting.HostEnd.{HostEnd}

-- one host more
pub receipts_push : {T : Type 0} (hosts : List (HostEnd T)) (host : HostEnd T) → receipts_of (hosts ++ host ∷ []) ≡ receipts_of hosts ++ host.receipts.items
receipts_push [] host = append-nil host.receipts.items
receipts_push (first ∷ hosts) host =
    ap (λ (xs : List Receipt). first.receipts.items ++ xs) (receipts_push hosts host) ∙ sym (append_assoc first.receipts.items (receipts_of hosts) host.receipts.items)

pub answers_push : {T : Type 0} (hosts : List (HostEnd T)) (host : HostEnd T) → answers_of (hosts ++ host ∷ []) ≡ answers_of hosts ++ host.answers.items
answers_push [] host = append-nil host.answers.items
answers_push (first ∷ hosts) host =
    ap (λ (xs : List Seen). first.answers.items ++ xs) (answers_push hosts host) ∙ sym (append_assoc first.answers.items (answers_of hosts) host.answers.items)

module _ {K D E B : Type 0} (L : Ghosts K) (M : DeviceGhosts D) (N : GaugeGhosts E) (O : BoardGhosts B) (P : PartsGhosts B) where
  -- what lay behind the locks of a board tells how its life ended
  pub ends_life : (W : Ghosts K) (it : RecordedModule K D E W) → LiesBehindLocks L M N O P W it → (receipts : List Receipt) (answers : List Seen) (end : LifeEnd D E)
      → end.device ≡ it.device → end.energy ≡ it.energy → end.history ≡ it.history → end.accepted ≡ it.running.front.accepted → end.mark ≡ it.running.front.persisted
      → IfOk end.checked (λ told. AreChecked it.running.front.terms.start it.history receipts answers told)
      → ∥ (EndsLife M N (shape_named P) P.base receipts answers end) ∥₁
  ends_life W it lay receipts answers end device energy history accepted mark checked =
      let desk = lay.desk in let have = lay.have in
      let view : DeskView = desk_view desk.split desk.terms (M.state desk.device) (N.gauge desk.energy) desk.history desk.known.logs in
      ∥∥₁_map desk.kept.stands (λ s.
      let m : Machine = s.0 in let stands : DeskStands P view m = s.1 in
      let same : it.running.front ≡ desk.split.front = have.front in
      let front = stands.stands.matches in
      let recorded_is : end.history ≡ desk.history = history ∙ have.history in
      let starts : it.running.front.terms.start ≡ start_of_life m.life = ap (λ (f : Front). f.terms.start) same ∙ front.start in
      record {
        machine = m;
        setup = setup_at P view;
        shape = refl;
        lived = subst (λ (d : DeviceState). LivedUntil (setup_at P view) (record { machine = m; device = d; gauge = N.gauge end.energy })) (sym (ap M.state (device ∙ have.device)))
            (subst (λ (e : Gauge). LivedUntil (setup_at P view) (record { machine = m; device = M.state desk.device; gauge = e })) (sym (ap N.gauge (energy ∙ have.energy))) stands.lived);
        began = stands.base;
        stored = subst (λ (h : Recorded). h ≡ recorded (stored_base m) m.cut (stored_writes m) h.room) (sym recorded_is) stands.stored;
        accepted_is = accepted ∙ (ap (λ (f : Front). f.accepted) same ∙ front.accepted);
        mark_is = mark ∙ (ap (λ (f : Front). f.persisted) same ∙ front.persisted);
        checked = subst (λ (n : ℕ). IfOk end.checked (λ told. AreChecked n end.history receipts answers told)) starts
            (subst (λ (h : Recorded). IfOk end.checked (λ told. AreChecked it.running.front.terms.start h receipts answers told)) (sym history) checked);
      })

module _ {D E : Type 0} (M : DeviceGhosts D) (N : GaugeGhosts E) where
  -- the same of channels and a memory by other names
  pub ends_by : (shape shape' : Costs → Shape) (base base' : List (List ℕ)) (receipts : List Receipt) (answers : List Seen) (end : LifeEnd D E)
      → ((costs : Costs) → shape costs ≡ shape' costs) → base ≡ base'
      → ∥ (EndsLife M N shape base receipts answers end) ∥₁ → ∥ (EndsLife M N shape' base' receipts answers end) ∥₁
  ends_by shape shape' base base' receipts answers end same same_base ends =
      ∥∥₁_map ends (λ e.
      record {
        machine = e.machine;
        setup = e.setup;
        shape = e.shape ∙ same e.setup.shape.costs;
        lived = e.lived;
        began = e.began ∙ same_base;
        stored = e.stored;
        accepted_is = e.accepted_is;
        mark_is = e.mark_is;
        checked = e.checked;
      })
