-- What a write or a read asks of a desk and of a part, of which both locks are held.
use Rattle.std.proofs.Common.{List, ap, arith, subst, sym, length, ℕ, ◌+◌, ◌-◌, ◌*◌, ◌<◌, ◌∙◌, ◌≡◌, ◌≤◌, ⊎_elim}
use Rattle.std.proofs.Math.Bool.{Bool-set}
use Rattle.std.proofs.Math.Bridge.{le_prop}
use Rattle.std.proofs.Math.Logic.{∥∥₁_elim}
use Rattle.std.proofs.Math.Nat.{ℕ_set}
use Rattle.std.proofs.lemmas.Bool.{cases_lt}
use Rattle.std.proofs.lemmas.List.{length-drop}
use Rattle.std.proofs.lemmas.List.Sums.{sum_by-le}
use Rattle.arm_state.specs.Modes.{has_ended}
use Rattle.channel_locks.specs.declared.parts_name.PartsName.{Ghosts as PartsGhosts}
use Rattle.channel_locks.specs.PortMakes.{PortMake}
use Rattle.channel_log.specs.Log.{IsLogOf, LogNote, credits_of, log_tells}
use Rattle.channel_locks.proofs.Counting.{all_above}
use Rattle.channel_locks.specs.declared.part.Part.{Part}
use Rattle.channel_locks.specs.Stands.{queue_of}
use Rattle.channel_port.specs.declared.port.ChannelPort.{Ghosts}
use Rattle.channel_port.specs.Shape.{IsShape}
use Rattle.channel_port.specs.Waits.{AllBelow}
use Rattle.energy_budget.specs.declared.costs.Costs.{Costs}
use Rattle.channel_set.proofs.Written.{numbers-before}
use Rattle.line_memory.specs.History.{Recorded}
use Rattle.line_memory.specs.Parts.{AreBefore}
use Rattle.nv_machine.proofs.Guarded.{cut_below, persisted_accepted}
use Rattle.nv_machine.specs.State.{Machine, start_of_life}
use Rattle.split_module.proofs.ToldOf.{told_of_log}
use Rattle.split_module.specs.Lending.{HasBeenSeen}
use Rattle.board_desk.proofs.Lending.{IsDue, channel_due, out_told}
use Rattle.board_desk.specs.Answering.{IsAskedFor}
use Rattle.board_desk.specs.Desk.{DeskStands, DeskView, setup_at, shape_at, shape_named}

-- a channel that is asked for a line is one of the board's
pub asked_has : {B : Type 0} (P : PartsGhosts B) (costs : Costs) (line channel : ℕ) → IsShape (shape_named P costs) → IsAskedFor P.make line channel → channel < P.ports
asked_has P costs line channel shape asked =
    ⊎_elim
    (λ (less : line < P.make.lines). let known = shape.known line less in let is = asked.here less in omega (arith, known, is))
    (λ (more : P.make.lines ≤ line). let is = asked.beyond more in let some = shape.some in let first = shape.known 0 (omega (arith, some)) in omega (arith, is, first))
    (cases_lt line P.make.lines)

module _ {B : Type 0} (P : PartsGhosts B) (desk : DeskView) (stands : ∥ ((m : Machine) × DeskStands P desk m) ∥₁) where
  -- few credits are out
  pub few_out : desk.split.out < 1024
  few_out =
      let out = out_told P desk stands in
      ∥∥₁_elim stands le_prop
      (λ s.
      let most = sum_by-le credits_of 64 desk.logs s.1.logs_are.few in
      let eight = s.1.logs_are.eight in
      let all : length desk.logs * 64 ≡ 512 = ap (λ n. n * 64) eight in
      omega (arith, out, most, all))

  pub lines_are : desk.split.lines ≡ P.make.lines
  lines_are = ∥∥₁_elim stands (ℕ_set _ _) (λ s. s.1.stands.lines)

  -- the persistent writes are accepted ones
  pub in_order : desk.split.front.persisted ≤ desk.split.front.accepted
  in_order =
      ∥∥₁_elim stands le_prop
      (λ s.
      let matches = s.1.stands.matches in
      let accepted = matches.accepted in
      let persisted = matches.persisted in
      let most = persisted_accepted s.0 s.1.guarded in
      omega (arith, accepted, persisted, most))

  -- how many writes are recorded
  pub many_recorded : length desk.history.writes + desk.split.front.terms.cut ≡ desk.split.front.accepted
  many_recorded =
      ∥∥₁_elim stands (ℕ_set _ _)
      (λ s.
      let m : Machine = s.0 in
      let front = desk.split.front in
      let opened = (cut_below m s.1.guarded).opened in
      let size : length desk.history.writes ≡ length m.life.writes - (m.cut - start_of_life m.life) =
      ap (λ (h : Recorded). length h.writes) s.1.stored ∙ length-drop (m.cut - start_of_life m.life) m.life.writes in
      let stored = front.stored in
      let settled = front.settled in
      let cut = s.1.stands.matches.cut in
      let accepted = s.1.stands.matches.accepted in
      omega (arith, opened, size, stored, settled, cut, accepted))

  module _ {K : Type 0} (L : Ghosts K) (part : Part K L) (channel : ℕ) (log : List LogNote) (due : IsDue P L part channel log) (of : IsLogOf desk.logs channel log) where
    pub part_lines : (L.view part.port).lines ≡ desk.split.lines
    part_lines = ∥∥₁_elim due (ℕ_set _ _) (λ h. ap (λ (k : PortMake). k.lines) h.1.made) ∙ sym lines_are

    pub part_place : (line : ℕ) → (P.make.place_of line).channel ≡ channel → ((L.view part.port).place_of line).channel ≡ part.channel
    part_place line on = ∥∥₁_elim due (ℕ_set _ _) (λ h. ap (λ (k : PortMake). (k.place_of line).channel) h.1.made) ∙ on ∙ sym (channel_due P L part channel log due)

    pub part_ended : part.ended ≡ has_ended desk.split.front.mode
    part_ended =
        ∥∥₁_elim due (Bool-set _ _)
        (λ h.
        ∥∥₁_elim stands (Bool-set _ _)
        (λ s.
        h.1.stands.ended ∙ (told_of_log (setup_at P desk) s.0 desk.logs s.1.stands.told channel log of).ended ∙ ap has_ended (sym s.1.stands.matches.mode)))

    -- the numbers of its writes were accepted, and so were those that wait
    pub accepted_before : AreBefore desk.split.front.accepted (log_tells log).written
    accepted_before k d less =
        ∥∥₁_elim stands le_prop
        (λ s.
        subst (AreBefore desk.split.front.accepted) (sym (told_of_log (setup_at P desk) s.0 desk.logs s.1.stands.told channel log of).written)
        (numbers-before (shape_at P desk).channel_of channel (start_of_life s.0.life) s.0.life.writes desk.split.front.accepted s.1.stands.matches.accepted) k d less)

    pub waiting_below : AllBelow desk.split.front.accepted (queue_of L part)
    waiting_below k d less = ∥∥₁_elim due le_prop (λ h. all_above desk.split.front.accepted (log_tells log).written (queue_of L part) h.1.stands.port.own.given accepted_before k d less)

    pub has_channel : part.channel < P.ports
    has_channel = let own = channel_due P L part channel log due in let least : channel < P.ports = ∥∥₁_elim due le_prop (λ h. h.0) in omega (arith, own, least)

    -- it has seen what waits, where its log tells this
    pub part_seen : (log_tells log).waits ≡ (L.view part.port).waits → HasBeenSeen L (shape_at P desk) part log
    part_seen waits = record {
      waits = waits;
      depth = ∥∥₁_elim due (ℕ_set _ _) (λ h. ap (λ (k : PortMake). k.depth) h.1.made);
      most_reads = ∥∥₁_elim due (ℕ_set _ _) (λ h. ap (λ (k : PortMake). k.most_reads) h.1.made);
      known = has_channel;
    }
