-- What is known behind a channel's lock of its part, and behind the board's of what is out on all channels.
use Rattle.std.proofs.Common.{None, List, Option, Some, [], arith, subst, sym, length, ℕ, ◌++◌, ◌∙◌, ◌∷◌, ◌≡◌, ◌≤◌}
use Rattle.std.proofs.Math.Bridge.{le_prop}
use Rattle.std.proofs.Math.Logic.{∥∥₁_elim, ∥∥₁_map, ∥∥₁_prop}
use Rattle.std.specs.Prelude.{slice_index_or}
use Rattle.std.proofs.Math.Nat.{ℕ_set}
use Rattle.channel_locks.specs.declared.parts_name.PartsName.{Ghosts as PartsGhosts}
use Rattle.channel_locks.specs.PortMakes.{make_of}
use Rattle.channel_locks.specs.Slots.{IsPartWhereDue}
use Rattle.channel_log.specs.Between.{CameOf}
use Rattle.channel_log.specs.Log.{IsLog, IsLogOf, LogNote, MayFollow, credits_of, credits_out, log_tells, note_of}
use Rattle.channel_log.specs.ReadLines.{ReadsHaveLines}
use Rattle.channel_log.specs.declared.entry.LogEntry.{LogEntry}
use Rattle.channel_locks.specs.declared.part.Part.{Part}
use Rattle.channel_locks.specs.Stands.{PartStands, StandsNoted, queue_of, returned_of}
use Rattle.channel_port.specs.declared.port.ChannelPort.{Ghosts}
use Rattle.channel_port.specs.Waits.{Waits}
use Rattle.nv_machine.specs.State.{Machine}
use Rattle.split_module.proofs.ReadLines.{lived_has, logs_have}
use Rattle.split_module.proofs.ToldOf.{credits_told}
use Rattle.split_module.specs.OwnEvents.{looked}
use Rattle.split_module.specs.Telling.{laid_out, waits_told}
use Rattle.split_module.specs.Lending.{LooksAt, SplitStands}
use Rattle.split_module.specs.declared.front.SplitFront.{SplitFront}
use Rattle.board_desk.proofs.Settled.{settled}
use Rattle.board_desk.specs.Answering.{SeesOwn}
use Rattle.board_desk.specs.Desk.{DeskStands, DeskView, setup_at, shape_at, world_at}

module _ {B : Type 0} (P : PartsGhosts B) where
  -- as many credits are out as the logs tell
  pub out_told : (desk : DeskView) → ∥ ((m : Machine) × DeskStands P desk m) ∥₁ → desk.split.out ≡ credits_out desk.logs
  out_told desk stands = ∥∥₁_elim stands (ℕ_set _ _) (λ s. s.1.stands.out ∙ sym (credits_told (setup_at P desk) s.0 desk.logs s.1.stands.told))

  -- each read that a log of the desk tells to wait has its line
  pub told_reads : (desk : DeskView) (channel : ℕ) (log : List LogNote) → ∥ ((m : Machine) × DeskStands P desk m) ∥₁ → IsLogOf desk.logs channel log → ∥ ReadsHaveLines P.base (log_tells log) ∥₁
  told_reads desk channel log stands of = ∥∥₁_map stands (λ s.
      subst (λ (l : List LogNote). ReadsHaveLines P.base (log_tells l)) of.same
      (subst (λ base. ReadsHaveLines base (log_tells (slice_index_or desk.logs channel []))) s.1.base
      (logs_have (setup_at P desk) s.0 desk.logs channel s.1.stands.told (lived_has (setup_at P desk) (world_at desk s.0) s.1.lived) of.there)))

  module _ {K : Type 0} (L : Ghosts K) where
    -- a part is that of its log
    abbrev pub IsDue : Part K L → ℕ → List LogNote → Type 0
    IsDue part channel log = ∥ IsPartWhereDue L P (Some part) channel log ∥₁

    pub due_part : (lent : Option (Part K L)) (part : Part K L) (channel : ℕ) (log : List LogNote) → lent ≡ Some part → ∥ IsPartWhereDue L P lent channel log ∥₁ → IsDue part channel log
    due_part lent part channel log is due = subst (λ it. ∥ IsPartWhereDue L P it channel log ∥₁) is due

    -- the board lacks a channel that has no part
    pub none_due : (lent : Option (Part K L)) (channel : ℕ) (log : List LogNote) → lent ≡ None → ∥ IsPartWhereDue L P lent channel log ∥₁ → P.ports ≤ channel
    none_due lent channel log is due = ∥∥₁_elim (subst (λ it. ∥ IsPartWhereDue L P it channel log ∥₁) is due) le_prop (λ beyond. beyond)

    pub channel_due : (part : Part K L) (channel : ℕ) (log : List LogNote) → IsDue part channel log → part.channel ≡ channel
    channel_due part channel log due = ∥∥₁_elim due (ℕ_set _ _) (λ h. part.here ∙ h.1.stands.port.number)

    credits_due : (part : Part K L) (channel : ℕ) (log : List LogNote) → IsDue part channel log → part.credits ≡ credits_of log
    credits_due part channel log due = ∥∥₁_elim due (ℕ_set _ _) (λ h. h.1.stands.credits)

    -- no more credits of a part are returned ones than are out on all channels
    pub returned_out : (desk : DeskView) (part : Part K L) (channel : ℕ) (log : List LogNote) → ∥ ((m : Machine) × DeskStands P desk m) ∥₁ → IsDue part channel log → credits_of log ≤ credits_out desk.logs
        → returned_of L part ≤ desk.split.out
    returned_out desk part channel log stands due few =
        let out = out_told desk stands in
        let credits = credits_due part channel log due in
        omega (arith, out, credits, few)

    -- a part with one note more is the log's, where the reads that are told then have their lines
    pub due_noted : (entry : LogEntry) (part later : Part K L) (channel : ℕ) (log : List LogNote) → StandsNoted L entry part later → IsLog log → MayFollow log entry → make_of (L.view later.port) ≡ make_of (L.view part.port)
        → ∥ ReadsHaveLines P.base (log_tells (log ++ note_of entry (L.view later.port).waits ∷ [])) ∥₁
        → IsDue part channel log → IsDue later channel (log ++ note_of entry (L.view later.port).waits ∷ [])
    due_noted entry part later channel log noted log_is follows made reads due =
        ∥∥₁_elim reads ∥∥₁_prop (λ has. ∥∥₁_map due (λ h. (h.0, record { stands = noted channel P.base log h.1.stands log_is follows; made = made ∙ h.1.made; reads = has })))

    -- a channel that was looked at
    pub goes_on : (old : DeskView) (split : SplitFront) (part later : Part K L) (channel : ℕ) (log : List LogNote) → LooksAt L old.split part split later → split.front ≡ old.split.front → split.costs ≡ old.split.costs
        → later.port ≡ part.port → length (queue_of L later) ≤ 64 → IsLogOf old.logs channel log → IsDue part channel log
        → (logs : List (List LogNote)) → logs ≡ looked channel log (L.view later.port).waits old.logs
        → (m : Machine) → DeskStands P old m → ∥ SeesOwn P channel old (record old { split = split; logs = logs }) m ∥₁
    goes_on old split part later channel log looks front costs port most of due logs is m s =
        let own : part.channel ≡ channel = channel_due part channel log due in
        let waits : Waits = (L.view later.port).waits in
        subst (λ ls. ∥ SeesOwn P channel old (record old { split = split; logs = ls }) m ∥₁) (sym is)
        (∥∥₁_map due
        (λ h.
        let here : PartStands L part part.channel P.base log = subst (λ c. PartStands L part c P.base log) (sym own) h.1.stands in
        let came = subst (λ p. CameOf channel (log_tells log) (L.view p).waits) (sym port) h.1.stands.port.came in
        settled P old m s channel log waits of came h.0 most split front costs
        (subst (λ c. SplitStands (shape_at P old) (looked c log waits old.logs) split (record m { waits = laid_out (waits_told (looked c log waits old.logs)) })) own
        (looks (shape_at P old) m old.logs P.base log s.stands (subst (λ c. IsLogOf old.logs c log) (sym own) of) here))))
