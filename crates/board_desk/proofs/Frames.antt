-- A call of the whole module, one channel after another.
use Rattle.std.proofs.Common.{List, Option, [], ap, arith, length, refl, rules, slice_index_or, subst, suc, sym, true, ℕ, ◌++◌, ◌+◌, ◌∙◌, ◌∷◌, ◌≡◌, ◌≤◌}
use Rattle.std.specs.Global.{Global}
use Rattle.std.specs.Prelude.{Vec}
use Rattle.std.proofs.Math.Logic.{∥∥₁_map}
use mathlib.Core.List.{append_assoc}
use Rattle.std.proofs.lemmas.List.{append-nil}
use Rattle.arm_state.specs.Modes.{has_ended}
use Rattle.atomic_table.specs.Seated.{TableId}
use Rattle.channel_locks.specs.Lent.{IsLentBy}
use Rattle.channel_locks.specs.Slots.{IsPartWhereDue}
use Rattle.channel_locks.specs.Unlocked.{port_in, ports_in}
use Rattle.channel_locks.specs.declared.locked_channel.LockedChannel.{LockedChannel}
use Rattle.channel_locks.specs.declared.parts_name.PartsName.{Ghosts as PartsGhosts}
use Rattle.channel_log.specs.Log.{IsLogOf, LogNote, log_tells}
use Rattle.channel_log.specs.Seats.{AllLogs, AreOf, OneLog}
use Rattle.channel_locks.specs.declared.part.Part.{Part}
use Rattle.channel_port.specs.declared.port.ChannelPort.{Ghosts}
use Rattle.energy_budget.specs.declared.energy.Energy.{Ghosts as GaugeGhosts}
use Rattle.board_hosts.specs.SeenMarks.{SeenMarks}
use Rattle.board_hosts.specs.declared.board_name.BoardName.{Ghosts as BoardGhosts}
use Rattle.save_device.specs.declared.device.SaveDevice.{Ghosts as DeviceGhosts}
use Rattle.split_module.specs.declared.front.SplitFront.{SplitFront}
use Rattle.board_desk.specs.Answering.{SameElsewhere, Settles, SettlesPart}
use Rattle.board_desk.specs.Asking.{pieces_with}
use Rattle.board_desk.specs.Calling.{Course}
use Rattle.board_desk.specs.Desk.{DeskView, desk_view}
use Rattle.board_desk.specs.Kept.{IsDeskKept}
use Rattle.board_desk.specs.Loans.{AreRestated, ComesBack, HaveLent}
use Rattle.board_desk.specs.Locking.{AreLentFrom, CalledFrom, HaveComeBack}
use Rattle.board_desk.specs.Pieces.{CallDid}
use Rattle.board_desk.specs.Views.{SameButCounts, SameButLoans, desk_of}
use Rattle.board_desk.specs.Whole.{CallAnswers, SameWorld, SettlesAll, WholeAnswers}
use Rattle.board_desk.specs.declared.pieces.RecordedPieces.{RecordedPieces}
use Rattle.board_desk.proofs.KeptWhole.{eight_logs}
use Rattle.board_desk.proofs.Lent.{have_elsewhere, settled_port}
use Rattle.board_desk.proofs.Returned.{all_back, comes_due, none_back}
use Rattle.board_desk.proofs.Wholly.{ADesk, same_here, same_join, same_world, settles_first, settles_none, whole_answers}

-- a list of no length
emptied : {X : Type 0} (xs : List X) → length xs ≡ 0 → xs ≡ []
emptied [] none = refl
emptied (x ∷ xs) none = absurd (omega (arith, none))

-- a channel that lies behind the lock of a number is lent by the lock of that number
pub lent_by : {K B : Type 0} (L : Ghosts K) (P : PartsGhosts B) (channel : LockedChannel K B L P) (number : ℕ) → channel.number ≡ number → IsLentBy L P number channel.part
lent_by L P channel number is = (channel.seat.log, subst (λ (n : ℕ). ∥ IsPartWhereDue L P channel.part n channel.seat.log ∥₁) is channel.kept.part_is)

module _ {K D E B : Type 0} (L : Ghosts K) (M : DeviceGhosts D) (N : GaugeGhosts E) (O : BoardGhosts B) (P : PartsGhosts B) where
  abbrev pub APieces : Type 0
  APieces = RecordedPieces K D E B

  -- pieces whose ports come back are the same to a desk
  pub pieces_same : (number : ℕ) (done rest : APieces) (first known : AllLogs) → HaveComeBack L M N O P number done first rest known → (logs : List (List LogNote)) → pieces_with L M N P rest logs ≡ pieces_with L M N P done logs
  pieces_same number done rest first known come logs = λ i. desk_view (come.front i) (come.terms i) (M.state (come.device i)) (N.gauge (come.energy i)) (come.history i) logs

  module _ (done rest : APieces) (first known : AllLogs) (come : HaveComeBack L M N O P 0 done first rest known) where
    -- once all have come back
    pub all_restated : AreRestated L rest.pieces.terms.hold (has_ended rest.pieces.front.front.mode) done.pieces.ports.items first.logs known.logs
    all_restated =
        subst (λ (v : DeskView). AreRestated L v.terms.hold (has_ended v.split.front.mode) done.pieces.ports.items first.logs known.logs) (sym (pieces_same 0 done rest first known come known.logs))
        (all_back L done.pieces.terms.hold (has_ended done.pieces.front.front.mode) done.pieces.ports.items first.logs rest.pieces.ports.items known.logs come.back)

    pub did_then : (course : Course) (asked : APieces) → CallDid L P course (pieces_with L M N P asked first.logs) (pieces_with L M N P done first.logs) done.pieces.ports.items
        → CallDid L P course (pieces_with L M N P asked first.logs) (pieces_with L M N P rest first.logs) done.pieces.ports.items
    did_then course asked did = subst (λ (v : DeskView). CallDid L P course (pieces_with L M N P asked first.logs) v done.pieces.ports.items) (sym (pieces_same 0 done rest first known come first.logs)) did

  -- all channels have lent their ports, and the call was made
  pub called_last : (course : Course) (Tells : APieces → APieces → Type 0) (old : DeskView) (ports : List K) (asked done : APieces) (first : AllLogs) (words : TableId) (marks : SeenMarks) (written : ℕ) (logs : TableId)
      → pieces_with L M N P asked first.logs ≡ old → IsDeskKept O P (pieces_with L M N P asked first.logs) words marks written logs first.table → ∥ HaveLent L P first.logs 8 asked.pieces.ports.items ∥₁ → asked.pieces.ports.items ≡ ports
      → CallDid L P course (pieces_with L M N P asked first.logs) (pieces_with L M N P done first.logs) done.pieces.ports.items → Tells asked done
      → CalledFrom L M N O P 8 course Tells old ports done words marks written logs first
  called_last course Tells old ports asked done first words marks written logs is kept have ports_are did tells =
      let eight = eight_logs L O P (pieces_with L M N P asked first.logs) words marks written logs first.table kept in
      let count = did.count in
      let channels : P.ports ≡ asked.pieces.front.costs.channels = kept.shape.channels in
      let few : asked.pieces.front.costs.channels ≤ 8 = asked.pieces.front.costs.few.0 in
      let within = done.pieces.ports.ok in
      record {
        asked = asked;
        done = done;
        first = first;
        settles = subst (λ (v : DeskView). SettlesAll P old v) (sym is) (settles_none P old);
        same = subst (λ (v : DeskView). SameWorld P old v) (sym is) (same_here P old);
        front = ap (λ (v : DeskView). v.split.front) is;
        record_is = ap (λ (v : DeskView). v.history) is;
        before = λ channel less. ap (λ (v : DeskView). slice_index_or v.logs channel []) is;
        came = record { kept = kept; did = did };
        have = have;
        tells = tells;
        back = record {
          front = refl;
          terms = refl;
          device = refl;
          energy = refl;
          history = refl;
          table = refl;
          count = omega (arith, count, channels, few);
          room = search (rules, count, within);
          back = none_back L done.pieces.terms.hold (has_ended done.pieces.front.front.mode) done.pieces.ports.items first.logs 8 (omega (arith, eight));
        };
        parts = [];
        all = refl;
        lent = tt;
        lends = ports_are ∙ sym (append-nil ports);
        left = [];
        leaves = sym (append-nil done.pieces.ports.items);
      }

  module _ (number : ℕ) (course : Course) (Tells : APieces → APieces → Type 0) (mid : DeskView) (more : List K) (rest : APieces) (words : TableId) (marks : SeenMarks) (written : ℕ) (logs : TableId) (known : AllLogs)
      (called : CalledFrom L M N O P (number + 1) course Tells mid more rest words marks written logs known) where
    -- what the seat of the channel knows was known at the call
    pub of_first : (log : List LogNote) → IsLogOf mid.logs number log → IsLogOf called.first.logs number log
    of_first log of =
        let eight = eight_logs L O P (pieces_with L M N P called.asked called.first.logs) words marks written logs called.first.table called.came.kept in
        let all = called.all in
        record { there = omega (arith, eight, all); same = called.before number (omega arith) ∙ of.same }

    pub stays_first : (log : List LogNote) → IsLogOf mid.logs number log → (log_tells log).ended ≡ true → has_ended rest.pieces.front.front.mode ≡ true
    stays_first log of ended =
        ap (λ (f : SplitFront). has_ended f.front.mode) called.back.front ∙ called.came.did.stays number (ap (λ (l : List LogNote). (log_tells l).ended) (of_first log of).same ∙ ended)

    pub due_first : (log : List LogNote) → IsLogOf mid.logs number log → ∥ ComesBack L P rest.pieces.terms.hold (has_ended rest.pieces.front.front.mode) number (log_tells log) rest.pieces.ports.items ∥₁
    due_first log of =
        let done = called.done in
        subst (λ (v : DeskView). ∥ ComesBack L P v.terms.hold (has_ended v.split.front.mode) number (log_tells log) rest.pieces.ports.items ∥₁) (sym (pieces_same (number + 1) done rest called.first known called.back known.logs))
        (comes_due L done.pieces.terms.hold (has_ended done.pieces.front.front.mode) done.pieces.ports.items called.first.logs P number rest.pieces.ports.items log called.came.did.due (of_first log of) (called.back.back.lent number (omega arith)))

    pub tables_first : (seat : OneLog) → seat.table ≡ P.logs → AreOf logs known seat
    tables_first seat table = record { front_is = called.back.table ∙ called.came.kept.known_is ∙ sym called.came.kept.logs_is; seat_is = table ∙ sym called.came.kept.logs_is }

    -- the channel has its port back
    pub called_more : (old : DeskView) (ports : List K) (part back : Option (Part K L)) (later : APieces) (now : AllLogs)
        → Settles P number old mid → SameWorld P old mid → mid.split.front ≡ old.split.front → mid.history ≡ old.history → SameElsewhere number old.logs mid.logs
        → IsLentBy L P number part → more ≡ ports ++ port_in L part
        → HaveComeBack L M N O P number called.done called.first later now → rest.pieces.ports.items ≡ later.pieces.ports.items ++ port_in L back
        → CalledFrom L M N O P number course Tells old ports later words marks written logs now
    called_more old ports part back later now settles same front record_is elsewhere lent more_is come left_is = record {
      asked = called.asked;
      done = called.done;
      first = called.first;
      settles = settles_first P number old mid (pieces_with L M N P called.asked called.first.logs) settles same called.settles;
      same = same_join P old mid (pieces_with L M N P called.asked called.first.logs) same called.same;
      front = called.front ∙ front;
      record_is = called.record_is ∙ record_is;
      before = λ channel less. called.before channel (omega (arith, less)) ∙ elsewhere channel (λ e. absurd (omega (arith, e, less)));
      came = called.came;
      have = called.have;
      tells = called.tells;
      back = come;
      parts = part ∷ called.parts;
      all = (let all = called.all in omega (arith, all));
      lent = (lent, (let next : number + 1 ≡ suc number = omega arith in subst (λ n. AreLentFrom L M N O P n called.parts) next called.lent));
      lends = called.lends ∙ ap (λ (xs : List K). xs ++ ports_in L called.parts) more_is ∙ append_assoc ports (port_in L part) (ports_in L called.parts);
      left = back ∷ called.left;
      leaves = called.leaves ∙ ap (λ (xs : List K). xs ++ ports_in L called.left) left_is ∙ append_assoc later.pieces.ports.items (port_in L back) (ports_in L called.left);
    }

  -- with the same in the books
  pub called_same : (number : ℕ) (course : Course) (Tells : APieces → APieces → Type 0) (old : DeskView) (ports : List K) (rest : APieces) (words words2 : TableId) (marks marks2 : SeenMarks) (written written2 : ℕ) (logs logs2 : TableId) (known : AllLogs)
      → words2 ≡ words → marks2 ≡ marks → written2 ≡ written → logs2 ≡ logs → CalledFrom L M N O P number course Tells old ports rest words marks written logs known → CalledFrom L M N O P number course Tells old ports rest words2 marks2 written2 logs2 known
  called_same number course Tells old ports rest words words2 marks marks2 written written2 logs logs2 known w m n l called =
      subst (λ (x : TableId). CalledFrom L M N O P number course Tells old ports rest x marks2 written2 logs2 known) (sym w)
      (subst (λ (x : SeenMarks). CalledFrom L M N O P number course Tells old ports rest words x written2 logs2 known) (sym m)
      (subst (λ x. CalledFrom L M N O P number course Tells old ports rest words marks x logs2 known) (sym n)
      (subst (λ (x : TableId). CalledFrom L M N O P number course Tells old ports rest words marks written x known) (sym l) called)))

  -- a channel is settled and lends its port, the call is made, and the channel has its port back
  module _ (number : ℕ) (old settled lent : ADesk L M N O P) (channel later : LockedChannel K B L P) (here : channel.number ≡ number)
      (settles : Settles P channel.number (desk_of L M N O P old) (desk_of L M N O P settled)) (counts : SameButCounts L M N O P old settled) (elsewhere : SameElsewhere channel.number old.known.logs settled.known.logs)
      (part : SettlesPart L channel.part later.part) where
    elsewhere_here : SameElsewhere number old.known.logs settled.known.logs
    elsewhere_here = subst (λ k. SameElsewhere k old.known.logs settled.known.logs) here elsewhere

    pub have_settled : ∥ HaveLent L P old.known.logs number old.room.items ∥₁ → ∥ HaveLent L P settled.known.logs number settled.room.items ∥₁
    have_settled have = ∥∥₁_map have (λ h. subst (λ ports. HaveLent L P settled.known.logs number ports) (sym (ap (λ (ports : Vec K Global). ports.items) counts.room)) (have_elsewhere L P number old.known.logs settled.known.logs old.room.items elsewhere_here h))

    module _ (loans : SameButLoans L M N O P settled lent) (port : lent.room.items ≡ settled.room.items ++ port_in L later.part) where
      pub called_here : (course : Course) (Tells : APieces → APieces → Type 0) (rest : APieces) (words : TableId) (marks : SeenMarks) (written : ℕ) (logs : TableId) (known : AllLogs)
          (called : CalledFrom L M N O P (number + 1) course Tells (desk_of L M N O P lent) lent.room.items rest words marks written logs known) (back : Option (Part K L)) (after : APieces) (now : AllLogs)
          → HaveComeBack L M N O P number called.done called.first after now → rest.pieces.ports.items ≡ after.pieces.ports.items ++ port_in L back
          → CalledFrom L M N O P number course Tells (desk_of L M N O P old) old.room.items after words marks written logs now
      called_here course Tells rest words marks written logs known called back after now come left_is =
          let view = loans.view in
          called_more number course Tells (desk_of L M N O P lent) lent.room.items rest words marks written logs known called (desk_of L M N O P old) old.room.items channel.part back after now
          (subst (λ (d : DeskView). Settles P number (desk_of L M N O P old) d) (sym view) (subst (λ k. Settles P k (desk_of L M N O P old) (desk_of L M N O P settled)) here settles))
          (subst (λ (d : DeskView). SameWorld P (desk_of L M N O P old) d) (sym view) (same_world L M N O P old settled counts))
          (ap (λ (d : DeskView). d.split.front) view ∙ counts.front)
          (ap (λ (d : DeskView). d.history) view ∙ counts.history)
          (subst (λ (d : DeskView). SameElsewhere number old.known.logs d.logs) (sym view) elsewhere_here)
          (lent_by L P channel number here)
          (port ∙ ap (λ (ports : Vec K Global). ports.items ++ port_in L later.part) counts.room ∙ ap (λ ports. old.room.items ++ ports) (settled_port L channel.part later.part part))
          come left_is

  -- a call for which all channels lent their ports
  module _ (course : Course) (Tells : APieces → APieces → Type 0) (old : DeskView) (ports : List K) (none : ports ≡ []) (rest : APieces) (words : TableId) (marks : SeenMarks) (written : ℕ) (logs : TableId) (known : AllLogs)
      (called : CalledFrom L M N O P 0 course Tells old ports rest words marks written logs known) where
    pub eight_parts : length called.parts ≡ 8
    eight_parts = let all = called.all in omega (arith, all)

    pub all_lend : called.asked.pieces.ports.items ≡ ports_in L called.parts
    all_lend = called.lends ∙ ap (λ (xs : List K). xs ++ ports_in L called.parts) none

    pub all_leave : called.done.pieces.ports.items ≡ ports_in L called.left
    all_leave = called.leaves ∙ ap (λ (xs : List K). xs ++ ports_in L called.left) (emptied rest.pieces.ports.items (let count = called.back.count in omega (arith, count)))

    pub answers_whole : (new : DeskView) → CallAnswers P course (pieces_with L M N P called.asked called.first.logs) new → WholeAnswers P course old new
    answers_whole new answers = whole_answers P course old (pieces_with L M N P called.asked called.first.logs) new called.settles called.same answers
