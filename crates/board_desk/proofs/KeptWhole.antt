-- What is kept behind the board's lock in a call of the whole module.
use Rattle.std.proofs.Common.{List, ap, arith, length, subst, sym, ℕ, ◌∙◌, ◌≡◌}
use Rattle.std.proofs.Math.Logic.{∥∥₁_elim, ∥∥₁_map, ∥∥₁_prop}
use Rattle.std.proofs.Math.Nat.{ℕ_set}
use Rattle.arm_state.specs.Modes.{has_ended}
use Rattle.atomic_table.specs.Seated.{TableId}
use Rattle.channel_locks.specs.declared.parts_name.PartsName.{Ghosts as PartsGhosts}
use Rattle.channel_port.specs.Shape.{IsShape}
use Rattle.channel_port.specs.declared.port.ChannelPort.{Ghosts}
use Rattle.board_hosts.specs.SeenMarks.{SeenMarks, seen_marks}
use Rattle.nv_machine.specs.State.{Setup}
use Rattle.board_hosts.specs.Marks.{ShowsNoMore}
use Rattle.board_hosts.specs.declared.board_name.BoardName.{Ghosts as BoardGhosts}
use Rattle.board_desk.specs.Calling.{Course}
use Rattle.board_desk.specs.Desk.{DeskView}
use Rattle.board_desk.specs.Kept.{IsDeskKept}
use Rattle.board_desk.specs.Loans.{AreRestated, HaveLent}
use Rattle.board_desk.specs.Pieces.{ArePiecesKept, CallDid}
use Rattle.board_desk.specs.Whole.{CallAnswers}

module _ {K B : Type 0} (L : Ghosts K) (O : BoardGhosts B) (P : PartsGhosts B) (desk : DeskView) (words : TableId) (marks : SeenMarks) (written : ℕ) (logs known : TableId) (kept : IsDeskKept O P desk words marks written logs known) where
  -- there are eight logs
  pub eight_logs : length desk.logs ≡ 8
  eight_logs = ∥∥₁_elim kept.stands (ℕ_set _ _) (λ t. t.1.logs_are.eight)

  module _ (ports : List K) (have : ∥ HaveLent L P desk.logs 8 ports ∥₁) where
    pub pieces_kept : ArePiecesKept L P desk ports
    pieces_kept = record {
      shape = kept.shape;
      terms = kept.terms;
      reckoned = kept.reckoned;
      memory = kept.memory;
      room = kept.room;
      have = have;
      stands = kept.stands;
    }

  module _ (course : Course) (new : DeskView) (ports : List K) (did : CallDid L P course desk (record new { logs = desk.logs }) ports) where
    -- the marks show no more than the front's two numbers then
    pub shows_whole : ShowsNoMore new.split.front.accepted new.split.front.persisted marks
    shows_whole =
        let accepted = ap (λ (x : SeenMarks). x.accepted) kept.shown in
        let persisted = ap (λ (x : SeenMarks). x.persisted) kept.shown in
        let same = did.accepted in
        let rises = did.persisted in
        record { accepted_shown = omega (arith, accepted, same); persisted_shown = omega (arith, persisted, rises); ordered = did.within }

    module _ (restated : AreRestated L new.terms.hold (has_ended new.split.front.mode) ports desk.logs new.logs) where
      pub kept_whole : (shown : SeenMarks) (board : TableId) → board ≡ words → shown ≡ seen_marks board new.split.front.accepted new.split.front.persisted → (later : TableId) → later ≡ known
          → IsDeskKept O P new words shown written logs later
      kept_whole shown board named is later same = record {
        board = kept.board;
        logs_is = kept.logs_is;
        known_is = same ∙ kept.known_is;
        channels = kept.channels;
        shape = subst (λ (x : Setup). IsShape x.shape) (sym did.setup) kept.shape;
        terms = did.terms;
        reckoned = did.reckoned;
        memory = kept.memory;
        shown = is ∙ ap (λ (b : TableId). seen_marks b new.split.front.accepted new.split.front.persisted) (named ∙ kept.board);
        counted = (let accepted = did.accepted in let start = did.start in let counted = kept.counted in omega (arith, accepted, start, counted));
        room = (let trail = ap (λ (x : Setup). x.trail) did.setup in let room = did.room in let was = kept.room in omega (arith, trail, room, was));
        stands = ∥∥₁_elim kept.stands ∥∥₁_prop (λ t. ∥∥₁_map (did.led t.0 t.1) (λ l. (l.later, l.stands new.logs restated)));
      }

      pub call_answers : CallAnswers P course desk new
      call_answers m s = ∥∥₁_map (did.led m s) (λ l. record { later = l.later; leads = l.leads; stands = l.stands new.logs restated })
