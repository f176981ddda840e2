-- What is kept behind the board's lock.
use Rattle.std.proofs.Common.{List, arith, ap, subst, sym, ℕ, ◌+◌, ◌∙◌, ◌≡◌, ◌≤◌}
use Rattle.std.proofs.Math.Logic.{∥∥₁_elim, ∥∥₁_map, ∥∥₁_prop}
use Rattle.atomic_table.specs.Seated.{TableId}
use Rattle.channel_locks.specs.declared.parts_name.PartsName.{Ghosts as PartsGhosts}
use Rattle.channel_log.specs.Log.{LogNote}
use Rattle.channel_port.specs.Shape.{IsShape}
use Rattle.energy_budget.specs.Costs.{AreReckonedFor}
use Rattle.energy_budget.specs.declared.costs.Costs.{Costs}
use Rattle.board_hosts.specs.SeenMarks.{SeenMarks, seen_marks}
use Rattle.module_core.specs.declared.front.Front.{Front}
use Rattle.nv_machine.specs.State.{Machine}
use Rattle.board_hosts.specs.declared.board_name.BoardName.{Ghosts as BoardGhosts}
use Rattle.split_module.specs.declared.front.SplitFront.{SplitFront}
use Rattle.board_desk.specs.Answering.{Settles}
use Rattle.board_desk.specs.Desk.{DeskStands, DeskView, shape_named}
use Rattle.board_desk.specs.Kept.{AreTermsOf, IsDeskKept}
use Rattle.channel_set.specs.declared.terms.PortTerms.{PortTerms}
use Rattle.module_core.specs.declared.opening.LifeTerms.{LifeTerms}

module _ {B : Type 0} (O : BoardGhosts B) (P : PartsGhosts B) where
  -- of a channel that was settled
  pub kept_settled : (old : DeskView) (words : TableId) (marks : SeenMarks) (written : ℕ) (logs known : TableId) → IsDeskKept O P old words marks written logs known
      → (split : SplitFront) (told : List (List LogNote)) (later : TableId) → split.front ≡ old.split.front → split.costs ≡ old.split.costs → later ≡ known
      → (channel : ℕ) → Settles P channel old (record old { split = split; logs = told }) → IsDeskKept O P (record old { split = split; logs = told }) words marks written logs later
  kept_settled old words marks written logs known kept split told later front costs same channel settles = record {
    board = kept.board;
    logs_is = kept.logs_is;
    known_is = same ∙ kept.known_is;
    channels = kept.channels;
    terms = kept.terms;
    reckoned = subst (λ (c : Costs). AreReckonedFor old.terms.checked c) (sym costs) kept.reckoned;
    memory = kept.memory;
    shape = subst (λ (c : Costs). IsShape (shape_named P c)) (sym costs) kept.shape;
    shown = kept.shown ∙ ap (λ (f : Front). seen_marks O.board f.accepted f.persisted) (sym front);
    counted = subst (λ (f : Front). f.accepted ≡ f.terms.start + O.before + written) (sym front) kept.counted;
    room = subst (λ (f : Front). f.terms.trail ≤ old.history.room) (sym front) kept.room;
    stands = ∥∥₁_elim kept.stands ∥∥₁_prop (λ s. ∥∥₁_map (settles s.0 s.1) (λ on. (on.seen, on.stands)));
  }

  -- of an event that left the rest as it was
  pub kept_after : (old : DeskView) (words : TableId) (marks : SeenMarks) (written : ℕ) (logs known : TableId) → IsDeskKept O P old words marks written logs known
      → (new : DeskView) (shown : SeenMarks) (more : ℕ) (later : TableId) → new.split.front.terms ≡ old.split.front.terms → new.split.costs ≡ old.split.costs → new.terms ≡ old.terms → new.history.room ≡ old.history.room
      → new.split.front.accepted ≡ old.split.front.accepted + more → shown ≡ seen_marks words new.split.front.accepted new.split.front.persisted → later ≡ known
      → ∥ ((m : Machine) × DeskStands P new m) ∥₁ → (total : ℕ) → total ≡ written + more → IsDeskKept O P new words shown total logs later
  kept_after old words marks written logs known kept new shown more later life costs terms room accepted shown_is same stands total adds = record {
    board = kept.board;
    logs_is = kept.logs_is;
    known_is = same ∙ kept.known_is;
    channels = kept.channels;
    terms = subst (AreTermsOf P.make) (sym terms) kept.terms;
    reckoned = subst (λ (t : PortTerms). AreReckonedFor t.checked new.split.costs) (sym terms) (subst (λ (c : Costs). AreReckonedFor old.terms.checked c) (sym costs) kept.reckoned);
    memory = kept.memory;
    shape = subst (λ (c : Costs). IsShape (shape_named P c)) (sym costs) kept.shape;
    shown = shown_is ∙ ap (λ (b : TableId). seen_marks b new.split.front.accepted new.split.front.persisted) kept.board;
    counted =
        let start = ap (λ (t : LifeTerms). t.start) life in
        let was = kept.counted in
        omega (arith, start, was, accepted, adds);
    room =
        let trail = ap (λ (t : LifeTerms). t.trail) life in
        let was = kept.room in
        omega (arith, trail, was, room);
    stands = stands;
  }
