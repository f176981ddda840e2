-- What a session holds of what is known, after an answer.
use Rattle.std.proofs.Common.{◌≡◌, ◌∙◌, ℕ, ◌+◌, ◌-◌, ◌≤◌, List, [], ◌++◌, false, length, take, Option, Some, None, refl, sym, ap, subst, arith}
use Rattle.std.specs.Option.{option_map}
use Rattle.std.proofs.Math.Nat.{max-le}
use Rattle.std.proofs.Math.Seq.{take-append-add}
use Rattle.std.proofs.lemmas.List.Sums.{fold-append}
use Rattle.std.proofs.lemmas.Option.{none-some}
use Rattle.script_runner.proofs.Common.{Answer, AnswersTruly, Bears, Gauge, Ghosts, IsKeptBy, IsOfLine, IsTrueBy}
use Rattle.script_runner.proofs.Common.{Ledger, Machine, Module, ScriptLine, SessionAt, TellsTruly, accepted_by, all_of}
use Rattle.script_runner.proofs.Common.{append-nil, append_assoc, first_of, grown, is_some, known_behind, length-append}
use Rattle.script_runner.proofs.Common.{length-take-le, memory_by, memory_of, session_at, start_of_life, told_by}
use Rattle.script_runner.proofs.Common.{unwrap_or}
use Rattle.line_memory.specs.declared.Write.{Write}
use Rattle.line_memory.specs.Memory.{after, after_write, zero_lines}
use Rattle.save_image.specs.Image.{Image}
use Rattle.save_device.specs.Device.{DeviceState}
use Rattle.nv_machine.specs.Guard.{IsPrefix}
use Rattle.slot_store.specs.declared.head.Head.{Head}
use Rattle.module_core.specs.Opening.{opened_with}
use Rattle.module_core.specs.Stands.{ModuleStands}
use Rattle.nv_session.specs.Restoring.{GoesBackTo, IsLeftBy}

-- a machine that has accepted the ledger's writes has accepted as many, and its memory is the one after them
pub kept_all : (lines : ℕ) (ledger : Ledger) (m : Machine) → IsKeptBy lines ledger m → length ledger.writes ≡ all_of m
kept_all lines ledger m kept =
    let size = ap length kept.writes ∙ length-append kept.before m.life.writes in omega (arith, size, kept.start)

pub kept_memory : (lines : ℕ) (ledger : Ledger) (m : Machine) → IsKeptBy lines ledger m → memory_of m ≡ memory_by lines ledger
kept_memory lines ledger m kept =
    ap (λ (memory : List (List ℕ)). after memory m.life.writes) kept.base ∙ sym (fold-append after_write (zero_lines lines) kept.before m.life.writes)
    ∙ ap (λ (writes : List Write). after (zero_lines lines) writes) (sym kept.writes)

-- it goes on with the writes that an answer adds
kept_on : (lines : ℕ) (ledger : Ledger) (m n : Machine) (asked : ScriptLine) (given : Answer) → IsKeptBy lines ledger m → n.life.opened ≡ m.life.opened
    → n.life.writes ≡ m.life.writes ++ accepted_by asked given → m.life.persisted ≤ n.life.persisted → told_by given ≤ n.life.persisted → IsKeptBy lines (grown asked given ledger) n
kept_on lines ledger m n asked given kept opened writes rises told = record {
  before = kept.before;
  writes = ap (λ (ws : List Write). ws ++ accepted_by asked given) kept.writes ∙ append_assoc kept.before m.life.writes (accepted_by asked given)
      ∙ ap (λ (ws : List Write). kept.before ++ ws) (sym writes);
  start = ap (λ (i : Image). i.count) opened ∙ kept.start;
  base = ap (λ (i : Image). i.memory) opened ∙ kept.base;
  told = max-le (omega (arith, kept.told, rises)) told;
}

-- a new life began with a prefix of its writes
pub first_kept : (lines : ℕ) (ledger : Ledger) (m : Machine) (found : Head) (image : Image) (count : ℕ) → IsKeptBy lines ledger m → count ≡ image.count → IsPrefix m image
    → IsKeptBy lines (first_of count ledger) (opened_with found image)
first_kept lines ledger m found image count kept is prefix =
    let all = kept_all lines ledger m kept in
    let few : count ≤ length ledger.writes = omega (arith, all, is, prefix.to) in
    let over : ℕ = image.count - start_of_life m.life in
    let seam : count ≡ length kept.before + over = omega (arith, is, kept.start, prefix.from) in
    let taken : take count ledger.writes ≡ kept.before ++ take over m.life.writes =
    ap (λ (n : ℕ). take n ledger.writes) seam ∙ ap (λ (ws : List Write). take (length kept.before + over) ws) kept.writes ∙ take-append-add kept.before m.life.writes over in
    record {
      before = take count ledger.writes;
      writes = sym (append-nil (take count ledger.writes));
      start = sym is ∙ sym (length-take-le count ledger.writes few);
      base = prefix.memory ∙ ap (λ (memory : List (List ℕ)). after memory (take over m.life.writes)) kept.base
          ∙ sym (fold-append after_write (zero_lines lines) kept.before (take over m.life.writes)) ∙ ap (λ (ws : List Write). after (zero_lines lines) ws) (sym taken);
      told = omega (arith, is);
    }

-- a ledger that is known is the one
pub the_ledger : (ledger other : Ledger) → Some ledger ≡ Some other → ledger ≡ other
the_ledger ledger other is = ap (λ (known : Option Ledger). unwrap_or known ledger) is

module _ {K : Type 0} (L : Ghosts K) where
  -- What an answer to a line comes to where the life stood for a machine.
  pub record GoneOn (asked : ScriptLine) (given : Answer) (m : Machine) (new : SessionAt L) : Type 0 where
    pub it : Module K L
    pub runs : new.life ≡ Some it
    pub n : Machine
    pub stands : ModuleStands L it new.device n
    pub opened : n.life.opened ≡ m.life.opened
    pub writes : n.life.writes ≡ m.life.writes ++ accepted_by asked given
    pub rises : m.life.persisted ≤ n.life.persisted
    pub told : told_by given ≤ n.life.persisted
    pub most : n.life.persisted ≤ all_of n
    pub holds : (lines : ℕ) (ledger : Ledger) → IsKeptBy lines ledger m → IsTrueBy lines given ledger

  -- the same of each machine that it may have stood for
  abbrev pub GoesOnWith : ScriptLine → Answer → SessionAt L → SessionAt L → Type 0
  GoesOnWith asked given old new = (it : Module K L) (m : Machine) → old.life ≡ Some it → ModuleStands L it old.device m → GoneOn asked given m new

  -- What one comes to where no life runs: it tells of nothing that is accepted or persistent.
  pub record StayedAtRest (asked : ScriptLine) (given : Answer) (old new : SessionAt L) : Type 0 where
    pub none : new.life ≡ None
    pub same : new.device ≡ old.device
    pub adds : accepted_by asked given ≡ []
    pub tells : told_by given ≡ 0
    pub holds : (lines : ℕ) (ledger : Ledger) → ledger.runs ≡ false → IsTrueBy lines given ledger

  abbrev pub StaysAtRest : ScriptLine → Answer → SessionAt L → SessionAt L → Type 0
  StaysAtRest asked given old new = old.life ≡ None → StayedAtRest asked given old new

  -- a session with a life goes back to what this stands for, and one without to what the device is left by
  pub back_to_life : (lines : ℕ) (at : SessionAt L) (it : Module K L) (m : Machine) → at.life ≡ Some it → ModuleStands L it at.device m → GoesBackTo L lines at m
  back_to_life lines at it m runs stands = subst (λ (life : Option (Module K L)). GoesBackTo L lines (session_at life at.device at.gauge) m) (sym runs) stands

  pub back_at_rest : (lines : ℕ) (at : SessionAt L) (m : Machine) → at.life ≡ None → IsLeftBy lines m at.device → GoesBackTo L lines at m
  back_at_rest lines at m none left = subst (λ (life : Option (Module K L)). GoesBackTo L lines (session_at life at.device at.gauge) m) (sym none) left

  -- the answer was true, and what is known has grown and is borne out
  told_truly : (lines : ℕ) (asked : ScriptLine) (given : Answer) (new : SessionAt L) (ledger : Ledger) → IsOfLine asked given
      → known_behind asked given (Some ledger) ≡ Some (grown asked given ledger) → IsTrueBy lines given ledger → told_by given ≤ length (grown asked given ledger).writes
      → Bears L lines (grown asked given ledger) new → TellsTruly L lines asked given (Some ledger) new
  told_truly lines asked given new ledger of behind is_true most borne =
      let same : (other : Ledger) → known_behind asked given (Some ledger) ≡ Some other → grown asked given ledger ≡ other = λ other is. the_ledger (grown asked given ledger) other (sym behind ∙ is) in
      record {
        holds = record {
          of = of;
          holds = λ other is. subst (λ (l : Ledger). IsTrueBy lines given l) (the_ledger ledger other is) is_true;
          within = λ other is. subst (λ (l : Ledger). told_by given ≤ length l.writes) (same other is) most;
        };
        bears = λ other is. subst (λ (l : Ledger). Bears L lines l new) (same other is) borne;
      }

  grown_truly : (lines : ℕ) (asked : ScriptLine) (given : Answer) (life : Option (Module K L)) (device : DeviceState) (gauge : Gauge) (new : SessionAt L) (ledger : Ledger) → IsOfLine asked given
      → known_behind asked given (Some ledger) ≡ Some (grown asked given ledger) → GoesOnWith asked given (session_at life device gauge) new → StaysAtRest asked given (session_at life device gauge) new
      → Bears L lines ledger (session_at life device gauge) → TellsTruly L lines asked given (Some ledger) new
  grown_truly lines asked given (Some it) device gauge new ledger of behind goes stays bears =
      let gone : GoneOn asked given bears.m new = goes it bears.m refl bears.back in
      let kept : IsKeptBy lines (grown asked given ledger) gone.n = kept_on lines ledger bears.m gone.n asked given bears.kept gone.opened gone.writes gone.rises gone.told in
      told_truly lines asked given new ledger of behind (gone.holds lines ledger bears.kept)
      (omega (arith, kept_all lines (grown asked given ledger) gone.n kept, gone.told, gone.most))
      (record { runs = bears.runs ∙ sym (ap is_some gone.runs); m = gone.n; back = back_to_life lines new gone.it gone.n gone.runs gone.stands; kept = kept })
  grown_truly lines asked given None device gauge new ledger of behind goes stays bears =
      let stayed : StayedAtRest asked given (session_at None device gauge) new = stays refl in
      let m : Machine = bears.m in
      let nothing : m.life.writes ≡ m.life.writes ++ accepted_by asked given = sym (append-nil m.life.writes) ∙ ap (λ (ws : List Write). m.life.writes ++ ws) (sym stayed.adds) in
      told_truly lines asked given new ledger of behind (stayed.holds lines ledger bears.runs) (omega (arith, stayed.tells))
      (record {
        runs = bears.runs ∙ sym (ap is_some stayed.none);
        m = m;
        back = back_at_rest lines new m stayed.none (subst (λ (d : DeviceState). IsLeftBy lines m d) (sym stayed.same) bears.back);
        kept = kept_on lines ledger m m asked given bears.kept refl nothing (omega arith) (omega (arith, stayed.tells));
      })

  -- an answer for which nothing has to be shown
  pub stays_quiet : (asked : ScriptLine) (given : Answer) (old new : SessionAt L) → (old.life ≡ None → (new.life ≡ None) × (new.device ≡ old.device))
      → accepted_by asked given ≡ [] → (old.life ≡ None → told_by given ≡ 0) → ((lines : ℕ) (ledger : Ledger) → IsTrueBy lines given ledger) → StaysAtRest asked given old new
  stays_quiet asked given old new stays adds tells holds none = record {
    none = (stays none).0;
    same = (stays none).1;
    adds = adds;
    tells = tells none;
    holds = λ lines ledger rests. holds lines ledger;
  }

  -- where nothing was known an answer tells nothing to be borne out
  pub nothing_known : (lines : ℕ) (asked : ScriptLine) (given : Answer) (new : SessionAt L) → IsOfLine asked given → known_behind asked given None ≡ None → TellsTruly L lines asked given None new
  nothing_known lines asked given new of behind = record {
    holds = record {
      of = of;
      holds = λ other is. absurd (none-some other is);
      within = λ other is. absurd (none-some other (sym behind ∙ is));
    };
    bears = λ other is. absurd (none-some other (sym behind ∙ is));
  }

  -- an answer after which what was known has grown
  pub goes_truly : (lines : ℕ) (asked : ScriptLine) (given : Answer) (old new : SessionAt L) → IsOfLine asked given
      → ((known : Option Ledger) → known_behind asked given known ≡ option_map (grown asked given) known) → GoesOnWith asked given old new
      → StaysAtRest asked given old new → AnswersTruly L lines asked given old new
  goes_truly lines asked given old new of behind goes stays None bears = nothing_known lines asked given new of (behind None)
  goes_truly lines asked given old new of behind goes stays (Some ledger) bears =
      grown_truly lines asked given old.life old.device old.gauge new ledger of (behind (Some ledger)) goes stays (bears ledger refl)
