-- The answers to a line that changes nothing, and to those that begin a life, are true.
use Rattle.std.proofs.Common.{◌≡◌, ◌∙◌, ℕ, ◌≤◌, List, [], ◌++◌, Result, Ok, Err, Option, Some, None, refl, sym, ap, subst, arith}
use Rattle.std.proofs.lemmas.Option.{none-some}
use Rattle.std.specs.Option.{option_map}
use Rattle.script_runner.proofs.Common.{Answer, AnswersTruly, Bears, Ghosts, IfErr, IfOk, IsKeptBy, IsTrueBy, Ledger}
use Rattle.script_runner.proofs.Common.{Machine, Module, RunsWith, ScriptLine, SessionAt, Setup, TellsTruly}
use Rattle.script_runner.proofs.Common.{accepted_by, append-nil, at_rest, blank, first_of, is_some, told_by, unwrap_or}
use Rattle.line_memory.specs.declared.Write.{Write}
use Rattle.save_device.specs.Device.{DeviceState}
use Rattle.save_device.specs.declared.memory.Pick.{Pick}
use Rattle.slot_store.specs.Outcomes.{first_image}
use Rattle.slot_store.specs.declared.head.Head.{Head}
use Rattle.slot_store.specs.declared.restoring.RestoreError.{RestoreError}
use Rattle.nv_machine.proofs.Guarded.{persisted_accepted}
use Rattle.module_core.specs.Opening.{opened_with}
use Rattle.module_core.specs.Stands.{ModuleStands}
use Rattle.interleave_map.specs.declared.ready.Interleaving.{Interleaving}
use Rattle.nv_session.specs.Restoring.{FindsPrefix, FindsPrefixOf, KeepsPrefixOf}
use Rattle.slot_store.specs.Formatted.{first_head}
use Rattle.nv_script.specs.declared.line.ScriptLine.TheVariants as line
use Rattle.nv_script.specs.declared.answer.Answer.TheVariants as answer
use Rattle.script_runner.specs.Replies.{restore_told}
use Rattle.script_runner.proofs.Bearing.{GoneOn, back_at_rest, back_to_life, goes_truly, nothing_known, first_kept, kept_all, stays_quiet, the_ledger}

module _ {K : Type 0} (L : Ghosts K) where
  -- the same of a line and of an answer that equal them
  pub truly_as : {lines : ℕ} {asked other : ScriptLine} {given said : Answer} {old new : SessionAt L} → asked ≡ other → given ≡ said → AnswersTruly L lines other said old new → AnswersTruly L lines asked given old new
  truly_as {lines} {asked} {other} {given} {said} {old} {new} is says truly =
      subst (λ (l : ScriptLine). AnswersTruly L lines l given old new) (sym is)
      (subst (λ (a : Answer). AnswersTruly L lines other a old new) (sym says) truly)

  -- nothing has changed but the gauge
  still : (asked : ScriptLine) (given : Answer) (it : Module K L) (m : Machine) (old new : SessionAt L) → old.life ≡ Some it → ModuleStands L it old.device m
      → [] ≡ accepted_by asked given → told_by given ≤ m.life.persisted → ((lines : ℕ) (ledger : Ledger) → IsKeptBy lines ledger m → IsTrueBy lines given ledger)
      → new.life ≡ old.life → new.device ≡ old.device → GoneOn L asked given m new
  still asked given it m old new runs stands adds told holds same same_device = record {
    it = it;
    runs = same ∙ runs;
    n = m;
    stands = subst (λ (d : DeviceState). ModuleStands L it d m) (sym same_device) stands;
    opened = refl;
    writes = sym (append-nil m.life.writes) ∙ ap (λ (ws : List Write). m.life.writes ++ ws) adds;
    rises = omega arith;
    told = told;
    most = persisted_accepted m stands.guarded;
    holds = holds;
  }

  pub lie_truly : (lines units : ℕ) (old new : SessionAt L) → new.life ≡ old.life → new.device ≡ old.device → AnswersTruly L lines (line.Lie units) (answer.Lie units) old new
  lie_truly lines units old new same same_device =
      goes_truly L lines (line.Lie units) (answer.Lie units) old new refl (λ known. refl)
      (λ it m runs stands. still (line.Lie units) (answer.Lie units) it m old new runs stands refl (omega arith) (λ lines ledger kept. tt) same same_device)
      (stays_quiet L (line.Lie units) (answer.Lie units) old new (λ none. (same ∙ none, same_device)) refl (λ none. refl) (λ lines ledger. tt))

  pub fuse_truly : (lines : ℕ) (calls : Option ℕ) (old new : SessionAt L) → new.life ≡ old.life → new.device ≡ old.device → AnswersTruly L lines (line.Fuse calls) (answer.Fuse calls) old new
  fuse_truly lines calls old new same same_device =
      goes_truly L lines (line.Fuse calls) (answer.Fuse calls) old new refl (λ known. refl)
      (λ it m runs stands. still (line.Fuse calls) (answer.Fuse calls) it m old new runs stands refl (omega arith) (λ lines ledger kept. tt) same same_device)
      (stays_quiet L (line.Fuse calls) (answer.Fuse calls) old new (λ none. (same ∙ none, same_device)) refl (λ none. refl) (λ lines ledger. tt))

  pub one_fault_truly : (lines call : ℕ) (old new : SessionAt L) → new.life ≡ old.life → new.device ≡ old.device → AnswersTruly L lines (line.OneFault call) (answer.OneFault call) old new
  one_fault_truly lines call old new same same_device =
      goes_truly L lines (line.OneFault call) (answer.OneFault call) old new refl (λ known. refl)
      (λ it m runs stands. still (line.OneFault call) (answer.OneFault call) it m old new runs stands refl (omega arith) (λ lines ledger kept. tt) same same_device)
      (stays_quiet L (line.OneFault call) (answer.OneFault call) old new (λ none. (same ∙ none, same_device)) refl (λ none. refl) (λ lines ledger. tt))

  -- how many writes are persistent, as a session tells it
  abbrev mark_of : Option (Module K L) → ℕ
  mark_of life = unwrap_or (option_map (λ it. it.front.persisted) life) 0

  pub mark_truly : (lines mark : ℕ) (at : SessionAt L) → mark ≡ mark_of at.life → AnswersTruly L lines line.Mark (answer.Mark mark) at at
  mark_truly lines mark at is =
      goes_truly L lines line.Mark (answer.Mark mark) at at tt (λ known. refl)
      (λ it m runs stands.
      let marked : mark ≡ m.life.persisted = is ∙ ap mark_of runs ∙ stands.matches.front.persisted in
      still line.Mark (answer.Mark mark) it m at at runs stands refl (omega (arith, marked)) (λ lines ledger kept runs. omega (arith, marked, kept.told)) refl refl)
      (λ none. record {
        none = none;
        same = refl;
        adds = refl;
        tells = is ∙ ap mark_of none;
        holds = λ lines ledger rests runs. let e = sym rests ∙ runs in absurd cc;
      })

  pub format_truly : (lines : ℕ) (setup : Setup) (old new : SessionAt L)
      → RunsWith L setup (λ it. ModuleStands L it new.device (opened_with first_head (first_image lines))) new.life → AnswersTruly L lines line.Format answer.Formatted old new
  format_truly lines setup old new runs known bears =
      let m : Machine = opened_with first_head (first_image lines) in
      let borne : Bears L lines blank new = record {
        runs = sym (ap is_some runs.runs);
        m = m;
        back = back_to_life L lines new runs.it m runs.runs runs.holds;
        kept = record { before = []; writes = refl; start = refl; base = refl; told = omega arith };
      } in
      record {
        holds = record { of = tt; holds = λ ledger is. tt; within = λ ledger is. omega arith };
        bears = λ ledger is. subst (λ (l : Ledger). Bears L lines l new) (the_ledger blank ledger is) borne;
      }

  pub fault_truly : (lines : ℕ) (old new : SessionAt L) → AnswersTruly L lines line.Format answer.FormatFault old new
  fault_truly lines old new known bears = record {
    holds = record { of = tt; holds = λ ledger is. tt; within = λ ledger is. omega arith };
    bears = λ ledger is. absurd (none-some ledger is);
  }

  -- a restore of what was known finds a prefix of it
  found_truly : (lines : ℕ) (pick : Option Pick) (map : Option Interleaving) (setup : Setup) (found : Head) (old new : SessionAt L) (ledger : Ledger)
      → FindsPrefixOf L lines setup old found new → Bears L lines ledger old → TellsTruly L lines (line.Restore pick map) (restore_told (Ok found)) (Some ledger) new
  found_truly lines pick map setup found old new ledger finds bears =
      let runs = finds bears.m bears.back in
      let holds : FindsPrefix L bears.m found runs.it new.device = runs.holds in
      let tells = holds.tells in let count = tells.tells.count_is in
      let all = kept_all lines ledger bears.m bears.kept in
      let m : Machine = opened_with found holds.image in
      let borne : Bears L lines (first_of found.count ledger) new = record {
        runs = sym (ap is_some runs.runs);
        m = m;
        back = back_to_life L lines new runs.it m runs.runs holds.stands;
        kept = first_kept lines ledger bears.m found holds.image found.count bears.kept count tells.prefix;
      } in
      let is_true : IsTrueBy lines (restore_told (Ok found)) ledger = (omega (arith, all, count, tells.prefix.to), λ complete. omega (arith, bears.kept.told, tells.complete complete)) in
      record {
        holds = record {
          of = tt;
          holds = λ other is. subst (λ (l : Ledger). IsTrueBy lines (restore_told (Ok found)) l) (the_ledger ledger other is) is_true;
          within = λ other is. omega arith;
        };
        bears = λ other is. subst (λ (l : Ledger). Bears L lines l new) (the_ledger (first_of found.count ledger) other is) borne;
      }

  restore_truly : (lines : ℕ) (pick : Option Pick) (map : Option Interleaving) (setup : Setup) (found : Head) (old new : SessionAt L)
      → FindsPrefixOf L lines setup old found new → AnswersTruly L lines (line.Restore pick map) (restore_told (Ok found)) old new
  restore_truly lines pick map setup found old new finds None bears = nothing_known L lines (line.Restore pick map) (restore_told (Ok found)) new tt refl
  restore_truly lines pick map setup found old new finds (Some ledger) bears = found_truly lines pick map setup found old new ledger finds (bears ledger refl)

  -- a refused one leaves it to the next
  refused_truly : (lines : ℕ) (pick : Option Pick) (map : Option Interleaving) (error : RestoreError) (old new : SessionAt L)
      → KeepsPrefixOf L lines old error new → new.life ≡ None → AnswersTruly L lines (line.Restore pick map) (restore_told (Err error)) old new
  refused_truly lines pick map error old new keeps none None bears = nothing_known L lines (line.Restore pick map) (restore_told (Err error)) new tt refl
  refused_truly lines pick map error old new keeps none (Some ledger) bears =
      let before : Bears L lines ledger old = bears ledger refl in
      let kept : IsKeptBy lines ledger before.m = before.kept in
      let borne : Bears L lines (at_rest ledger) new = record {
        runs = sym (ap is_some none);
        m = before.m;
        back = back_at_rest L lines new before.m none (keeps.leaves before.m before.back);
        kept = record { before = kept.before; writes = kept.writes; start = kept.start; base = kept.base; told = kept.told };
      } in
      record {
        holds = record {
          of = tt;
          holds = λ other is. keeps.fails before.m before.back;
          within = λ other is. omega arith;
        };
        bears = λ other is. subst (λ (l : Ledger). Bears L lines l new) (the_ledger (at_rest ledger) other is) borne;
      }

  pub restored_truly : (lines : ℕ) (pick : Option Pick) (map : Option Interleaving) (setup : Setup) (reply : Result Head RestoreError) (old new : SessionAt L)
      → IfOk reply (λ found. FindsPrefixOf L lines setup old found new) → IfErr reply (λ error. KeepsPrefixOf L lines old error new) → IfErr reply (λ error. new.life ≡ None)
      → AnswersTruly L lines (line.Restore pick map) (restore_told reply) old new
  restored_truly lines pick map setup (Ok found) old new finds keeps none = restore_truly lines pick map setup found old new finds
  restored_truly lines pick map setup (Err error) old new finds keeps none = refused_truly lines pick map error old new keeps none
