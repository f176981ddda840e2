-- An empty body. The borrow is opened and closed at another ghost value. Assumes `Logic`.
use Rattle.std.proofs.Common.{ℕ, List, [], ◌∷◌, ◌++◌, refl, MutBor}
use seplogic.Ra.Ura.{Ura}
use mir.Syntax.{Fn, a_type, named}
use mir.Val.{Val, vunit, vptr}
use mir.MapTy.{inst_fn}
use base.Logic.{SProp, ent, via, fst∗, id⊢}
use base.Fml.{Fml, GName, Lft, Share, ftrue, flft}
use prog.Memory.{Memory}
use prog.Routine.{Routine}
use prog.Wp.{Calls, Loops, WpFn, Tables}
use types.Logic.{Logic}
use contract.Lifetimes.{AllOutlive}
use contract.Monad.{Fun}
use contract.Running.{tables, tables_of}
use types.Kit.{‵, ◌⊛◌, ◌$◌, ◌∵◌, !, qed, move, keep, drop, use1, split, join, fsplit, fsplit3, fjoin, fjoin3, feq_i, suffices, frame, done}
use types.Run.{unit_lit, of_opd, returns, enter}
use types.ByLocal.{alloc_all, pass_all, free_all, look_at, sets}
use sound.WpLaws.{WpFn-mono}
use denote.RattleType.{RattleType, owns}
use denote.Param.{param, layouts}
use denote.Ref.{Bor, MutRef, ShrRef, mut_vals, mut_Tells, shr_vals, shr_Tells}
use denote.Exit.{yes}
use denote.Signature.{plain}
use denote.Steps.{opens, closes}
use denote.Triple.Clauses.{Clauses, Ended, closing}
use denote.Triple.Entry.{on_entry}
use denote.Triple.Spec.{Meets, triple_of}
use denote.Triple.Table.{entered}
use denote.Triple.Walked.{says, Stays, stay_ref, stay_none_ref, walk_of, AllGo, Goes-ref, Goes-none_ref, Walks, ends_at, walked, walk_Meets}
use Rattle.ghost_trace.specs.contracts.Trace as Trace
use Rattle.ghost_trace.specs.contracts.Trace.note as F
use Rattle.ghost_trace.specs.contracts.Trace.note.Key.{name as #self}
use Rattle.ghost_trace.proofs.Trace.note.Statement as stated
use Rattle.ghost_trace.proofs.Trace.note.Code as code

module _ (X : RattleType) where
  abbrev R : RattleType
  R = Trace.the_row (param 0 X)

  abbrev function : Fn
  function = inst_fn (layouts (a_type ∷ []) (X, tt)) code.function

  abbrev ended : Ended
  ended = F.ended X

  abbrev stayed : Stays ended.signature.params ended.kept
  stayed = (stay_ref (0 ∷ []) tt (plain (λ _. R)), (stay_none_ref (1 ∷ []) tt (plain (λ _. param 0 X)) yes, tt))

  module _ {M : Type 1} {𝓤 : Ura M} (𝓛 : Logic 𝓤) (at_mem : Memory → SProp 𝓤) (run : Routine → Fun 𝓤) where
    open 𝓛 use {H}

    abbrev held : Clauses 𝓤 ended
    held = F.clauses X 𝓛 at_mem run

    module _ (C : Calls 𝓤 H) (Λ : Loops 𝓤 H) (κ κ' κ'' : Lft) (q q' q'' : Share) (bounds : AllOutlive ended.signature.lifetimes ended.signature.outlives (κ, (κ', (κ'', tt)))) (b o : ℕ) (γ : GName) (h : R.Denot) (k : Bor X.Denot) where
      abbrev x : MutBor R.Denot × (Bor X.Denot × Unit {0})
      x = (record { ref_ptr = (b, o); ghost_name = γ; now = h }, (k, tt))

      abbrev new : R.Denot
      new = record { of = h.of; items = h.items ++ k.now ∷ [] }

      abbrev at : List Val × (List Val × Unit {0})
      at = (vptr b o ∷ [], (vptr k.ref_ptr.0 k.ref_ptr.1 ∷ [], tt))

      abbrev z : (walk_of 𝓛 ended stayed held).Ghost
      z = (((κ, (κ', (κ'', tt))), (q, (q', (q'', tt))), bounds, x, at), tt)

      abbrev Post : Val → SProp 𝓤
      Post = (walk_of 𝓛 ended stayed held).post z

      abbrev rest : Fml
      rest = owns (ShrRef (named 1) κ' (param 0 X) ∷ []) x.1 at.1

      walk : ent 𝓤 (on_entry 𝓛 ended.signature (κ, (κ', (κ'', tt))) (q, (q', (q'', tt))) x at) (WpFn 𝓤 H C Λ function (vptr b o ∷ vptr k.ref_ptr.0 k.ref_ptr.1 ∷ []) Post)
      walk =
          qed 𝓛 ((‵ (flft κ q) ⊛ (‵ (flft κ' q') ⊛ (‵ (flft κ'' q'') ⊛ ‵ ftrue))) ∷ ‵ (owns (MutRef (named 0) κ R ∷ ShrRef (named 1) κ' (param 0 X) ∷ []) x at) ∷ []) ∵
          split ! $ move ! (2 ∷ []) $ fsplit ! $ fsplit3 ! $ drop ! $ move ! (0 ∷ 1 ∷ 3 ∷ []) $
          enter ! C Λ function (vptr b o ∷ vptr k.ref_ptr.0 k.ref_ptr.1 ∷ []) _ $ alloc_all ! (λ l. pass_all ! refl ((tt, tt), ((tt, tt), tt)) $
          opens ! tt R {h = h} b o (λ vs.
          sets ! (of_opd ! (unit_lit !)) refl (tt, tt) $
          move ! (1 ∷ []) $ use1 𝓛 (‵ (R.own_val new vs)) (id⊢ 𝓤 _) $ move ! (1 ∷ 0 ∷ []) $ closes ! tt R new vs b o $
          returns ! (look_at ! 0 refl) $ free_all ! refl $ keep ! (0 ∷ 1 ∷ 2 ∷ 3 ∷ 4 ∷ []) $
          suffices ! _ (ends_at 𝓛 ended stayed held z vunit tt (new, (tt, tt)) (tt, (tt, tt))) $ says ! refl $
          move ! (2 ∷ 4 ∷ []) $ join ! $ frame ! $ feq_i ! (List Val) (vptr b o ∷ []) (vptr b o ∷ []) refl $ fjoin3 ! $ fjoin ! $
          feq_i ! (List Val) (vunit ∷ []) (vunit ∷ []) refl $ move ! (1 ∷ 0 ∷ []) $ done !))

    walks : (C : Calls 𝓤 H) (Λ : Loops 𝓤 H) → Walks 𝓛 ended stayed (WpFn 𝓤 H C Λ function) held
    walks C Λ =
        walked 𝓛 ended stayed held (WpFn 𝓤 H C Λ function) (λ κs. (mut_vals, (shr_vals, tt)))
        (λ κs. (mut_Tells (named 0) κs.0 R, (shr_Tells (named 1) κs.1.0 (param 0 X), tt)))
        (λ κs qs bounds a g are. via 𝓤 _ (fst∗ 𝓤 _ ((held κs a).requires g)) (walk C Λ κs.0 κs.1.0 κs.1.1.0 qs.0 qs.1.0 qs.1.1.0 bounds a.0.ref_ptr.0 a.0.ref_ptr.1 a.0.ghost_name a.0.now a.1.0))

    goes : AllGo 𝓛 3 ended.signature.params ended.kept stayed
    goes = (Goes-ref 𝓛 3 0 tt (plain (λ _. R)), (Goes-none_ref 𝓛 3 (1 ∷ []) tt (plain (λ _. param 0 X)) yes, tt))

    meets : (𝓣 : Tables 𝓤 H) → Meets 𝓛 ended.signature (WpFn 𝓤 H 𝓣.C 𝓣.Λ function) (closing 𝓛 ended held)
    meets 𝓣 = walk_Meets 𝓛 ended stayed goes held (WpFn 𝓤 H 𝓣.C 𝓣.Λ function) (WpFn-mono 𝓤 H 𝓛.laws 𝓣 function) (walks 𝓣.C 𝓣.Λ)

pub note_spec : {M : Type 1} → stated.statement M
unfolding tables_of
note_spec 𝓤 𝓛 𝓜 𝓡 wired X laws =
    let 𝓣 = tables_of 𝓤 𝓛.H 𝓜 (tables 𝓤 𝓛.H 𝓜 𝓡 𝓡.env) in
    entered 𝓤 𝓛.H (triple_of 𝓛 (ended X).signature (closing 𝓛 (ended X) (held X 𝓛 𝓜.mem 𝓡.returns))) 𝓣.C 𝓣.Λ (#self (layouts (a_type ∷ []) (X, tt))) (function X)
    (code.unfolded 𝓤 𝓛.H 𝓜 𝓡 wired (X, tt)) (meets X 𝓛 𝓜.mem 𝓡.returns 𝓣)
