-- `copy` makes the struct of no bytes, with the items that the clauses read behind the reference. Assumes `Logic`.
use Rattle.std.proofs.Common.{List, [], ◌∷◌, refl}
use seplogic.Ra.Ura.{Ura}
use mir.Syntax.{Fn, a_type, named}
use mir.Val.{Val, vptr, vstruct, vcons, vnil}
use mir.MapTy.{inst_fn}
use base.Logic.{SProp, ent, via, fst∗}
use base.Fml.{Lft, Share, ftrue, flft}
use prog.Memory.{Memory}
use prog.Routine.{Routine}
use prog.Wp.{Calls, Loops, WpFn, Tables}
use contract.Lifetimes.{AllOutlive}
use contract.Monad.{Fun}
use contract.Running.{tables, tables_of}
use sound.WpLaws.{WpFn-mono}
use types.Logic.{Logic}
use types.Kit.{‵, ◌⊛◌, ◌$◌, ◌∵◌, !, qed, move, suffices, done}
use types.Part.{agg}
use types.Run.{enter, returns, and_then, no_more}
use types.ByLocal.{alloc_all, pass_all, free_all, look_at, get, sets}
use denote.RattleType.{RattleType, owns}
use denote.Param.{param, layouts}
use denote.Ref.{Bor, ShrRef, shr_vals, shr_Tells}
use denote.Exit.{yes}
use denote.Shadow.{pure_i}
use denote.Signature.{plain}
use denote.Triple.Clauses.{Clauses, Ended, closing}
use denote.Triple.Entry.{on_entry}
use denote.Triple.Spec.{Meets, triple_of}
use denote.Triple.Table.{entered}
use denote.Triple.Walked.{says, Stays, stay_none_ref, walk_of, AllGo, Goes-none_ref, Walks, ends_at, walked, walk_Meets}
use Rattle.ghost_trace.specs.contracts.Trace as Trace
use Rattle.ghost_trace.specs.contracts.Trace.copy as F
use Rattle.ghost_trace.specs.contracts.Trace.copy.Key.{name as #self}
use Rattle.ghost_trace.proofs.Trace.copy.Statement as stated
use Rattle.ghost_trace.proofs.Trace.copy.Code as code

abbrev v : Val
v = vstruct (vcons (vstruct vnil) vnil)

module _ (X : RattleType) where
  abbrev R : RattleType
  R = Trace.the_row (param 0 X)

  abbrev function : Fn
  function = inst_fn (layouts (a_type ∷ []) (X, tt)) code.function

  abbrev ended : Ended
  ended = F.ended X

  abbrev stayed : Stays ended.signature.params ended.kept
  stayed = (stay_none_ref (0 ∷ []) tt (plain (λ _. R)) yes, tt)

  module _ {M : Type 1} {𝓤 : Ura M} (𝓛 : Logic 𝓤) (at_mem : Memory → SProp 𝓤) (run : Routine → Fun 𝓤) where
    open 𝓛 use {H}

    abbrev held : Clauses 𝓤 ended
    held = F.clauses X 𝓛 at_mem run

    module _ (C : Calls 𝓤 H) (Λ : Loops 𝓤 H) (κ κ' : Lft) (q q' : Share) (bounds : AllOutlive ended.signature.lifetimes ended.signature.outlives (κ, (κ', tt))) (k : Bor R.Denot) where
      abbrev x : Bor R.Denot × Unit {0}
      x = (k, tt)

      abbrev at : List Val × Unit {0}
      at = (vptr k.ref_ptr.0 k.ref_ptr.1 ∷ [], tt)

      abbrev z : (walk_of 𝓛 ended stayed held).Ghost
      z = (((κ, (κ', tt)), (q, (q', tt)), bounds, x, at), tt)

      abbrev Post : Val → SProp 𝓤
      Post = (walk_of 𝓛 ended stayed held).post z

      walk : ent 𝓤 (on_entry 𝓛 ended.signature (κ, (κ', tt)) (q, (q', tt)) x at) (WpFn 𝓤 H C Λ function (vptr k.ref_ptr.0 k.ref_ptr.1 ∷ []) Post)
      walk =
          let r : R.Denot = record { of = record {}; items = k.now.items } in
          qed 𝓛 ((‵ (flft κ q) ⊛ (‵ (flft κ' q') ⊛ ‵ ftrue)) ∷ ‵ (owns (ShrRef (named 0) κ R ∷ []) x at) ∷ []) ∵
          enter ! C Λ function (vptr k.ref_ptr.0 k.ref_ptr.1 ∷ []) Post $ alloc_all ! (λ l. pass_all ! refl ((tt, tt), tt) $
          sets ! (agg ! (no_more !)) refl (tt, tt) $ sets ! (agg ! (and_then ! (get ! refl) (no_more !))) refl (tt, (tt, tt)) $
          returns ! (look_at ! 0 refl) $ free_all ! refl $
          pure_i ! (R.own_val r (v ∷ [])) ((λ vss. (tt, ((λ uss. (tt, tt)), tt))), tt) (((vstruct vnil ∷ [], tt), (refl, ((tt, (refl, tt)), tt))), tt) $
          suffices ! _ (ends_at 𝓛 ended stayed held z v r (tt, tt) (tt, tt)) $ says ! refl $
          move ! (1 ∷ 2 ∷ 0 ∷ []) $ done !)

    walks : (C : Calls 𝓤 H) (Λ : Loops 𝓤 H) → Walks 𝓛 ended stayed (WpFn 𝓤 H C Λ function) held
    walks C Λ =
        walked 𝓛 ended stayed held (WpFn 𝓤 H C Λ function) (λ κs. (shr_vals, tt))
        (λ κs. (shr_Tells (named 0) κs.0 R, tt))
        (λ κs qs bounds a g are. via 𝓤 _ (fst∗ 𝓤 _ ((held κs a).requires g)) (walk C Λ κs.0 κs.1.0 qs.0 qs.1.0 bounds a.0))

    goes : AllGo 𝓛 2 ended.signature.params ended.kept stayed
    goes = (Goes-none_ref 𝓛 2 (0 ∷ []) tt (plain (λ _. R)) yes, tt)

    meets : (𝓣 : Tables 𝓤 H) → Meets 𝓛 ended.signature (WpFn 𝓤 H 𝓣.C 𝓣.Λ function) (closing 𝓛 ended held)
    meets 𝓣 = walk_Meets 𝓛 ended stayed goes held (WpFn 𝓤 H 𝓣.C 𝓣.Λ function) (WpFn-mono 𝓤 H 𝓛.laws 𝓣 function) (walks 𝓣.C 𝓣.Λ)

pub copy_spec : {M : Type 1} → stated.statement M
unfolding tables_of
copy_spec 𝓤 𝓛 𝓜 𝓡 wired X laws =
    let 𝓣 = tables_of 𝓤 𝓛.H 𝓜 (tables 𝓤 𝓛.H 𝓜 𝓡 𝓡.env) in
    entered 𝓤 𝓛.H (triple_of 𝓛 (ended X).signature (closing 𝓛 (ended X) (held X 𝓛 𝓜.mem 𝓡.returns))) 𝓣.C 𝓣.Λ (#self (layouts (a_type ∷ []) (X, tt))) (function X)
    (code.unfolded 𝓤 𝓛.H 𝓜 𝓡 wired (X, tt)) (meets X 𝓛 𝓜.mem 𝓡.returns 𝓣)
