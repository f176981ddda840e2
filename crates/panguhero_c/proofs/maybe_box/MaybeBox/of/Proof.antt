-- `of` takes the box apart.
use Rattle.std.proofs.Common.{◌≡◌, ℕ, List, [], ◌∷◌, ◌++◌, refl, sym, ap, ◌∙◌, subst}
use mir.Syntax.{Dict, impl, tcons, tnil, dnil}
use mir.Raw.{raw as bare}
use mir.Val.{Val, vptr, vstruct, vcons, vnil}
use base.Logic.{SProp, ent, emp, id⊢, fst∗, never, via}
use base.Fraction.{full_share}
use base.Fml.{Lft, ftrue, fsep, flft}
use types.Tokens.{lft_new}
use prog.Wp.{WpFn}
use types.Logic.{Logic, sem}
use types.Kit.{‵, raw, ◌⊛◌, some, later, ◌$◌, ◌∵◌, !, qed, by, move, keep, drop, split, join, fsplit, fjoin, fpack, feq_i, feq_l, pick, suffices, use0, use1, await}
use types.Run.{of_opd, no_more, and_then, returns, enter}
use types.ByLocal.{alloc_all, pass_all, free_all, look_at, get, sets, lands_as}
use types.Part.{agg}
use contract.BorrowLft.{◌⊑◌, ⊑_static}
use contract.Lifetimes.{Lfts}
use contract.Monad.{fact, fact_i}
use contract.Running.{tables, tables_of}
use denote.Exit.{Kept, Last, left, no}
use denote.RattleType.{RattleType, Valss}
use denote.Builtin.{RawPtr}
use denote.RawPtr.{Ptr, block_ptr, null_ptr, ptr_val, in_a_block}
use denote.Signature.{Slot, plain}
use denote.Struct.Struct.{within}
use denote.Struct.Owning.{shape}
use denote.Param.{arg, param, layout}
use denote.Param.Laws.{Laws, arg_laws}
use denote.Param.NoDrop.{glues}
use denote.Steps.{nothing, only}
use denote.Triple.Clauses.{Lasts, lasts}
use denote.Triple.Spec.{triple_of}
use denote.Triple.Call.{calls_at}
use denote.Triple.Table.{framed, widened}
use denote.Triple.Walked.{Stays, stay_dropped, walk_of}
use Rattle.std.proofs.raw_atomic.Walks.{proved_at, leaves}
use Rattle.std.specs.Prelude.{Some}
use Rattle.std.specs.contracts.alloc.Global as heap
use Rattle.std.proofs.alloc.Global.TheLaws as heap_laws
use Rattle.std.specs.contracts.impls.GlobalAllocator.TheImpl.{ghosts, dict}
use Rattle.std.proofs.impls.GlobalAllocator.TheImpl.Met as heap_met
use Rattle.std.specs.contracts.boxed.Box as box
use Rattle.std.specs.contracts.boxed.Box.into_raw as callee
use Rattle.std.proofs.boxed.Box.into_raw.Met as callee_met
use Rattle.std.specs.Box.Ownership.{box_owns}
use Rattle.std.proofs.BoxSteps.Form as form
use Rattle.std.proofs.BoxSteps.Steps.{box_out, box_in}
use Rattle.panguhero_c.specs.MaybeBox.{box_owns_if}
use Rattle.panguhero_c.specs.contracts.opened.OpenModule as opened
use Rattle.panguhero_c.proofs.opened.OpenModule.TheLaws as opened_laws
use Rattle.panguhero_c.specs.contracts.maybe_box.MaybeBox as pointer
use Rattle.panguhero_c.specs.declared.maybe_box.MaybeBox.{MaybeBox}
use Rattle.panguhero_c.specs.contracts.maybe_box.MaybeBox.of.{ended, clauses}
use Rattle.panguhero_c.specs.contracts.maybe_box.MaybeBox.of.Key.{name as #self}
use Rattle.panguhero_c.proofs.maybe_box.MaybeBox.of.Statement.{statement}
use Rattle.panguhero_c.proofs.Destruct++none.drop.Code as no_drop
use Rattle.panguhero_c.proofs.panguhero_c++opened++OpenModule+Destruct.drop.Kinds as drop_kinds
use Rattle.panguhero_c.proofs.panguhero_c++opened++OpenModule+Destruct.drop.Met as drop_met
use Rattle.panguhero_c.proofs.panguhero_c++opened++OpenModule+Destruct.drop.Reads as drop_reads
use Rattle.panguhero_c.proofs.panguhero_c++opened++OpenModule+Destruct.drop.Symbol as drop_symbol
use borrow.Fn.Glue.{glue_by}
use borrow.Fn.Impl.{via_longer}
use borrow.Fn.Kinds.{ParamKind, ended_of, stays, r_unit}
use borrow.Fn.Run.{Over}
use borrow.Kind.Owned.{p_owned}
use denote.Param.{layouts}
use denote.Param.Laws.{param_laws}
use denote.Param.Mute.{Mute-seen, blank, had}
use denote.Triple.Carry.{AllWithin}
use denote.Triple.Clauses.{Ended, at_exit}
use denote.Triple.Walked.{Fit, Goes}
use lib.Dec.{T}
use seplogic.Ra.Ura.{Ura}
use mir.Syntax.{method}
use Rattle.panguhero_c.proofs.maybe_box.MaybeBox.of.Code as code

abbrev C : RattleType
C = opened.the_row

abbrev G : RattleType
G = heap.the_row

abbrev B : RattleType
B = box.the_row C G ghosts

-- the two types as a call passes them
abbrev X : RattleType
X = arg (bare (layout C)) no C

abbrev Z : RattleType
Z = arg (bare (layout G)) no G

abbrev LX : Laws X
LX = arg_laws (bare (layout C)) no C opened_laws.the_row_laws refl

abbrev LZ : Laws Z
LZ = arg_laws (bare (layout G)) no G heap_laws.the_row_laws refl

-- what drops them
abbrev drops-Z : Dict
drops-Z = impl ("panguhero_c::Destruct++none::drop" ∷ []) (tcons (layout Z) tnil) dnil

abbrev drops-X : Dict
drops-X = impl ("panguhero_c::panguhero_c++opened++OpenModule+Destruct::drop" ∷ []) tnil dnil

abbrev dropping : Ended
dropping = ended_of 1 drop_kinds.ps drop_kinds.r

-- the lifetime of what a module borrows, its map
abbrev always : Lfts 1
always = ([], tt)

abbrev owned : List (ParamKind 1)
owned = p_owned (param 0 X) refl no (Mute-seen (λ x. tt)) (λ M 𝓤 𝓛. (param_laws 0 X LX).lawful 𝓛) ∷ []

abbrev E : form.Bx
E = record { row = X; laws = LX; al = record { row = Z; laws = LZ; g = ghosts; d = dict; drops = drops-Z } }

-- an owner that is used up leaves nothing, where its exit is made of `ftrue`
goes_blank : {M : Type 1} {𝓤 : Ura M} (𝓛 : Logic 𝓤) (n : ℕ) (s : Slot n) (k : Kept)
    → ((κs : Lfts n) (x : (s.row κs).Denot) (f : Last ((s.row κs).exit k) x) → T (blank (left ((s.row κs).exit k) x f))) → Goes 𝓛 n s k (stay_dropped s k)
goes_blank {𝓤 = 𝓤} 𝓛 n s k is κs x f vs ok = via 𝓤 _ (had 𝓛 (left ((s.row κs).exit k) x f) (is κs x f)) (𝓛.laws.⇛_intro _)

pub of_spec : {M : Type 1} → statement M
unfolding tables_of code.code no_drop.code
of_spec {M} 𝓤 𝓛 𝓜 𝓡 wired =
    let H = 𝓛.H in let 𝓣 = tables 𝓤 H 𝓜 𝓡 𝓡.env in let fn = code.function in let c = clauses 𝓛 𝓜.mem 𝓡.returns in
    let known = callee_met.met 𝓤 𝓛 𝓜 𝓡 (code.calls-std_alloc::boxed::Box::into_raw 𝓡.env wired) X Z LX LZ ghosts dict drops-Z drops-X
    (heap_met.passed 𝓡.env (code.calls-std_heap::GlobalAllocator::allocate 𝓡.env wired) (code.calls-std_heap::GlobalAllocator::deallocate 𝓡.env wired) (code.calls-std_heap::GlobalAllocator::grow 𝓡.env wired) (code.calls-std_heap::GlobalAllocator::shrink 𝓡.env wired) M 𝓤 𝓛 𝓜 𝓡)
    (glues "panguhero_c::Destruct++none::drop" 𝓡.env (code.calls-panguhero_c::Destruct++none::drop 𝓡.env wired) Z LZ M 𝓤 𝓛 𝓜 𝓡)
    (glue_by X LX (record { M = M; 𝓤 = 𝓤; 𝓛 = 𝓛; 𝓜 = 𝓜; 𝓡 = 𝓡 }) drops-X 𝓡.env
    (λ κs a. Lasts dropping always a) (λ κs a. lasts dropping always a) (λ κs a x ws. Fit dropping (stays drop_kinds.ps) always a ws × drop_reads.Learnt always a x (at_exit dropping always a ws))
    (λ κs a. AllWithin 1 (κs.0, tt) (X.lives, tt) × Unit {0}) 1 ((0, tt), tt) (λ κs a h. ((h, tt), tt))
    (via_longer 𝓛 (Over 𝓛 𝓜 𝓡 𝓡.env) 1 owned r_unit
    (λ κs a. Lasts dropping always a) (λ κs a. lasts dropping always a) (λ κs a x ws. Fit dropping (stays drop_kinds.ps) always a ws × drop_reads.Learnt always a x (at_exit dropping always a ws))
    (λ κs a. AllWithin 1 (κs.0, tt) (X.lives, tt) × Unit {0}) (method drops-X 0 (layouts [] tt)) 1 ((0, tt), tt) (λ κs. always) (λ κs a. drop_reads.Asked always a) (λ κs a p. ((⊑_static κs.0, tt), tt))
    (λ κs bd within a vss qs. drop_reads.known (record { M = M; 𝓤 = 𝓤; 𝓛 = 𝓛; 𝓜 = 𝓜; 𝓡 = 𝓡 }) 𝓡.env (method drops-X 0 (layouts [] tt)) (𝓡.env (method drops-X 0 (layouts [] tt))) refl
    (widened 𝓤 H _ 𝓜 𝓡 𝓡.env (𝓡.env drop_symbol.name) (𝓡.env (method drops-X 0 (layouts [] tt)))
    (drop_symbol.as_method 𝓡.env (code.calls-panguhero_c::panguhero_c++opened++OpenModule+Destruct::drop 𝓡.env wired) (method drops-X 0 (layouts [] tt)) refl) (drop_met.met 𝓤 𝓛 𝓜 𝓡 (code.calls-panguhero_c::panguhero_c++opened++OpenModule+Destruct::drop 𝓡.env wired)))
    ((always, qs, (⊑_static [], tt), a, vss), tt)))) in
    let hs : Stays ended.signature.params ended.kept = (stay_dropped (plain (λ _. B)) no, tt) in
    proved_at 𝓛 ended hs c 𝓜 𝓡 (goes_blank 𝓛 0 (plain (λ _. B)) no (λ κs x f. tt), tt) #self fn (code.unfolded 𝓤 H 𝓜 𝓡 wired) (λ z are.
    let v = z.0.3.0 in let a = v.alloc in let Post : Val → SProp 𝓤 = (walk_of 𝓛 ended hs c).post z in let Run : List Val → SProp 𝓤 = λ ws. WpFn 𝓤 H 𝓣.C 𝓣.Λ fn ws Post in
    let k = triple_of 𝓛 (callee.signature X Z ghosts dict drops-Z drops-X) (callee.spec X Z ghosts dict drops-Z drops-X 𝓛 𝓜.mem 𝓡.returns) in let Ce = callee.ended X Z ghosts dict drops-Z drops-X in
    qed 𝓛 ((‵ ftrue ⊛ ‵ (fsep (B.own_val v z.0.4.0) ftrue)) ∷ raw (emp 𝓤) ∷ []) ∵ split ! $ drop ! $ fsplit ! $ keep ! (0 ∷ []) $
    use1 𝓛 (‵ ((form.B E).own_val v z.0.4.0)) (id⊢ 𝓤 _) $ box_out E ! v z.0.4.0 (λ b o h e ws fits. box_in E ! v b o v.value e refl $
    let w : Val = form.word E h b o in let typed = form.box_typed E h b o fits in
    suffices ! (Run (w ∷ [])) (subst (λ (us : List Val). ent 𝓤 (Run (w ∷ [])) (Run us)) (sym (λ i. ws i ++ [])) (id⊢ 𝓤 (Run (w ∷ [])))) $
    enter ! 𝓣.C 𝓣.Λ fn (w ∷ []) Post $ alloc_all ! (λ l. pass_all ! refl (typed, tt) $ sets ! (of_opd ! (get ! refl)) refl typed $
    lft_new ! tt (λ α. lft_new ! tt (λ β.
    -- [the token of β; the token of α; the box; the locals]
    let κ : Lft = α ∷ [] in let κ' : Lft = β ∷ [] in
    let y : k.Ghost = (((κ, (κ', tt)), (full_share, (full_share, tt)), tt, (v, tt), (w ∷ [], tt)), tt) in
    nothing ! $ move ! (1 ∷ 0 ∷ []) $ join ! $ move ! (1 ∷ 0 ∷ []) $ join ! $
    nothing ! $ move ! (2 ∷ 0 ∷ []) $ fjoin ! $ move ! (1 ∷ 0 ∷ []) $ join ! $
    nothing ! $ use0 𝓛 (raw (fact 𝓤 (κ' ⊑ Z.lives))) (fact_i 𝓤 (κ' ⊑ Z.lives) (emp 𝓤) (⊑_static κ')) $ join ! $ use0 𝓛 (raw (fact 𝓤 (κ ⊑ X.lives))) (fact_i 𝓤 (κ ⊑ X.lives) (emp 𝓤) (⊑_static κ)) $ join ! $
    move ! (1 ∷ 0 ∷ []) $ join ! $ use1 𝓛 (raw (k.pre y)) (id⊢ 𝓤 _) $
    calls_at ! (framed 𝓤 H 𝓜 𝓣) k known y (and_then ! (get ! refl) (no_more !)) (λ u.
    use1 𝓛 (later (some (λ (r : Ptr). ((‵ (flft κ full_share) ⊛ ‵ (flft κ' full_share) ⊛ ‵ ftrue) ⊛ ‵ (RawPtr.own_val r (u ∷ []))) ⊛ some (λ (ls : Lasts Ce (κ, (κ', tt)) (v, tt)). ‵ (lasts Ce (κ, (κ', tt)) (v, tt) ls) ⊛ ‵ (box_owns (ghosts.dealloc_token a) (param 0 X) r v.value))))) (id⊢ 𝓤 (k.post y u)) $
    await ! tt $ pick ! (λ r. split ! $ move ! (1 ∷ []) $ pick ! (λ _. split ! $ drop ! $
    in_a_block ! r (λ p. box_owns (ghosts.dealloc_token a) (param 0 X) p v.value) (fst∗ 𝓤 (never 𝓤) (sem 𝓛 (ghosts.dealloc_token a (bare (layout X)) null_ptr))) (λ b' o' e'.
    use1 𝓛 (‵ (box_owns_if (ghosts.dealloc_token a) C (block_ptr b' o') (Some v.value))) (id⊢ 𝓤 _) $ move ! (1 ∷ []) $ split ! $ drop ! $ feq_l ! (λ eu.
    let made : MaybeBox = record { at = block_ptr b' o'; alloc = a; value = Some v.value } in let w' : Val = vstruct (vcons (vptr b' o') vnil) in
    lands_as ! (ap only (eu ∙ ap (λ (p : Ptr). ptr_val p ∷ []) e')) refl (tt, tt) $ sets ! (of_opd ! (get ! refl)) refl (tt, tt) $ sets ! (agg ! (and_then ! (get ! refl) (no_more !))) refl (tt, (tt, tt)) $
    -- [what the pointer owns; the locals]
    nothing ! $ feq_i ! (List Val) (vptr b' o' ∷ []) (vptr b' o' ∷ []) refl $ fjoin ! $ feq_i ! (List Val) (w' ∷ []) (w' ∷ []) refl $ fjoin ! $
    fpack ! (Valss (RawPtr ∷ [])) (within (shape pointer.the_type) (block_ptr b' o', tt) (w' ∷ [])) (vptr b' o' ∷ [], tt) $ fjoin ! $
    use0 𝓛 (raw (fact 𝓤 (made.value ≡ Some v.value))) (fact_i 𝓤 (made.value ≡ Some v.value) (emp 𝓤) refl) $ nothing ! $ nothing ! $ nothing ! $ fjoin ! $
    -- [what is left of the parameter; no tokens; the fact; the pointer; the locals]
    returns ! (look_at ! 0 refl) $ free_all ! refl $ keep ! (1 ∷ 0 ∷ 3 ∷ 2 ∷ []) $ by ! (leaves 𝓛 ended hs c z w' made (tt, tt) (tt, tt))))))))))))
