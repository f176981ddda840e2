-- `into_box` makes the box again.
use Rattle.std.proofs.Common.{◌≡◌, List, [], ◌∷◌, ◌++◌, refl, sym, ap, ◌∙◌, subst}
use mir.Syntax.{Dict, impl, tcons, tnil, dnil}
use mir.Raw.{raw as bare}
use mir.Val.{Val, vptr, vstruct, vcons, vnil}
use base.Logic.{SProp, ent, emp, id⊢, fst∗, never}
use base.Fraction.{full_share}
use base.Fml.{Lft, ftrue, fsep, flft}
use types.Tokens.{lft_new}
use denote.Laws.{Is, shows}
use denote.Triple.Table.{framed}
use Rattle.std.proofs.boxed.Box.TheLaws as box_laws
use Rattle.panguhero_c.proofs.maybe_box.MaybeBox.TheLaws.{lowers}
use contract.BorrowLft.{◌⊑◌, ⊑_static}
use contract.Monad.{fact, fact_i}
use contract.Running.{tables, tables_of}
use prog.Wp.{WpFn}
use types.Logic.{sem}
use types.Kit.{‵, raw, ◌⊛◌, some, later, at_ret, ◌$◌, ◌∵◌, !, qed, by, move, keep, drop, split, split3, join, fsplit, fjoin, fjoin3, feq_i, pick, suffices, use0, use1, await, rewrite}
use types.Run.{stop, fld, of_opd, no_more, and_then, first, blocks, exec, returns, enter}
use types.ByLocal.{alloc_all, pass_all, free_all, look_at, get, get_in, sets, lands_last, env}
use types.Part.{sub, whole}
use denote.Exit.{yes, no}
use denote.Memory.{lone}
use denote.RattleType.{RattleType}
use denote.RawPtr.{Ptr, block_ptr, null_ptr, ptr_val, in_a_block}
use denote.Signature.{plain}
use denote.Param.{arg, param, layout}
use denote.Param.Laws.{Laws, arg_laws}
use denote.Steps.{nothing, heard, peeks}
use denote.Triple.Clauses.{Lasts, lasts}
use denote.Triple.Spec.{triple_of}
use denote.Triple.Call.{calls_at_last}
use denote.Triple.Walked.{Stays, stay_dropped, walk_of, Goes-dropped}
use denote.Param.NoDrop.{glues}
use Rattle.std.proofs.raw_atomic.Walks.{proved_at, leaves}
use Rattle.std.specs.contracts.alloc.Global as heap
use Rattle.std.proofs.alloc.Global.TheLaws as heap_laws
use Rattle.std.specs.contracts.impls.GlobalAllocator.TheImpl.{ghosts, dict}
use Rattle.std.proofs.impls.GlobalAllocator.TheImpl.Met as heap_met
use Rattle.std.specs.contracts.boxed.Box as box
use Rattle.std.specs.contracts.boxed.Box.from_raw as callee
use Rattle.std.proofs.boxed.Box.from_raw.Met as callee_met
use Rattle.std.specs.Box.Ownership.{box_owns}
use Rattle.std.specs.Prelude.{◌≢◌, Option, Some, None}
use Rattle.panguhero_c.specs.MaybeBox.{box_owns_if}
use Rattle.panguhero_c.specs.contracts.opened.OpenModule as opened
use Rattle.panguhero_c.proofs.opened.OpenModule.TheLaws as opened_laws
use Rattle.panguhero_c.specs.contracts.maybe_box.MaybeBox as pointer
use Rattle.panguhero_c.specs.contracts.maybe_box.MaybeBox.into_box.{ended, clauses}
use Rattle.panguhero_c.specs.contracts.maybe_box.MaybeBox.into_box.Key.{name as #self}
use Rattle.panguhero_c.proofs.maybe_box.MaybeBox.into_box.Statement.{statement}
use Rattle.panguhero_c.proofs.Destruct++none.drop.Code as no_drop
use Rattle.panguhero_c.proofs.maybe_box.MaybeBox.into_box.Code as code

abbrev C : RattleType
C = opened.the_row

abbrev G : RattleType
G = heap.the_row

-- the two types as a call passes them
abbrev X : RattleType
X = arg (bare (layout C)) no C

abbrev Z : RattleType
Z = arg (bare (layout G)) no G

abbrev LX : Laws X
LX = arg_laws (bare (layout C)) no C opened_laws.the_row_laws refl

abbrev LZ : Laws Z
LZ = arg_laws (bare (layout G)) no G heap_laws.the_row_laws refl

abbrev drops : Dict
drops = impl ("panguhero_c::Destruct++none::drop" ∷ []) (tcons (layout Z) tnil) dnil

some_of : {X : Type 0} (o : Option X) → o ≢ None → (x : X) × (o ≡ Some x)
some_of None t = absurd (t refl)
some_of (Some x) t = (x, refl)

pub into_box_spec : {M : Type 1} → statement M
unfolding tables_of code.code no_drop.code
into_box_spec {M} 𝓤 𝓛 𝓜 𝓡 wired =
    let H = 𝓛.H in let 𝓣 = tables 𝓤 H 𝓜 𝓡 𝓡.env in let fn = code.function in let c = clauses 𝓛 𝓜.mem 𝓡.returns in
    let known = callee_met.met 𝓤 𝓛 𝓜 𝓡 (code.calls-std_alloc::boxed::Box::from_raw 𝓡.env wired) X Z LX LZ ghosts dict drops
    (heap_met.passed 𝓡.env (code.calls-std_heap::GlobalAllocator::allocate 𝓡.env wired) (code.calls-std_heap::GlobalAllocator::deallocate 𝓡.env wired) (code.calls-std_heap::GlobalAllocator::grow 𝓡.env wired) (code.calls-std_heap::GlobalAllocator::shrink 𝓡.env wired) M 𝓤 𝓛 𝓜 𝓡)
    (glues "panguhero_c::Destruct++none::drop" 𝓡.env (code.calls-panguhero_c::Destruct++none::drop 𝓡.env wired) Z LZ M 𝓤 𝓛 𝓜 𝓡) in
    let hs : Stays ended.signature.params ended.kept = (stay_dropped (plain (λ _. pointer.the_row)) yes, (stay_dropped (plain (λ _. G)) yes, tt)) in
    proved_at 𝓛 ended hs c 𝓜 𝓡 (Goes-dropped 𝓛 0 (plain (λ _. pointer.the_row)) yes (λ κs x f. refl), (Goes-dropped 𝓛 0 (plain (λ _. G)) yes (λ κs x f. refl), tt)) #self fn (code.unfolded 𝓤 H 𝓜 𝓡 wired) (λ z are.
    let v = z.0.3.0 in let a = z.0.3.1.0 in let Post : Val → SProp 𝓤 = (walk_of 𝓛 ended hs c).post z in let Run : List Val → SProp 𝓤 = λ ws. WpFn 𝓤 H 𝓣.C 𝓣.Λ fn ws Post in
    let at_lowered = lowers.val_is v z.0.4.0 are.0 in let g : Val = heap_laws.lowered a in let eg : z.0.4.1.0 ≡ g ∷ [] = heap_laws.lowers.val_is a z.0.4.1.0 are.1.0 in
    let k = triple_of 𝓛 (callee.signature X Z ghosts dict drops) (callee.spec X Z ghosts dict drops 𝓛 𝓜.mem 𝓡.returns) in let Ce = callee.ended X Z ghosts dict drops in
    let B : RattleType = box.the_row C G ghosts in
    qed 𝓛 ((‵ ftrue ⊛ ‵ (fsep (pointer.the_row.own_val v z.0.4.0) (fsep (G.own_val a z.0.4.1.0) ftrue))) ∷ raw (fact 𝓤 (v.value ≢ None)) ∷ []) ∵ move ! (1 ∷ []) $ heard ! (v.value ≢ None) (λ is_some. let held = some_of v.value is_some in let x = held.0 in split ! $ drop ! $ fsplit ! $ fsplit ! $ drop ! $
    rewrite ! 0 (λ (o : Option C.Denot). ‵ (box_owns_if (ghosts.dealloc_token v.alloc) C v.at o)) held.1 refl $ move ! (1 ∷ []) $ fsplit ! $
    rewrite ! 0 (λ (us : List Val). ‵ (G.own_val a us)) eg refl $ move ! (2 ∷ []) $
    in_a_block ! v.at (λ p. box_owns (ghosts.dealloc_token v.alloc) C p x) (fst∗ 𝓤 (never 𝓤) (sem 𝓛 (ghosts.dealloc_token v.alloc (bare (lone C.mir)) null_ptr))) (λ b o at. keep ! (0 ∷ 1 ∷ []) $
    let w : Val = vstruct (vcons (vptr b o) vnil) in let us : List Val = w ∷ g ∷ [] in let ew : z.0.4.0 ≡ w ∷ [] = at_lowered ∙ ap (λ (p : Ptr). vstruct (vcons (ptr_val p) vnil) ∷ []) at in
    suffices ! (Run us) (subst (λ (ws : List Val). ent 𝓤 (Run us) (Run ws)) (sym (λ i. ew i ++ (eg i ++ []))) (id⊢ 𝓤 (Run us))) $
    enter ! 𝓣.C 𝓣.Λ fn us Post $ alloc_all ! (λ l. pass_all ! refl ((tt, (tt, tt)), ((tt, ((tt, tt), tt)), tt)) $ let Ev = env fn.locals l in
    sets ! (of_opd ! (get_in ! (fld ! refl (stop !)) (sub ! 0 refl (whole !)))) refl (tt, tt) $
    first ! $ blocks ! $ sets ! (of_opd ! (get ! refl)) refl (tt, tt) $
    lft_new ! tt (λ α. lft_new ! tt (λ β. move ! (2 ∷ 3 ∷ []) $
    -- [what the box owns; the allocator; the token of β; the token of α; the locals]
    use1 𝓛 (‵ (box_owns (ghosts.dealloc_token a) (param 0 X) (block_ptr b o) x)) (id⊢ 𝓤 _) $
    let κ : Lft = α ∷ [] in let κ' : Lft = β ∷ [] in
    let args : G.Denot × (Ptr × Unit {0}) = (a, (block_ptr b o, tt)) in let y : k.Ghost = (((κ, (κ', tt)), (full_share, (full_share, tt)), tt, args, (g ∷ [], (vptr b o ∷ [], tt))), x) in
    use0 𝓛 (raw (fact 𝓤 (κ' ⊑ Z.lives))) (fact_i 𝓤 (κ' ⊑ Z.lives) (emp 𝓤) (⊑_static κ')) $ join ! $ use0 𝓛 (raw (fact 𝓤 (κ ⊑ X.lives))) (fact_i 𝓤 (κ ⊑ X.lives) (emp 𝓤) (⊑_static κ)) $ join ! $
    nothing ! $ feq_i ! (List Val) (vptr b o ∷ []) (vptr b o ∷ []) refl $ move ! (3 ∷ 0 ∷ 1 ∷ []) $ fjoin3 ! $
    nothing ! $ move ! (3 ∷ 0 ∷ []) $ join ! $ move ! (3 ∷ 0 ∷ []) $ join ! $ join ! $ join ! $ use1 𝓛 (raw (k.pre y)) (id⊢ 𝓤 _) $
    calls_at_last ! (framed 𝓤 H 𝓜 𝓣) k known y (and_then ! (get ! refl) (and_then ! (get ! refl) (no_more !))) (λ u.
    use1 𝓛 (later (some (λ (r : B.Denot). ((‵ (flft κ full_share) ⊛ ‵ (flft κ' full_share) ⊛ ‵ ftrue) ⊛ ‵ (B.own_val r (u ∷ []))) ⊛ some (λ (ls : Lasts Ce (κ, (κ', tt)) args). ‵ (lasts Ce (κ, (κ', tt)) args ls) ⊛ (raw (fact 𝓤 (r.value ≡ x)) ⊛ raw (fact 𝓤 (r.alloc ≡ a))))))) (id⊢ 𝓤 (k.post y u)) $
    await ! tt $ pick ! (λ r. split ! $ move ! (1 ∷ []) $ pick ! (λ _. split3 ! $ drop ! $ heard ! (r.value ≡ x) (λ same. drop ! $ split ! $ drop ! $
    peeks ! B (Is B) (shows 𝓛 B) r (u ∷ []) (λ is. let good = (((box_laws.the_row_laws C G ghosts opened_laws.the_row_laws heap_laws.the_row_laws).lawful 𝓛).typed r (u ∷ []) is).0 in
    lands_last ! refl good $ exec ! 𝓣.C 𝓣.Λ Ev code.Mir.t-3 (at_ret Ev Post) $ sets ! (of_opd ! (get ! refl)) refl good $
    use0 𝓛 (raw (fact 𝓤 (Some r.value ≡ v.value))) (fact_i 𝓤 (Some r.value ≡ v.value) (emp 𝓤) (ap Some same ∙ sym held.1)) $ nothing ! $ nothing ! $ nothing ! $ fjoin ! $ nothing ! $ fjoin ! $
    -- [what is left of the parameters; no tokens; the fact; the box; the locals]
    returns ! (look_at ! 0 refl) $ free_all ! refl $ keep ! (1 ∷ 0 ∷ 3 ∷ 2 ∷ []) $ by ! (leaves 𝓛 ended hs c z u r _ _))))))))))))
