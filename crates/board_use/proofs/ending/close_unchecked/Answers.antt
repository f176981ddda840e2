use Rattle.std.proofs.Common.{arith, sym, subst, ℕ, All, Bool, true, false, MatchBool, [], IfOk, Result}
use Rattle.std.proofs.lemmas.Option.{slice_get_within}
use Rattle.line_memory.specs.History.{Recorded}
use Rattle.board_hosts.specs.Ending.{AreChecked, IsBorneOutOrPast, IsFirstStranger, IsFirstWithout, StandsOrIsPast}
use Rattle.board_hosts.specs.declared.checking.Stranger.{Stranger}
use Rattle.board_hosts.specs.declared.checking.Cut.{Cut}
use Rattle.board_use.specs.declared.ending.Unchecked.{Unchecked}
use Rattle.board_use.proofs.Ends.{ends_life}
use Rattle.board_use.proofs.ending.close_unchecked.Goals as goal

pub returns : goal.returns
returns g c = λ receipts answers.
    let told = c.left_by.ensures in let it = c.in-Ok.closed.recorded in
    ends_life g.K.ChannelPort g.D.SaveDevice g.E.Energy g.B.BoardName g.B.PartsName _ it c.in-Ok.ensures.lay receipts answers c.left_by.result
    told.device told.energy told.history told.accepted told.mark
    (subst (λ (r : Result Cut Unchecked). IfOk r (λ told. AreChecked it.running.front.terms.start it.history receipts answers told)) (sym told.checked) tt)

-- among none there is no first one
no_first : {A : Type 0} (P : A → Type 0) (place : ℕ) → IsFirstWithout P [] place → ⊥
no_first P place is = omega (arith, slice_get_within [] place is.element is.here)

no_either : (answer : Bool) (P Q : Type 0) → (P → ⊥) → (Q → ⊥) → MatchBool answer P Q → ⊥
no_either true P Q first second is = first is
no_either false P Q first second is = second is

no_stranger : (below : ℕ) (history : Recorded) (stranger : Stranger) → IsFirstStranger below history [] [] stranger → ⊥
no_stranger below history stranger is = no_either stranger.answer
    (All (StandsOrIsPast below history) [] × IsFirstWithout (IsBorneOutOrPast below history) [] stranger.index)
    (IsFirstWithout (StandsOrIsPast below history) [] stranger.index)
    (λ both. no_first (IsBorneOutOrPast below history) stranger.index both.1)
    (no_first (StandsOrIsPast below history) stranger.index) is

pub unreachable-requires : goal.unreachable-requires
unreachable-requires g c = no_stranger _ _ c.in-Err.field-0.stranger c.in-Err.ensures.stranger.1
