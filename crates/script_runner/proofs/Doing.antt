-- What a line does at a session.
use Rattle.std.proofs.Common.{◌≡◌, ◌∙◌, Option, None, ap, sym, subst}
use Rattle.script_runner.proofs.Common.{Answer, Ghosts, GoesOnBy, LivesOn, MatchOption, Module, ScriptLine, SessionAt, Setup, Tale}
use Rattle.nv_session.specs.declared.session.Session.{Session}
use Rattle.nv_session.specs.declared.wires.Wires as wires
use Rattle.script_runner.specs.Doing.{Does}

module _ {K A : Type 0} (L : Ghosts K) {W : wires.Ghosts A K} where
  -- the same of a line and of an answer that equal them
  pub does_as : {asked other : ScriptLine} {given said : Answer} (old new : Session K A L W) → asked ≡ other → given ≡ said → Does other said old new → Does asked given old new
  does_as {asked} {other} {given} {said} old new is says does =
      subst (λ (l : ScriptLine). Does l given old new) (sym is) (subst (λ (a : Answer). Does other a old new) (sym says) does)

module _ {K : Type 0} (L : Ghosts K) where
  -- where none runs none begins
  pub none_begins : (Told : Setup → Tale) (old new : SessionAt L) → GoesOnBy L Told old new → old.life ≡ None → new.life ≡ None
  none_begins Told old new goes none =
      let same : new ≡ old = subst (λ (life : Option (Module K L)). MatchOption life (new ≡ old) (λ it. LivesOn L Told it old new)) none goes in
      ap (λ (at : SessionAt L). at.life) same ∙ none
