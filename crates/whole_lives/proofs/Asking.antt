-- Events that were asked for so far.
use Rattle.std.proofs.Common.{◌≡◌, ◌<◌, List, [], ◌∷◌, ◌++◌, append_assoc, append-nil, arith, length, refl, subst, sym}
use Rattle.nv_machine.specs.declared.events.Event.{Event}
use Rattle.whole_lives.specs.declared.events.Ask.{Ask}
use Rattle.whole_lives.specs.Events.{AreAsked, IsAsked}

-- behind these events any that are asked for by the rest
abbrev pub IsAskedSoFar : List Ask → List Ask → List Event → Type 0
IsAskedSoFar asks left events = (rest : List Event) → AreAsked left rest → AreAsked asks (events ++ rest)

-- one more
pub asked_more : (asks left behind : List Ask) (ask : Ask) (events : List Event) (event : Event) → left ≡ ask ∷ behind → IsAsked ask event
    → IsAskedSoFar asks left events → IsAskedSoFar asks behind (events ++ event ∷ [])
asked_more asks left behind ask events event is asked so_far = λ rest are.
    subst (λ (all : List Event). AreAsked asks all) (sym (append_assoc events (event ∷ []) rest))
    (so_far (event ∷ rest) (subst (λ (asks : List Ask). AreAsked asks (event ∷ rest)) (sym is) (asked, are)))

-- all
pub asked_all : (asks left : List Ask) (events : List Event) → left ≡ [] → IsAskedSoFar asks left events → AreAsked asks events
asked_all asks left events is so_far =
    subst (λ (all : List Event). AreAsked asks all) (append-nil events)
    (so_far [] (subst (λ (asks : List Ask). AreAsked asks []) (sym is) tt))

pub none_left : {X : Type 0} (row : List X) → length row < 1 → row ≡ []
none_left [] few = refl
none_left (x ∷ row) few = absurd (omega (arith, few))
