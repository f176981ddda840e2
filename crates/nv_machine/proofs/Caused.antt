-- Why an image isn't complete, over several lives.
use Rattle.std.specs.Prelude.{◌⊎◌}
use Rattle.std.proofs.lemmas.List.Elements.{All-head}
use Rattle.slot_store.specs.Outcomes.{restored}
use Rattle.nv_machine.specs.Causes.{HasCauseSince, HasOwnCause, HasOwnCauseAt, OpenedWith}
use Rattle.nv_machine.specs.Headline.{AnyRun, Happens, paused}
use Rattle.nv_machine.specs.Lives.{Unanswered, last_life}
use Rattle.nv_machine.specs.Survival.{HasCauseAt}
use Rattle.nv_machine.proofs.Common.{List, [], ap, inl, inr, refl, sym, ⊎_elim, ◌∙◌, ◌∷◌, ◌≡◌, ◌≢◌, All-cons, All-nil, Found, ForSome, Image, None, Option, Slot, Some, AreChained, HasCause, IsGuarded, IsLived, Lived, Machine, Setup, World, Event, Reply}
use Rattle.nv_machine.proofs.EachEvent.{guarded_event, event_keeps}
use Rattle.nv_machine.proofs.Guarded.{guarded_cut}
use Rattle.nv_machine.proofs.StoppedLives.{guarded_first, recovered}
use Rattle.nv_machine.proofs.History.{last_is}

-- the last machine of a run keeps its promises
guarded_along : (setup : Setup) (events : List Event) (replies : List Reply) (old new : World) → AnyRun setup events replies old new → IsGuarded old.machine → IsGuarded new.machine
guarded_along setup [] [] old new run guarded = rw run.is (guarded_cut old.machine new.machine.cut run.may.cut guarded)
guarded_along setup (event ∷ events) (reply ∷ replies) old new run guarded =
    guarded_along setup events replies run.0 new run.2 (guarded_event setup event reply (paused run.1.pause old) run.0 run.1.happens.step (guarded_cut old.machine run.1.pause.cut run.1.may.cut guarded))
guarded_along setup _ _ old new none guarded = absurd none

-- a machine's cause is its own, or the image is the one that its life was opened with
own_or_opened : (m : Machine) (opened image : Image) → m.life.opened ≡ opened → HasCause m image → HasOwnCause m ⊎ (opened ≡ image)
own_or_opened m opened image is (inl lacking) = inl (inl lacking)
own_or_opened m opened image is (inr (inl failed)) = inl (inr failed)
own_or_opened m opened image is (inr (inr same)) = inr (sym (same ∙ is))

cause_at : (life : Lived) (unanswered : Option Unanswered) (image : Image) → IsGuarded life.last.machine → life.last.machine.life.opened ≡ life.image
    → ForSome unanswered (λ it. Happens life.setup it.event it.reply life.last it.next) → HasCauseAt unanswered life.last.machine image
    → HasOwnCauseAt unanswered life.last.machine ⊎ (life.image ≡ image)
cause_at life None image guarded is happens cause = own_or_opened life.last.machine life.image image is cause
cause_at life (Some it) image guarded is happens (inl marked) = inl (inl marked)
cause_at life (Some it) image guarded is happens (inr (inl before)) = ⊎_elim (λ own. inl (inr (inl own))) inr (own_or_opened life.last.machine life.image image is before)
cause_at life (Some it) image guarded is happens (inr (inr later)) =
    let stays : it.next.machine.life.opened ≡ life.image = (event_keeps life.setup it.event it.reply life.last it.next (happens it refl).step guarded).opened ∙ is in
    ⊎_elim (λ own. inl (inr (inr own))) inr (own_or_opened it.next.machine life.image image stays later)

-- why a restore after the life finds this image
cause_in : (life : Lived) → IsLived life → (slot : Slot) (image : Image) → restored life.setup.shape.lines life.bytes ≡ Found slot image → image.arm ≢ 0
    → HasOwnCauseAt life.unanswered life.last.machine ⊎ (life.image ≡ image)
cause_in life lived slot image found lacks =
    let r = (recovered life lived).recovers in let both : Found slot image ≡ Found r.slot r.image = sym found ∙ r.found in let same : image ≡ r.image = cc in
    let guarded = guarded_along life.setup life.events life.replies life.first life.last lived.run (guarded_first life lived) in
    cause_at life life.unanswered image guarded (last_is life lived) lived.unanswered (rw same (r.cause (λ clear. lacks (ap (λ (i : Image). i.arm) same ∙ clear))))

pub caused : (life : Lived) (lives : List Lived) → AreChained (life ∷ lives) → (slot : Slot) (image : Image)
    → restored (last_life life lives).setup.shape.lines (last_life life lives).bytes ≡ Found slot image → image.arm ≢ 0
    → HasCauseSince (life ∷ lives) image ⊎ OpenedWith image (life ∷ lives)
caused life [] chained slot image found lacks =
    ⊎_elim
    (λ own. inl (record { before = []; life = life; after = []; parts = refl; cause = own; inherited = All-nil (λ (l : Lived). l.image ≡ image) }))
    (λ same. inr (All-cons (λ (l : Lived). l.image ≡ image) life [] same (All-nil (λ (l : Lived). l.image ≡ image))))
    (cause_in life chained slot image found lacks)
caused life (next ∷ lives) chained slot image found lacks =
    ⊎_elim
    (λ (since : HasCauseSince (next ∷ lives) image).
    inl (record { before = life ∷ since.before; life = since.life; after = since.after; parts = ap (λ (ls : List Lived). life ∷ ls) since.parts; cause = since.cause; inherited = since.inherited }))
    (λ (all : OpenedWith image (next ∷ lives)).
    let first : next.image ≡ image = All-head (λ (l : Lived). l.image ≡ image) next lives all in
    ⊎_elim
    (λ own. inl (record { before = []; life = life; after = next ∷ lives; parts = refl; cause = own; inherited = all }))
    (λ same. inr (All-cons (λ (l : Lived). l.image ≡ image) life (next ∷ lives) same all))
    (cause_in life chained.0 next.slot image (chained.1 ∙ ap (Found next.slot) first) lacks))
    (caused next lives chained.2 slot image found lacks)
