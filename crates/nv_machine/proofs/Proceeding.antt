-- The store while a save makes its steps.
use Rattle.nv_machine.specs.Losses.{LosesMains}
use Rattle.slot_store.specs.Tries.{goods, is_failed}
use Rattle.nv_machine.specs.Moves.{after_steps, broken_off, torn}
use Rattle.nv_machine.proofs.Common.{Bool, ap, false, refl, suc, true, zero, ℕ, ◌∙◌, ◌≡◌, None, Option, Some, ForSome, Image, Step, Loss, Mode, DrainOrder, EndsDark, EndsInFault, step_failed, stepped, Machine, Setup, Store, World, made_of}
use Rattle.nv_machine.proofs.GuardLaws.{for_none, for_one}

-- the new store, but for the candidates: those of the old one, with this image in the other slot
abbrev pub with_saved : Store → Store → Option Image → Store
with_saved old new saved = record new { maybe = record old.maybe { saved = saved } }

-- In the other slot stands what stood there, or the image that is made, or none; what has failed stays so.
pub record Proceeds (made : Image) (old new : Store) : Type 1 where
  pub saved : Option Image
  pub is : new ≡ with_saved old new saved
  pub may : (P : Image → Type 0) → ForSome old.maybe.saved P → P made → ForSome saved P
  pub unsettled : old.unsettled ≡ true → new.unsettled ≡ true

-- a step that went well, and one that failed
pub stepped_goes : (made : Image) (s : Store) (step : Step) → Proceeds made s (stepped s made step)
stepped_goes made s Step.SyncClosed = record { saved = None; is = refl; may = λ P was new. for_none None P refl; unsettled = λ x. x }
stepped_goes made s Step.Open = record { saved = Some made; is = refl; may = λ P was new. for_one made P new; unsettled = λ x. x }
stepped_goes made s step = record { saved = s.maybe.saved; is = refl; may = λ P was new. was; unsettled = λ x. x }

pub failed_goes : (made : Image) (s : Store) (step : Step) → Proceeds made s (step_failed s made step)
failed_goes made s Step.Open = record { saved = Some made; is = refl; may = λ P was new. for_one made P new; unsettled = λ x. refl }
failed_goes made s step = record { saved = s.maybe.saved; is = refl; may = λ P was new. was; unsettled = λ x. refl }

pub torn_goes : (made : Image) (s : Store) (step : Step) → Proceeds made s (torn s made step)
torn_goes made s Step.Open = record { saved = Some made; is = refl; may = λ P was new. for_one made P new; unsettled = λ x. x }
torn_goes made s step = record { saved = s.maybe.saved; is = refl; may = λ P was new. was; unsettled = λ x. x }

broken_goes : (made : Image) (s : Store) (step : Step) (failed : Bool) → Proceeds made s (broken_off s made step failed)
broken_goes made s step true = failed_goes made s step
broken_goes made s step false = record { saved = s.maybe.saved; is = refl; may = λ P was new. was; unsettled = λ x. x }

-- a failed step ends the save, and the device is unsettled
pub failed_ends : (made : Image) (s : Store) (step : Step) → ((step_failed s made step).saving ≡ None) × ((step_failed s made step).unsettled ≡ true)
failed_ends made s Step.Open = (refl, refl)
failed_ends made s step = (refl, refl)

-- one change after another, and so many steps
goes_further : (made : Image) (a b c : Store) → Proceeds made a b → Proceeds made b c → Proceeds made a c
goes_further made a b c one two = record {
  saved = two.saved;
  is = two.is ∙ ap (λ (s : Store). with_saved s c two.saved) one.is;
  may = λ P was new. two.may P (rw one.is (one.may P was new)) new;
  unsettled = λ x. two.unsettled (one.unsettled x);
}

steps_go : (lines : ℕ) (made : Image) (s : Store) (n : ℕ) → Proceeds made s (after_steps lines s made n).store
steps_go lines made s zero = record { saved = s.maybe.saved; is = refl; may = λ P was new. was; unsettled = λ x. x }
steps_go lines made s (suc n) = let before = after_steps lines s made n in goes_further made s before.store _ (steps_go lines made s n) (stepped_goes made before.store before.next)

-- the newest image is the same
pub newest_stays : (made : Image) (old new : Store) → Proceeds made old new → new.maybe.newest.count ≡ old.maybe.newest.count
newest_stays made old new goes = ap (λ (s : Store). s.maybe.newest.count) goes.is

-- a closing save that ran out of energy, and one in which the device failed
pub dark_goes : (order : DrainOrder) (setup : Setup) (old new : World) (done : EndsDark order setup old new) → Proceeds (made_of false old.machine) old.machine.store new.machine.store
dark_goes order setup old new done =
    let made = made_of false old.machine in let before = after_steps setup.shape.lines old.machine.store made (goods done.tries) in
    rw done.saved
    (goes_further made old.machine.store before.store _ (steps_go setup.shape.lines made old.machine.store (goods done.tries)) (broken_goes made before.store before.next (is_failed false done.tries)))

pub fault_goes : (order : DrainOrder) (setup : Setup) (old new : World) (done : EndsInFault order setup old new) → Proceeds (made_of false old.machine) old.machine.store new.machine.store
fault_goes order setup old new done =
    let made = made_of false old.machine in let before = after_steps setup.shape.lines old.machine.store made (goods done.tries) in
    rw done.saved (goes_further made old.machine.store before.store _ (steps_go setup.shape.lines made old.machine.store (goods done.tries)) (failed_goes made before.store before.next))

-- the machine after a loss of mains
pub after_loss : (reply : Loss) (m n : Machine) (mode : Mode) (s : Store) → LosesMains reply m n → n.mode ≡ mode → n.store ≡ s
    → n ≡ record { mode = mode; reading = n.reading; lost = Some reply; life = m.life; cut = m.cut; waits = n.waits; store = s }
after_loss reply m n mode s loses is store = cc
