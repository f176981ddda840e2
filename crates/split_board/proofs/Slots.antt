-- The slot of a channel as a board begins.
use Rattle.std.proofs.Common.{◌≡◌, ◌∙◌, ◌<◌, ℕ, suc, zero, Bool, List, [], ◌∷◌, ◌++◌, length, slice_get, Some, ap, arith, refl, subst, sym}
use Rattle.std.proofs.Math.Logic.{∥∥₁_elim, ∥∥₁_map, ∥∥₁_prop}
use Rattle.channel_log.specs.Log.{LogNote, credits_of, log_tells}
use Rattle.channel_log.specs.Seats.{OneLog}
use Rattle.channel_port.specs.declared.port.ChannelPort.{Ghosts}
use Rattle.channel_locks.specs.declared.part.Part.{Part}
use Rattle.channel_locks.specs.Stands.{PartStands, PortStands}
use Rattle.channel_locks.specs.declared.parts_name.PartsName.{Ghosts as PartsGhosts}
use Rattle.channel_locks.specs.PortMakes.{make_of}
use Rattle.channel_locks.specs.Slots.{IsPartWhereDue}
use Rattle.split_board.specs.FirstLogs.{AreFirstSlots, IsFirstPort}

-- a list of no length
pub emptied : {X : Type 0} (xs : List X) → length xs ≡ 0 → xs ≡ []
emptied [] none = refl
emptied (x ∷ xs) none = absurd (omega (arith, none))

-- the last element of a list, and those before it
pub last_got : {X : Type 0} (xs : List X) (x : X) (i : ℕ) → length xs ≡ i → slice_get (xs ++ x ∷ []) i ≡ Some x
last_got [] x zero is = refl
last_got [] x (suc i) is = absurd (omega (arith, is))
last_got (y ∷ xs) x zero is = absurd (omega (arith, is))
last_got (y ∷ xs) x (suc i) is = last_got xs x i (omega (arith, is))

pub front_got : {X : Type 0} (xs : List X) (x : X) (i : ℕ) (y : X) → slice_get xs i ≡ Some y → slice_get (xs ++ x ∷ []) i ≡ Some y
front_got [] x i y is = absurd (grind (arith, is))
front_got (z ∷ xs) x zero y is = is
front_got (z ∷ xs) x (suc i) y is = front_got xs x i y is

module _ {K B : Type 0} (L : Ghosts K) (P : PartsGhosts B) (ended : Bool) where
  -- the last seat, and those that are left when it is gone
  module _ (ports : List K) (seats rest : List OneLog) (seat : OneLog) (first : AreFirstSlots L P ended ports seats) (is : seats ≡ rest ++ seat ∷ []) where
    pub seat_last : (channel : ℕ) → length rest ≡ channel → slice_get seats channel ≡ Some seat
    seat_last channel left = ap (λ (items : List OneLog). slice_get items channel) is ∙ last_got rest seat channel left

    pub seat_gone : AreFirstSlots L P ended ports rest
    seat_gone =
        let all : AreFirstSlots L P ended ports (rest ++ seat ∷ []) = subst (AreFirstSlots L P ended ports) is first in
        record {
          seats_are = λ channel it at. all.seats_are channel it (front_got rest seat channel it at);
          ports_are = λ channel it port at there. all.ports_are channel it port (front_got rest seat channel it at) there;
        }

  -- the same of the last port
  module _ (ports rest : List K) (port : K) (seats : List OneLog) (first : AreFirstSlots L P ended ports seats) (is : ports ≡ rest ++ port ∷ []) where
    pub port_last : (channel : ℕ) → length rest ≡ channel → slice_get ports channel ≡ Some port
    port_last channel left = ap (λ (items : List K). slice_get items channel) is ∙ last_got rest port channel left

    pub port_gone : AreFirstSlots L P ended rest seats
    port_gone =
        let all : AreFirstSlots L P ended (rest ++ port ∷ []) seats = subst (λ (items : List K). AreFirstSlots L P ended items seats) is first in
        record {
          seats_are = all.seats_are;
          ports_are = λ channel it each at there. all.ports_are channel it each at (front_got rest port channel each there);
        }

  -- the part of a channel stands for its log
  pub first_part : (part : Part K L) (channel : ℕ) (log : List LogNote) (port : K) → IsFirstPort L P ended channel (log_tells log) port → part.port ≡ port → channel < P.ports
      → ((base : List (List ℕ)) (log : List LogNote) → PortStands L port channel base (log_tells log) → credits_of log ≡ length (L.view port).waits.writes → ended ≡ (log_tells log).ended → PartStands L part channel base log)
      → ∥ IsPartWhereDue L P (Some part) channel log ∥₁
  first_part part channel log port first is known stands = ∥∥₁_elim first.reads ∥∥₁_prop (λ reads. ∥∥₁_map first.stands (λ it. (
    known,
    record {
      stands = stands P.base log it (ap (λ w. length w.writes) first.waits) (sym first.ends);
      made = ap (λ (p : K). make_of (L.view p)) is ∙ first.made;
      reads = reads;
    },
  )))
