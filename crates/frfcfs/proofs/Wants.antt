-- What a request wants, and when it may have it.
use Rattle.std.proofs.Common.{◌≡◌, ◌≢◌, ℕ, ◌<◌, ◌≤◌, ◌↔◌, List, Some, None, inl, inr, arith, refl, sym, subst, ap, ◌∙◌}
use Rattle.frfcfs.proofs.Common.{Checked, Command, FitsRows, Geometry, HasBank, IsEligible, IsEnd, IsInGeometry, IsLawful, IsUnhit, Kind, Pending, Place, Read, Stamped, Takes, WantsColumn, WantsRow, Write, act_of, bank_at, column_of, least_clock, open_row, pre_of, rank_of, with_command}
use Rattle.ddr4_timing.proofs.Ready.{lawful_ready, ready_lawful}
use Rattle.frfcfs.proofs.Leads.{rest_in_time}
use Rattle.frfcfs.proofs.Lists.{one_at}

-- a request wants one command of a class

pub one_row : (list : List Stamped) (pending : List Pending) (request : Pending) (a b : Command) → WantsRow list pending request a → WantsRow list pending request b → a ≡ b
one_row list pending request a b x y = grind (arith, x, y)

-- and not one of each
pub no_row : (list : List Stamped) (pending : List Pending) (request : Pending) (cmd : Command) → open_row (bank_at request.place) list ≡ Some request.place.row → ¬ WantsRow list pending request cmd
no_row list pending request cmd row wants = grind (arith, row, wants)

-- the one command of a class that a request wants, which the rows allow
pub record IsWish (Wants : Pending → Command → Type 0) (c : Checked) (list : List Stamped) (request : Pending) (cmd : Command) : Type 0 where
  pub exact : (other : Command) → (Wants request other ↔ (other ≡ cmd))
  pub place : IsInGeometry c.geometry cmd
  pub rows : FitsRows c.geometry list cmd
  pub rank : rank_of cmd ≡ request.place.rank

column_fits : (c : Checked) (list : List Stamped) (request : Pending) (kind : Kind) → open_row (bank_at request.place) list ≡ Some request.place.row →
    FitsRows c.geometry list (column_of kind request.place) × (rank_of (column_of kind request.place) ≡ request.place.rank)
column_fits c list request Read row = (λ none. cc (row, none), refl)
column_fits c list request Write row = (λ none. cc (row, none), refl)

pub wishes_column : (c : Checked) (list : List Stamped) (request : Pending) (cmd : Command) → cmd ≡ column_of request.kind request.place → open_row (bank_at request.place) list ≡ Some request.place.row → IsInGeometry c.geometry cmd → IsWish (WantsColumn list) c list request cmd
wishes_column c list request cmd is row place = record {
  exact = λ other. (λ w. w.1 ∙ sym is, λ e. (row, e ∙ is));
  place = place;
  rows = rw is (column_fits c list request request.kind row).0;
  rank = ap rank_of is ∙ (column_fits c list request request.kind row).1;
}

pub wishes_act : (c : Checked) (list : List Stamped) (pending : List Pending) (request : Pending) (cmd : Command) → cmd ≡ act_of request.place → open_row (bank_at request.place) list ≡ None → IsInGeometry c.geometry cmd → IsWish (WantsRow list pending) c list request cmd
wishes_act c list pending request cmd is row place = record {
  exact = λ other. (λ w. one_row list pending request other cmd w (inl (row, is)), λ e. inl (row, e ∙ is));
  place = place;
  rows = rw is row;
  rank = ap rank_of is;
}

pub wishes_pre : (c : Checked) (list : List Stamped) (pending : List Pending) (request : Pending) (row : ℕ) (cmd : Command) → cmd ≡ pre_of request.place → open_row (bank_at request.place) list ≡ Some row → row ≢ request.place.row →
    IsUnhit list pending (bank_at request.place) → IsInGeometry c.geometry cmd → IsWish (WantsRow list pending) c list request cmd
wishes_pre c list pending request row cmd is opened differs unhit place = record {
  exact = λ other. (λ w. one_row list pending request other cmd w (inr ((row, opened, differs), unhit, is)), λ e. inr ((row, opened, differs), unhit, e ∙ is));
  place = place;
  rows = rw is (λ none. cc (opened, none));
  rank = ap rank_of is;
}

-- it may have it from the command's least clock on and before the rank's end
pub takes_from : (Wants : Pending → Command → Type 0) (c : Checked) (list : List Stamped) (pending : List Pending) (last index least end k : ℕ) (request : Pending) (cmd : Command) →
    IsLawful c list → IsWish Wants c list request cmd → IsEligible pending index request → least ≡ least_clock c.timing list cmd → IsEnd c list request.place.rank last end →
    (Takes Wants c list pending last index k ↔ ((least ≤ k) × (k < end)))
takes_from Wants c list pending last index least end k request cmd lawful wish el is ends = (
  λ h.
      let own = one_at pending index index h.0 request h.3.here el.here refl in
      let same = (wish.exact h.1).0 (subst (λ (r : Pending). Wants r h.1) own h.5) in
      let ready = ready_lawful c list (record { clock = k; cmd = cmd }) (subst (λ (x : Command). IsLawful c (with_command list k x)) same h.4.lawful) in
      (omega (arith, ready.clock, is), (ends k).1 (h.2, rw (← wish.rank) ready.rows.awake, rw (← own) h.4.rests)),
  λ h.
      let span = (ends k).0 h.1 in
      let ready = lawful_ready c list (record { clock = k; cmd = cmd }) lawful (record {
        rows = record { place = wish.place; awake = rw wish.rank span.1; rows = wish.rows };
        clock = omega (arith, is, h.0);
        in_time = rw wish.rank (rest_in_time c list request.place.rank k lawful span.2);
      }) in
      (request, cmd, span.0, el, record { rests = span.2; lawful = ready }, (wish.exact cmd).1 refl),
)

-- a command that is wanted goes to the bank of the request's place

pub column_in : (g : Geometry) (place : Place) (kind : Kind) → (IsInGeometry g (column_of kind place) ↔ (HasBank g (bank_at place) × (place.column < g.columns)))
column_in g place Read = (λ h. h, λ h. h)
column_in g place Write = (λ h. h, λ h. h)

pub column_place : (g : Geometry) (list : List Stamped) (request : Pending) (cmd : Command) → WantsColumn list request cmd → IsInGeometry g cmd → HasBank g (bank_at request.place) × (request.place.column < g.columns)
column_place g list request cmd w h = (column_in g request.place request.kind).0 (subst (λ (x : Command). IsInGeometry g x) w.1 h)

pub row_bank : (g : Geometry) (list : List Stamped) (pending : List Pending) (request : Pending) (cmd : Command) → WantsRow list pending request cmd → IsInGeometry g cmd → HasBank g (bank_at request.place)
row_bank g list pending request cmd (inl w) h = (subst (λ (x : Command). IsInGeometry g x) w.1 h).0
row_bank g list pending request cmd (inr w) h = subst (λ (x : Command). IsInGeometry g x) w.2 h

pub act_row : (g : Geometry) (list : List Stamped) (pending : List Pending) (request : Pending) (cmd : Command) → open_row (bank_at request.place) list ≡ None → WantsRow list pending request cmd → IsInGeometry g cmd → request.place.row < g.rows
act_row g list pending request cmd closed (inl w) h = (subst (λ (x : Command). IsInGeometry g x) w.1 h).1
act_row g list pending request cmd closed (inr w) h = let e : None ≡ Some w.0.0 = sym closed ∙ w.0.1 in absurd cc
