-- A rank that has its time offers its REF, or the PREA before it, at each clock from now that allows it.
use Rattle.std.proofs.Common.{ℕ, ◌+◌, ◌*◌, ◌≤◌, ◌<◌, ◌≡◌, ◌⊎◌, List, IsTrue, inl, inr, arith, refl, max}
use Rattle.frfcfs.proofs.Common.{AllClosed, Checked, Command, HasTime, IsLawful, KeepsRows, OffersRank, PreAll, Ref, Stamped, close_clock, floor, is_asleep, last_clock, last_ref, lead_clock, least_clock, rank_of, ref_count, refresh_clock}
use Rattle.ddr4_timing.proofs.Ready.{lawful_ready}
use Rattle.frfcfs.proofs.Leads.{lead_at}
use Rattle.frfcfs.proofs.refreshes.IntervalFits.{fits}
use Rattle.frfcfs.proofs.refreshes.RefreshCounts.{commands_before-lt}
use Rattle.frfcfs.proofs.refreshes.RowsClosed.{closed_or}

-- a rank of the geometry that is awake and has its time
pub record IsUp (c : Checked) (list : List Stamped) (rank : ℕ) : Type 0 where
  pub lawful : IsLawful c list
  pub within : rank < c.geometry.ranks
  pub awake : ¬ IsTrue (is_asleep rank list)
  pub time : HasTime c list (last_clock list) rank

-- it is refreshed before the ninth interval begins
pub refresh-lt : (c : Checked) (list : List Stamped) (rank : ℕ) → rank < c.geometry.ranks → refresh_clock c list rank < (ref_count rank list + 9) * c.timing.t_refi
refresh-lt c list rank l = omega (arith, (fits c).row, commands_before-lt c list rank l)

-- the command that its refresh needs next, and the last clock that there is for it
pub record IsDue (c : Checked) (list : List Stamped) (rank last : ℕ) (x : Command) : Type 0 where
  pub offers : (k : ℕ) → floor c.timing list x ≤ k → lead_clock c.timing list rank ≤ k → k ≤ last → OffersRank c list k rank x
  pub ready : floor c.timing list x ≤ last
  pub next : last_clock list + 1 ≤ last
  pub close : close_clock c list rank ≤ last
  pub refresh : last ≤ refresh_clock c list rank

offers : (c : Checked) (list : List Stamped) (rank k : ℕ) (x : Command) → IsUp c list rank → (x ≡ Ref rank) ⊎ (x ≡ PreAll rank) → KeepsRows c.geometry list x → least_clock c.timing list x ≤ k → k ≤ last_ref (rank_of x) list + 9 * c.timing.t_refi →
    lead_clock c.timing list rank ≤ k → OffersRank c list k rank x
offers c list rank k x u kind rows least until lead = record {
  within = u.within;
  lead = (lead_at c list rank k _ refl).1 lead;
  kind = kind;
  lawful = lawful_ready c list (record { clock = k; cmd = x }) u.lawful (record { rows = rows; clock = least; in_time = until });
}

pub ref_due : (c : Checked) (list : List Stamped) (rank : ℕ) → IsUp c list rank → AllClosed c.geometry rank list → IsDue c list rank (refresh_clock c list rank) (Ref rank)
unfolding least_clock
ref_due c list rank u closed = record {
  offers = λ k f l h. offers c list rank k (Ref rank) u (inl refl) (record { place = u.within; awake = u.awake; rows = closed }) (omega (arith, f, l)) (omega (arith, u.time.refreshed, refresh-lt c list rank u.within, h)) l;
  ready = u.time.refresh;
  next = u.time.next;
  close = omega arith;
  refresh = omega arith;
}

pub close_due : (c : Checked) (list : List Stamped) (rank : ℕ) → IsUp c list rank → (¬ AllClosed c.geometry rank list) → IsDue c list rank (close_clock c list rank) (PreAll rank)
unfolding least_clock
close_due c list rank u some = record {
  offers = λ k f l h. offers c list rank k (PreAll rank) u (inr refl) (record { place = u.within; awake = u.awake; rows = some }) (omega (arith, f)) (omega (arith, u.time.refreshed, refresh-lt c list rank u.within, h)) l;
  ready = omega (arith, u.time.close, u.time.opened some);
  next = u.time.opened some;
  close = omega arith;
  refresh = omega arith;
}

pub due : (c : Checked) (list : List Stamped) (rank : ℕ) → IsUp c list rank → (last : ℕ) × (x : Command) × IsDue c list rank last x
due c list rank u = elim (closed_or c.geometry rank list) [
  | inl closed ↦ (refresh_clock c list rank, Ref rank, ref_due c list rank u closed)
  | inr some ↦ (close_clock c list rank, PreAll rank, close_due c list rank u some)
]

-- the first clock at which it goes
pub first_offer : (c : Checked) (list : List Stamped) (rank last : ℕ) (x : Command) → IsDue c list rank last x → (k : ℕ) × (last_clock list ≤ k) × (k ≤ last) × OffersRank c list k rank x
first_offer c list rank last x d =
    let k = max (last_clock list) (max (floor c.timing list x) (lead_clock c.timing list rank)) in
    let until : k ≤ last = omega (arith, d.ready, d.next, d.close) in
    (k, omega arith, until, d.offers k (omega arith) (omega arith) until)
