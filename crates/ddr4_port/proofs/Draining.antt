-- The drain of a channel, as its port.
use Rattle.std.proofs.Common.{◌≡◌, ◌+◌, ℕ, zero, suc, List, [], ◌∷◌, length, take, refl, sym, ap, subst, ◌∙◌, arith}
use Rattle.std.proofs.Math.Numerals.{add-one}
use Rattle.std.proofs.Math.Seq.{drop-length, take-length}
use Rattle.ddr4_port.proofs.Common.{Carries, ChannelState, Costs, Err, HasRightContents, KeepsCarried, Ok, PendingWrite}
use Rattle.ddr4_port.proofs.Common.{OnOk, Place, Result, drained_port, port_state, drop-map, length-append, length-map, waiting_on, waits_of}
use Rattle.energy_budget.specs.declared.energy.Dark.{Dark}
use Rattle.energy_budget.specs.declared.energy.GaugeCall.TheVariants.{Pay}
use Rattle.energy_budget.specs.Actions.{drain_actions}
use Rattle.energy_budget.specs.Gauge.{Gauge}
use Rattle.wpq_core.specs.PendingMemory.{after_pending}
use Rattle.channel_port.specs.Draining.{HasPaid, Paid, PaysInTurn, TakesPaid, TakesWrites, entries_in}
use Rattle.channel_port.specs.declared.stage.Stage.{Stage}
use Rattle.channel_port.specs.declared.stage.Stage.TheVariants.{Drained}
use Rattle.channel_port.proofs.Entries.{drain-length, entries-paid}
use Rattle.drain_core.specs.declared.report.DrainReport.{DrainReport}
use Rattle.drain_core.specs.Paying.{AsksForActions, DrainsAsGranted, DrainsForPayment, GrantsActions, PaysAction}
use Rattle.drain_core.specs.Steps.{drained}
use Rattle.ddr4_port.proofs.Paying.{asked-paid, paid_by}
use Rattle.ddr4_port.proofs.Seen.{carries-seen, places_of}
use Rattle.ddr4_port.proofs.Working.{drains, took}

-- a drain takes as many of the oldest writes as entries were granted
record TakesSome (granted : ℕ) (s t : ChannelState) : Type 0 where
  gone : ℕ
  entries : entries_in (take granted (drain_actions (length s.writes))) ≡ gone
  same : t ≡ took gone s t
  lost : s.tickets ≡ [] → t.tickets ≡ []

drained-took : (s : ChannelState) → drained s ≡ took (length s.writes) s (drained s)
drained-took s =
    ap (λ (ws : List PendingWrite). record (drained s) { array = after_pending s.array ws }) (sym (take-length s.writes))
    ∙ ap (λ (ws : List PendingWrite). record (drained s) { array = after_pending s.array (take (length s.writes) s.writes); writes = ws }) (sym (drop-length s.writes))

takes-some : (costs : Costs) (granted : ℕ) (result : Result DrainReport Dark) (s t : ChannelState) (old new : Gauge) → AsksForActions (PaysAction costs) (length s.writes + 1) granted result old new → DrainsAsGranted granted result s t
    → TakesSome granted s t
takes-some costs granted (Ok report) s t old new asks is = record {
  gone = length s.writes;
  entries = ap (λ n. entries_in (take n (drain_actions (length s.writes)))) (asks.0 ∙ add-one (length s.writes)) ∙ entries-paid (length s.writes) (length s.writes) (omega arith);
  same = is ∙ drained-took s ∙ ap (took (length s.writes) s) (sym is);
  lost = λ none. ap (λ (x : ChannelState). x.tickets) is;
}
takes-some costs zero (Err dark) s t old new asks is = record { gone = 0; entries = refl; same = is ∙ ap (took 0 s) (sym is); lost = λ none. ap (λ (x : ChannelState). x.tickets) is ∙ none }
takes-some costs (suc count) (Err dark) s t old new asks (takes, commands) = record {
  gone = count;
  entries = entries-paid count (length s.writes) (omega (arith, asks.2));
  same = takes.same;
  lost = takes.lost;
}

-- the calls of the gauge that granted actions are
granted-calls : (costs : Costs) (granted : ℕ) (old new : Gauge) → GrantsActions (PaysAction costs) granted old new → length new.calls ≡ length old.calls + granted
granted-calls costs zero old new is = omega (arith, ap (λ (g : Gauge). length g.calls) is)
granted-calls costs (suc n) old new (mid, grants, pays) = omega (arith, granted-calls costs n old mid grants, ap length pays.called, length-append mid.calls (Pay ∷ []))

counts-granted : (costs : Costs) (all granted : ℕ) (result : Result DrainReport Dark) (old new : Gauge) → AsksForActions (PaysAction costs) (all + 1) granted result old new → HasPaid granted (drain_actions all) old (paid_by result) new
counts-granted costs all granted (Ok report) old new asks = omega (arith, asks.0, drain-length all)
counts-granted costs all granted (Err dark) old new (mid, grants, less, refused) = omega (arith, granted-calls costs granted old mid grants, ap length refused.called, length-append mid.calls (Pay ∷ []))

module _ (costs : Costs) (result : Result DrainReport Dark) (s t : ChannelState) (old new : Gauge) (did : DrainsForPayment (PaysAction costs) result s t old new) where
  some : TakesSome did.granted s t
  some = takes-some costs did.granted result s t old new did.asks did.drains

  pub drain-checked : t.checked ≡ s.checked
  drain-checked = ap (λ (x : ChannelState). x.checked) some.same

  pub drain-lost : s.tickets ≡ [] → t.tickets ≡ []
  drain-lost = some.lost

  pub drain-pays : (paid : Paid) → paid ≡ paid_by result → PaysInTurn costs (drain_actions (length (waits_of s).writes)) old paid new
  drain-pays paid is =
      subst (λ p. PaysInTurn costs (drain_actions (length (waits_of s).writes)) old p new) (sym is)
      (subst (λ n. PaysInTurn costs (drain_actions n) old (paid_by result) new) (sym (length-map s.writes (waiting_on s.channel))) (asked-paid costs (length s.writes) did.granted result old new did.asks))

  takes-oldest : s.tickets ≡ [] → TakesWrites some.gone (waits_of s) (waits_of t)
  takes-oldest none = record {
    writes = ap (λ (x : ChannelState). (waits_of x).writes) some.same ∙ sym (drop-map (waiting_on s.channel) some.gone s.writes);
    reads = reads-none t (some.lost none) ∙ sym (reads-none s none);
    given = ap (λ (x : ChannelState). (waits_of x).given) some.same;
  }
    where
      reads-none : (x : ChannelState) → x.tickets ≡ [] → (waits_of x).reads ≡ []
      reads-none x empty = ap (λ ts. (waits_of (record x { tickets = ts })).reads) empty

  pub drain-takes : s.tickets ≡ [] → (paid : Paid) → paid ≡ paid_by result → TakesPaid (drain_actions (length (waits_of s).writes)) (waits_of s) old paid (waits_of t) new
  drain-takes none paid is =
      let count : length (waits_of s).writes ≡ length s.writes = length-map s.writes (waiting_on s.channel) in
      subst (λ p. TakesPaid (drain_actions (length (waits_of s).writes)) (waits_of s) old p (waits_of t) new) (sym is)
      (subst (λ n. TakesPaid (drain_actions n) (waits_of s) old (paid_by result) (waits_of t) new) (sym count) (record {
        paid = did.granted;
        counts = counts-granted costs (length s.writes) did.granted result old new did.asks;
        takes = subst (λ n. TakesWrites n (waits_of s) (waits_of t)) (sym some.entries) (takes-oldest none);
      }))

  -- where all was paid for it is as its drain leaves it
  pub drain-left : (f : ℕ → Place) (stage : Stage) (paid : Paid) → paid ≡ paid_by result → OnOk paid (port_state f Drained t ≡ drained_port (port_state f stage s))
  drain-left f stage paid is = subst (λ p. OnOk p (port_state f Drained t ≡ drained_port (port_state f stage s))) (sym is) (by_result result did.drains)
    where
      by_result : (r : Result DrainReport Dark) → DrainsAsGranted did.granted r s t → OnOk (paid_by r) (port_state f Drained t ≡ drained_port (port_state f stage s))
      by_result (Ok report) left = ap (port_state f Drained) left
      by_result (Err dark) left = tt

  pub drain-keeps : (f : ℕ → Place) → HasRightContents s → KeepsCarried (Carries (places_of f s) s) (Carries (places_of f t) t)
  drain-keeps f contents = carries-seen f s t drain-checked (drains (places_of f s) s t some.gone contents some.same)

-- A drain that was paid for before.
module _ (s t : ChannelState) (left : t ≡ drained s) where
  pub paid-checked : t.checked ≡ s.checked
  paid-checked = ap (λ (x : ChannelState). x.checked) left

  pub paid-keeps : (f : ℕ → Place) → HasRightContents s → KeepsCarried (Carries (places_of f s) s) (Carries (places_of f t) t)
  paid-keeps f contents =
      carries-seen f s t paid-checked
      (drains (places_of f s) s t (length s.writes) contents (left ∙ drained-took s ∙ ap (took (length s.writes) s) (sym left)))
