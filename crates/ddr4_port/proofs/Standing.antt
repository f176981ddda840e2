-- What is always true of a port is true after each of its calls.
use Rattle.std.proofs.Common.{◌≡◌, ℕ, ◌+◌, ◌^◌, ◌<◌, map, [], ap, subst, sym, ◌∙◌}
use Rattle.ddr4_port.proofs.Common.{Carries, ChannelState, Checked, Done, Geometry, HasMap, HasNothingToSend, IfNone}
use Rattle.ddr4_port.proofs.Common.{IfSome, IsAtStage, IsChannel, IsInterleaving, IsRightPort, IssuesChoice}
use Rattle.ddr4_port.proofs.Common.{KeepsCarried, LosesReads, Option, Place, listed_place, places_by, port_state}
use Rattle.ddr4_port.proofs.Common.{with_hold}
use Rattle.frfcfs.specs.Margin.{last_clock}
use Rattle.frfcfs.specs.Queue.{held_by}
use Rattle.channel_port.specs.declared.stage.Stage.{Stage}
use Rattle.channel_port.specs.declared.stage.Stage.TheVariants.{Drained, OnBackup, OnMains}
use Rattle.chan_core.specs.declared.phase.Phase.TheVariants.{Stepping}
use Rattle.drain_core.specs.Standing.{CanDrain}
use Rattle.ddr4_port.proofs.EarlyClocks.{may-drain, work-early}
use Rattle.ddr4_port.proofs.Keeping.{unseen}
use Rattle.ddr4_port.proofs.Seen.{carries-seen, places_of}

-- a port with its map
abbrev pub IsPort : Type 0 → Geometry → (ℕ → Place) → Stage → ChannelState → Type 0
IsPort lawful of_map f stage s = HasMap lawful of_map s.checked.geometry × IsRightPort (port_state f stage s)

module _ (lawful : Type 0) (of_map : Geometry) (f : ℕ → Place) (s t : ChannelState) (checked : t.checked ≡ s.checked) (is : IsChannel t) where
  right-then : (old new : Stage) → IsPort lawful of_map f old s → IsAtStage new t → IsPort lawful of_map f new t
  right-then old new right staged = (
    subst (λ (c : Checked). HasMap lawful of_map c.geometry) (sym checked) right.0,
    record {
      channel = is;
      places = subst (λ (c : Checked). IsInterleaving c.geometry (listed_place (places_by f c.geometry))) (sym checked) right.1.places;
      staged = staged;
    },
  )

  -- only what waits changes, and which of it is held back
  pub right-kept : (stage : Stage) → t.phase ≡ s.phase → t.commands ≡ s.commands → t.tickets ≡ s.tickets → IsPort lawful of_map f stage s → IsPort lawful of_map f stage t
  right-kept stage phase commands tickets right = right-then stage stage right (record {
    mains = λ on. let runs = right.1.staged.mains on in record { running = phase ∙ runs.running; early = subst (λ cs. last_clock cs < 2 ^ 62 + 2 ^ 24) (sym commands) runs.early };
    backup = λ on. let awaits = right.1.staged.backup on in record {
      stepping = phase ∙ awaits.stepping;
      can = subst (CanDrain t.checked) (sym commands) (subst (λ (c : Checked). CanDrain c s.commands) (sym checked) awaits.can);
    };
    lost = λ off. tickets ∙ right.1.staged.lost off;
  })

  -- it issues a command, or none
  pub right-worked : (stage : Stage) (result : Option Done) → stage ≡ OnMains → IsPort lawful of_map f stage s → IfSome result (λ done. ¬ HasNothingToSend s) → IfNone result (t ≡ s) → IfSome result (λ done. IssuesChoice s done t)
      → IsPort lawful of_map f stage t
  right-worked stage result mains right sends stays issues = right-then stage stage right (record {
    mains = λ on. work-early s t result right.1.channel is sends stays issues (right.1.staged.mains on);
    backup = λ on. let both : OnMains ≡ OnBackup = sym mains ∙ on in absurd cc;
    lost = λ off. absurd (off mains);
  })

  -- backup begins
  pub right-lost : (stage : Stage) → stage ≡ OnMains → IsPort lawful of_map f stage s → LosesReads (record s { phase = Stepping }) t → IsPort lawful of_map f OnBackup t
  right-lost stage mains right loses = right-then stage OnBackup right (record {
    mains = λ on. absurd cc;
    backup = λ on. record {
      stepping = ap (λ (x : ChannelState). x.phase) loses.same;
      can = subst (λ (x : ChannelState). CanDrain x.checked x.commands) (sym loses.same) (may-drain s right.1.channel (right.1.staged.mains mains));
    };
    lost = λ off. ap (λ (x : ChannelState). x.tickets) loses.same;
  })

  -- it was drained
  pub right-drained : (stage : Stage) → IsPort lawful of_map f stage s → t.tickets ≡ [] → IsPort lawful of_map f Drained t
  right-drained stage right lost = right-then stage Drained right (record { mains = λ on. absurd cc; backup = λ on. absurd cc; lost = λ off. lost })

-- from backup on no read is open
pub lost-on-backup : (stage : Stage) (s : ChannelState) → IsAtStage stage s → stage ≡ OnBackup → s.tickets ≡ []
lost-on-backup stage s at backup = at.lost (λ on. let both : OnMains ≡ OnBackup = sym on ∙ backup in cc)

-- What a port carries through calls that leave its lines and its pending writes.
pub hold-keeps : (f : ℕ → Place) (s t : ChannelState) (hold : Option ℕ) → t ≡ with_hold s hold → KeepsCarried (Carries (places_of f s) s) (Carries (places_of f t) t)
hold-keeps f s t hold is =
    carries-seen f s t (ap (λ (x : ChannelState). x.checked) is) (λ base mine c.
    subst (λ x. Carries (places_of f s) x base mine) (sym is) (unseen (places_of f s) s s.tickets s.serial (map (held_by hold) s.requests) hold s.phase base mine c))

pub lost-keeps : (f : ℕ → Place) (s t : ChannelState) → LosesReads (record s { phase = Stepping }) t → KeepsCarried (Carries (places_of f s) s) (Carries (places_of f t) t)
lost-keeps f s t loses =
    carries-seen f s t (ap (λ (x : ChannelState). x.checked) loses.same) (λ base mine c.
    subst (λ x. Carries (places_of f s) x base mine) (sym loses.same) (unseen (places_of f s) s [] s.serial t.requests s.hold Stepping base mine c))
