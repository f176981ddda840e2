-- Behind a loss of mains: the life that it leaves, and what its drains leave of the channels.
use Rattle.std.proofs.Common.{List, ap, length, refl, subst, sym, ◌≡◌}
use Rattle.arm_state.specs.declared.loss.Loss.{Loss}
use Rattle.channel_port.specs.Draining.{DrainOrder}
use Rattle.channel_port.specs.declared.port.ChannelPort.{Ghosts}
use Rattle.channel_set.specs.declared.set.ChannelSet.{ChannelSet}
use Rattle.module_core.specs.Draining.{AreDrainedFrom, WhereDrained}
use Rattle.nv_machine.specs.Losses.{LoseStep}
use Rattle.nv_machine.specs.State.{Machine, Setup, World}
use Rattle.worker_turns.specs.Waiting.{AreAwaited}
use Rattle.worker_turns.specs.declared.Gate.{Ghosts as GateGhosts}
use Rattle.board_desk.specs.Losing.{DrainsBehind}

-- the life stays as it was
pub life_lost : (order : DrainOrder) (setup : Setup) (lost : Loss) (old new : World) → LoseStep order setup lost old new → new.machine.life ≡ old.machine.life
life_lost order setup Loss.Closed old new done = ap (λ (w : World). w.machine.life) done.1
life_lost order setup Loss.Unsaved old new done = ap (λ (w : World). w.machine.life) done.1
life_lost order setup (Loss.Saved generation count) old new done = ap (λ (m : Machine). m.life) done.closes.rest
life_lost order setup Loss.Dark old new done = ap (λ (m : Machine). m.life) done.closes.rest
life_lost order setup Loss.Fault old new done = ap (λ (m : Machine). m.life) done.closes.rest

-- where all drains were paid for
where_both : {P Q R : Type 0} (lost : Loss) → (P → Q → R) → WhereDrained lost P → WhereDrained lost Q → WhereDrained lost R
where_both (Loss.Saved generation count) both p q = both p q
where_both Loss.Fault both p q = both p q
where_both Loss.Dark both p q = tt
where_both Loss.Unsaved both p q = tt
where_both Loss.Closed both p q = tt

module _ {K G : Type 0} (L : Ghosts K) (H : GateGhosts G) (gate : G) where
  pub drains_behind : (lost : Loss) (before after : ChannelSet K L) → WhereDrained lost (AreAwaited H gate 0 (length before.ports.items)) → WhereDrained lost (AreDrainedFrom L before after)
      → WhereDrained lost (DrainsBehind L H gate before.ports.items after.ports.items)
  drains_behind lost before after asked drained =
      where_both lost (λ a d. record { asked = a; drained = record { before = before; after = after; old_are = refl; new_are = refl; drained = d } }) asked drained

  -- the same loss and the same ports by other names
  pub drains_same : (told lost : Loss) → told ≡ lost → (old new before after : List K) → before ≡ old → after ≡ new → WhereDrained lost (DrainsBehind L H gate before after) → WhereDrained told (DrainsBehind L H gate old new)
  drains_same told lost is old new before after old_are new_are drains =
      subst (λ (x : Loss). WhereDrained x (DrainsBehind L H gate old new)) (sym is)
      (subst (λ (xs : List K). WhereDrained lost (DrainsBehind L H gate old xs)) new_are (subst (λ (xs : List K). WhereDrained lost (DrainsBehind L H gate xs after)) old_are drains))
