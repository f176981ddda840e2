-- The calls of an opening.
use Rattle.std.proofs.Common.{◌≡◌, ℕ, Result, Ok, Err, refl, subst, sym}
use Rattle.std.specs.Prelude.{IfOk}
use Rattle.save_device.specs.Device.{DeviceState}
use Rattle.save_device.specs.declared.device.SaveDevice as device
use Rattle.channel_port.specs.declared.port.ChannelPort.{Ghosts}
use Rattle.slot_store.specs.Told.{CallsOfRestore}
use Rattle.slot_store.specs.declared.restoring.Restored.{Restored}
use Rattle.open_life.specs.Begins.{HadOpeningCalls}
use Rattle.open_life.specs.declared.opening.Found.{Found}
use Rattle.open_life.specs.declared.opening.Found.TheVariants as founds
use Rattle.open_life.specs.declared.opening.Opened.{Opened}
use Rattle.open_life.specs.declared.opening.OpenFault.{OpenFault}

module _ {K D : Type 0} (L : Ghosts K) (S : device.Ghosts D) where
  -- a life that begins with what was restored had the calls of that restore
  pub restored_calls : (result : Result (Opened K D L S) OpenFault) (n lines : ℕ) (it : Restored) (old : DeviceState) (device : D) → n ≡ lines
      → IfOk result (λ opened. opened.found ≡ founds.Restored it.head) → IfOk result (λ opened. opened.life.device ≡ device)
      → CallsOfRestore n (Ok it) old (S.state device)
      → IfOk result (λ opened. HadOpeningCalls lines opened.found old (S.state opened.life.device))
  restored_calls (Ok opened) n lines it old device same found is calls =
      let on_it : CallsOfRestore n (Ok it) old (S.state opened.life.device) = subst (λ (d : D). CallsOfRestore n (Ok it) old (S.state d)) (sym is) calls in
      subst (λ (found : Found). HadOpeningCalls lines found old (S.state opened.life.device)) (sym found)
      (it, refl, subst (λ (n : ℕ). CallsOfRestore n (Ok it) old (S.state opened.life.device)) same on_it)
  restored_calls (Err why) n lines it old device same found is calls = tt
