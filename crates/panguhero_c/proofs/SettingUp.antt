-- What a life was opened over.
use Rattle.std.proofs.Common.{◌≡◌, ◌∙◌, ℕ, List, ap, sym, subst}
use Rattle.channel_port.specs.declared.port.ChannelPort.{Ghosts}
use Rattle.ddr4_timing.specs.Limits.{lines_of}
use Rattle.energy_budget.specs.Costs.{AreReckonedFor}
use Rattle.energy_budget.specs.Meter.{level_of}
use Rattle.interleave_map.specs.declared.ready.ReadyMap.{ReadyMap}
use Rattle.module_core.specs.Stands.{setup_of}
use Rattle.nv_machine.specs.State.{Setup}
use Rattle.nv_profile.specs.declared.profile.Profile.{Profile}
use Rattle.nv_profile.specs.Profile.{IsProfileText}
use Rattle.save_device.specs.declared.device.SaveDevice as device
use Rattle.open_life.specs.declared.life.OpenLife.{OpenLife}
use Rattle.open_life.specs.declared.opening.Found as found
use Rattle.open_life.specs.declared.opening.Found.TheVariants as founds
use Rattle.open_life.specs.Begins.{Begins, BeginsNew}
use Rattle.open_life.specs.Now.{now_of}
use Rattle.reply_codes.specs.declared.codes.Told.{Told}
use Rattle.panguhero_c.specs.Calls.{IsOfText, OpensNew, OpensStore}
use Rattle.reply_codes.specs.Codes.{found_told}
use Rattle.panguhero_c.specs.Wiring.{IsSetUpFor, WiredProfile, wired_shape}

-- a setup over what was wired to a profile
set_up : (profile : Profile) (wired : WiredProfile) (setup : Setup) → wired.profile ≡ profile → wired.map ≡ record { interleaving = profile.map; checked = profile.checked }
    → AreReckonedFor profile.checked wired.costs → setup ≡ record { shape = wired_shape wired profile.map; trail = profile.sizes.trail } → IsSetUpFor profile setup
set_up profile wired setup same map reckoned is = record {
  costs = wired.costs;
  reckoned = reckoned;
  is = is ∙ ap (λ (w : WiredProfile). record { shape = wired_shape w profile.map; trail = profile.sizes.trail }) wired_is;
}
  where
    wired_is : wired ≡ record { map = record { interleaving = profile.map; checked = profile.checked }; profile = profile; costs = wired.costs }
    wired_is =
        ap (λ (m : ReadyMap). record { map = m; profile = wired.profile; costs = wired.costs }) map
        ∙ ap (λ (p : Profile). record { map = record { interleaving = profile.map; checked = profile.checked }; profile = p; costs = wired.costs }) same

module _ {K D : Type 0} {L : Ghosts K} {S : device.Ghosts D} (text : List ℕ) (profile : Profile) (wired : WiredProfile) (life : OpenLife K D L S) where
  -- a life over what was wired to the profile of a text
  pub of_text : life.profile ≡ profile → IsProfileText text profile → wired.profile ≡ profile → wired.map ≡ record { interleaving = profile.map; checked = profile.checked }
      → AreReckonedFor profile.checked wired.costs → setup_of L life.running ≡ record { shape = wired_shape wired profile.map; trail = profile.sizes.trail } → level_of life.gauge ≡ 0 → IsOfText text life
  of_text same is wired_same map reckoned setup level = record {
    profile = subst (λ (p : Profile). IsProfileText text p) (sym same) is;
    setup = subst (λ (p : Profile). IsSetUpFor p (setup_of L life.running)) (sym same) (set_up profile wired (setup_of L life.running) wired_same map reckoned setup);
    level = level;
  }

  pub opens_new : IsOfText text life → life.profile ≡ profile → BeginsNew L (lines_of profile.checked.geometry) (now_of life) → OpensNew text life
  opens_new of same begins = record { of = of; begins = subst (λ (p : Profile). BeginsNew L (lines_of p.checked.geometry) (now_of life)) (sym same) begins }

  pub opens_store : (bytes : List ℕ) (format : ℕ) (answered : Told) (held : found.Found) → IsOfText text life → life.profile ≡ profile → answered ≡ found_told held → (held ≡ founds.Formatted → format ≡ 1)
      → Begins L (lines_of profile.checked.geometry) held bytes (now_of life) → OpensStore text bytes format answered life
  opens_store bytes format answered held of same told asked begins = record {
    of = of;
    held = held;
    told_is = told;
    asked = asked;
    begins = subst (λ (p : Profile). Begins L (lines_of p.checked.geometry) held bytes (now_of life)) (sym same) begins;
  }
