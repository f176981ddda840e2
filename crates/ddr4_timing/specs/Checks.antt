-- What the check of a profile finds.
use Rattle.std.specs.Prelude.{◌≡◌}
use Rattle.ddr4_timing.specs.declared.timing.Timing.{Timing}
use Rattle.ddr4_timing.specs.declared.timing.Geometry.{Geometry}
use Rattle.ddr4_timing.specs.declared.timing.Checked.{Checked}
use Rattle.ddr4_timing.specs.declared.timing.CommandRules.{CommandRules}
use Rattle.ddr4_timing.specs.Limits.{AreInLimits, IsCommandGeometry, IsGeometry, FitsEntry, FitsFaw, Passes}

-- c is this profile, and it passes
abbrev pub IsCheckedOf : Timing → Geometry → Checked → Type 0
IsCheckedOf t g c = (c.timing ≡ t) × (c.geometry ≡ g) × Passes t g

-- commands may be checked by these numbers
abbrev pub PassesForCommands : Timing → Geometry → Type 0
PassesForCommands t g = AreInLimits t × IsCommandGeometry g

-- r are these numbers, and they pass
abbrev pub AreRulesOf : Timing → Geometry → CommandRules → Type 0
AreRulesOf t g r = (r.timing ≡ t) × (r.geometry ≡ g) × PassesForCommands t g

-- the timing numbers pass, and the geometry doesn't
abbrev pub FailsCommandGeometry : Timing → Geometry → Type 0
FailsCommandGeometry t g = AreInLimits t × ¬ IsCommandGeometry g

-- The first check that fails is that of the geometry,
abbrev pub FailsGeometry : Timing → Geometry → Type 0
FailsGeometry t g = AreInLimits t × ¬ IsGeometry g

-- that of a drain's entry and close step,
abbrev pub FailsEntry : Timing → Geometry → Type 0
FailsEntry t g = AreInLimits t × IsGeometry g × ¬ FitsEntry t g

-- or that of the window and the gaps.
abbrev pub FailsFaw : Timing → Geometry → Type 0
FailsFaw t g = AreInLimits t × IsGeometry g × FitsEntry t g × ¬ FitsFaw t
