-- Where a drain may begin, where it stands between its steps, and what they come to.
use Rattle.std.specs.Prelude.{◌≡◌, ℕ, ◌+◌, ◌-◌, ◌*◌, ◌^◌, ◌<◌, ◌≤◌, max, List}
use Rattle.ddr4_timing.specs.declared.command.Stamped.{Stamped}
use Rattle.ddr4_timing.specs.declared.timing.Checked.{Checked}
use Rattle.ddr4_timing.specs.Lawful.{AllClosed, IsLawful, last_ref}
use Rattle.ddr4_timing.specs.Limits.{entry_of, close_of}
use Rattle.frfcfs.specs.Margin.{AreAsleep}
use Rattle.chan_core.specs.Phases.{AreAwake}
use Rattle.drain_core.specs.Drain.{Progress, drain_start, rest_clock}

-- every bank is closed
abbrev pub AreClosed : Checked → List Stamped → Type 0
AreClosed c list = (rank : ℕ) → rank < c.geometry.ranks → AllClosed c.geometry rank list

-- Each rank may still have commands this many clocks after the clock, without a REF before.
abbrev pub HaveClocks : Checked → List Stamped → ℕ → ℕ → Type 0
HaveClocks c list clock more = (rank : ℕ) → rank < c.geometry.ranks → clock + more ≤ last_ref rank list + 9 * c.timing.t_refi

-- A drain may begin behind these commands.
pub record CanDrain (c : Checked) (list : List Stamped) : Type 0 where
  pub lawful : IsLawful c list
  pub awake : AreAwake c list
  pub in_time : HaveClocks c list (drain_start list) (close_of c.timing c.geometry + c.geometry.ranks)
  pub early : drain_start list < 2 ^ 63 - 2 ^ 32

-- A drain stands between two of its steps: every bank is closed and has rested, and each rank has time for its next REF
-- or its SRE.
pub record IsBetweenSteps (c : Checked) (p : Progress) : Type 0 where
  pub lawful : IsLawful c p.list
  pub awake : AreAwake c p.list
  pub closed : AreClosed c p.list
  pub clock : p.clock ≡ max (drain_start p.list) (rest_clock c.timing p.list)
  pub in_time : HaveClocks c p.list p.clock (2 * c.geometry.ranks)

-- What a close step comes to: it leaves clocks for the SRE of each rank.
pub record AfterClose (c : Checked) (list : List Stamped) (p : Progress) : Type 0 where
  pub between : IsBetweenSteps c p
  pub clocks : p.clock + c.geometry.ranks ≤ drain_start list + close_of c.timing c.geometry

-- What so many entry steps come to.
pub record AfterEntries (c : Checked) (start : Progress) (writes : ℕ) (p : Progress) : Type 0 where
  pub between : IsBetweenSteps c p
  pub clocks : p.clock ≤ start.clock + writes * entry_of c.timing c.geometry

-- What the SREs come to: one goes a clock.
pub record AfterSleep (c : Checked) (start p : Progress) : Type 0 where
  pub lawful : IsLawful c p.list
  pub asleep : AreAsleep c p.list
  pub clock : p.clock ≡ start.clock + c.geometry.ranks

-- What a whole drain comes to.
pub record AfterDrain (c : Checked) (list : List Stamped) (writes : ℕ) (p : Progress) : Type 0 where
  pub lawful : IsLawful c p.list
  pub asleep : AreAsleep c p.list
  pub clock : p.clock ≤ drain_start list + close_of c.timing c.geometry + writes * entry_of c.timing c.geometry
