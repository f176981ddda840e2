-- At each refusal numbers that the table says would have been found there.
use Rattle.std.proofs.Common.{IsOk, refl}
use Rattle.ddr4_timing.specs.Checks.{PassesForCommands}
use Rattle.nv_profile.proofs.TableLemmas.{within_found, found_within}
use Rattle.nv_profile.proofs.SameNumbers.{same_timing, same_geometry}
use Rattle.nv_profile.proofs.reading.rules_of.Goals as goal

pub returns-in_err-timing-clause-none : goal.returns-in_err-timing-clause-none
returns-in_err-timing-clause-none c _ rules says =
    c.in_err-timing.ensures.none refl rules.timing
    (found_within _ _ _ c.in_ok-inner.field-0 _ c.inner.ensures c.in_ok-inner.was says.timing)

pub returns-in_err-geometry-clause-none : goal.returns-in_err-geometry-clause-none
returns-in_err-geometry-clause-none c _ rules says =
    c.in_err-geometry.ensures.none refl rules.geometry
    (found_within _ _ _ c.in_ok-inner-2.field-0 _ c.inner-2.ensures c.in_ok-inner-2.was says.geometry)

pub returns-in-Err-clause-none : goal.returns-in-Err-clause-none
returns-in-Err-clause-none c _ rules says =
    let timing = found_within _ _ _ c.in_ok-inner.field-0 _ c.inner.ensures c.in_ok-inner.was says.timing in
    let geometry = found_within _ _ _ c.in_ok-inner-2.field-0 _ c.inner-2.ensures c.in_ok-inner-2.was says.geometry in
    let same_times = same_timing _ _ _ c.in_ok-timing.ensures.some timing in
    let same_places = same_geometry _ _ _ c.in_ok-geometry.ensures.some geometry in
    let passes : PassesForCommands c.in_ok-timing.timing c.in_ok-geometry.geometry = rw (same_times, same_places) says.passes in
    let ok : IsOk c.check_commands.result = c.check_commands.ensures.ok.1 passes in
    let no = rw c.in-Err.is at ok in
    cc

pub returns-in-Ok-clause-some : goal.returns-in-Ok-clause-some
returns-in-Ok-clause-some c =
    let (same_times, same_places, passes) = c.in-Ok.ensures.rules in
    let timing = c.in_ok-timing.ensures.some in
    let geometry = c.in_ok-geometry.ensures.some in
    record {
      size = cc;
      timing = within_found _ _ _ c.in_ok-inner.field-0 _ c.inner.ensures c.in_ok-inner.was (rw same_times timing);
      geometry = within_found _ _ _ c.in_ok-inner-2.field-0 _ c.inner-2.ensures c.in_ok-inner-2.was (rw same_places geometry);
      passes = rw (same_times, same_places) passes;
    }
