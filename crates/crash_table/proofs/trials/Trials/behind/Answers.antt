use Rattle.std.proofs.Common.{subst, sym}
use Rattle.nv_profile.specs.declared.profile.Profile.{Profile}
use Rattle.nv_script.specs.Line.{NamesChannelOf}
use Rattle.crash_table.proofs.Lefts.{left_of_copy}
use Rattle.crash_table.proofs.trials.Trials.behind.Goals as goal

pub stop-requires : goal.stop-requires
stop-requires g c =
    let stands = c.in_ok-standing.ensures.stands c.args.self.now.profile.now c.requires.stands in
    subst (λ (profile : Profile). NamesChannelOf profile.checked.geometry c.args.line) (sym stands.profile_is) c.requires.line

pub returns-clause-behind : goal.returns-clause-behind
returns-clause-behind g c =
    let profile = c.args.self.now.profile.now in
    record {
      stands = c.in_ok-stop.ensures.goes.stands profile (c.in_ok-standing.ensures.stands profile c.requires.stands);
      left = left_of_copy _ _ c.in_ok-device.ensures c.in_ok-left.left c.in_ok-left.ensures;
    }
