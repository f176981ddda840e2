-- A session between two lines of a script.
use Rattle.std.specs.Prelude.{◌≡◌, ℕ, List, ◌++◌, [], None, fold}
use Rattle.ddr4_timing.specs.Limits.{lines_of}
use Rattle.channel_port.specs.declared.port.ChannelPort.{Ghosts}
use Rattle.nv_profile.specs.declared.profile.Profile.{Profile}
use Rattle.nv_script.specs.declared.answer.Answer.{Answer}
use Rattle.nv_script.specs.declared.line.ScriptLine.{ScriptLine}
use Rattle.nv_session.specs.Sessions.{moment_in}
use Rattle.nv_session.specs.declared.wires.Wires as wires
use Rattle.script_runner.specs.Keeping.{GoesThrough}
use Rattle.crash_table.specs.declared.standing.Standing.{Standing}
use Rattle.crash_table.specs.Outcomes.{EndsWithFault, told_behind}

module _ {K A : Type 0} {L : Ghosts K} {W : wires.Ghosts A K} where
  -- The lines were answered by a new session of this profile, each answer true by the ones before it, and what they make known is borne
  -- out by the session as it is; so many writes they told to be persistent, and the last of them told a fault or didn't.
  pub record Stands (profile : Profile) (standing : Standing K A L W) : Type 0 where
    pub profile_is : standing.session.profile ≡ profile
    pub answers : List Answer
    pub through : GoesThrough L (lines_of profile.checked.geometry) standing.done.items [] answers (moment_in standing.session)
    pub told : standing.told ≡ fold (λ told answer. told_behind answer told) None answers
    pub fails : EndsWithFault answers standing.fails

  -- it stands behind these lines more
  pub record GoesOnBy (more : List ScriptLine) (old new : Standing K A L W) : Type 0 where
    pub profile : new.session.profile ≡ old.session.profile
    pub done : new.done.items ≡ old.done.items ++ more
    pub stands : (of : Profile) → Stands of old → Stands of new
