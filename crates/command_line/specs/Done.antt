-- What a verb does by the words behind it.
use Rattle.std.specs.Prelude.{◌≡◌, ℕ, List, Option, codes}
use Rattle.std.specs.Process.{exit_status}
use Rattle.std.specs.declared.process.ExitCode.{ExitCode}
use Rattle.clap.specs.declared.parser.matches.ArgMatches.{ArgMatches}
use Rattle.command_faults.specs.Named.{HasProfile, OfScriptNamed}
use Rattle.command_line.specs.Check.{HasVerdictBy}
use Rattle.command_line.specs.Crash.{IsCrashTold}
use Rattle.command_line.specs.Drawn.{HasSchedule}
use Rattle.command_line.specs.Lint.{TellsBadLines}
use Rattle.command_line.specs.Profile.{ExplainsProfile}
use Rattle.command_line.specs.Store.{ShowsNamed}
use Rattle.command_line.specs.Verbs.{profile_word, script_word, word_of}
use Rattle.run_command.specs.Whole.{IsToldRun}

-- each verb that tells something of what its words name told that of them, and the status is as it came out
pub record IsDone (gives : List ℕ → List ℕ → Type 0) (verb : List ℕ) (matches : ArgMatches) (code : ExitCode) (old new : Option (List ℕ)) : Type 0 where
  pub run : verb ≡ codes "run" → (exit_status code ≡ 0) × OfScriptNamed gives (profile_word matches) (script_word matches) (IsToldRun old new)
  pub live : verb ≡ codes "live" → (exit_status code ≡ 0) × HasProfile gives (profile_word matches)
  pub show : verb ≡ codes "show" → ShowsNamed gives (word_of matches (codes "STORE") (codes "-")) code
  pub lint : verb ≡ codes "lint" → OfScriptNamed gives (profile_word matches) (script_word matches)
      (λ profile script. TellsBadLines profile.checked.geometry script code old new)
  pub crash : verb ≡ codes "crash" → OfScriptNamed gives (profile_word matches) (script_word matches)
      (λ profile script. IsCrashTold profile script old new)
  pub check : verb ≡ codes "check" → HasVerdictBy gives matches code old new
  pub draw : verb ≡ codes "draw" → (exit_status code ≡ 0) × HasSchedule gives matches
  pub profile : verb ≡ codes "profile" → ExplainsProfile gives (profile_word matches) old new
