-- What a writer notes of its errors.
use Rattle.std.specs.Prelude.{◌≡◌, ◌≢◌, Bool, true, MatchResult, Result}
use Rattle.std.specs.IoError.{error_kind}
use Rattle.std.specs.declared.io.Error.{Error}
use Rattle.std.specs.declared.io.ErrorKind.TheVariants.{BrokenPipe}

-- behind this error it is noted that nobody reads any more, if it says so, and else the note stays as it was
pub record IsNoted (error : Error) (old new : Bool) : Type 0 where
  pub closed : error_kind error ≡ BrokenPipe → new ≡ true
  pub other : error_kind error ≢ BrokenPipe → new ≡ old

-- so it is where a call failed, and behind any other the note stays as it was
abbrev pub IsNotedOf : {A : Type 0} → Result A Error → Bool → Bool → Type 0
IsNotedOf result old new = MatchResult result (λ _. new ≡ old) (λ error. IsNoted error old new)
