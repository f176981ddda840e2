-- Why a restore may find an image that isn't complete, over several lives.
use Rattle.std.specs.Prelude.{◌≡◌, ◌⊎◌, true, List, ◌∷◌, ◌++◌, All, Option, Some, None}
use Rattle.save_image.specs.Image.{Image}
use Rattle.nv_machine.specs.State.{Machine}
use Rattle.nv_machine.specs.Guard.{would_lose_acknowledged}
use Rattle.nv_machine.specs.Headline.{marks}
use Rattle.nv_machine.specs.Lives.{Unanswered, Lived}

-- A cause of the life's own: darkness now, where acknowledged writes may be lacking, or an arm call that failed since the last
-- save.
abbrev pub HasOwnCause : Machine → Type 0
HasOwnCause m = (would_lose_acknowledged m ≡ true) ⊎ (m.store.maybe.any_arm ≡ true)

-- the same at a stop, which may have come within an event, as an arm call
abbrev pub HasOwnCauseAt : Option Unanswered → Machine → Type 0
HasOwnCauseAt None m = HasOwnCause m
HasOwnCauseAt (Some unanswered) m = (marks unanswered.reply ≡ true) ⊎ HasOwnCause m ⊎ HasOwnCause unanswered.next.machine

-- each of these lives was opened with this image
abbrev pub OpenedWith : Image → List Lived → Type 0
OpenedWith image lives = All (λ life. life.image ≡ image) lives

-- One of these lives has a cause of its own, and each life after it was opened with this very image: so the cause came since the
-- image was made.
pub record HasCauseSince (lives : List Lived) (image : Image) : Type 0 where
  pub before : List Lived
  pub life : Lived
  pub after : List Lived
  pub parts : lives ≡ before ++ life ∷ after
  pub cause : HasOwnCauseAt life.unanswered life.last.machine
  pub inherited : OpenedWith image after
