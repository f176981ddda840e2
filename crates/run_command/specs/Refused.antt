-- Words of a run that name no file for its store.
use Rattle.std.specs.Prelude.{◌≡◌, ◌⊎◌, List, ℕ, codes}
use Rattle.std.specs.Option.{IsSomeAnd}
use Rattle.run_command.specs.declared.script.RunWords.{RunWords}
use Rattle.run_command.specs.declared.script.StoreWord.{StoreWord}
use Rattle.run_command.specs.declared.script.StoreWord.TheVariants.{Out, Kept}

-- the file that a word names
abbrev pub name_in : StoreWord → List ℕ
name_in (Out name) = name.now
name_in (Kept name) = name.now

-- it would be standard output, the profile or the script
abbrev pub IsNoStore : List ℕ → List ℕ → StoreWord → Type 0
IsNoStore profile script store = (name_in store ≡ codes "-") ⊎ ((name_in store ≡ profile) ⊎ (name_in store ≡ script))

abbrev pub NamesNoStore : RunWords → Type 0
NamesNoStore words = IsSomeAnd words.store (IsNoStore words.profile.now words.script.now)

-- the file for commands would be one of these, or the store
abbrev pub NamesNoCommands : RunWords → Type 0
NamesNoCommands words = IsSomeAnd words.commands (λ name. (name.now ≡ codes "-") ⊎ ((name.now ≡ words.profile.now) ⊎ ((name.now ≡ words.script.now) ⊎ IsSomeAnd words.store (λ store. name_in store ≡ name.now))))
