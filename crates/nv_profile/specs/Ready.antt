-- The words of profiles that come with the program.
use Rattle.std.specs.Prelude.{◌≡◌, ◌⊎◌, ℕ, List, codes}

abbrev pub IsReadyWord : List ℕ → Type 0
IsReadyWord word = (word ≡ codes "tiny") ⊎ (word ≡ codes "tiny2")
