-- What the words of the program name: the bytes that a host gives for a name, and the numbers of a profile in them.
use Rattle.std.specs.Prelude.{◌≡◌, ℕ, List, codes}
use Rattle.ddr4_timing.specs.declared.timing.CommandRules.{CommandRules}
use Rattle.nv_profile.specs.Profile.{IsNumbersText, IsProfileText, geometry_in, timing_in}
use Rattle.nv_profile.specs.Ready.{IsReadyWord}
use Rattle.nv_profile.specs.declared.profile.Profile.{Profile}
use Rattle.nv_profile.specs.declared.reading.Numbers.{Numbers}
use Rattle.nv_profile.specs.declared.ready.TheConstants.{TINY, TINY2}

-- the text of a profile's word: one that comes with the program, and of any other word what is given for it
pub record IsTextOf (gives : List ℕ → List ℕ → Type 0) (word text : List ℕ) : Type 0 where
  pub tiny : word ≡ codes "tiny" → text ≡ TINY.now
  pub tiny2 : word ≡ codes "tiny2" → text ≡ TINY2.now
  pub given : ¬ IsReadyWord word → gives word text

-- the word's text is of this profile
abbrev pub NamesProfile : (List ℕ → List ℕ → Type 0) → List ℕ → Profile → Type 0
NamesProfile gives word profile = (text : List ℕ) × IsTextOf gives word text × IsProfileText text profile

-- a profile is had by the word
abbrev pub HasProfile : (List ℕ → List ℕ → Type 0) → List ℕ → Type 0
HasProfile gives word = (profile : Profile) × NamesProfile gives word profile

-- the word's text has these numbers
abbrev pub NamesNumbers : (List ℕ → List ℕ → Type 0) → List ℕ → Numbers → Type 0
NamesNumbers gives word numbers = (text : List ℕ) × IsTextOf gives word text × IsNumbersText text numbers

-- and by them commands alone are checked
abbrev pub NamesRules : (List ℕ → List ℕ → Type 0) → List ℕ → CommandRules → Type 0
NamesRules gives word rules = (numbers : Numbers) × NamesNumbers gives word numbers × (rules.timing ≡ timing_in numbers) × (rules.geometry ≡ geometry_in numbers)

-- a profile and a script are had by these words, and of them this holds
pub record OfScriptNamed (gives : List ℕ → List ℕ → Type 0) (profile_word script_word : List ℕ) (Told : Profile → List ℕ → Type 0) : Type 0 where
  pub profile : Profile
  pub script : List ℕ
  pub of_profile : NamesProfile gives profile_word profile
  pub of_script : gives script_word script
  pub told : Told profile script
