-- What a call of a store's bytes comes to.
use Rattle.std.specs.Prelude.{◌≡◌, ℕ, List, ◌++◌, drop, length, map, min, take}
use Rattle.ddr4_module.specs.WildLives.{SurvivesEachStop}
use Rattle.ddr4_port.specs.Memory.{shape_over}
use Rattle.ddr4_timing.specs.Limits.{lines_of}
use Rattle.energy_budget.specs.Costs.{AreReckonedFor}
use Rattle.energy_budget.specs.declared.costs.Costs.{Costs}
use Rattle.energy_budget.specs.Gauge.{Gauge}
use Rattle.interleave_map.specs.Ready.{place_by}
use Rattle.nv_machine.specs.declared.events.Event.{Event}
use Rattle.nv_machine.specs.declared.events.Reply.{Reply}
use Rattle.nv_profile.specs.declared.profile.Profile.{Profile}
use Rattle.nv_profile.specs.Profile.{IsProfileText}
use Rattle.reply_codes.specs.declared.codes.Told.{Told}
use Rattle.reply_codes.specs.Codes.{restore_told}
use Rattle.save_device.specs.Device.{DeviceState}
use Rattle.slot_store.specs.Formatted.{IsFormatted}
use Rattle.slot_store.specs.declared.restoring.Restored.{Restored}
use Rattle.slot_store.specs.Told.{IsRestored}
use Rattle.whole_lives.specs.declared.events.Answer.{Answer}
use Rattle.whole_lives.specs.declared.events.Ask.{Ask}
use Rattle.whole_lives.specs.Events.{AreAsked, answer_of}

-- The bytes were formatted for the profile of a text.
pub record Formats (text before after : List ℕ) : Type 0 where
  pub profile : Profile
  pub of : IsProfileText text profile
  pub is : IsFormatted (lines_of profile.checked.geometry) before after

-- What the bytes restore to is told: its head by a code and numbers, and its lines.
pub record Restores (text bytes : List ℕ) (answered : Told) (lines : List (List ℕ)) : Type 0 where
  pub profile : Profile
  pub of : IsProfileText text profile
  pub it : Restored
  pub is : IsRestored it (lines_of profile.checked.geometry) bytes
  pub told_is : answered ≡ restore_told it.head
  pub all : lines ≡ it.lines.items

-- A life on a device that had these bytes, with a gauge at this level, answered these events so, and its device had those bytes at the
-- end. Whatever a stop leaves, at any moment of it, survives.
pub record LivesBy (profile : Profile) (before after : List ℕ) (level : ℕ) (events : List Event) (replies : List Reply) : Type 0 where
  pub costs : Costs
  pub reckoned : AreReckonedFor profile.checked costs
  pub old : DeviceState
  pub new : DeviceState
  pub gauge : Gauge
  pub began : old.bytes ≡ before
  pub ended : new.bytes ≡ after
  pub showed : gauge.level ≡ level
  pub survives : SurvivesEachStop (record {
    shape = shape_over (place_by profile.map profile.checked.geometry) profile.checked profile.sizes.depth profile.sizes.reads costs;
    trail = profile.sizes.trail;
  }) gauge events replies old new

-- the same, with the answers that its replies come to
pub record Answers (profile : Profile) (before after : List ℕ) (level : ℕ) (events : List Event) (answers : List Answer) : Type 0 where
  pub replies : List Reply
  pub are : answers ≡ map answer_of replies
  pub lives : LivesBy profile before after level events replies

-- the same of the profile of a text, and of the events that are asked for
pub record AnswersAsked (text before after : List ℕ) (level : ℕ) (asks : List Ask) (answers : List Answer) : Type 0 where
  pub profile : Profile
  pub of : IsProfileText text profile
  pub events : List Event
  pub asked : AreAsked asks events
  pub answered : Answers profile before after level events answers

-- the same, with the answers in a buffer, as far as there is room
pub record LivesOn (text before after : List ℕ) (level : ℕ) (asks : List Ask) (had has : List Answer) : Type 0 where
  pub answers : List Answer
  pub in_buffer : has ≡ take (min (length answers) (length had)) answers ++ drop (min (length answers) (length had)) had
  pub answered : AnswersAsked text before after level asks answers
