-- A run on the device of a store, told of the store.
use Rattle.std.proofs.Common.{◌≡◌, inl, inr, ℕ, List, Option, Result, Ok, Err, IfErr, IfOk, OnOk, ap, subst, sym, ◌∙◌}
use Rattle.save_device.specs.Memory.{state_of}
use Rattle.save_device.specs.declared.memory.MemoryDevice.{MemoryDevice}
use Rattle.channel_port.specs.declared.port.ChannelPort.{Ghosts}
use Rattle.ddr4_timing.specs.Limits.{lines_of}
use Rattle.nv_profile.specs.declared.profile.Profile.{Profile}
use Rattle.nv_session.specs.declared.wires.Wires as wires
use Rattle.nv_script.specs.declared.answer.Answer.{Answer}
use Rattle.nv_script.specs.declared.line.ScriptLine.{ScriptLine}
use Rattle.nv_script.specs.Texts.{IsScript}
use Rattle.script_runner.specs.Ended.{Kept}
use Rattle.script_runner.specs.Runs.{IsKeptRunOn}
use Rattle.script_runner.specs.Story.{AreAllAnswered}
use Rattle.store_file.specs.Stores.{device_in}
use Rattle.run_command.specs.Stored.{IsSpared, RunsOnStore, RunsScriptOn, size_for}
use Rattle.run_command.specs.declared.stored.StoredFault.{StoredFault}
use Rattle.run_command.specs.declared.stored.StoredFault.TheVariants as fault
use Rattle.run_command.specs.Whole.{RunsWhole}

module _ {K A : Type 0} (L : Ghosts K) (W : wires.Ghosts A K) (Wired : A → Type 0) (profile : Profile) (text : List ℕ) (kept : Option Kept) (device : MemoryDevice) where
  pub runs_on_store : (before mid after : List Answer) (size : ℕ) (bytes old new : List ℕ) → after ≡ mid → size ≡ size_for profile → bytes ≡ device_in size old
      → RunsScriptOn L W Wired profile bytes text before mid kept device
      → device_in size new ≡ (state_of device).bytes → RunsOnStore L W Wired profile text before after kept old new
  runs_on_store before mid after size bytes old new same is begun ran left =
      let on_old : bytes ≡ device_in (size_for profile) old = begun ∙ ap (λ (n : ℕ). device_in n old) is in
      record {
        device = device;
        runs =
            subst (λ (answers : List Answer). RunsScriptOn L W Wired profile (device_in (size_for profile) old) text before answers kept device) (sym same)
            (subst (λ (row : List ℕ). RunsScriptOn L W Wired profile row text before mid kept device) on_old ran);
        left = ap (λ (n : ℕ). device_in n new) (sym is) ∙ left;
      }

  -- the lines of a text that was run on a device have all their answers
  pub ran_whole : (bytes : List ℕ) (before mid after : List Answer) → after ≡ mid → RunsScriptOn L W Wired profile bytes text before mid kept device → RunsWhole profile text before after
  ran_whole bytes before mid after same ran =
      (ran.lines, ran.script, subst (λ (answers : List Answer). AreAllAnswered (lines_of profile.checked.geometry) ran.lines before answers) (sym same) ran.runs.run.done.all)

-- a store that stays is spared, whatever the fault
pub stays : {A : Type 0} (result : Result A StoredFault) (same replaced : Type 0) → same → IfErr result (λ why. IsSpared why same replaced)
stays (Ok value) same replaced is = tt
stays (Err (fault.Script bad)) same replaced is = is
stays (Err (fault.Store bad)) same replaced is = inl is

-- it is spared by what follows from both
pub spared_so : (why : StoredFault) (same replaced stays runs : Type 0) → (same → stays) → (replaced → runs) → IsSpared why same replaced → IsSpared why stays runs
spared_so (fault.Script bad) same replaced stays runs first other is = first is
spared_so (fault.Store bad) same replaced stays runs first other (inl is) = inl (first is)
spared_so (fault.Store bad) same replaced stays runs first other (inr is) = inr (other is)

-- what is so is so where a call came to an end
pub on_ok : {A E P : Type 0} (result : Result A E) → P → OnOk result P
on_ok (Ok value) is = is
on_ok (Err fault) is = tt

module _ {K A E : Type 0} (L : Ghosts K) (W : wires.Ghosts A K) (Wired : A → Type 0) (profile : Profile) (text : List ℕ) (kept : Option Kept) where
  pub script_ran : (bytes row : List ℕ) (lines : List ScriptLine) (before after : List Answer) (result : Result MemoryDevice E)
      → IsScript profile.checked.geometry text lines → row ≡ bytes
      → IfOk result (IsKeptRunOn L W Wired profile row lines before after kept)
      → IfOk result (RunsScriptOn L W Wired profile bytes text before after kept)
  script_ran bytes row lines before after (Ok device) script on runs = record {
    lines = lines;
    script = script;
    runs = subst (λ (r : List ℕ). IsKeptRunOn L W Wired profile r lines before after kept device) on runs;
  }
  script_ran bytes row lines before after (Err fault) script on runs = tt
