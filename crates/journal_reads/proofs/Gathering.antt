-- A record that is read line by line.
use Rattle.std.proofs.Common.{◌≡◌, ℕ, suc, ◌+◌, ◌-◌, ◌<◌, ◌≤◌, List, [], ◌∷◌, ◌++◌, length, get_or, drop, refl, sym, ap, subst, ◌∙◌, arith, append_assoc, drop-cons}
use Rattle.std.specs.Prelude.{Ok, Err, Some, slice_get, slice_index_or}
use Rattle.std.specs.List.{flat_map}
use Rattle.std.proofs.lemmas.List.{append-nil, drop_all}
use Rattle.std.proofs.lemmas.Option.{slice_get-get_or}
use Rattle.line_memory.specs.Memory.{line_of}
use Rattle.arm_state.specs.declared.refusal.ReadRefusal.{ReadRefusal}
use Rattle.channel_port.specs.declared.port.ChannelPort.{Ghosts}
use Rattle.nv_machine.specs.declared.events.Event.{Event}
use Rattle.nv_machine.specs.declared.events.Reply.{Reply}
use Rattle.nv_machine.specs.State.{Machine, Setup, memory_of}
use Rattle.module_core.specs.declared.module.Module.{Module}
use Rattle.module_core.specs.Stands.{assembly, setup_of}
use Rattle.nv_session.specs.Coming.{ComesAlone}
use Rattle.nv_session.specs.Turns.{SameButWaits}
use Rattle.nv_session.specs.ReadTurns.{ReadsLine}
use Rattle.nv_session.specs.declared.turns.LineSeen.TheVariants.{Content, Waiting}
use Rattle.nv_session.proofs.Awaiting.{same_after}
use Rattle.nv_session.proofs.Coming.{comes_on, comes_retold, comes_to_itself}
use Rattle.journal_log.specs.Lines.{lines_of, size_of}
use Rattle.journal_log.specs.Log.{Holds, Log}
use Rattle.journal_log.proofs.Spelling.{length-lines_of}
use Rattle.journal_lines.specs.Indexed.{HasNumber, IsIndexOf}
use Rattle.journal_lines.specs.Scanning.{held_by}
use Rattle.journal_lines.specs.declared.index.Index.{Index}
use Rattle.journal_lines.proofs.Lying.{held_in_all}
use Rattle.journal_lines.proofs.Reading.{length-places}
use Rattle.journal_reads.specs.declared.reading.NotRead.{NotRead}
use Rattle.journal_reads.specs.declared.reading.NotRead.TheVariants as why
use Rattle.journal_reads.specs.Reading.{IsLineRead, IsNotRead, ReadsRecord}

-- So many lines of a record are read, which held these bytes; its other lines hold the rest.
pub record HasReadLines (index : Index) (number at : ℕ) (bytes : List ℕ) (events : List Event) (replies : List Reply) (old new : Machine) : Type 0 where
  pub same : SameButWaits old new
  pub so_far : (log : Log) (whole : List ℕ) → IsIndexOf index log → Holds (memory_of old) log → length (memory_of old) ≡ index.lines
      → slice_get log.records (number - log.gone) ≡ Some whole → bytes ++ flat_map held_by (drop at (lines_of whole)) ≡ whole

-- what a read of the module sees of a line
module _ (setup : Setup) (line : ℕ) (es : List Event) (rs : List Reply) (m n : Machine) where
  content_read : (bytes : List ℕ) → ReadsLine setup line (Ok (Content bytes)) es rs m n → IsLineRead setup line (Ok bytes) es rs m n
  content_read bytes reads = (reads.sees.1, reads.sees.2)

  waiting_read : ReadsLine setup line (Ok Waiting) es rs m n → IsLineRead setup line (Err why.Waiting) es rs m n
  waiting_read reads = record { same = reads.sees.2; is = tt }

  refused_read : (refusal : ReadRefusal) → ReadsLine setup line (Err refusal) es rs m n → IsLineRead setup line (Err (why.Refused refusal)) es rs m n
  refused_read refusal reads = record { same = reads.sees.1 ∙ ap (λ (x : Machine). record m { waits = x.waits }) (sym reads.sees.1); is = record { line = line; now = m; same = refl; refused = reads.sees.0 } }

module _ {K : Type 0} (L : Ghosts K) (line : ℕ) (old new : Module K L) where
  pub content : (bytes : List ℕ) → ComesAlone L (ReadsLine (setup_of L old) line (Ok (Content bytes))) old new → ComesAlone L (IsLineRead (setup_of L old) line (Ok bytes)) old new
  content bytes comes device gauge =
      comes_retold L (ReadsLine (setup_of L old) line (Ok (Content bytes))) (IsLineRead (setup_of L old) line (Ok bytes)) (assembly old device gauge) (assembly new device gauge) (comes device gauge)
      (λ es rs m n told. content_read (setup_of L old) line es rs m n bytes told)

  pub waiting : ComesAlone L (ReadsLine (setup_of L old) line (Ok Waiting)) old new → ComesAlone L (IsLineRead (setup_of L old) line (Err why.Waiting)) old new
  waiting comes device gauge =
      comes_retold L (ReadsLine (setup_of L old) line (Ok Waiting)) (IsLineRead (setup_of L old) line (Err why.Waiting)) (assembly old device gauge) (assembly new device gauge) (comes device gauge)
      (λ es rs m n told. waiting_read (setup_of L old) line es rs m n told)

  pub refused : (refusal : ReadRefusal) → ComesAlone L (ReadsLine (setup_of L old) line (Err refusal)) old new
      → ComesAlone L (IsLineRead (setup_of L old) line (Err (why.Refused refusal))) old new
  refused refusal comes device gauge =
      comes_retold L (ReadsLine (setup_of L old) line (Err refusal)) (IsLineRead (setup_of L old) line (Err (why.Refused refusal))) (assembly old device gauge) (assembly new device gauge) (comes device gauge)
      (λ es rs m n told. refused_read (setup_of L old) line es rs m n refusal told)

-- no line is read
none_read : (index : Index) (number : ℕ) (m : Machine) → HasReadLines index number 0 [] [] [] m m
none_read index number m = record { same = refl; so_far = λ log whole is holds long there. held_in_all whole }

-- one line more
module _ (index : Index) (number at line : ℕ) (bytes more line_bytes : List ℕ)
    (lies : (log : Log) (memory : List (List ℕ)) (whole : List ℕ) → IsIndexOf index log → Holds memory log → length memory ≡ index.lines
    → slice_get log.records (number - log.gone) ≡ Some whole → at < size_of whole → line_of memory line ≡ slice_index_or (lines_of whole) at [])
    (size : (log : Log) (whole : List ℕ) → IsIndexOf index log → slice_get log.records (number - log.gone) ≡ Some whole → at < size_of whole)
    (grown : more ≡ bytes ++ held_by line_bytes) where
  one_more : (setup : Setup) (es fs : List Event) (rs ts : List Reply) (m n l : Machine) → HasReadLines index number at bytes es rs m n → IsLineRead setup line (Ok line_bytes) fs ts n l
      → HasReadLines index number (at + 1) more (es ++ fs) (rs ++ ts) m l
  one_more setup es fs rs ts m n l told next = record {
    same = same_after m n l told.same next.1;
    so_far = λ log whole is holds long there.
        let less : at < size_of whole = size log whole is there in
        let here : line_bytes ≡ get_or (lines_of whole) at [] = next.0 ∙ ap (λ (x : Machine). line_of (memory_of x) line) told.same ∙ lies log (memory_of m) whole is holds long there less in
        let rest : drop at (lines_of whole) ≡ line_bytes ∷ drop (at + 1) (lines_of whole) =
        drop-cons (lines_of whole) at [] (omega (arith, less, length-lines_of whole))
        ∙ ap (λ (b : List ℕ). b ∷ drop (suc at) (lines_of whole)) (sym here)
        ∙ ap (λ (k : ℕ). line_bytes ∷ drop k (lines_of whole)) (let e : suc at ≡ at + 1 = omega arith in e) in
        ap (λ (b : List ℕ). b ++ flat_map held_by (drop (at + 1) (lines_of whole))) grown
        ∙ append_assoc bytes (held_by line_bytes) (flat_map held_by (drop (at + 1) (lines_of whole)))
        ∙ ap (λ (ls : List (List ℕ)). bytes ++ flat_map held_by ls) (sym rest)
        ∙ told.so_far log whole is holds long there;
  }

-- a record with this number is there
numbered : (index : Index) (number : ℕ) (log : Log) → IsIndexOf index log → HasNumber index number → number - log.gone < length log.records
numbered index number log is has =
    omega (arith, has.above, has.below, is.gone, ap (λ (places : List ℕ). length places) is.places, length-places index.lines log.first log.records)

-- all lines are read
all_read : (index : Index) (number at : ℕ) (bytes : List ℕ) → HasNumber index number
    → ((log : Log) (whole : List ℕ) → IsIndexOf index log → slice_get log.records (number - log.gone) ≡ Some whole → size_of whole ≤ at)
    → (es : List Event) (rs : List Reply) (m n : Machine) → HasReadLines index number at bytes es rs m n → ReadsRecord index number bytes es rs m n
all_read index number at bytes has size es rs m n told = record {
  same = told.same;
  is = λ log is holds long.
      let whole : List ℕ = get_or log.records (number - log.gone) [] in
      let there : slice_get log.records (number - log.gone) ≡ Some whole = slice_get-get_or log.records (number - log.gone) [] (numbered index number log is has) in
      let none : drop at (lines_of whole) ≡ [] = drop_all at (lines_of whole) (omega (arith, size log whole is there, length-lines_of whole)) in
      there ∙ ap (λ (b : List ℕ). Some b)
      (sym (told.so_far log whole is holds long there) ∙ ap (λ (ls : List (List ℕ)). bytes ++ flat_map held_by ls) none ∙ append-nil bytes);
}

module _ {K : Type 0} (L : Ghosts K) (index : Index) (number : ℕ) where
  pub begins : (it : Module K L) → ComesAlone L (HasReadLines index number 0 []) it it
  begins it device gauge = comes_to_itself L (HasReadLines index number 0 []) (assembly it device gauge) (λ m. none_read index number m)

  pub goes_on : (at line : ℕ) (bytes more line_bytes : List ℕ) (old mid new : Module K L) → setup_of L mid ≡ setup_of L old
      → ((log : Log) (memory : List (List ℕ)) (whole : List ℕ) → IsIndexOf index log → Holds memory log → length memory ≡ index.lines
      → slice_get log.records (number - log.gone) ≡ Some whole → at < size_of whole → line_of memory line ≡ slice_index_or (lines_of whole) at [])
      → ((log : Log) (whole : List ℕ) → IsIndexOf index log → slice_get log.records (number - log.gone) ≡ Some whole → at < size_of whole)
      → more ≡ bytes ++ held_by line_bytes
      → ComesAlone L (HasReadLines index number at bytes) old mid → ComesAlone L (IsLineRead (setup_of L mid) line (Ok line_bytes)) mid new
      → ComesAlone L (HasReadLines index number (at + 1) more) old new
  goes_on at line bytes more line_bytes old mid new same lies size grown so_far next device gauge =
      comes_on L (HasReadLines index number at bytes) (IsLineRead (setup_of L mid) line (Ok line_bytes)) (HasReadLines index number (at + 1) more)
      (assembly old device gauge) (assembly mid device gauge) (assembly new device gauge) same (so_far device gauge) (next device gauge)
      (λ es fs rs ts m n l told later. one_more index number at line bytes more line_bytes lies size grown (setup_of L mid) es fs rs ts m n l told later)

  pub ends : (at : ℕ) (bytes : List ℕ) (old new : Module K L) → HasNumber index number
      → ((log : Log) (whole : List ℕ) → IsIndexOf index log → slice_get log.records (number - log.gone) ≡ Some whole → size_of whole ≤ at)
      → ComesAlone L (HasReadLines index number at bytes) old new → ComesAlone L (ReadsRecord index number bytes) old new
  ends at bytes old new has size comes device gauge =
      comes_retold L (HasReadLines index number at bytes) (ReadsRecord index number bytes) (assembly old device gauge) (assembly new device gauge) (comes device gauge)
      (λ es rs m n told. all_read index number at bytes has size es rs m n told)

  -- a line isn't read
  not_further : (setup : Setup) (reason : NotRead) (at line : ℕ) (bytes : List ℕ) (es fs : List Event) (rs ts : List Reply) (m n l : Machine)
      → HasReadLines index number at bytes es rs m n → IsLineRead setup line (Err reason) fs ts n l → IsNotRead setup reason (es ++ fs) (rs ++ ts) m l
  not_further setup why.Memory at line bytes es fs rs ts m n l told next = record { same = same_after m n l told.same next.same; is = tt }
  not_further setup why.Waiting at line bytes es fs rs ts m n l told next = record { same = same_after m n l told.same next.same; is = tt }
  not_further setup (why.Refused refusal) at line bytes es fs rs ts m n l told next = record {
    same = same_after m n l told.same next.same;
    is = record { line = next.is.line; now = next.is.now; same = same_after m n next.is.now told.same next.is.same; refused = next.is.refused };
  }

  pub stops : (reason : NotRead) (at line : ℕ) (bytes : List ℕ) (old mid new : Module K L) → setup_of L mid ≡ setup_of L old
      → ComesAlone L (HasReadLines index number at bytes) old mid → ComesAlone L (IsLineRead (setup_of L mid) line (Err reason)) mid new
      → ComesAlone L (IsNotRead (setup_of L old) reason) old new
  stops reason at line bytes old mid new same so_far next device gauge =
      comes_on L (HasReadLines index number at bytes) (IsLineRead (setup_of L old) line (Err reason)) (IsNotRead (setup_of L old) reason)
      (assembly old device gauge) (assembly mid device gauge) (assembly new device gauge) same (so_far device gauge)
      (subst (λ (s : Setup). ComesAlone L (IsLineRead s line (Err reason)) mid new) same next device gauge)
      (λ es fs rs ts m n l told later. not_further (setup_of L old) reason at line bytes es fs rs ts m n l told later)

  -- there is no memory for what a line holds
  pub no_memory : (at line : ℕ) (bytes line_bytes : List ℕ) (old mid new : Module K L) → setup_of L mid ≡ setup_of L old
      → ComesAlone L (HasReadLines index number at bytes) old mid → ComesAlone L (IsLineRead (setup_of L mid) line (Ok line_bytes)) mid new
      → ComesAlone L (IsNotRead (setup_of L old) why.Memory) old new
  no_memory at line bytes line_bytes old mid new same so_far next device gauge =
      comes_on L (HasReadLines index number at bytes) (IsLineRead (setup_of L mid) line (Ok line_bytes)) (IsNotRead (setup_of L old) why.Memory)
      (assembly old device gauge) (assembly mid device gauge) (assembly new device gauge) same (so_far device gauge) (next device gauge)
      (λ es fs rs ts m n l told later. record { same = same_after m n l told.same later.1; is = tt })
