-- What a restore finds of a journal.
use Rattle.std.proofs.Common.{◌≡◌, ◌≢◌, ◌⊎◌, inl, inr, ℕ, ◌-◌, ◌≤◌, List, [], ◌∷◌, ◌++◌, length, take, sym, ap, subst, ◌∙◌, arith, append_assoc}
use Rattle.line_memory.specs.declared.Write.{Write}
use Rattle.line_memory.specs.Memory.{after}
use Rattle.save_image.specs.Image.{Image}
use Rattle.slot_store.specs.declared.slots.Slot.{Slot}
use Rattle.slot_store.specs.declared.restoring.Verdict.TheVariants.{Complete}
use Rattle.slot_store.specs.Outcomes.{Outcome, Found, WrongSize, Damaged, NoImage, restored, verdict_of}
use Rattle.nv_machine.specs.Causes.{HasCauseSince, OpenedWith}
use Rattle.nv_machine.specs.Lives.{Lived, IsLived, AreChained, last_life}
use Rattle.nv_machine.specs.Survival.{IsHonestLife, IsSurvived, acknowledged}
use Rattle.nv_machine.proofs.SurvivedLives.{survived}
use Rattle.journal_log.specs.Log.{Holds, Log}
use Rattle.journal_log.specs.Calls.{Append, Attempt, Call, IsReadAs, attempt, done_of, journal_writes, kept_in, log_after_all, writes_in}
use Rattle.journal_log.proofs.Cutting.{front, told}
use Rattle.journal_log.proofs.Keeping.{reads, whole}
use Rattle.journal_log.proofs.Placing.{length-after}
use Rattle.journal_lives.specs.Promise.{AreJournaled, AreStored, HasRecord, IsJournaled, IsToldStored, JournalSurvives, JournalsSurvive, kept_calls, kept_of_lives, lines_of_life}
use Rattle.journal_lives.proofs.Accepting.{life_writes}
use Rattle.journal_lives.proofs.Finding.{done_last, found_there, read_on}

module _ (life : Lived) (log : Log) (attempts : List Attempt) (lived : IsLived life) (held : Holds life.image.memory log) (is : IsJournaled life log attempts) where
  abbrev s : IsSurvived life []
  s = survived life [] lived

  abbrev calls : List Call
  calls = kept_calls life attempts s.image.count

  abbrev kept : Log
  kept = log_after_all (lines_of_life life) log calls

  memory : s.image.memory ≡ after life.image.memory (take (s.image.count - life.image.count) (journal_writes (lines_of_life life) log attempts))
  memory = s.memory ∙ ap (λ (ws : List Write). after life.image.memory (take (s.image.count - life.image.count) ws)) (life_writes life lived ∙ is.writes)

  pub same_size : length s.image.memory ≡ lines_of_life life
  same_size = ap length memory ∙ length-after life.image.memory (take (s.image.count - life.image.count) (journal_writes (lines_of_life life) log attempts))

  enough : (verdict_of s.image.arm s.image.count ≡ Complete) ⊎ IsHonestLife life → acknowledged life ≤ s.image.count
  enough why = elim why [ inl complete ↦ s.recovered.complete complete | inr honest ↦ s.recovered.honest honest ]

  read : IsReadAs log calls kept
  read = reads (lines_of_life life) log attempts (s.image.count - life.image.count) is.allowed

  stored : acknowledged life ≤ s.image.count → (first later : List Attempt) → attempts ≡ first ++ later → AreStored life first → (more : List Call) × (calls ≡ done_of first ++ more)
  stored all first later parts are = (
    kept_in (s.image.count - life.image.count - writes_in first) later,
    ap (kept_in (s.image.count - life.image.count)) parts ∙ told first later (s.image.count - life.image.count) (omega (arith, all, are)),
  )

  there : acknowledged life ≤ s.image.count → (number : ℕ) (bytes : List ℕ) → IsToldStored life log attempts number bytes → HasRecord kept number bytes
  there all number bytes t =
      let a : Attempt = attempt (Append bytes) t.made in
      let parts : attempts ≡ t.before ++ a ∷ [] ++ t.later = t.among ∙ sym (append_assoc t.before (a ∷ []) t.later) in
      let some = stored all (t.before ++ a ∷ []) t.later parts t.stored in
      let same : calls ≡ done_of t.before ++ Append bytes ∷ some.0 =
      some.1 ∙ ap (λ (cs : List Call). cs ++ some.0) (done_last t.before bytes t.made t.done) ∙ append_assoc (done_of t.before) (Append bytes ∷ []) some.0 in
      found_there log kept (done_of t.before) some.0 bytes number (subst (λ (cs : List Call). IsReadAs log cs kept) same read) t.number_is

  pub life_keeps : JournalSurvives life log attempts
  life_keeps = record {
    slot = s.recovered.slot;
    image = s.image;
    kept = kept;
    found = s.recovered.found;
    keeps = record {
      holds = rw memory (whole life.image.memory log attempts (s.image.count - life.image.count) held is.allowed);
      reads = read;
      front = front attempts (s.image.count - life.image.count);
      stored = λ why. stored (enough why);
      records = λ why. there (enough why);
      cause = s.recovered.cause;
    };
  }

abbrev image_in : Image → Outcome → Image
image_in other (Found slot image) = image
image_in other WrongSize = other
image_in other (Damaged slot) = other
image_in other NoImage = other

-- what a restore after lives finds, without the causes
record Kept (life : Lived) (lives : List Lived) (log : Log) (attempts : List (List Attempt)) : Type 0 where
  pub slot : Slot
  pub image : Image
  pub kept : Log
  pub found : restored (last_life life lives).setup.shape.lines (last_life life lives).bytes ≡ Found slot image
  pub holds : Holds image.memory kept
  pub reads : IsReadAs log (kept_of_lives (life ∷ lives) attempts image.count) kept

all_kept : (lives : List Lived) (life : Lived) (log : Log) (attempts : List (List Attempt)) → AreChained (life ∷ lives) → Holds life.image.memory log
    → AreJournaled (life ∷ lives) log attempts → Kept life lives log attempts
unfolding life_keeps
all_kept [] life log (attempts ∷ []) chained held are =
    let one = life_keeps life log attempts chained held are in
    record { slot = one.slot; image = one.image; kept = one.kept; found = one.found; holds = one.keeps.holds; reads = one.keeps.reads }
all_kept (next ∷ lives) life log (attempts ∷ others) chained held are =
    let one = life_keeps life log attempts chained.0 held are.0 in
    let same : next.image ≡ one.image = ap (image_in next.image) (sym chained.1 ∙ one.found) in
    let calls : List Call = kept_calls life attempts next.image.count in
    let mid : Log = log_after_all (lines_of_life life) log calls in
    let held_next : Holds next.image.memory mid =
    subst (λ (i : Image). Holds i.memory (log_after_all (lines_of_life life) log (kept_calls life attempts i.count))) (sym same) one.keeps.holds in
    let read_next : IsReadAs log calls mid =
    subst (λ (i : Image). IsReadAs log (kept_calls life attempts i.count) (log_after_all (lines_of_life life) log (kept_calls life attempts i.count))) (sym same) one.keeps.reads in
    let rest = all_kept lives next mid others chained.2 held_next are.1 in
    record { slot = rest.slot; image = rest.image; kept = rest.kept; found = rest.found; holds = rest.holds; reads = read_on log mid rest.kept calls (kept_of_lives (next ∷ lives) others rest.image.count) read_next rest.reads }
all_kept [] life log [] chained held are = absurd are
all_kept [] life log (attempts ∷ more ∷ others) chained held are = absurd are
all_kept (next ∷ lives) life log [] chained held are = absurd are

-- and it is the image of which the causes are known
pub lives_keep : (lives : List Lived) (life : Lived) (log : Log) (attempts : List (List Attempt)) → AreChained (life ∷ lives) → Holds life.image.memory log
    → AreJournaled (life ∷ lives) log attempts → JournalsSurvive life lives log attempts
lives_keep lives life log attempts chained held are =
    let k = all_kept lives life log attempts chained held are in
    let s : IsSurvived life lives = survived life lives chained in
    let same : s.image ≡ k.image = ap (image_in s.image) (sym s.recovered.found ∙ k.found) in
    record {
      slot = k.slot;
      image = k.image;
      kept = k.kept;
      found = k.found;
      holds = k.holds;
      reads = k.reads;
      cause = subst (λ (i : Image). verdict_of i.arm i.count ≢ Complete → HasCauseSince (life ∷ lives) i ⊎ OpenedWith i (life ∷ lives)) same s.cause;
    }
