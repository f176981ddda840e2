-- What the logs tell of a machine, and what a further note tells.
use Rattle.std.proofs.Common.{All, Bool, List, Some, [], ap, arith, false, inl, inr, length, refl, subst, suc, sym, true, zero, ℕ, ◌++◌, ◌+◌, ◌-◌, ◌<◌, ◌∙◌, ◌∷◌, ◌≡◌, ◌≢◌, ◌≤◌, ◌⊎◌, ⊎_elim}
use Rattle.std.specs.Prelude.{if◌then◌else◌, count_by, slice_get, slice_index_or, slice_set, ◌==◌}
use Rattle.std.proofs.lemmas.Bool.{cases_eq, eq-eqb, eqb-true}
use Rattle.std.proofs.lemmas.List.{get_or-set_other, get_or-set_same, length-set, map-set}
use Rattle.std.proofs.lemmas.List.Sums.{fold_push}
use Rattle.std.proofs.lemmas.Option.{same_Some, slice_get_within}
use Rattle.line_memory.specs.Memory.{after, line_of}
use Rattle.line_memory.specs.Parts.{below, numbered, writes_of, written_on}
use Rattle.line_memory.specs.declared.Write.{Write}
use Rattle.line_memory.specs.declared.parts.Numbered.{Numbered}
use Rattle.line_memory.proofs.Parting as parting
use Rattle.channel_port.specs.Carried.{WaitFrom}
use Rattle.channel_port.specs.Waits.{Has, IsPending, OpenRead, Waits, is_read_on, is_write_on, reads_on, writes_on}
use Rattle.channel_port.specs.declared.waiting.Waiting.{Waiting}
use Rattle.channel_set.specs.Carrying.{WaitsFrom}
use Rattle.channel_set.proofs.Lists.{all-at, all-of, at-within}
use Rattle.channel_set.proofs.Piles.{any-found, any-has, count-on, from-pile, has-pile}
use Rattle.channel_log.specs.Log.{IsLogOf, LogNote, Told, credits_of, credits_out, log_tells, note_of, told_after, untold}
use Rattle.channel_log.specs.declared.entry.LogEntry.{LogEntry}
use Rattle.nv_machine.specs.State.{Machine, Setup, all_of, base_of_life, memory_after, pending_of, start_of_life}
use Rattle.split_module.specs.OwnEvents.{looked}
use Rattle.split_module.specs.Telling.{AreLogsOf, AreOwn, IsToldOf, laid_out, times_in, times_logged, waits_told, with_note}
use Rattle.split_module.proofs.Summing.{all_waiting, never_after, never_before, once, sum_upward, times, upward}

pub told_push : (log : List LogNote) (note : LogNote) → log_tells (log ++ note ∷ []) ≡ told_after (log_tells log) note
told_push log note = fold_push told_after untold log note

-- what all logs tell to wait, after one more note
pub waits_noted : (logs : List (List LogNote)) (channel : ℕ) (log : List LogNote) (note : LogNote) → waits_told (with_note channel log note logs) ≡ slice_set (waits_told logs) channel note.waits
waits_noted logs channel log note =
    map-set (λ (l : List LogNote). (log_tells l).waits) logs channel (log ++ note ∷ [])
    ∙ ap (λ (t : Told). slice_set (waits_told logs) channel t.waits) (told_push log note)

-- What all logs come to.
module _ (setup : Setup) (m : Machine) (logs : List (List LogNote)) (are : AreLogsOf setup m logs) where
  abbrev log_at : ℕ → List LogNote
  log_at channel = slice_index_or logs channel []

  size : length (waits_told logs) ≡ length logs
  size = told_size logs
    where
      told_size : (logs : List (List LogNote)) → length (waits_told logs) ≡ length logs
      told_size [] = refl
      told_size (l ∷ logs) = ap suc (told_size logs)

  -- what waits on a channel
  pub waits_at : (channel : ℕ) → channel < length logs → slice_get (waits_told logs) channel ≡ Some (log_tells (log_at channel)).waits
  waits_at channel less = at logs channel less
    where
      at : (logs : List (List LogNote)) (i : ℕ) → i < length logs → slice_get (waits_told logs) i ≡ Some (log_tells (slice_index_or logs i [])).waits
      at [] i less = absurd (omega (arith, less))
      at (l ∷ logs) zero less = refl
      at (l ∷ logs) (suc i) less = at logs i (omega (arith, less))

  -- and is that channel's own
  pub own_at : (j : ℕ) (w : Waits) → slice_get (waits_told logs) j ≡ Some w → AreOwn j w
  own_at j w at =
      let less : j < length logs = (let within = slice_get_within (waits_told logs) j w at in omega (arith, within, size)) in
      subst (AreOwn j) (same_Some (log_tells (log_at j)).waits w (sym (waits_at j less) ∙ at)) (are.told j less).own

  pub full_told : (channel : ℕ) → channel < length logs → writes_on channel m.waits.writes ≡ length (log_tells (log_at channel)).waits.writes
  full_told channel less =
      ap (λ (w : Waits). writes_on channel w.writes) are.waits
      ∙ count-on (is_write_on channel) (λ (w : Waits). w.writes) (waits_told logs) channel (log_tells (log_at channel)).waits (waits_at channel less)
      (λ j w v at has. ap (λ c. c == channel) (all-at (λ (x : Waiting). x.channel ≡ j) w.writes v (own_at j w at).writes has))

  pub full_of_reads_told : (channel : ℕ) → channel < length logs → reads_on channel m.waits.reads ≡ length (log_tells (log_at channel)).waits.reads
  full_of_reads_told channel less =
      ap (λ (w : Waits). reads_on channel w.reads) are.waits
      ∙ count-on (is_read_on channel) (λ (w : Waits). w.reads) (waits_told logs) channel (log_tells (log_at channel)).waits (waits_at channel less)
      (λ j w r at has. ap (λ c. c == channel) (all-at (λ (x : OpenRead). x.ticket.channel ≡ j) w.reads r (own_at j w at).reads has))

  -- each write of the life lies on a channel that has a log
  lie_within : All (λ (w : Write). setup.shape.channel_of w.line < length logs) m.life.writes
  lie_within k d less = let within = are.lie k d less in let enough = are.enough in omega (arith, within, enough)

  told_times : (number : ℕ) → times_logged number logs ≡ upward (λ c. times setup.shape.channel_of number c (start_of_life m.life) m.life.writes) 0 (length logs)
  told_times number =
      sum_upward (times_in number) (λ c. times setup.shape.channel_of number c (start_of_life m.life) m.life.writes) [] logs 0
      (λ i less.
      let same : i ≡ 0 + i = omega arith in
      ap (λ (ws : List Numbered). count_by (λ w. w.number == number) ws) (are.told i less).written
      ∙ ap (λ c. times setup.shape.channel_of number c (start_of_life m.life) m.life.writes) same)

  pub told_once : (number : ℕ) → start_of_life m.life ≤ number → number < all_of m → times_logged number logs ≡ 1
  told_once number from to = told_times number ∙ once setup.shape.channel_of number (length logs) (start_of_life m.life) m.life.writes lie_within from to

  pub told_never : (number : ℕ) → (number < start_of_life m.life) ⊎ (all_of m ≤ number) → times_logged number logs ≡ 0
  told_never number (inl less) = told_times number ∙ never_before setup.shape.channel_of number (length logs) (start_of_life m.life) m.life.writes less
  told_never number (inr more) = told_times number ∙ never_after setup.shape.channel_of number (length logs) (start_of_life m.life) m.life.writes more

  pub line_told : (n line : ℕ) → setup.shape.channel_of line < length logs
      → line_of (memory_after m n) line ≡ line_of (after (base_of_life m.life) (writes_of (below n (log_tells (log_at (setup.shape.channel_of line))).written))) line
  line_told n line less =
      parting.told setup.shape.channel_of (start_of_life m.life) n line (base_of_life m.life) m.life.writes
      ∙ ap (λ (ws : List Numbered). line_of (after (base_of_life m.life) (writes_of (below n ws))) line) (sym (are.told (setup.shape.channel_of line) less).written)

  writes_laid : All (λ (v : Waiting). v.channel < length logs) (laid_out (waits_told logs)).writes
  writes_laid = all-of (λ (v : Waiting). v.channel < length logs) (laid_out (waits_told logs)).writes (λ k v at.
      let pile = from-pile (λ (w : Waits). w.writes) (waits_told logs) v (k, at) in
      let channel = all-at (λ (x : Waiting). x.channel ≡ pile.place) pile.pile.writes v (own_at pile.place pile.pile pile.at).writes pile.has in
      let within = slice_get_within (waits_told logs) pile.place pile.pile pile.at in
      omega (arith, channel, within, size))

  pub credits_told : credits_out logs ≡ pending_of m
  credits_told =
      sum_upward credits_of (λ c. writes_on c m.waits.writes) [] logs 0
      (λ i less.
      let same : i ≡ 0 + i = omega arith in
      sym (full_told i less) ∙ ap (λ c. writes_on c m.waits.writes) same)
      ∙ all_waiting (length logs) m.waits.writes (subst (λ (w : Waits). All (λ (v : Waiting). v.channel < length logs) w.writes) (sym are.waits) writes_laid)

  -- a write of the life lies on its channel
  lies_on : (start : ℕ) (ws : List Write) (k : ℕ) (w : Write) → slice_get ws k ≡ Some w → Has (numbered (start + k) w) (written_on setup.shape.channel_of (setup.shape.channel_of w.line) start ws)
  lies_on start [] k w at = absurd cc
  lies_on start (x ∷ ws) zero w at =
      let none : start ≡ start + 0 = omega arith in
      subst (λ (b : Bool). Has (numbered (start + 0) w) (if b then numbered start x ∷ written_on setup.shape.channel_of (setup.shape.channel_of w.line) (start + 1) ws else written_on setup.shape.channel_of (setup.shape.channel_of w.line) (start + 1) ws))
      (sym (eq-eqb (setup.shape.channel_of x.line) (setup.shape.channel_of w.line) (ap (λ (y : Write). setup.shape.channel_of y.line) (same_Some x w at))))
      (zero, ap Some (ap (λ n. numbered n x) none ∙ ap (numbered (start + 0)) (same_Some x w at)))
  lies_on start (x ∷ ws) (suc k) w at =
      let next : start + 1 + k ≡ start + suc k = omega arith in
      behind (setup.shape.channel_of x.line == setup.shape.channel_of w.line) (subst (λ n. Has (numbered n w) (written_on setup.shape.channel_of (setup.shape.channel_of w.line) (start + 1) ws)) next (lies_on (start + 1) ws k w at))
    where
      behind : (b : Bool) → Has (numbered (start + suc k) w) (written_on setup.shape.channel_of (setup.shape.channel_of w.line) (start + 1) ws)
          → Has (numbered (start + suc k) w) (if b then numbered start x ∷ written_on setup.shape.channel_of (setup.shape.channel_of w.line) (start + 1) ws else written_on setup.shape.channel_of (setup.shape.channel_of w.line) (start + 1) ws)
      behind true (j, there) = (suc j, there)
      behind false has = has

  -- where on each channel each of its writes from n on waits, all of the life's do
  pub held_told : (n : ℕ) → start_of_life m.life ≤ n → ((channel : ℕ) → channel < length logs → WaitFrom n (log_tells (log_at channel)).written (log_tells (log_at channel)).waits.writes)
      → WaitsFrom n (all_of m) m.waits.writes
  held_told n least held number from within =
      let k = number - start_of_life m.life in
      let found = at-within m.life.writes k (omega (arith, least, from, within)) in
      let channel = setup.shape.channel_of found.it.line in
      let enough = are.enough in
      let lies : channel < length logs = (let lies = all-at (λ (w : Write). setup.shape.channel_of w.line < setup.shape.channels) m.life.writes found.it are.lie (k, found.stands) in omega (arith, lies, enough)) in
      let named : start_of_life m.life + k ≡ number = omega (arith, least, from) in
      let told = log_tells (log_at channel) in
      let has : Has (numbered (start_of_life m.life + k) found.it) told.written = subst (Has (numbered (start_of_life m.life + k) found.it)) (sym (are.told channel lies).written) (lies_on (start_of_life m.life) m.life.writes k found.it found.stands) in
      let pending : IsPending (start_of_life m.life + k) told.waits.writes =
      all-at (λ (w : Numbered). n ≤ w.number → IsPending w.number told.waits.writes) told.written (numbered (start_of_life m.life + k) found.it) (held channel lies) has (omega (arith, from, named)) in
      let it = any-found (λ (v : Waiting). v.number == start_of_life m.life + k) told.waits.writes pending in
      subst (λ (w : Waits). IsPending number w.writes) (sym are.waits)
      (any-has (λ (v : Waiting). v.number == number) (laid_out (waits_told logs)).writes it.it
      (has-pile (λ (w : Waits). w.writes) (waits_told logs) channel told.waits it.it (waits_at channel lies) it.has)
      (eq-eqb it.it.number number (eqb-true it.it.number (start_of_life m.life + k) it.passes ∙ named)))

  -- One more note of a channel.
  module _ (channel : ℕ) (log : List LogNote) (of : IsLogOf logs channel log) (note : LogNote) (n : Machine) where
    abbrev noted : List (List LogNote)
    noted = with_note channel log note logs

    size_noted : length noted ≡ length logs
    size_noted = length-set logs channel (log ++ note ∷ [])

    told_noted : IsToldOf setup n channel (told_after (log_tells log) note) → ((other : ℕ) → channel ≢ other → other < length logs → IsToldOf setup n other (log_tells (log_at other)))
        → (other : ℕ) → other < length noted → IsToldOf setup n other (log_tells (slice_index_or noted other []))
    told_noted here elsewhere other less =
        ⊎_elim
        (λ (e : channel ≡ other).
        subst (λ c. IsToldOf setup n c (log_tells (slice_index_or noted c []))) e
        (subst (λ (l : List LogNote). IsToldOf setup n channel (log_tells l)) (sym (get_or-set_same logs channel (log ++ note ∷ []) [] of.there)) (subst (IsToldOf setup n channel) (sym (told_push log note)) here)))
        (λ (apart : channel ≢ other).
        subst (λ (l : List LogNote). IsToldOf setup n other (log_tells l)) (sym (get_or-set_other logs channel other (log ++ note ∷ []) [] (λ e. apart (sym e))))
        (elsewhere other apart (omega (arith, less, size_noted))))
        (cases_eq channel other)

    pub logs_noted : IsToldOf setup n channel (told_after (log_tells log) note) → ((other : ℕ) → channel ≢ other → other < length logs → IsToldOf setup n other (log_tells (log_at other)))
        → n.waits ≡ laid_out (waits_told noted) → All (λ (w : Write). setup.shape.channel_of w.line < setup.shape.channels) n.life.writes → AreLogsOf setup n noted
    logs_noted here elsewhere waits lie = record {
      told = told_noted here elsewhere;
      waits = waits;
      enough = (let enough = are.enough in omega (arith, enough, size_noted));
      lie = lie;
    }

  -- what is told of the channel whose log this is
  pub told_of_log : (channel : ℕ) (log : List LogNote) → IsLogOf logs channel log → IsToldOf setup m channel (log_tells log)
  told_of_log channel log of = subst (λ (l : List LogNote). IsToldOf setup m channel (log_tells l)) of.same (are.told channel of.there)

  pub waits_of_log : (channel : ℕ) (log : List LogNote) → IsLogOf logs channel log → slice_get (waits_told logs) channel ≡ Some (log_tells log).waits
  waits_of_log channel log of = waits_at channel of.there ∙ ap (λ (l : List LogNote). Some (log_tells l).waits) of.same

  -- Nothing but what waits on the channel was seen to change.
  pub logs_looked : (channel : ℕ) (log : List LogNote) → IsLogOf logs channel log → (waits : Waits) → AreOwn channel waits
      → AreLogsOf setup (record m { waits = laid_out (waits_told (looked channel log waits logs)) }) (looked channel log waits logs)
  logs_looked channel log of waits own =
      let n : Machine = record m { waits = laid_out (waits_told (looked channel log waits logs)) } in
      let was = told_of_log channel log of in
      logs_noted channel log of (note_of LogEntry.Looked waits) n
      (record { written = was.written; hold = was.hold; ended = was.ended; own = own })
      (λ other apart less. let it = are.told other less in record { written = it.written; hold = it.hold; ended = it.ended; own = it.own })
      refl are.lie
