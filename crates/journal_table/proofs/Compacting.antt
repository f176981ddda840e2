-- What the calls of a compaction come to.
use Rattle.std.proofs.Common.{All, ◌≡◌, ◌∙◌, ◌+◌, ◌-◌, ℕ, List, [], ◌∷◌, ◌++◌, ap, append_assoc, arith, drop, length, refl, subst, sym}
use Rattle.std.specs.Prelude.{Err, IfErr, IfNone, IfOk, IfSome, None, Ok, Option, Result, Some, Vec, bytes_eq, fold, option_map}
use Rattle.std.specs.HashMap.{HashMap, get_by}
use Rattle.std.proofs.Math.Seq.{drop-append_seam}
use Rattle.std.proofs.lemmas.List.{append-nil, length-map, map-append}
use Rattle.std.proofs.lemmas.List.Elements.{All-append, All-cons, All-head, All-nil, All-tail}
use Rattle.channel_port.specs.declared.port.ChannelPort.{Ghosts}
use Rattle.nv_machine.specs.declared.events.Accepted.{Accepted}
use Rattle.nv_machine.specs.declared.events.Reply.{Reply}
use Rattle.nv_machine.specs.declared.events.Reply.TheVariants as replies
use Rattle.module_core.specs.declared.module.Module.{Module}
use Rattle.journal_log.specs.Log.{Log}
use Rattle.journal_log.specs.Calls.{Append, Call, Truncate, log_after, log_after_all}
use Rattle.journal_lines.specs.declared.index.Index.{Index}
use Rattle.journal_lines.specs.Indexed.{HasRoom, IsIndexOf, IsWithin, end_of_index}
use Rattle.journal_lines.proofs.Reading.{length-places}
use Rattle.table_log.specs.Changes.{Change, Put, record_of, value_after}
use Rattle.table_log.specs.Tables.{Cuts, IsLawful, IsTable, Rewrites, Table, TableCall, table_after, value_in}
use Rattle.table_log.specs.Survival.{TableAttempt, calls_done}
use Rattle.table_log.proofs.Changing.{calls_hold}
use Rattle.table_log.proofs.Surviving.{done_calls}
use Rattle.module_journal.specs.declared.journal.Journal.{Journal}
use Rattle.module_journal.specs.declared.journal.AppendRefusal.{AppendRefusal}
use Rattle.module_journal.specs.declared.journal.AppendRefusal.TheVariants as appends
use Rattle.module_journal.specs.declared.journal.TruncateRefusal.{TruncateRefusal}
use Rattle.module_journal.specs.declared.journal.TruncateRefusal.TheVariants as truncations
use Rattle.module_journal.specs.Refusals.{IsAppendRefused, IsTruncateRefused}
use Rattle.module_journal.specs.Writing.{IsMade}
use Rattle.module_journal.proofs.Allowing.{append_allowed, truncate_allowed}
use Rattle.journal_table.specs.Calling.{HasCalled, HasKeptUp, IsCompacted, IsKeptUp, IsUpkeep, log_behind_calls, puts_of, rewrites_of, table_behind_calls, whole_call}
use Rattle.journal_table.specs.Standing.{IsTableOf}
use Rattle.journal_table.specs.Values.{IsHeld, held}
use Rattle.journal_table.specs.declared.table.JournalTable.{JournalTable}
use Rattle.journal_table.proofs.Calls.{none_called, one_called, part_called, table_behind-append, then_called, whole_done}
use Rattle.journal_table.proofs.Upkeep.{lawful_rewrite, puts_say, rewrites_upkeep, rewritten, upkeep_same}

one_upkeep : (a : TableAttempt) → IsUpkeep a → All IsUpkeep (a ∷ [])
one_upkeep a is = All-cons IsUpkeep a [] is (All-nil IsUpkeep)

module _ {K : Type 0} (L : Ghosts K) (index next : Index) (old new : Module K L) (log : Log) (table : Table) (is : IsIndexOf index log) where
  pub nothing_called : new ≡ old → IsIndexOf next log → HasKeptUp L index.lines log table next old new
  nothing_called same there =
      subst (λ (it : Module K L). HasKeptUp L index.lines log table next old it) (sym same)
      (record { attempts = []; upkeep = All-nil IsUpkeep; called = none_called L index.lines log table next old there })

  module _ (bytes : List ℕ) (change : Change) (spelled : bytes ≡ record_of change) where
    pub rewrite_called : {reply : Reply} → IsMade L reply index (Append bytes) old new → HasRoom index bytes → IsIndexOf next (log_after index.lines log (Append bytes)) → IsLawful table (Rewrites change)
        → HasCalled L index.lines (whole_call (Rewrites change) ∷ []) log table next old new
    rewrite_called {reply} made room there lawful =
        one_called L index.lines log table (Rewrites change) next old new
        ((subst (λ (b : List ℕ). IsMade L reply index (Append b) old new) spelled made) log is).written
        (append_allowed index log (record_of change) is (subst (HasRoom index) spelled room))
        lawful
        (subst (λ (b : List ℕ). IsIndexOf next (log_after index.lines log (Append b))) spelled there)

    pub rewrite_refused : (refusal : AppendRefusal) → IsAppendRefused L refusal index bytes old new → IsIndexOf next log → HasKeptUp L index.lines log table next old new
    rewrite_refused appends.NoSpace refused there = nothing_called refused.1 there
    rewrite_refused appends.Memory refused there = nothing_called refused there
    rewrite_refused (appends.Refused why) refused there =
        let part = (subst (λ (b : List ℕ). IsAppendRefused L (appends.Refused why) index b old new) spelled refused) in
        let stops = part.1 log is in
        record {
          attempts = record { call = Rewrites change; made = stops.made } ∷ [];
          upkeep = one_upkeep (record { call = Rewrites change; made = stops.made }) tt;
          called = part_called L index.lines log table (Rewrites change) stops.made next old new stops.few stops.ends.written (append_allowed index log (record_of change) is part.0) there;
        }

  cut_called : (upto : ℕ) (reply : Reply) → IsMade L reply index (Truncate upto) old new → IsWithin index upto → IsIndexOf next (log_after index.lines log (Truncate upto)) → IsLawful table (Cuts upto)
      → HasCalled L index.lines (whole_call (Cuts upto) ∷ []) log table next old new
  cut_called upto reply made within there lawful =
      one_called L index.lines log table (Cuts upto) next old new (made log is).written (truncate_allowed index log upto is within) lawful there

  cut_refused : (upto : ℕ) (refusal : TruncateRefusal) → IsTruncateRefused L refusal index upto old new → IsIndexOf next log → HasKeptUp L index.lines log table next old new
  cut_refused upto truncations.NoSuchRecord refused there = nothing_called refused.1 there
  cut_refused upto (truncations.Refused why) refused there =
      let stops = refused.1 log is in
      record {
        attempts = record { call = Cuts upto; made = stops.made } ∷ [];
        upkeep = one_upkeep (record { call = Cuts upto; made = stops.made }) tt;
        called = part_called L index.lines log table (Cuts upto) stops.made next old new stops.few stops.ends.written (truncate_allowed index log upto is refused.0) there;
      }

module _ {K : Type 0} (L : Ghosts K) (journal after : Journal) (old new : Module K L) (upto : ℕ) where
  pub cut_made : (result : Result (Option Accepted) TruncateRefusal) → IfOk result (λ cut. IfSome cut (λ head. IsMade L (replies.Write (Ok head)) journal.index (Truncate upto) old new))
      → IfOk result (λ cut. IfSome cut (λ head. IsWithin journal.index upto))
      → IfOk result (λ cut. IfSome cut (λ head. (log : Log) → IsIndexOf journal.index log → IsIndexOf after.index (log_after journal.index.lines log (Truncate upto))))
      → IfOk result (λ cut. IfSome cut (λ head. (log : Log) (table : Table) → IsIndexOf journal.index log → IsLawful table (Cuts upto)
      → HasCalled L journal.index.lines (whole_call (Cuts upto) ∷ []) log table after.index old new))
  cut_made (Err refusal) made within there = tt
  cut_made (Ok None) made within there = tt
  cut_made (Ok (Some head)) made within there = λ log table is lawful.
      cut_called L journal.index after.index old new log table is upto (replies.Write (Ok head)) made within (there log is) lawful

  pub cut_broken : (result : Result (Option Accepted) TruncateRefusal) → IfErr result (λ refusal. after ≡ journal) → IfErr result (λ refusal. IsTruncateRefused L refusal journal.index upto old new)
      → IfErr result (λ refusal. (log : Log) (table : Table) → IsIndexOf journal.index log → HasKeptUp L journal.index.lines log table after.index old new)
  cut_broken (Ok cut) same refused = tt
  cut_broken (Err refusal) same refused = λ log table is.
      cut_refused L journal.index after.index old new log table is upto refusal refused (subst (λ (j : Journal). IsIndexOf j.index log) (sym same) is)

all_right : {X : Type 0} (P : X → Type 0) (xs ys : List X) → All P (xs ++ ys) → All P ys
all_right P [] ys all = all
all_right P (x ∷ xs) ys all = all_right P xs ys (All-tail P x (xs ++ ys) all)

-- what an iterator says of a map's entries
pub all_held : {A S : Type 0} (values : HashMap (Vec ℕ A) (Vec ℕ A) S) → All (λ e. get_by (λ k. bytes_eq e.0.items k.items) values ≡ Some e.1) values.entries → All (IsHeld values) values.entries
all_held values found = λ k d less. ap (λ (v : Option _). option_map (λ w. w.items) v) (found k d less)

module _ {K : Type 0} (L : Ghosts K) (index next : Index) (now new : Module K L) where
  -- a rewrite, whatever journal and table it is on
  abbrev Rewriting : ℕ → List ℕ → List ℕ → Type 0
  Rewriting lines key value =
      (log : Log) (table : Table) → IsIndexOf index log → IsLawful table (Rewrites (Put key value)) → HasCalled L lines (whole_call (Rewrites (Put key value)) ∷ []) log table next now new

  pub respelled : (lines others : ℕ) (key other value another : List ℕ) → lines ≡ others → key ≡ other → value ≡ another → Rewriting lines key value → Rewriting others other another
  respelled lines others key other value another n k v one =
      subst (λ (i : ℕ). Rewriting i other another) n (subst (λ (w : List ℕ). Rewriting lines other w) v (subst (λ (l : List ℕ). Rewriting lines l value) k one))

module _ {K A S : Type 0} (L : Ghosts K) (lines : ℕ) (values : HashMap (Vec ℕ A) (Vec ℕ A) S) (start : Index) (old : Module K L) where
  -- Of some entries the first were appended once more.
  pub record RewrittenSoFar (entries rest : List (Vec ℕ A × Vec ℕ A)) (index : Index) (now : Module K L) : Type 0 where
    pub done : List (Vec ℕ A × Vec ℕ A)
    pub parts : entries ≡ done ++ rest
    pub called : (log : Log) (table : Table) → IsIndexOf start log → ((key : List ℕ) → held values key ≡ value_in key table)
        → HasCalled L lines (rewrites_of done) log table index old now

  pub none_rewritten : (entries : List (Vec ℕ A × Vec ℕ A)) → RewrittenSoFar entries entries start old
  none_rewritten entries = record { done = []; parts = refl; called = λ log table is says. none_called L lines log table start old is }

  entry_held : (entries done rest : List (Vec ℕ A × Vec ℕ A)) (e : Vec ℕ A × Vec ℕ A) → All (IsHeld values) entries → entries ≡ done ++ e ∷ rest → IsHeld values e
  entry_held entries done rest e found parts =
      All-head (IsHeld values) e rest (all_right (IsHeld values) done (e ∷ rest) (subst (All (IsHeld values)) parts found))

  -- what an entry says is so in the table behind the first ones
  pub entry_lawful : (done : List (Vec ℕ A × Vec ℕ A)) (e : Vec ℕ A × Vec ℕ A) (log : Log) (table : Table) (index : Index) (now : Module K L)
      → HasCalled L lines (rewrites_of done) log table index old now → ((key : List ℕ) → held values key ≡ value_in key table) → IsHeld values e
      → IsLawful (table_behind_calls table (rewrites_of done)) (Rewrites (Put e.0.items e.1.items))
  entry_lawful done e log table index now called says there =
      lawful_rewrite (table_behind_calls table (rewrites_of done)) e.0.items e.1.items (omega (arith, e.0.small, e.0.ok.0))
      (upkeep_same table (rewrites_of done) (rewrites_upkeep done) called.lawful e.0.items ∙ sym (says e.0.items) ∙ there)

  module _ (entries rest : List (Vec ℕ A × Vec ℕ A)) (e : Vec ℕ A × Vec ℕ A) (index next : Index) (now new : Module K L) (so : RewrittenSoFar entries (e ∷ rest) index now)
      (found : All (IsHeld values) entries) where
    pub one_rewritten : ((log : Log) (table : Table) → IsIndexOf index log → IsLawful table (Rewrites (Put e.0.items e.1.items))
        → HasCalled L lines (whole_call (Rewrites (Put e.0.items e.1.items)) ∷ []) log table next now new)
        → RewrittenSoFar entries rest next new
    one_rewritten one = record {
      done = so.done ++ e ∷ [];
      parts = so.parts ∙ sym (append_assoc so.done (e ∷ []) rest);
      called = λ log table is says.
          let first = so.called log table is says in
          let call : TableAttempt = whole_call (Rewrites (Put e.0.items e.1.items)) in
          subst (λ (attempts : List TableAttempt). HasCalled L lines attempts log table next old new)
          (sym (map-append (λ (entry : Vec ℕ A × Vec ℕ A). whole_call (Rewrites (Put entry.0.items entry.1.items))) so.done (e ∷ [])))
          (then_called L lines log table (rewrites_of so.done) (call ∷ []) index next old now new first
          (one (log_behind_calls lines log (rewrites_of so.done)) (table_behind_calls table (rewrites_of so.done)) first.indexed (entry_lawful so.done e log table index now first says (entry_held entries so.done rest e found so.parts))));
    }

  pub kept_up_then : (done : List (Vec ℕ A × Vec ℕ A)) (log : Log) (table : Table) (index next : Index) (now new : Module K L) → HasCalled L lines (rewrites_of done) log table index old now
      → HasKeptUp L lines (log_behind_calls lines log (rewrites_of done)) (table_behind_calls table (rewrites_of done)) next now new → HasKeptUp L lines log table next old new
  kept_up_then done log table index next now new first more = record {
    attempts = rewrites_of done ++ more.attempts;
    upkeep = All-append IsUpkeep (rewrites_of done) more.attempts (rewrites_upkeep done) more.upkeep;
    called = then_called L lines log table (rewrites_of done) more.attempts index next old now new first more.called;
  }

  -- all entries
  pub all_rewritten : (entries : List (Vec ℕ A × Vec ℕ A)) (index : Index) (now : Module K L) → RewrittenSoFar entries [] index now → (log : Log) (table : Table) → IsIndexOf start log
      → ((key : List ℕ) → held values key ≡ value_in key table) → HasCalled L lines (rewrites_of entries) log table index old now
  all_rewritten entries index now so log table is says =
      subst (λ (es : List (Vec ℕ A × Vec ℕ A)). HasCalled L lines (rewrites_of es) log table index old now) (sym (so.parts ∙ append-nil so.done)) (so.called log table is says)

-- calls that changed no value leave the program's table
pub kept_up : {K : Type 0} (L : Ghosts K) (lines : ℕ) (log : Log) (table : Table) (before it : JournalTable) (old new : Module K L) → it.values ≡ before.values → IsTableOf before log table
    → HasKeptUp L lines log table it.journal.index old new → IsKeptUp L lines log table it old new
kept_up L lines log table before it old new same is made =
    let calls : List TableCall = calls_done made.attempts in
    record {
      made = made;
      now = record {
        index = made.called.indexed;
        is = subst (λ (cs : List Call). IsTable (log_after_all lines log cs) (table_behind_calls table made.attempts)) (sym (done_calls made.attempts))
            (calls_hold lines log table calls is.is made.called.lawful);
        values = λ key. ap (λ (values : HashMap _ _ _). held values key) same ∙ is.values key ∙ sym (upkeep_same table made.attempts made.upkeep made.called.lawful key);
      };
    }

no_changes : (changes : List Change) → length changes ≡ 0 → changes ≡ []
no_changes [] none = refl
no_changes (change ∷ changes) none = absurd (omega (arith, none))

-- the number behind the changes
end_is : (it : JournalTable) (log : Log) (table : Table) → IsTableOf it log table → end_of_index it.journal.index ≡ table.gone + length table.changes
end_is it log table is =
    omega (
      arith,
      is.index.gone,
      is.is.gone,
      ap (λ (places : List ℕ). length places) is.index.places,
      length-places it.journal.index.lines log.first log.records,
      ap (λ (records : List (List ℕ)). length records) is.is.records,
      length-map table.changes record_of,
    )

module _ {K : Type 0} (L : Ghosts K) (lines : ℕ) (log : Log) (table : Table) (before it : JournalTable) (mid : Index) (old middle new : Module K L) (same : it.values ≡ before.values)
    (is : IsTableOf before log table) (found : All (IsHeld before.values) before.values.entries) (first : HasCalled L lines (rewrites_of before.values.entries) log table mid old middle) where
  abbrev rewrites : List TableAttempt
  rewrites = rewrites_of before.values.entries

  abbrev behind : Table
  behind = table_behind_calls table rewrites

  abbrev end : ℕ
  end = end_of_index before.journal.index

  -- what is left behind the cut
  left_is : (table_after behind (Cuts end)).changes ≡ puts_of before.values.entries
  left_is =
      ap (λ (t : Table). drop (end - t.gone) t.changes) (rewritten before.values.entries table)
      ∙ ap (λ (n : ℕ). drop n (table.changes ++ puts_of before.values.entries)) (let e : end - table.gone ≡ length table.changes = omega (arith, end_is before log table is) in e)
      ∙ drop-append_seam table.changes (puts_of before.values.entries)

  pub cut_lawful : IsLawful behind (Cuts end)
  cut_lawful key =
      ap (value_after key None) left_is ∙ puts_say before.values found key ∙ is.values key ∙ sym (upkeep_same table rewrites (rewrites_upkeep before.values.entries) first.lawful key)

  module _ (cut : HasCalled L lines (whole_call (Cuts end) ∷ []) (log_behind_calls lines log rewrites) behind it.journal.index middle new) where
    made : HasKeptUp L lines log table it.journal.index old new
    made = record {
      attempts = rewrites ++ whole_call (Cuts end) ∷ [];
      upkeep = All-append IsUpkeep rewrites (whole_call (Cuts end) ∷ []) (rewrites_upkeep before.values.entries) (one_upkeep (whole_call (Cuts end)) tt);
      called = then_called L lines log table rewrites (whole_call (Cuts end) ∷ []) mid it.journal.index old middle new first cut;
    }

    pub compacted : IsCompacted L lines log table it old new
    unfolding made kept_up
    compacted = record {
      kept = kept_up L lines log table before it old new same is made;
      lives = ap (λ (t : Table). t.changes) (table_behind-append table rewrites (whole_call (Cuts end) ∷ []))
          ∙ ap (λ (calls : List TableCall). (fold table_after behind calls).changes) (whole_done (Cuts end))
          ∙ left_is
          ∙ ap (λ (values : HashMap _ _ _). puts_of values.entries) (sym same);
    }

  module _ (nothing : end ≡ mid.gone) (stays : it.journal.index ≡ mid) (unasked : new ≡ middle) where
    unmade : HasKeptUp L lines log table it.journal.index old new
    unmade = record {
      attempts = rewrites;
      upkeep = rewrites_upkeep before.values.entries;
      called = subst (λ (index : Index). HasCalled L lines rewrites log table index old new) (sym stays)
          (subst (λ (m : Module K L). HasCalled L lines rewrites log table mid old m) (sym unasked) first);
    }

    none_there : table.changes ≡ []
    none_there =
        let holds : IsTable (log_behind_calls lines log rewrites) behind =
        subst (λ (cs : List Call). IsTable (log_after_all lines log cs) behind) (sym (done_calls rewrites)) (calls_hold lines log table (calls_done rewrites) is.is first.lawful) in
        no_changes table.changes (omega (arith, nothing, end_is before log table is, first.indexed.gone, holds.gone, ap (λ (t : Table). t.gone) (rewritten before.values.entries table)))

    pub uncut : IsCompacted L lines log table it old new
    unfolding unmade kept_up
    uncut = record {
      kept = kept_up L lines log table before it old new same is unmade;
      lives = ap (λ (t : Table). t.changes) (rewritten before.values.entries table)
          ∙ ap (λ (cs : List Change). cs ++ puts_of before.values.entries) none_there
          ∙ ap (λ (values : HashMap _ _ _). puts_of values.entries) (sym same);
    }

module _ {K : Type 0} (L : Ghosts K) (lines : ℕ) (log : Log) (table : Table) (before it : JournalTable) (mid : Journal) (old middle new : Module K L) (same : it.values ≡ before.values)
    (is : IsTableOf before log table) (found : All (IsHeld before.values) before.values.entries) (first : HasCalled L lines (rewrites_of before.values.entries) log table mid.index old middle)
    (lines_are : mid.index.lines ≡ lines) (upto : ℕ) (upto_is : upto ≡ end_of_index before.journal.index) where
  pub compacted_either : (cut : Option Accepted)
      → IfSome cut (λ head. (log : Log) (table : Table) → IsIndexOf mid.index log → IsLawful table (Cuts upto) → HasCalled L mid.index.lines (whole_call (Cuts upto) ∷ []) log table it.journal.index middle new)
      → IfNone cut ((upto ≡ mid.index.gone) × (it.journal ≡ mid) × (new ≡ middle)) → IsCompacted L lines log table it old new
  compacted_either None some none =
      uncut L lines log table before it mid.index old middle new same is found first (sym upto_is ∙ none.0) (ap (λ (j : Journal). j.index) none.1) none.2
  compacted_either (Some head) some none =
      let mid_log : Log = log_behind_calls lines log (rewrites_of before.values.entries) in
      let mid_table : Table = table_behind_calls table (rewrites_of before.values.entries) in
      let lawful = cut_lawful L lines log table before it mid.index old middle new same is found first in
      compacted L lines log table before it mid.index old middle new same is found first
      (subst (λ (n : ℕ). HasCalled L n (whole_call (Cuts (end_of_index before.journal.index)) ∷ []) mid_log mid_table it.journal.index middle new) lines_are
      (subst (λ (u : ℕ). IsLawful mid_table (Cuts u) → HasCalled L mid.index.lines (whole_call (Cuts u) ∷ []) mid_log mid_table it.journal.index middle new) upto_is (some mid_log mid_table first.indexed) lawful))
