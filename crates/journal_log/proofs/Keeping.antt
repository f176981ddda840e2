-- What the writes of a journal's calls leave.
use Rattle.std.proofs.Common.{◌≡◌, ℕ, ◌+◌, ◌-◌, inl, inr, Bool, true, false, List, [], ◌∷◌, ◌++◌, length, take, drop, refl, sym, ap, subst, ◌∙◌, arith, append_assoc, length-append, length-drop}
use Rattle.std.specs.Prelude.{if◌then◌else◌}
use Rattle.std.proofs.lemmas.Bool.{cases_lt, lt-ltb, le-ltb}
use Rattle.std.proofs.lemmas.List.{append-nil, drop-append-le, drop-drop, take_all}
use Rattle.std.proofs.lemmas.List.Sums.{fold-append}
use Rattle.line_memory.specs.declared.Write.{Write}
use Rattle.line_memory.specs.Memory.{after, after_write}
use Rattle.journal_log.specs.Log.{Holds, Log}
use Rattle.journal_log.specs.Calls.{Append, AreAllowed, Attempt, Call, IsAllowed, IsReadAs, Truncate, appended_in, call_writes, done_of, is_done, journal_writes, kept_in, lines_before_head, log_after, log_after_all, log_behind, upto_write}
use Rattle.journal_log.proofs.Cutting.{upto-allowed, upto-writes}
use Rattle.journal_log.proofs.Heads.{headed_call, length-call, unheaded}
use Rattle.journal_log.proofs.Placing.{length-after}

-- one attempt
one_attempt : (m : List (List ℕ)) (log : Log) (a : Attempt) → Holds m log → IsAllowed (length m) log a.call
    → Holds (after m (take a.made (call_writes (length m) log a.call))) (log_behind (length m) log a)
one_attempt m log a h allowed =
    elim (cases_lt (length (lines_before_head a.call)) a.made) [
      | inl done ↦
          let all : take a.made (call_writes (length m) log a.call) ≡ call_writes (length m) log a.call =
          take_all a.made (call_writes (length m) log a.call) (omega (arith, done, length-call (length m) log a.call)) in
          rw (lt-ltb (length (lines_before_head a.call)) a.made done, all) (headed_call m log a.call h allowed)
      | inr short ↦ rw (le-ltb (length (lines_before_head a.call)) a.made short) (unheaded m log a.call a.made h allowed short)
    ]

done_behind : (lines : ℕ) (log : Log) (a : Attempt) (calls : List Call) → log_after_all lines log ((if is_done a then a.call ∷ [] else []) ++ calls) ≡ log_after_all lines (log_behind lines log a) calls
done_behind lines log a calls = by_flag (is_done a)
  where
    by_flag : (done : Bool) → log_after_all lines log ((if done then a.call ∷ [] else []) ++ calls) ≡ log_after_all lines (if done then log_after lines log a.call else log) calls
    by_flag true = refl
    by_flag false = refl

kept : (attempts : List Attempt) (m : List (List ℕ)) (log : Log) → Holds m log → AreAllowed (length m) log attempts
    → Holds (after m (journal_writes (length m) log attempts)) (log_after_all (length m) log (done_of attempts))
kept [] m log h allowed = h
kept (a ∷ rest) m log h allowed =
    let here : List Write = take a.made (call_writes (length m) log a.call) in
    let long : length (after m here) ≡ length m = length-after m here in
    let behind : Holds (after (after m here) (journal_writes (length m) (log_behind (length m) log a) rest)) (log_after_all (length m) (log_behind (length m) log a) (done_of rest)) =
    subst (λ (lines : ℕ). Holds (after (after m here) (journal_writes lines (log_behind (length m) log a) rest)) (log_after_all lines (log_behind (length m) log a) (done_of rest))) long
    (kept rest (after m here) (log_behind (length m) log a) (one_attempt m log a h allowed.0) (subst (λ (lines : ℕ). AreAllowed lines (log_behind (length m) log a) rest) (sym long) allowed.1)) in
    rw (fold-append after_write m here (journal_writes (length m) (log_behind (length m) log a) rest), done_behind (length m) log a (done_of rest)) behind

pub whole : (base : List (List ℕ)) (log : Log) (attempts : List Attempt) (n : ℕ) → Holds base log → AreAllowed (length base) log attempts
    → Holds (after base (take n (journal_writes (length base) log attempts))) (log_after_all (length base) log (kept_in n attempts))
whole base log attempts n h allowed =
    subst (λ (ws : List Write). Holds (after base ws) (log_after_all (length base) log (kept_in n attempts))) (sym (upto-writes attempts (length base) log n))
    (kept (upto_write n attempts) base log h (upto-allowed attempts (length base) log n allowed))

-- one call more in front, as a reader sees it
read_more : (lines : ℕ) (log new : Log) (call : Call) (calls : List Call) → IsAllowed lines log call → IsReadAs (log_after lines log call) calls new → IsReadAs log (call ∷ calls) new
read_more lines log new (Append bytes) calls allowed r = record {
  gone = r.gone;
  forward = r.forward;
  records = r.records ∙ ap (drop (new.gone - log.gone)) (append_assoc log.records (bytes ∷ []) (appended_in calls));
  end = omega (arith, r.end, length-append log.records (bytes ∷ []));
}
read_more lines log new (Truncate upto) calls allowed r = record {
  gone = r.gone;
  forward = omega (arith, r.forward, allowed.0);
  records = r.records
      ∙ ap (drop (new.gone - upto)) (sym (drop-append-le (upto - log.gone) log.records (appended_in calls) (omega (arith, allowed.0, allowed.1))))
      ∙ drop-drop (new.gone - upto) (upto - log.gone) (log.records ++ appended_in calls)
      ∙ ap (λ (k : ℕ). drop k (log.records ++ appended_in calls)) (let e : upto - log.gone + (new.gone - upto) ≡ new.gone - log.gone = omega (arith, r.forward, allowed.0) in e);
  end = omega (arith, r.end, allowed.0, allowed.1, length-drop (upto - log.gone) log.records);
}

read_all : (attempts : List Attempt) (lines : ℕ) (log : Log) → AreAllowed lines log attempts → IsReadAs log (done_of attempts) (log_after_all lines log (done_of attempts))
read_all [] lines log allowed = record {
  gone = refl;
  forward = omega arith;
  records = sym (ap (λ (k : ℕ). drop k (log.records ++ [])) (let e : log.gone - log.gone ≡ 0 = omega arith in e) ∙ append-nil log.records);
  end = omega arith;
}
read_all (a ∷ rest) lines log allowed = by_flag (is_done a) (read_all rest lines (log_behind lines log a) allowed.1)
  where
    by_flag : (done : Bool) → let log_then = if done then log_after lines log a.call else log in
        IsReadAs log_then (done_of rest) (log_after_all lines log_then (done_of rest))
        → let calls = (if done then a.call ∷ [] else []) ++ done_of rest in IsReadAs log calls (log_after_all lines log calls)
    by_flag true r = read_more lines log (log_after_all lines (log_after lines log a.call) (done_of rest)) a.call (done_of rest) allowed.0 r
    by_flag false r = r

pub reads : (lines : ℕ) (log : Log) (attempts : List Attempt) (n : ℕ) → AreAllowed lines log attempts → IsReadAs log (kept_in n attempts) (log_after_all lines log (kept_in n attempts))
reads lines log attempts n allowed = read_all (upto_write n attempts) lines log (upto-allowed attempts lines log n allowed)
