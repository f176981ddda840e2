-- What a reader finds behind calls.
use Rattle.std.proofs.Common.{◌≡◌, ℕ, suc, ◌+◌, ◌-◌, ◌≤◌, List, [], ◌∷◌, ◌++◌, length, drop, get_or, refl, sym, ap, ◌∙◌, arith, append_assoc, length-append}
use Rattle.std.specs.Prelude.{Bool, true, if◌then◌else◌}
use Rattle.std.proofs.lemmas.List.{drop-append-le, drop-drop, get_or-drop}
use Rattle.std.proofs.lemmas.Option.{slice_get_read}
use Rattle.std.proofs.Math.Seq.{get_or-append_seam}
use Rattle.journal_log.specs.Log.{Log, end_of}
use Rattle.journal_log.specs.Calls.{Append, Attempt, Call, IsReadAs, Truncate, appended_in, attempt, done_of, gone_after, is_done}
use Rattle.journal_lives.specs.Promise.{HasRecord}

pub appended-append : (calls more : List Call) → appended_in (calls ++ more) ≡ appended_in calls ++ appended_in more
appended-append [] more = refl
appended-append (Append bytes ∷ calls) more = ap (λ (records : List (List ℕ)). bytes ∷ records) (appended-append calls more)
appended-append (Truncate upto ∷ calls) more = appended-append calls more

gone-append : (gone : ℕ) (calls more : List Call) → gone_after gone (calls ++ more) ≡ gone_after (gone_after gone calls) more
gone-append gone [] more = refl
gone-append gone (Append bytes ∷ calls) more = gone-append gone calls more
gone-append gone (Truncate upto ∷ calls) more = gone-append upto calls more

done-append : (attempts more : List Attempt) → done_of (attempts ++ more) ≡ done_of attempts ++ done_of more
done-append [] more = refl
done-append (a ∷ attempts) more =
    ap (λ (calls : List Call). (if is_done a then a.call ∷ [] else []) ++ calls) (done-append attempts more)
    ∙ sym (append_assoc (if is_done a then a.call ∷ [] else []) (done_of attempts) (done_of more))

pub done_last : (before : List Attempt) (bytes : List ℕ) (made : ℕ) → is_done (attempt (Append bytes) made) ≡ true
    → done_of (before ++ attempt (Append bytes) made ∷ []) ≡ done_of before ++ Append bytes ∷ []
done_last before bytes made done =
    done-append before (attempt (Append bytes) made ∷ []) ∙ ap (λ (b : Bool). done_of before ++ ((if b then Append bytes ∷ [] else []) ++ [])) done

-- calls behind calls, as a reader sees them
pub read_on : (log mid new : Log) (calls more : List Call) → IsReadAs log calls mid → IsReadAs mid more new → IsReadAs log (calls ++ more) new
read_on log mid new calls more one two = record {
  gone = two.gone ∙ ap (λ (g : ℕ). gone_after g more) one.gone ∙ sym (gone-append log.gone calls more);
  forward = omega (arith, one.forward, two.forward);
  records = two.records
      ∙ ap (λ (records : List (List ℕ)). drop (new.gone - mid.gone) (records ++ appended_in more)) one.records
      ∙ ap (drop (new.gone - mid.gone)) (sym (drop-append-le (mid.gone - log.gone) (log.records ++ appended_in calls) (appended_in more)
      (omega (arith, one.forward, one.end, length-append log.records (appended_in calls)))))
      ∙ drop-drop (new.gone - mid.gone) (mid.gone - log.gone) (log.records ++ appended_in calls ++ appended_in more)
      ∙ ap (λ (k : ℕ). drop k (log.records ++ appended_in calls ++ appended_in more)) (let e : mid.gone - log.gone + (new.gone - mid.gone) ≡ new.gone - log.gone = omega (arith, one.forward, two.forward) in e)
      ∙ ap (drop (new.gone - log.gone)) (append_assoc log.records (appended_in calls) (appended_in more) ∙ ap (λ (records : List (List ℕ)). log.records ++ records) (sym (appended-append calls more)));
  end = omega (arith, one.end, two.end, ap length (appended-append calls more), length-append (appended_in calls) (appended_in more));
}

-- an append among the calls is there, under its number, unless it was cut
module _ (log new : Log) (before more : List Call) (bytes : List ℕ) (number : ℕ) (reads : IsReadAs log (before ++ Append bytes ∷ more) new)
    (is : number ≡ end_of log + length (appended_in before)) where
  abbrev front : List (List ℕ)
  front = log.records ++ appended_in before

  long : length (appended_in (before ++ Append bytes ∷ more)) ≡ length (appended_in before) + suc (length (appended_in more))
  long = ap length (appended-append before (Append bytes ∷ more)) ∙ length-append (appended_in before) (bytes ∷ appended_in more)

  all : log.records ++ appended_in (before ++ Append bytes ∷ more) ≡ front ++ bytes ∷ appended_in more
  all = ap (λ (records : List (List ℕ)). log.records ++ records) (appended-append before (Append bytes ∷ more)) ∙ sym (append_assoc log.records (appended_in before) (bytes ∷ appended_in more))

  place : new.gone ≤ number → new.gone - log.gone + (number - new.gone) ≡ length front
  place there = omega (arith, there, is, reads.forward, length-append log.records (appended_in before))

  pub found_there : HasRecord new number bytes
  found_there there =
      slice_get_read new.records (length new.records) (number - new.gone) bytes refl (omega (arith, there, is, reads.end, long))
      (sym (ap (λ (records : List (List ℕ)). get_or records (number - new.gone) bytes) (reads.records ∙ ap (drop (new.gone - log.gone)) all)
      ∙ get_or-drop (new.gone - log.gone) (front ++ bytes ∷ appended_in more) (number - new.gone) bytes
      ∙ ap (λ (i : ℕ). get_or (front ++ bytes ∷ appended_in more) i bytes) (place there)
      ∙ get_or-append_seam front bytes (appended_in more) bytes))
