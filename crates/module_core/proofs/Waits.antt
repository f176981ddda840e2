-- What waits, after a write joined it or left it.
use Rattle.std.proofs.Common.{eq-eqb, ⊎_elim}
use Rattle.std.proofs.Math.Bool.{or-true}
use Rattle.std.proofs.lemmas.Bool.Decides.{eqb_tells}
use Rattle.std.proofs.lemmas.List.{take-append-drop}
use Rattle.std.proofs.lemmas.List.Elements.{All-append, All-cons, All-drop, All-take, All-weaker}
use Rattle.std.proofs.lemmas.List.Folds.{list_any-append}
use Rattle.std.proofs.lemmas.List.Sums.{count_by-le-length}
use Rattle.std.specs.List.{list_any}
use Rattle.std.specs.Prelude.{◌==◌, ◌||◌, All, IfNone, IfSome}
use Rattle.channel_port.specs.Answers.{IsBelowHold, IsServed, Puts}
use Rattle.channel_port.specs.Waits.{AllBelow, Goes, Joins, is_write_up_to, waiting, writes_up_to}
use Rattle.channel_port.specs.declared.answers.Done.{Done}
use Rattle.channel_port.specs.declared.answers.Served.{Served}
use Rattle.std.proofs.Common.{drop-cons, get_or, slice_get}
use Rattle.std.proofs.lemmas.Option.{get_or_from_slice_get, slice_get_within}
use Rattle.nv_machine.specs.Machine.{WorkStep}
use Rattle.channel_port.specs.declared.answers.Served.TheVariants as served
use Rattle.module_core.proofs.Common.{ℕ, ◌++◌, ◌+◌, ◌<◌, ◌∙◌, ◌∷◌, ◌≡◌, ◌≢◌, Bool, ChannelsView, ForSome, List, Machine, None, Option, Setup, Some, Waiting, Waits, WaitsFrom, ap, arith, drop, false, has_ended, hold_of, rules, subst, suc, sym, take, true}

-- a list round one of its elements
around : {X : Type 0} (x : X) (xs : List X) (place : ℕ) → slice_get xs place ≡ Some x → take place xs ++ x ∷ drop (suc place) xs ≡ xs
around x xs place is =
    let from : drop place xs ≡ get_or xs place x ∷ drop (suc place) xs = drop-cons xs place x (slice_get_within xs place x is) in
    ap (λ y. take place xs ++ y ∷ drop (suc place) xs) (sym (get_or_from_slice_get xs place x x is))
    ∙ ap (λ ys. take place xs ++ ys) (sym from) ∙ take-append-drop place xs

or_middle : (a b c : Bool) → (a || b) ≡ true → (a || (c || b)) ≡ true
or_middle a b c is = search rules

-- what joins is found
pub any_joined : {X : Type 0} (p : X → Bool) (x : X) (old new : List X) → Joins x old new → p x ≡ true → list_any p new ≡ true
any_joined p x old new joins is = search (rules, list_any-append, or-true)

-- and so is what stood there before
pub any_stays : {X : Type 0} (p : X → Bool) (x : X) (old new : List X) → Joins x old new → list_any p old ≡ true → list_any p new ≡ true
any_stays p x old new joins is =
    let place = joins.0 in let front : Bool = list_any p (take place old) in let back : Bool = list_any p (drop place old) in
    let split : (front || back) ≡ true = sym (list_any-append p (take place old) (drop place old)) ∙ ap (list_any p) (take-append-drop place old) ∙ is in
    ap (list_any p) joins.2 ∙ list_any-append p (take place old) (x ∷ drop place old) ∙ or_middle front back (p x) split

-- a write that is held joins the others
pub held_joined : (n all : ℕ) (w : Waiting) (old new : List Waiting) → w.number ≡ all → Joins w old new → WaitsFrom n all old → WaitsFrom n (all + 1) new
held_joined n all w old new is joins held number from below =
    ⊎_elim
    (λ same. any_joined (λ v. v.number == number) w old new joins (eq-eqb w.number number (is ∙ sym same.1)))
    (λ other. let apart : number ≢ all = other.1 in any_stays (λ v. v.number == number) w old new joins (held number from (omega arith)))
    (eqb_tells number all)

-- a write that is put joins those that wait
pub puts_joins : (number channel : ℕ) (old new : Waits) → Puts number channel old new → Joins (waiting number channel) old.writes new.writes
puts_joins number channel old new puts = (writes_up_to channel old.writes, count_by-le-length (is_write_up_to channel) old.writes, puts.joins)

-- a write of the next number joins those below it
pub below_joined : (number channel : ℕ) (old new : Waits) → Puts number channel old new → AllBelow number old.writes → AllBelow (number + 1) new.writes
below_joined number channel old new puts all =
    let place = writes_up_to channel old.writes in let P : Waiting → Type 0 = λ w. w.number < number + 1 in
    let more : All P old.writes = All-weaker (λ w. w.number < number) P (λ w less. omega (arith, less)) old.writes all in
    subst (All P) (sym puts.joins) (All-append P (take place old.writes) (waiting number channel ∷ drop place old.writes) (All-take P place old.writes more)
    (All-cons P (waiting number channel) (drop place old.writes) (omega arith) (All-drop P place old.writes more)))

or_out : (a b c : Bool) → (a || (c || b)) ≡ true → c ≡ false → (a || b) ≡ true
or_out a b c is off = search rules

-- what isn't the one that goes is found still
any_left : {X : Type 0} (p : X → Bool) (x : X) (old new : List X) → Goes x old new → p x ≡ false → list_any p old ≡ true → list_any p new ≡ true
any_left p x old new goes off is =
    let place = goes.0 in let front : Bool = list_any p (take place old) in let back : Bool = list_any p (drop (suc place) old) in
    let split : (front || (p x || back)) ≡ true = sym (list_any-append p (take place old) (x ∷ drop (suc place) old)) ∙ ap (list_any p) (around x old place goes.1) ∙ is in
    ap (list_any p) goes.2 ∙ list_any-append p (take place old) (drop (suc place) old) ∙ or_out front back (p x) split off

All_left : {X : Type 0} (P : X → Type 0) (x : X) (old new : List X) → Goes x old new → All P old → All P new
All_left P x old new goes all =
    let place = goes.0 in
    subst (All P) (sym goes.2) (All-append P (take place old) (drop (suc place) old) (All-take P place old all) (All-drop P (suc place) old all))

-- a write below the hold goes, and the held ones stay
held_left : (n end : ℕ) (w : Waiting) (old new : List Waiting) → w.number < n → Goes w old new → WaitsFrom n end old → WaitsFrom n end new
held_left n end w old new below goes held number from to =
    any_left (λ v. v.number == number) w old new goes
    (⊎_elim (λ same. absurd (let e : w.number ≡ number = same.1 in omega arith)) (λ other. other.0) (eqb_tells w.number number))
    (held number from to)

-- what a command leaves of the writes that wait
served_below : (number : ℕ) (hold : Option ℕ) (channel : ℕ) (s : Option Served) (old new : Waits) → IsServed hold channel s old new → AllBelow number old.writes → AllBelow number new.writes
served_below number hold channel None old new is all = subst (λ (w : Waits). AllBelow number w.writes) (sym is) all
served_below number hold channel (Some (served.Write k)) old new is all = All_left (λ w. w.number < number) (waiting k channel) old.writes new.writes is.goes all
served_below number hold channel (Some (served.Read ticket)) old new is all = subst (λ (ws : List Waiting). AllBelow number ws) (sym is.writes) all

served_held : (hold : Option ℕ) (channel end : ℕ) (s : Option Served) (old new : Waits) → IsServed hold channel s old new
    → ForSome hold (λ n. WaitsFrom n end old.writes) → ForSome hold (λ n. WaitsFrom n end new.writes)
served_held hold channel end None old new is held n some = subst (λ (w : Waits). WaitsFrom n end w.writes) (sym is) (held n some)
served_held hold channel end (Some (served.Write k)) old new is held n some =
    held_left n end (waiting k channel) old.writes new.writes (subst (λ (h : Option ℕ). IsBelowHold h k) some is.unheld) is.goes (held n some)
served_held hold channel end (Some (served.Read ticket)) old new is held n some = subst (λ (ws : List Waiting). WaitsFrom n end ws) (sym is.writes) (held n some)

-- the same of the channels, whether a command was issued or not
pub worked_below : (number : ℕ) (channel : ℕ) (result : Option Done) (old new : ChannelsView)
    → IfSome result (λ done. IsServed old.hold channel done.served old.waits new.waits) → IfNone result (new ≡ old) → AllBelow number old.waits.writes → AllBelow number new.waits.writes
worked_below number channel None old new is stays all = subst (λ (v : ChannelsView). AllBelow number v.waits.writes) (sym stays) all
worked_below number channel (Some done) old new is stays all = served_below number old.hold channel done.served old.waits new.waits is all

pub worked_held : (channel end : ℕ) (result : Option Done) (old new : ChannelsView)
    → IfSome result (λ done. IsServed old.hold channel done.served old.waits new.waits) → IfNone result (new ≡ old)
    → ForSome old.hold (λ n. WaitsFrom n end old.waits.writes) → ForSome old.hold (λ n. WaitsFrom n end new.waits.writes)
worked_held channel end None old new is stays held = subst (λ (v : ChannelsView). ForSome old.hold (λ n. WaitsFrom n end v.waits.writes)) (sym stays) held
worked_held channel end (Some done) old new is stays held = served_held old.hold channel end done.served old.waits new.waits is held

-- the step of the machine, where a command was issued or not
pub worked_step : (setup : Setup) (channel : ℕ) (result : Option Done) (m : Machine) (old new : ChannelsView) → has_ended m.mode ≡ false → old.waits ≡ m.waits → old.hold ≡ hold_of m.store.saving
    → IfSome result (λ done. IsServed old.hold channel done.served old.waits new.waits) → IfNone result (new ≡ old) → WorkStep setup channel result m (record m { waits = new.waits })
worked_step setup channel result m old new runs waits hold is stays = search rules
