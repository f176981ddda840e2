-- Each step keeps the rule of the logs.
use Rattle.std.proofs.Common.{◌≡◌, ◌≢◌, ◌⊎◌, ℕ, zero, suc, ◌+◌, ◌<◌, ◌==◌, Bool, List, [], ◌∷◌, ◌++◌, length, get_or, set, true, false, true≢false, refl, sym, ap, ◌∙◌, subst, inl, inr, ⊎_elim, arith, get_or-set_same, get_or-set_other, length-set}
use Rattle.std.specs.Prelude.{if◌then◌else◌}
use mathlib.Core.Option.{some, none, some-ne-none, some-injective}
use lib.ListN.{get_elem?}
use prog.Atomic.{either}
use Rattle.std.proofs.lemmas.Bool.{ne_eqb}
use Rattle.std.proofs.lemmas.List.{length-append}
use Rattle.atomic_table.specs.Table.{step, keeps, Allows, Splits, Joins, opening}
use Rattle.atomic_table.proofs.Lists.{at_set}
use Rattle.channel_log.specs.declared.entry.LogEntry.{LogEntry}
use Rattle.channel_port.specs.Waits.{Waits}
use Rattle.channel_log.specs.Log.{IsLogOf, LogNote, note_of}
use Rattle.channel_log.specs.LogRule.{LogSeat, SeatView, first_view, no_view, dealt_view, channel_view, channel_half, front_half, both_halves, noted_view, FitsLogs, KeepsLogRule, NotesEntry, ComparesLogs}

not_true : false ≡ true → ⊥
not_true e = true≢false (sym e)

abbrev Logs : Type 0
Logs = List (List LogNote)

-- which seat is whose, once one more channel has its seat
abbrev with_seat : (ℕ → ℕ) → ℕ → ℕ → ℕ → ℕ
with_seat seat_of channel id c = if c == channel then id else seat_of c

with_seat_same : (seat_of : ℕ → ℕ) (channel id : ℕ) → with_seat seat_of channel id channel ≡ id
with_seat_same seat_of channel id = grind arith

with_seat_other : (seat_of : ℕ → ℕ) (channel id c : ℕ) → c ≢ channel → with_seat seat_of channel id c ≡ seat_of c
with_seat_other seat_of channel id c apart = ap (λ (b : Bool). if b then id else seat_of c) (ne_eqb c channel apart)

-- the views of all seats but one fit
abbrev OthersFit : ℕ → (ℕ → ℕ) → Logs → List SeatView → ℕ → Type 0
OthersFit front seat_of logs views id = (j : ℕ) (u : SeatView) → j ≢ id → get_elem? views j ≡ some u → FitsLogs front seat_of logs j u

-- all views fit
abbrev AllFit : ℕ → (ℕ → ℕ) → Logs → List SeatView → Type 0
AllFit front seat_of logs views = (j : ℕ) (u : SeatView) → get_elem? views j ≡ some u → FitsLogs front seat_of logs j u

-- all views fit after a change of one
fits_set : (front : ℕ) (seat_of : ℕ → ℕ) (logs : Logs) (views : List SeatView) (id : ℕ) (w : SeatView)
    → OthersFit front seat_of logs views id → FitsLogs front seat_of logs id w → AllFit front seat_of logs (set views id w)
fits_set front seat_of logs views id w others mine j u e =
    ⊎_elim
    (λ (x : (j ≡ id) × (w ≡ u)). subst (λ (y : ℕ × SeatView). FitsLogs front seat_of logs y.0 y.1) (λ i. (sym x.0 i, x.1 i)) mine)
    (λ (x : (j ≢ id) × (get_elem? views j ≡ some u)). others j u x.0 x.1)
    (at_set views id j w u e)

-- the last of the views is a new one
at_end : (views : List SeatView) (w u : SeatView) (j : ℕ) → get_elem? (views ++ w ∷ []) j ≡ some u
    → (get_elem? views j ≡ some u) ⊎ ((j ≡ length views) × (w ≡ u))
at_end [] w u zero e = inr (refl, some-injective w u e)
at_end [] w u (suc j) e = absurd (some-ne-none u (sym e))
at_end (x ∷ xs) w u zero e = inl e
at_end (x ∷ xs) w u (suc j) e = ⊎_elim inl (λ h. inr (omega (arith, h.0), h.1)) (at_end xs w u j e)

-- all views fit after a seat was cut in two
fits_cut : (front : ℕ) (seat_of : ℕ → ℕ) (logs : Logs) (views : List SeatView) (id : ℕ) (left right : SeatView)
    → OthersFit front seat_of logs views id → FitsLogs front seat_of logs id left → FitsLogs front seat_of logs (length (set views id left)) right
    → AllFit front seat_of logs (set views id left ++ right ∷ [])
fits_cut front seat_of logs views id left right others mine theirs j u e =
    ⊎_elim
    (λ was. fits_set front seat_of logs views id left others mine j u was)
    (λ (h : (j ≡ length (set views id left)) × (right ≡ u)). subst (λ (y : ℕ × SeatView). FitsLogs front seat_of logs y.0 y.1) (λ i. (sym h.0 i, h.1 i)) theirs)
    (at_end (set views id left) right u j e)

none_fits : (front : ℕ) (seat_of : ℕ → ℕ) (logs : Logs) (j : ℕ) → FitsLogs front seat_of logs j no_view
none_fits front seat_of logs j = record { all_is = λ has. absurd (not_true has); one_is = λ has. absurd (not_true has) }

pub begins : KeepsLogRule (opening (0 ∷ []) [] first_view)
begins = record { front = 0; seat_of = λ _. 0; logs = []; fits = one }
  where
    one : (id : ℕ) (v : SeatView) → get_elem? (first_view ∷ []) id ≡ some v → FitsLogs 0 (λ _. 0) [] id v
    one zero v e = subst (FitsLogs 0 (λ _. 0) [] 0) (some-injective _ _ e) record { all_is = λ _. (refl, refl); one_is = λ has. absurd (not_true has) }
    one (suc id) v e = absurd (some-ne-none v (sym e))

-- a longer list has the same elements, and the new one
or_longer : (xs : Logs) (y : List LogNote) (k : ℕ) → k < length xs → get_or (xs ++ y ∷ []) k [] ≡ get_or xs k []
or_longer [] y k less = absurd (omega (arith, less))
or_longer (x ∷ xs) y zero less = refl
or_longer (x ∷ xs) y (suc k) less = or_longer xs y k (omega (arith, less))

or_last : (xs : Logs) (y : List LogNote) → get_or (xs ++ y ∷ []) (length xs) [] ≡ y
or_last [] y = refl
or_last (x ∷ xs) y = or_last xs y

pub deals : (id : ℕ) (v : SeatView) → v.has_all ≡ true → v.has_one ≡ false → Splits KeepsLogRule id v (dealt_view v) (channel_view v)
deals id v has_all has_none s k at =
    let is = (k.fits id v at).all_is has_all in
    let more = v.logs ++ [] ∷ [] in
    let seat = length (set s.views id (dealt_view v)) in
    let seat_of = with_seat k.seat_of (length v.logs) seat in
    let size : length more ≡ length v.logs + 1 = length-append v.logs ([] ∷ []) in
    let others : OthersFit k.front seat_of more s.views id = λ j u apart e.
    let f = k.fits j u e in record {
      all_is = λ has. absurd (apart ((f.all_is has).0 ∙ sym is.0));
      one_is = λ has.
          let d = f.one_is has in
          let same : length v.logs ≡ length k.logs = ap length is.1 in
          let below : u.channel < length v.logs = omega (arith, d.1.there, same) in
          let other : u.channel ≢ length v.logs = λ (e : u.channel ≡ length v.logs). omega (arith, e, below) in (
            d.0 ∙ sym (with_seat_other k.seat_of (length v.logs) seat u.channel other),
            record {
              there = omega (arith, below, size);
              same = or_longer v.logs [] u.channel below ∙ ap (λ (ls : Logs). get_or ls u.channel []) is.1 ∙ d.1.same;
            },
          );
    } in record {
      front = k.front;
      seat_of = seat_of;
      logs = more;
      fits = fits_cut k.front seat_of more s.views id (dealt_view v) (channel_view v) others
          record { all_is = λ _. (is.0, refl); one_is = λ has. absurd (not_true (sym has_none ∙ has)) }
          record {
            all_is = λ has. absurd (not_true has);
            one_is = λ _. (sym (with_seat_same k.seat_of (length v.logs) seat), record { there = omega (arith, size); same = or_last v.logs [] });
          };
    }

pub leaves : (id : ℕ) (v : SeatView) → v.has_all ≡ true → Splits KeepsLogRule id v (channel_half v) (front_half v)
leaves id v has_all s k at =
    let mine = k.fits id v at in
    let is = mine.all_is has_all in
    let seat = length (set s.views id (channel_half v)) in record {
      front = seat;
      seat_of = k.seat_of;
      logs = k.logs;
      fits = fits_cut seat k.seat_of k.logs s.views id (channel_half v) (front_half v)
          (λ j u apart e. let f = k.fits j u e in record { all_is = λ has. absurd (apart ((f.all_is has).0 ∙ sym is.0)); one_is = f.one_is })
          record { all_is = λ has. absurd (not_true has); one_is = mine.one_is }
          record { all_is = λ _. (refl, is.1); one_is = λ has. absurd (not_true has) };
    }

-- the view of a seat that enters another is as it was
fits_still : (front : ℕ) (seat_of : ℕ → ℕ) (logs : Logs) (id other : ℕ) (views : List SeatView) (w u : SeatView) → AllFit front seat_of logs views
    → ¬ (other ≡ id) → get_elem? (set views id w) other ≡ some u → FitsLogs front seat_of logs other u
fits_still front seat_of logs id other views w u fits apart there = ⊎_elim (λ (t : (other ≡ id) × (w ≡ u)). absurd (apart t.0)) (λ (t : (other ≢ id) × (get_elem? views other ≡ some u)). fits other u t.1) (at_set views id other w u there)

pub enters : (id : ℕ) (v : SeatView) (other : ℕ) (u : SeatView) → u.has_all ≡ true → Joins KeepsLogRule id v other u (both_halves v u) no_view
enters id v other u has_all s k at apart there =
    let mine = k.fits id v at in
    let w = both_halves v u in
    let theirs = fits_still k.front k.seat_of k.logs id other s.views w u k.fits apart there in
    let is = theirs.all_is has_all in record {
      front = id;
      seat_of = k.seat_of;
      logs = k.logs;
      fits = λ j y e. ⊎_elim
          (λ (h : (j ≡ other) × (no_view ≡ y)). subst (FitsLogs id k.seat_of k.logs j) h.1 (none_fits id k.seat_of k.logs j))
          (λ (h : (j ≢ other) × (get_elem? (set s.views id w) j ≡ some y)). ⊎_elim
          (λ (g : (j ≡ id) × (w ≡ y)). subst (λ (z : ℕ × SeatView). FitsLogs id k.seat_of k.logs z.0 z.1) (λ i. (sym g.0 i, g.1 i)) record { all_is = λ _. (refl, is.1); one_is = mine.one_is })
          (λ (g : (j ≢ id) × (get_elem? s.views j ≡ some y)). let f = k.fits j y g.1 in record { all_is = λ has. absurd (h.0 ((f.all_is has).0 ∙ sym is.0)); one_is = f.one_is })
          (at_set s.views id j w y h.1))
          (at_set (set s.views id w) other j no_view y e);
    }

-- a seat that has both knows that they agree
agree : (front : ℕ) (seat_of : ℕ → ℕ) (logs : Logs) (id : ℕ) (v : SeatView) → v.has_all ≡ true → v.has_one ≡ true → FitsLogs front seat_of logs id v → IsLogOf v.logs v.channel v.log
agree front seat_of logs id v has_all has_one f =
    let is = f.all_is has_all in
    let d = f.one_is has_one in
    let size : length v.logs ≡ length logs = ap length is.1 in
    record { there = omega (arith, d.1.there, size); same = ap (λ (ls : Logs). get_or ls v.channel []) is.1 ∙ d.1.same }

pub notes : (waits : Waits) (slots id : ℕ) (me : LogSeat) (x : LogEntry) → me.0.has_all ≡ true → me.0.has_one ≡ true → me.1 ≡ []
    → Allows KeepsLogRule slots id me 0 (λ n. either (n == 0) 0 n) (NotesEntry waits (step slots 0 0 0 (some x)) me)
notes waits slots id me x has_all has_one empty s k homes at fits =
    let v = me.0 in
    let mine = k.fits id v at in
    let is = mine.all_is has_all in
    let d = mine.one_is has_one in
    let w = noted_view (note_of x waits) v in
    let both = agree k.front k.seat_of k.logs id v has_all has_one mine in
    let size : length w.logs ≡ length v.logs = length-set v.logs v.channel w.log in
    let others : OthersFit k.front k.seat_of w.logs s.views id = λ j u apart e.
    let f = k.fits j u e in record {
      all_is = λ has. absurd (apart ((f.all_is has).0 ∙ sym is.0));
      one_is = λ has.
          let o = f.one_is has in
          let other : u.channel ≢ v.channel = λ (c : u.channel ≡ v.channel). apart (o.0 ∙ ap k.seat_of c ∙ sym d.0) in
          let same : length v.logs ≡ length k.logs = ap length is.1 in (
            o.0,
            record {
              there = omega (arith, o.1.there, size, same);
              same = get_or-set_other v.logs v.channel u.channel w.log [] other ∙ ap (λ (ls : Logs). get_or ls u.channel []) is.1 ∙ o.1.same;
            },
          );
    } in (
      w,
      keeps,
      tt,
      record {
        front = k.front;
        seat_of = k.seat_of;
        logs = w.logs;
        fits = fits_set k.front k.seat_of w.logs s.views id w others
            record {
              all_is = λ _. (is.0, refl);
              one_is = λ _. (d.0, record { there = omega (arith, both.there, size); same = get_or-set_same v.logs v.channel w.log [] both.there });
            };
      },
      (both, (λ y said. ap (λ (z : LogEntry). noted_view (note_of z waits) v) (some-injective x y said)), empty),
    )

pub compares : (slots id : ℕ) (me : LogSeat) → me.0.has_all ≡ true → me.0.has_one ≡ true → me.1 ≡ []
    → Allows KeepsLogRule slots id me 0 (λ n. n) (ComparesLogs (step slots 0 0 0 none) me)
compares slots id me has_all has_one empty s k homes at fits =
    let mine = k.fits id me.0 at in (
      me.0,
      keeps,
      tt,
      record {
        front = k.front;
        seat_of = k.seat_of;
        logs = k.logs;
        fits = fits_set k.front k.seat_of k.logs s.views id me.0 (λ j u apart e. k.fits j u e) mine;
      },
      (agree k.front k.seat_of k.logs id me.0 has_all has_one mine, refl, empty),
    )
