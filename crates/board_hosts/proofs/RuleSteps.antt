-- Each step keeps the rule of the two words.
use Rattle.std.proofs.Common.{◌≡◌, ◌≢◌, ℕ, zero, suc, ◌≤◌, max, List, [], set, true, false, true≢false, refl, sym, ap, ◌∙◌, subst, ⊎_elim, arith}
use Rattle.std.specs.Prelude.{slice_index}
use mathlib.Core.Option.{some, none}
use lib.ListN.{get_elem?}
use Rattle.atomic_table.specs.Table.{step, keeps, Allows, Splits, Joins}
use Rattle.atomic_table.proofs.Lists.{at_set, at_snoc, set_again}
use Rattle.board_hosts.specs.declared.mark_rule.MarkView.{MarkView}
use Rattle.board_hosts.specs.MarkRule.{MarkTable, MarkSeat, host_view, split_view, taught_view, joined_view, FitsMarks, KeepsMarkRule, StoresAccepted, RaisesPersisted, LoadsAccepted, LoadsPersisted, ComparesJoined}

not_true : false ≡ true → ⊥
not_true e = true≢false (sym e)

-- all views fit after a change of one
fits_set : (board a p : ℕ) (views : List MarkView) (id : ℕ) (w : MarkView)
    → ((j : ℕ) (u : MarkView) → j ≢ id → get_elem? views j ≡ some u → FitsMarks board a p j u) → FitsMarks board a p id w
    → (j : ℕ) (u : MarkView) → get_elem? (set views id w) j ≡ some u → FitsMarks board a p j u
fits_set board a p views id w others mine j u e =
    ⊎_elim
    (λ (x : (j ≡ id) × (w ≡ u)). subst (λ (y : ℕ × MarkView). FitsMarks board a p y.0 y.1) (λ i. (sym x.0 i, x.1 i)) mine)
    (λ (x : (j ≢ id) × (get_elem? views j ≡ some u)). others j u x.0 x.1)
    (at_set views id j w u e)

-- a seat that isn't the board's fits higher words too
fits_higher : (board a p b q id j : ℕ) (u : MarkView) → a ≤ b → p ≤ q → id ≡ board → j ≢ id → FitsMarks board a p j u → FitsMarks board b q j u
fits_higher board a p b q id j u up higher is apart f = record {
  accepted_below = let h = f.accepted_below in omega arith;
  persisted_below = let h = f.persisted_below in omega arith;
  joined_accepted_below = let h = f.joined_accepted_below in omega arith;
  joined_persisted_below = let h = f.joined_persisted_below in omega arith;
  owner = λ owns. absurd (apart ((f.owner owns).0 ∙ sym is));
}

-- a host's seat fits where its marks are below the words
host_fits : (board a p id : ℕ) (v : MarkView) (b q : ℕ) → v.owns ≡ false → FitsMarks board a p id v → b ≤ a → q ≤ p
    → FitsMarks board a p id (record v { accepted = b; persisted = q })
host_fits board a p id v b q hosts f below lower = record {
  accepted_below = below;
  persisted_below = lower;
  joined_accepted_below = f.joined_accepted_below;
  joined_persisted_below = f.joined_persisted_below;
  owner = λ owns. absurd (not_true (sym hosts ∙ owns));
}

-- a new seat that has seen no mark above the words fits
new_fits : (board a p id b q : ℕ) → b ≤ a → q ≤ p → FitsMarks board a p id (host_view b q)
new_fits board a p id b q below lower = record {
  accepted_below = below;
  persisted_below = lower;
  joined_accepted_below = omega arith;
  joined_persisted_below = omega arith;
  owner = λ owns. absurd (not_true owns);
}

pub stores_accepted : (slots id : ℕ) (me : MarkSeat) (n : ℕ) → me.0.owns ≡ true → me.1 ≡ [] → me.0.accepted ≤ n
    → Allows KeepsMarkRule slots id me 0 (λ _. n) (λ _. StoresAccepted (step slots 0 n 0 none) me n)
stores_accepted slots id me n owns empty up s k homes at fits =
    let mine = k.fits id me.0 at in
    let is = mine.owner owns in
    let w = record me.0 { accepted = n } in
    let higher : k.accepted ≤ n = omega (arith, is.1) in (
      w,
      keeps,
      tt,
      record {
        accepted = n;
        persisted = k.persisted;
        board = k.board;
        words = ap (λ ws. set ws 0 n) k.words;
        ordered = let o = k.ordered in omega arith;
        fits = fits_set k.board n k.persisted s.views id w
            (λ j u apart e. fits_higher k.board k.accepted k.persisted n k.persisted id j u higher (omega arith) is.0 apart (k.fits j u e))
            record {
              accepted_below = omega arith;
              persisted_below = mine.persisted_below;
              joined_accepted_below = let h = mine.joined_accepted_below in omega arith;
              joined_persisted_below = mine.joined_persisted_below;
              owner = λ _. (is.0, refl, is.2);
            };
      },
      (refl, empty),
    )

pub raises_persisted : (slots id : ℕ) (me : MarkSeat) (n : ℕ) → me.0.owns ≡ true → me.1 ≡ [] → n ≤ me.0.accepted
    → Allows KeepsMarkRule slots id me 1 (λ x. max x n) (RaisesPersisted (step slots 1 n 0 none) me)
raises_persisted slots id me n owns empty below s k homes at fits =
    let mine = k.fits id me.0 at in
    let is = mine.owner owns in
    let w = record me.0 { persisted = max me.0.persisted n } in
    let q : ℕ = max k.persisted n in
    let found : slice_index s.words 1 ≡ k.persisted = ap (λ ws. slice_index ws 1) k.words in (
      w,
      keeps,
      tt,
      record {
        accepted = k.accepted;
        persisted = q;
        board = k.board;
        words = ap (λ ws. set ws 1 (max (slice_index ws 1) n)) k.words;
        ordered = let o = k.ordered in omega (arith, is.1);
        fits = fits_set k.board k.accepted q s.views id w
            (λ j u apart e. fits_higher k.board k.accepted k.persisted k.accepted q id j u (omega arith) (omega arith) is.0 apart (k.fits j u e))
            record {
              accepted_below = mine.accepted_below;
              persisted_below = let h = mine.persisted_below in omega arith;
              joined_accepted_below = mine.joined_accepted_below;
              joined_persisted_below = let h = mine.joined_persisted_below in omega arith;
              owner = λ _. (is.0, is.1, ap (λ x. max x n) is.2);
            };
      },
      (refl, empty),
    )

-- the rule after one view changed to another that fits, and no word
view_set : (s : MarkTable) (k : KeepsMarkRule s) (words : List ℕ) (id : ℕ) (w : MarkView) → words ≡ s.words → FitsMarks k.board k.accepted k.persisted id w
    → KeepsMarkRule (record { words = words; homes = s.homes; views = set s.views id w })
view_set s k words id w same mine = record {
  accepted = k.accepted;
  persisted = k.persisted;
  board = k.board;
  words = same ∙ k.words;
  ordered = k.ordered;
  fits = fits_set k.board k.accepted k.persisted s.views id w (λ j u apart e. k.fits j u e) mine;
}

-- a word that a load stores again
loaded_words : (s : MarkTable) (k : KeepsMarkRule s) (i : ℕ) → i ≤ 1 → set s.words i (slice_index s.words i) ≡ s.words
loaded_words s k zero l = ap (λ ws. set ws 0 (slice_index ws 0)) k.words ∙ sym k.words
loaded_words s k (suc zero) l = ap (λ ws. set ws 1 (slice_index ws 1)) k.words ∙ sym k.words
loaded_words s k (suc (suc i)) l = absurd (omega arith)

pub loads_accepted : (slots id : ℕ) (me : MarkSeat) → me.0.owns ≡ false → me.1 ≡ []
    → Allows KeepsMarkRule slots id me 0 (λ x. x) (LoadsAccepted (step slots 0 0 0 none) me)
loads_accepted slots id me hosts empty s k homes at fits =
    let mine = k.fits id me.0 at in
    let n = slice_index s.words 0 in
    let found : slice_index s.words 0 ≡ k.accepted = ap (λ ws. slice_index ws 0) k.words in
    let w = record me.0 { accepted = n } in (
      w,
      keeps,
      tt,
      view_set s k _ id w (loaded_words s k 0 (omega arith)) (host_fits k.board k.accepted k.persisted id me.0 n me.0.persisted hosts mine (omega (arith, found)) mine.persisted_below),
      ((let h = mine.accepted_below in omega (arith, found)), (refl, empty)),
    )

pub loads_persisted : (slots id : ℕ) (me : MarkSeat) → me.0.owns ≡ false → me.1 ≡ []
    → Allows KeepsMarkRule slots id me 1 (λ x. x) (LoadsPersisted (step slots 1 0 0 none) me)
loads_persisted slots id me hosts empty s k homes at fits =
    let mine = k.fits id me.0 at in
    let n = slice_index s.words 1 in
    let found : slice_index s.words 1 ≡ k.persisted = ap (λ ws. slice_index ws 1) k.words in
    let w = record me.0 { persisted = n } in (
      w,
      keeps,
      tt,
      view_set s k _ id w (loaded_words s k 1 (omega arith)) (host_fits k.board k.accepted k.persisted id me.0 me.0.accepted n hosts mine mine.accepted_below (omega (arith, found))),
      ((let h = mine.persisted_below in omega (arith, found)), (refl, empty)),
    )

pub compares_joined : (slots id : ℕ) (me : MarkSeat) → me.0.owns ≡ true → me.1 ≡ []
    → Allows KeepsMarkRule slots id me 0 (λ x. x) (ComparesJoined (step slots 0 0 0 none) me)
compares_joined slots id me owns empty s k homes at fits =
    let mine = k.fits id me.0 at in
    let is = mine.owner owns in (
      me.0,
      keeps,
      tt,
      view_set s k _ id me.0 (loaded_words s k 0 (omega arith)) mine,
      ((let h = mine.joined_accepted_below in omega (arith, is.1)), (let h = mine.joined_persisted_below in omega (arith, is.2)), (refl, empty)),
    )

pub splits_host : (id : ℕ) (v : MarkView) → Splits KeepsMarkRule id v v (split_view v)
splits_host id v s k at =
    let mine = k.fits id v at in record {
      accepted = k.accepted;
      persisted = k.persisted;
      board = k.board;
      words = k.words;
      ordered = k.ordered;
      fits = λ j u e. ⊎_elim
          (λ was. k.fits j u (subst (λ l. get_elem? l j ≡ some u) (set_again s.views id v at) was))
          (λ (same : split_view v ≡ u). subst (FitsMarks k.board k.accepted k.persisted j) same (new_fits k.board k.accepted k.persisted j v.accepted v.persisted mine.accepted_below mine.persisted_below))
          (at_snoc (set s.views id v) (split_view v) u j e);
    }

-- the view of a seat that joins another is as it was
fits_still : (board a p id other : ℕ) (views : List MarkView) (w u : MarkView) → ((j : ℕ) (x : MarkView) → get_elem? views j ≡ some x → FitsMarks board a p j x)
    → ¬ (other ≡ id) → get_elem? (set views id w) other ≡ some u → FitsMarks board a p other u
fits_still board a p id other views w u fits apart there = ⊎_elim (λ (t : (other ≡ id) × (w ≡ u)). absurd (apart t.0)) (λ (t : (other ≢ id) × (get_elem? views other ≡ some u)). fits other u t.1) (at_set views id other w u there)

-- the rule after one seat has joined another, whose new view fits
seats_join : (s : MarkTable) (k : KeepsMarkRule s) (id other : ℕ) (w : MarkView) → FitsMarks k.board k.accepted k.persisted id w
    → KeepsMarkRule (record { words = s.words; homes = s.homes; views = set (set s.views id w) other (host_view 0 0) })
unfolding view_set
seats_join s k id other w mine =
    view_set (record { words = s.words; homes = s.homes; views = set s.views id w }) (view_set s k s.words id w refl mine) s.words other (host_view 0 0) refl
    (new_fits k.board k.accepted k.persisted other 0 0 (omega arith) (omega arith))

pub teaches_host : (id : ℕ) (v : MarkView) (other : ℕ) (u : MarkView) → v.owns ≡ false → Joins KeepsMarkRule id v other u (taught_view v u) (host_view 0 0)
teaches_host id v other u hosts s k at apart there =
    let theirs = fits_still k.board k.accepted k.persisted id other s.views (taught_view v u) u k.fits apart there in
    seats_join s k id other (taught_view v u) (host_fits k.board k.accepted k.persisted id v u.accepted u.persisted hosts (k.fits id v at) theirs.accepted_below theirs.persisted_below)

pub joins_host : (id : ℕ) (v : MarkView) (other : ℕ) (u : MarkView) → Joins KeepsMarkRule id v other u (joined_view v u) (host_view 0 0)
joins_host id v other u s k at apart there =
    let mine = k.fits id v at in
    let theirs = fits_still k.board k.accepted k.persisted id other s.views (joined_view v u) u k.fits apart there in
    seats_join s k id other (joined_view v u) record {
      accepted_below = mine.accepted_below;
      persisted_below = mine.persisted_below;
      joined_accepted_below = theirs.accepted_below;
      joined_persisted_below = theirs.persisted_below;
      owner = mine.owner;
    }
