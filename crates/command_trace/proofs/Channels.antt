-- One more command of a trace is one of its channel's alone.
use Rattle.std.proofs.Common.{◌≡◌, ◌≢◌, ◌==◌, ◌<◌, ◌≤◌, ◌⊎◌, ◌^◌, ℕ, Bool, true, false, List, [], ◌∷◌, ◌++◌, length, append-nil, filter, get_or, nat_le, set, slice_index_or, slice_set, refl, sym, ap, subst, ◌∙◌, inl, inr, arith}
use Rattle.std.proofs.lemmas.Bool.{cases_eq, eq-eqb}
use Rattle.std.proofs.lemmas.List.{get_or-set_same, get_or-set_other, map-append}
use Rattle.std.proofs.lemmas.List.Elements.{All-append, All-cons, All-nil, filter-append}
use Rattle.std.proofs.lemmas.List.Sums.{take_while-cons}
use Rattle.std.specs.List.{take_while}
use Rattle.ddr4_timing.specs.declared.timing.CommandRules.{CommandRules}
use Rattle.command_trace.specs.declared.diagnosis.Listed.{Listed}
use Rattle.command_trace.specs.declared.entry.Located.{Located}
use Rattle.command_trace.specs.declared.front.CommandChecker.{CommandChecker}
use Rattle.auto_precharge.specs.FullLists.{AreEarly}
use Rattle.auto_precharge.specs.declared.issued.Issued.{Issued}
use Rattle.command_trace.specs.Channels.{Lists, found_of, found_up_to, issued_to}
use Rattle.command_trace.specs.Following.{FollowsCommands, issued_in, issued_of}
use Rattle.command_trace.proofs.Following.{commands_in-append, issued_in-append}

added : (channel : ℕ) (found : List Located) (x : Located) (more : List Located) → filter (λ (l : Located). l.entry.channel == channel) (x ∷ []) ≡ more
    → found_of channel (found ++ x ∷ []) ≡ found_of channel found ++ more
added channel found x more here =
    let p = λ (l : Located). l.entry.channel == channel in
    filter-append p found (x ∷ []) ∙ ap (λ l. filter p found ++ l) here

apart : (a b : ℕ) → a ≢ b → (a == b) ≡ false
apart a b other = grind arith

pub found_of-at : (channel : ℕ) (found : List Located) (x : Located) → x.entry.channel ≡ channel
    → found_of channel (found ++ x ∷ []) ≡ found_of channel found ++ x ∷ []
found_of-at channel found x same = added channel found x (x ∷ []) (rw (eq-eqb x.entry.channel channel same) refl)

pub found_of-other : (channel : ℕ) (found : List Located) (x : Located) → x.entry.channel ≢ channel
    → found_of channel (found ++ x ∷ []) ≡ found_of channel found
found_of-other channel found x other = added channel found x [] (rw (apart x.entry.channel channel other) refl) ∙ append-nil _

-- a front behind a command of its channel, among those of all channels
pub follows_all : (r : CommandRules) (fronts : List CommandChecker) (found : List Located) (x : Located) (new : CommandChecker) → x.entry.channel < length fronts
    → ((channel : ℕ) (none : CommandChecker) → channel < 8 → FollowsCommands r (slice_index_or fronts channel none) (found_of channel found))
    → FollowsCommands r new (found_of x.entry.channel found ++ x ∷ [])
    → (channel : ℕ) (none : CommandChecker) → channel < 8 → FollowsCommands r (slice_index_or (slice_set fronts x.entry.channel new) channel none) (found_of channel (found ++ x ∷ []))
follows_all r fronts found x new within all one channel none below =
    elim (cases_eq x.entry.channel channel) [
      | inl same ↦ subst (λ (n : ℕ). FollowsCommands r (get_or (set fronts x.entry.channel new) n none) (found_of n (found ++ x ∷ []))) same
          (rw (get_or-set_same fronts x.entry.channel new none within, found_of-at x.entry.channel found x refl) one)
      | inr other ↦ rw (get_or-set_other fronts x.entry.channel channel new none (λ s. other (sym s)), found_of-other channel found x other) (all channel none below)
    ]

-- a command taken into the list of its channel, and one that isn't
pub lists_at : (channel : ℕ) (old new : Listed) (found : List Located) (x : Located) → x.entry.channel ≡ channel → Lists channel old found
    → new.commands.items ≡ old.commands.items ++ x.entry.command ∷ [] → new.lines.items ≡ old.lines.items ++ x.line ∷ []
    → Lists channel new (found ++ x ∷ [])
lists_at channel old new found x same lists commands lines =
    let at = found_of-at channel found x same in
    let told = commands_in-append (found_of channel found) (x ∷ []) in
    let stood = map-append (λ (l : Located). l.line) (found_of channel found) (x ∷ []) in
    (rw at (commands ∙ ap (λ l. l ++ x.entry.command ∷ []) lists.0 ∙ sym told), rw at (lines ∙ ap (λ l. l ++ x.line ∷ []) lists.1 ∙ sym stood))

pub lists_other : (channel : ℕ) (listed : Listed) (found : List Located) (x : Located) → x.entry.channel ≢ channel → Lists channel listed found
    → Lists channel listed (found ++ x ∷ [])
lists_other channel listed found x other lists = rw (found_of-other channel found x other) lists

-- the same with all that a trace tells of a command
pub issued_at : (channel : ℕ) (old new : List Issued) (found : List Located) (x : Located) → x.entry.channel ≡ channel → old ≡ issued_to channel found
    → new ≡ old ++ issued_of x ∷ [] → new ≡ issued_to channel (found ++ x ∷ [])
issued_at channel old new found x same is more =
    more
    ∙ ap (λ l. l ++ issued_of x ∷ []) is
    ∙ sym (issued_in-append (found_of channel found) (x ∷ []))
    ∙ ap (λ (l : List Located). issued_in l) (sym (found_of-at channel found x same))

pub issued_other : (channel : ℕ) (old : List Issued) (found : List Located) (x : Located) → x.entry.channel ≢ channel → old ≡ issued_to channel found
    → old ≡ issued_to channel (found ++ x ∷ [])
issued_other channel old found x other is = is ∙ ap (λ (l : List Located). issued_in l) (sym (found_of-other channel found x other))

pub early_more : (old : List Issued) (x : Issued) → AreEarly old → x.command.clock < 2 ^ 63 → AreEarly (old ++ x ∷ [])
early_more old x early here =
    let is_early = λ (y : Issued). y.command.clock < 2 ^ 63 in
    All-append is_early old (x ∷ []) early (All-cons is_early x [] here (All-nil is_early))

known : (b : Bool) → (b ≡ true) ⊎ (b ≡ false)
known true = inl refl
known false = inr refl

passes_more : {X : Type 0} (p : X → Bool) (xs ys : List X) → take_while p xs ≡ xs → take_while p (xs ++ ys) ≡ xs ++ take_while p ys
passes_more p [] ys e = refl
passes_more p (x ∷ xs) ys e = elim (known (p x)) [
  | inl passes ↦
      let first : take_while p (x ∷ xs) ≡ x ∷ take_while p xs = take_while-cons p x xs ∙ rw passes refl in
      let rest : take_while p xs ≡ xs = cc in
      take_while-cons p x (xs ++ ys) ∙ rw passes (ap (λ l. x ∷ l) (passes_more p xs ys rest))
  | inr stops ↦
      let first : take_while p (x ∷ xs) ≡ [] = take_while-cons p x xs ∙ rw stops refl in
      absurd cc
]

reaches : (line last : ℕ) → line ≤ last → nat_le line last ≡ true
reaches line last h = grind arith

passes_by : (line last : ℕ) → last < line → nat_le line last ≡ false
passes_by line last h = grind arith

pub found_up_to-more : (last : ℕ) (found : List Located) (x : Located) → found_up_to last found ≡ found → x.line ≤ last
    → found_up_to last (found ++ x ∷ []) ≡ found ++ x ∷ []
found_up_to-more last found x e h =
    let p = λ (l : Located). nat_le l.line last in
    passes_more p found (x ∷ []) e ∙ ap (λ l. found ++ l) (take_while-cons p x [] ∙ rw (reaches x.line last h) refl)

pub found_up_to-past : (last : ℕ) (found : List Located) (x : Located) → found_up_to last found ≡ found → last < x.line
    → found_up_to last (found ++ x ∷ []) ≡ found
found_up_to-past last found x e h =
    let p = λ (l : Located). nat_le l.line last in
    passes_more p found (x ∷ []) e ∙ ap (λ l. found ++ l) (take_while-cons p x [] ∙ rw (passes_by x.line last h) refl) ∙ append-nil _
