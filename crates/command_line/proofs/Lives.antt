-- A script's answers are told whole, one behind another.
use Rattle.std.proofs.Common.{◌≡◌, ◌∙◌, ◌<◌, ◌≤◌, ◌+◌, ℕ, List, [], ◌∷◌, ◌++◌, Bool, true, filter, length, get_or, take, drop, map, inl, inr, refl, sym, ap, subst, arith, append-nil, replicate}
use Rattle.std.proofs.lemmas.Grind.{common_steps, flat_map-append}
use Rattle.std.proofs.lemmas.Bool.{cases_lt}
use Rattle.std.proofs.lemmas.List.{get_or_append_left, get_or_past, get_or-replicate, length-replicate, take-append-le, take_min, take_more}
use Rattle.std.proofs.lemmas.List.Elements.{filter-append}
use Rattle.std.proofs.lemmas.List.Sums.{length-filter}
use Rattle.ddr4_timing.specs.declared.command.Stamped.{Stamped}
use Rattle.nv_script.specs.declared.answer.Answer.{Answer}
use Rattle.script_runner.specs.Ended.{Lives}
use Rattle.command_line.specs.Whole.{AreToldByLife, IsSoFar, HasAllCommands, channel_in, command_in, commands_on, is_begun, is_other, lives_begun, others_in, part_of, told_on}
use Rattle.command_line.specs.declared.whole.Part.TheVariants.{Begins}
use Rattle.command_line.specs.declared.whole.Whole.{Whole}

-- one more answer
told_more : (channel : ℕ) (answers : List Answer) (one : Answer) → told_on channel (answers ++ one ∷ []) ≡ told_on channel answers ++ command_in channel (part_of one)
told_more channel answers one =
    flat_map-append (λ (some : Answer). command_in channel (part_of some)) answers (one ∷ [])
    ∙ ap (λ (commands : List Stamped). told_on channel answers ++ commands) (append-nil (command_in channel (part_of one)))

one_passes : (p : Answer → Bool) (one : Answer) (b : Bool) → p one ≡ b → b ≡ true → filter p (one ∷ []) ≡ one ∷ []
one_passes p one b is holds = rw (is ∙ holds) refl

others_kept : (answers : List Answer) (one : Answer) → is_other (part_of one) ≡ true → others_in (answers ++ one ∷ []) ≡ others_in answers ++ one ∷ []
others_kept answers one is =
    filter-append (λ (some : Answer). is_other (part_of some)) answers (one ∷ [])
    ∙ ap (λ (rest : List Answer). others_in answers ++ rest) (one_passes (λ (some : Answer). is_other (part_of some)) one true is refl)

begun_where : (answers : List Answer) → lives_begun answers ≡ length (filter (λ (one : Answer). is_begun (part_of one)) answers)
begun_where answers = sym (length-filter (λ (one : Answer). is_begun (part_of one)) answers)

begun_more : (answers : List Answer) (one : Answer) → is_begun (part_of one) ≡ true → lives_begun (answers ++ one ∷ []) ≡ lives_begun answers + 1
begun_more answers one is =
    let kept : List Answer = filter (λ (some : Answer). is_begun (part_of some)) answers in
    let all : filter (λ (some : Answer). is_begun (part_of some)) (answers ++ one ∷ []) ≡ kept ++ one ∷ [] =
    filter-append (λ (some : Answer). is_begun (part_of some)) answers (one ∷ [])
    ∙ ap (λ (rest : List Answer). kept ++ rest) (one_passes (λ (some : Answer). is_begun (part_of some)) one true is refl) in
    let count : length (kept ++ one ∷ []) ≡ length kept + 1 = grind (arith, common_steps) in
    begun_where (answers ++ one ∷ []) ∙ ap (λ (some : List Answer). length some) all ∙ count ∙ ap (λ (n : ℕ). n + 1) (sym (begun_where answers))

-- what stands before each life that begins, with one more answer
by_life_more : (lives : Lives) (answers : List Answer) (one : Answer) → AreToldByLife lives answers
    → (part_of one ≡ Begins → (channel : ℕ) → told_on channel answers ≡ commands_on channel (take (lives_begun answers) lives)) → AreToldByLife lives (answers ++ one ∷ [])
by_life_more lives answers one by_life last k d less begins channel = elim (cases_lt k (length answers)) [
  | inl before ↦
      let front : take k (answers ++ one ∷ []) ≡ take k answers = take-append-le k answers (one ∷ []) (omega (arith, before)) in
      let here : get_or (answers ++ one ∷ []) k d ≡ get_or answers k d = get_or_append_left answers (one ∷ []) d k before in
      subst (λ (l : List Answer). told_on channel l ≡ commands_on channel (take (lives_begun l) lives)) (sym front)
      (by_life k d before (subst (λ (a : Answer). part_of a ≡ Begins) here begins) channel)
  | inr behind ↦
      let front : take k (answers ++ one ∷ []) ≡ answers = grind (arith, common_steps) in
      let here : get_or (answers ++ one ∷ []) k d ≡ one = grind (arith, common_steps) in
      subst (λ (l : List Answer). told_on channel l ≡ commands_on channel (take (lives_begun l) lives)) (sym front)
      (last (subst (λ (a : Answer). part_of a ≡ Begins) here begins) channel)
]

elsewhere_same : (old_told new_told list list' : List Stamped) (n n' : ℕ) → new_told ≡ old_told → list' ≡ list → n' ≡ n → new_told ++ drop n' list' ≡ old_told ++ drop n list
elsewhere_same old_told new_told list list' n n' told same now = rw (told, same, now) refl

-- nothing of the life that runs is left to tell
all_told : (told list : List Stamped) (n : ℕ) → length list ≤ n → told ++ drop n list ≡ told
all_told told list n least =
    let none : drop n list ≡ [] = grind (arith, common_steps) in
    ap (λ (rest : List Stamped). told ++ rest) none ∙ append-nil told

is_told : (lives : Lives) (given : List Answer) (whole : Whole) → IsSoFar lives given whole
    → ((channel : ℕ) → length (channel_in whole channel) ≤ get_or whole.told.items channel 0)
    → (channel : ℕ) → told_on channel whole.answers.items ≡ commands_on channel (take (lives_begun given) lives)
is_told lives given whole is all channel =
    sym (all_told (told_on channel whole.answers.items) (channel_in whole channel) (get_or whole.told.items channel 0) (all channel))
    ∙ is.commands channel
    ∙ ap (λ (k : ℕ). commands_on channel (take k lives)) is.begun
    ∙ ap (λ (some : Lives). commands_on channel some) (take_min (lives_begun given) lives)

-- all is told behind the last answer
pub whole_told : (lives : Lives) (given : List Answer) (whole : Whole) → IsSoFar lives given whole
    → ((channel : ℕ) → length (channel_in whole channel) ≤ get_or whole.told.items channel 0) → HasAllCommands lives given whole.answers.items
whole_told lives given whole is all = record { others = is.others; commands = is_told lives given whole is all; by_life = is.by_life }

-- no command of a life is told as it begins
none_told : (nothing n c : ℕ) → get_or (replicate n nothing) c nothing ≡ nothing
none_told nothing n c = elim (cases_lt c n) [
  | inl less ↦ get_or-replicate n c nothing nothing less
  | inr least ↦ get_or_past (replicate n nothing) c nothing (omega (arith, length-replicate n nothing, least))
]

module _ (lives : Lives) (given : List Answer) (one : Answer) (old new : Whole) (begins : part_of one ≡ Begins) (is : IsSoFar lives given old)
    (ended : (channel : ℕ) → length (channel_in old channel) ≤ get_or old.told.items channel 0) (all : new.answers.items ≡ old.answers.items ++ one ∷ []) (same_lives : new.lives ≡ old.lives) where
  begun_one : is_begun (part_of one) ≡ true
  begun_one = ap is_begun begins

  more : lives_begun (given ++ one ∷ []) ≡ lives_begun given + 1
  more = begun_more given one begun_one

  told_now : (c : ℕ) → told_on c new.answers.items ≡ commands_on c (take old.begun lives)
  told_now c =
      ap (told_on c) all ∙ told_more c old.answers.items one
      ∙ ap (λ (rest : List Stamped). told_on c old.answers.items ++ rest) (ap (command_in c) begins) ∙ append-nil (told_on c old.answers.items)
      ∙ sym (all_told (told_on c old.answers.items) (channel_in old c) (get_or old.told.items c 0) (ended c))
      ∙ is.commands c

  lives_now : new.lives.now ≡ lives
  lives_now = ap (λ (l : _). l.now) same_lives ∙ is.lives_are

  begins_now : lives_begun new.answers.items ≡ lives_begun (given ++ one ∷ [])
  begins_now = ap lives_begun all ∙ begun_more old.answers.items one begun_one ∙ ap (λ (k : ℕ). k + 1) is.begins ∙ sym more

  others_now : others_in new.answers.items ≡ others_in (given ++ one ∷ [])
  others_now =
      let is_one : is_other (part_of one) ≡ true = ap is_other begins in
      ap others_in all ∙ others_kept old.answers.items one is_one ∙ ap (λ (some : List Answer). some ++ one ∷ []) is.others ∙ sym (others_kept given one is_one)

  by_life_now : AreToldByLife lives new.answers.items
  by_life_now =
      subst (AreToldByLife lives) (sym all)
      (by_life_more lives old.answers.items one is.by_life
      (λ begin channel. is_told lives given old is ended channel ∙ ap (λ (k : ℕ). commands_on channel (take k lives)) (sym is.begins)))

  -- the next life begins
  pub life_begins : (life : List (List Stamped)) → old.begun < length lives → get_or lives old.begun life ≡ life → new.begun ≡ old.begun + 1
      → map (λ commands. commands.items) new.channels.now ≡ life → new.told.items ≡ replicate (length new.channels.now) 0 → IsSoFar lives (given ++ one ∷ []) new
  life_begins life less here begun channels told = record {
    lives_are = lives_now;
    sizes = ap (λ (l : List ℕ). length l) told ∙ length-replicate (length new.channels.now) 0;
    begun = omega (arith, begun, is.begun, more, less);
    begins = begins_now;
    others = others_now;
    commands = λ c.
        let zero : get_or new.told.items c 0 ≡ 0 = ap (λ (l : List ℕ). get_or l c 0) told ∙ none_told 0 (length new.channels.now) c in
        let list : channel_in new c ≡ get_or life c [] = ap (λ (l : List (List Stamped)). get_or l c []) channels in
        let grown : take (old.begun + 1) lives ≡ take old.begun lives ++ life ∷ [] =
        take_more lives old.begun life less ∙ ap (λ (l : List (List Stamped)). take old.begun lives ++ l ∷ []) here in
        let all_of : commands_on c (take (old.begun + 1) lives) ≡ commands_on c (take old.begun lives) ++ get_or life c [] =
        ap (commands_on c) grown ∙ flat_map-append (λ (l : List (List Stamped)). get_or l c []) (take old.begun lives) (life ∷ [])
        ∙ ap (λ (l : List Stamped). commands_on c (take old.begun lives) ++ l) (append-nil (get_or life c [])) in
        elsewhere_same (commands_on c (take old.begun lives)) (told_on c new.answers.items) (get_or life c []) (channel_in new c) 0 (get_or new.told.items c 0) (told_now c) list zero
        ∙ sym all_of ∙ ap (λ (k : ℕ). commands_on c (take k lives)) (sym begun);
    by_life = by_life_now;
  }

  -- there is none that was kept
  pub none_begins : length lives ≤ old.begun → new.begun ≡ old.begun → new.channels ≡ old.channels → new.told ≡ old.told → IsSoFar lives (given ++ one ∷ []) new
  none_begins least begun channels told = record {
    lives_are = lives_now;
    sizes = ap (λ (l : _). length l.items) told ∙ is.sizes ∙ ap (λ (c : _). length c.now) (sym channels);
    begun = omega (arith, begun, is.begun, more, least);
    begins = begins_now;
    others = others_now;
    commands = λ c.
        let list : channel_in new c ≡ channel_in old c = ap (λ (cs : _). get_or (map (λ commands. commands.items) cs.now) c []) channels in
        let now : get_or new.told.items c 0 ≡ get_or old.told.items c 0 = ap (λ (l : _). get_or l.items c 0) told in
        elsewhere_same (told_on c new.answers.items) (told_on c new.answers.items) (channel_in old c) (channel_in new c) (get_or old.told.items c 0) (get_or new.told.items c 0) refl list now
        ∙ all_told (told_on c new.answers.items) (channel_in old c) (get_or old.told.items c 0) (ended c)
        ∙ told_now c ∙ ap (λ (k : ℕ). commands_on c (take k lives)) (sym begun);
    by_life = by_life_now;
  }
