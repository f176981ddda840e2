-- Blocks, one line more.
use Rattle.std.proofs.Common.{◌≡◌, ◌∙◌, inl, inr, ℕ, ◌+◌, ◌-◌, ◌<◌, cond, List, [], ◌∷◌, ◌++◌, length, get_or, set, take, All, refl, sym, ap, subst, arith}
use Rattle.std.specs.List.{AllZip, flat_map}
use Rattle.std.proofs.lemmas.List.{append-nil, append_assoc, get_or_append_left, get_or_at, length-set, length_push, set-get_or, take_all, take_more_set}
use Rattle.std.proofs.lemmas.List.Elements.{All-cons, All-nil, All-push}
use Rattle.std.proofs.lemmas.List.Sums.{sum_by-append}
use Rattle.std.proofs.lemmas.Grind.{flat_map-append}
use Rattle.crash_table.specs.declared.outcome.Outcome.{Outcome}
use Rattle.crash_table.specs.declared.table.Block.{Block}
use Rattle.crash_table.specs.declared.table.OutcomeCount.{OutcomeCount}
use Rattle.crash_table.specs.declared.tried.Tried.{Tried}
use Rattle.crash_table.specs.Rows.{AreRowsOf, StandOnce, outcomes_of, times_found, times_told}
use Rattle.crash_table.specs.Blocks.{AreBlocksOf, IsBlockOf, JoinsBlock, Shows, TakesLine, tried_in}

zip_push : (groups : List (List (ℕ × List Tried))) (blocks : List Block) (group : List (ℕ × List Tried)) (block : Block) → AllZip IsBlockOf groups blocks → IsBlockOf group block
    → AllZip IsBlockOf (groups ++ group ∷ []) (blocks ++ block ∷ [])
zip_push [] [] group block each is = (is, tt)
zip_push [] (first ∷ blocks) group block each is = absurd each
zip_push (first ∷ groups) [] group block each is = absurd each
zip_push (of ∷ groups) (first ∷ blocks) group block each is = (each.0, zip_push groups blocks group block each.1 is)

-- the last block is of the last group
record EndsIn (groups : List (List (ℕ × List Tried))) (front : List Block) (last : Block) : Type 0 where
  before : List (List (ℕ × List Tried))
  group : List (ℕ × List Tried)
  is : groups ≡ before ++ group ∷ []
  each : AllZip IsBlockOf before front
  of_last : IsBlockOf group last

ends_in : (groups : List (List (ℕ × List Tried))) (front : List Block) (last : Block) → AllZip IsBlockOf groups (front ++ last ∷ []) → EndsIn groups front last
ends_in [] [] last each = absurd each
ends_in [] (block ∷ front) last each = absurd each
ends_in (group ∷ []) [] last each = record { before = []; group = group; is = refl; each = tt; of_last = each.0 }
ends_in (group ∷ next ∷ groups) [] last each = absurd each.1
ends_in (group ∷ groups) (block ∷ front) last each =
    let it : EndsIn groups front last = ends_in groups front last each.1 in
    record {
      before = group ∷ it.before;
      group = it.group;
      is = ap (λ (gs : List (List (ℕ × List Tried))). group ∷ gs) it.is;
      each = (each.0, it.each);
      of_last = it.of_last;
    }

-- a block of one line
alone : (line : ℕ) (tried : List Tried) (rows : List OutcomeCount) (block : Block) → AreRowsOf tried rows → block.first ≡ line → block.last ≡ line → block.rows.items ≡ rows
    → IsBlockOf ((line, tried) ∷ []) block
alone line tried rows block are first last same =
    let P : ℕ × List Tried → Type 0 = Shows (outcomes_of block.rows.items) in
    record {
      some = omega arith;
      first = λ d. first;
      last = λ d. last;
      shows = All-cons P (line, tried) [] (rows, are, ap outcomes_of (sym same)) (All-nil P);
      rows = subst (λ (xs : List Tried). AreRowsOf xs block.rows.items) (sym (append-nil tried)) (subst (AreRowsOf tried) (sym same) are);
    }

-- a block that has taken a line in
joined : (lines : List (ℕ × List Tried)) (line : ℕ) (tried : List Tried) (rows : List OutcomeCount) (before after : Block) → IsBlockOf lines before → AreRowsOf tried rows → JoinsBlock line rows before after
    → IsBlockOf (lines ++ (line, tried) ∷ []) after
joined lines line tried rows before after is are joins =
    let more : ℕ × List Tried = (line, tried) in
    let size : length (lines ++ more ∷ []) ≡ length lines + 1 = length_push lines more in
    let outcomes : List Outcome = outcomes_of before.rows.items in
    let all : tried_in (lines ++ more ∷ []) ≡ tried_in lines ++ tried =
    flat_map-append (λ (l : ℕ × List Tried). l.1) lines (more ∷ []) ∙ ap (λ (xs : List Tried). tried_in lines ++ xs) (append-nil tried) in
    record {
      some = omega (arith, size);
      first = λ d. joins.first ∙ is.first d ∙ ap (λ (l : ℕ × List Tried). l.0) (sym (get_or_append_left lines (more ∷ []) d 0 is.some));
      last = λ d. joins.last ∙ ap (λ (l : ℕ × List Tried). l.0) (sym (get_or_at lines more [] d (length (lines ++ more ∷ []) - 1) (omega (arith, size))));
      shows = subst (λ (os : List Outcome). All (Shows os) (lines ++ more ∷ [])) (sym joins.added.same) (All-push (Shows outcomes) lines more is.shows (rows, are, joins.same));
      rows = subst (λ (xs : List Tried). AreRowsOf xs after.rows.items) (sym all) (record {
        once = subst StandOnce (sym joins.added.same) is.rows.once;
        some = joins.added.some is.rows.some;
        times = λ asked.
            let told : times_told asked after.rows.items ≡ times_told asked before.rows.items + times_told asked rows = joins.added.times asked in
            let was : times_told asked before.rows.items ≡ times_found asked (tried_in lines) = is.rows.times asked in
            let now : times_told asked rows ≡ times_found asked tried = are.times asked in
            let both : times_found asked (tried_in lines ++ tried) ≡ times_found asked (tried_in lines) + times_found asked tried =
            sum_by-append (λ (one : Tried). cond (asked one.outcome) 1 0) (tried_in lines) tried in
            cc;
      });
    }

pub blocks_none : AreBlocksOf [] []
blocks_none = record { groups = []; all = refl; each = tt }

-- one line more
pub blocks_more : (lines : List (ℕ × List Tried)) (line : ℕ) (tried : List Tried) (rows : List OutcomeCount) (old new : List Block) → AreBlocksOf lines old → AreRowsOf tried rows → TakesLine line rows old new
    → AreBlocksOf (lines ++ (line, tried) ∷ []) new
blocks_more lines line tried rows old new are of_line (inl comes) =
    let group : List (ℕ × List Tried) = (line, tried) ∷ [] in
    let id : List (ℕ × List Tried) → List (ℕ × List Tried) = λ xs. xs in
    record {
      groups = are.groups ++ group ∷ [];
      all = flat_map-append id are.groups (group ∷ []) ∙ ap (λ (xs : List (ℕ × List Tried)). xs ++ group) are.all;
      each = subst (AllZip IsBlockOf (are.groups ++ group ∷ [])) (sym comes.is)
          (zip_push are.groups old group comes.block are.each (alone line tried rows comes.block of_line comes.first comes.last comes.holds));
    }
blocks_more lines line tried rows old new are of_line (inr joins) =
    let more : List (ℕ × List Tried) = (line, tried) ∷ [] in
    let id : List (ℕ × List Tried) → List (ℕ × List Tried) = λ xs. xs in
    let it : EndsIn are.groups joins.front joins.before = ends_in are.groups joins.front joins.before (subst (AllZip IsBlockOf are.groups) joins.was are.each) in
    let group : List (ℕ × List Tried) = it.group ++ more in
    let was : lines ≡ flat_map id it.before ++ it.group =
    sym are.all ∙ ap (flat_map id) it.is ∙ flat_map-append id it.before (it.group ∷ []) ∙ ap (λ (xs : List (ℕ × List Tried)). flat_map id it.before ++ xs) (append-nil it.group) in
    record {
      groups = it.before ++ group ∷ [];
      all = flat_map-append id it.before (group ∷ []) ∙ ap (λ (xs : List (ℕ × List Tried)). flat_map id it.before ++ xs) (append-nil group)
          ∙ sym (append_assoc (flat_map id it.before) it.group more) ∙ ap (λ (xs : List (ℕ × List Tried)). xs ++ more) (sym was);
      each = subst (AllZip IsBlockOf (it.before ++ group ∷ [])) (sym joins.is)
          (zip_push it.before joins.front group joins.after it.each (joined it.group line tried rows joins.before joins.after it.of_last of_line joins.joins));
    }

-- the last block is joined at its place
pub joins_last : (line : ℕ) (rows : List OutcomeCount) (blocks : List Block) (place : ℕ) (before after : Block) → length blocks ≡ place + 1 → before ≡ get_or blocks place before → JoinsBlock line rows before after
    → TakesLine line rows blocks (set blocks place after)
joins_last line rows blocks place before after size at joins =
    let inside : place < length blocks = omega (arith, size) in
    let ends : (block : Block) → set blocks place block ≡ take place blocks ++ block ∷ [] =
    λ block. sym (take_all (place + 1) (set blocks place block) (omega (arith, size, length-set blocks place block))) ∙ take_more_set blocks place block inside in
    let was : blocks ≡ take place blocks ++ before ∷ [] =
    sym (set-get_or blocks place before) ∙ ap (λ (block : Block). set blocks place block) (sym at) ∙ ends before in
    inr (record { front = take place blocks; before = before; after = after; was = was; is = ends after; joins = joins })
