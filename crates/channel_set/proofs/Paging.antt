-- A page that was made line by line.
use Rattle.std.proofs.lemmas.List.{get_or-drop, get_or-take, get_or_default, length-drop, length-take-le, take_all}
use Rattle.std.proofs.lemmas.List.FromFn.{get_or-map-range_with_len, length-map-range_with_len}
use Rattle.save_image.specs.Body.{bytes_of, page_of}
use Rattle.channel_set.proofs.Common.{arith, ◌≡◌, ◌+◌, ◌*◌, ◌<◌, ◌≤◌, ℕ, sym, ap, ◌∙◌, List, [], drop, length, map, slice_index_or, take, range_with_len, same_lists}

-- Lines that are those of an array from a page's first one on are the page's.
pub page-is : (f : ℕ → List ℕ) (n page : ℕ) (lines : List (List ℕ)) → 64 * (page + 1) ≤ n → length lines ≡ 64
    → ((k : ℕ) → k < 64 → slice_index_or lines k [] ≡ f (64 * page + k)) → page_of 0 lines ≡ page_of page (map f (range_with_len 0 n))
page-is f n page lines fits size each =
    let array = map f (range_with_len 0 n) in
    let count = length-map-range_with_len f 0 n in
    let rest : 64 ≤ length (drop (64 * page) array) = omega (arith, fits, count, length-drop (64 * page) array) in
    let long = length-take-le 64 (drop (64 * page) array) rest in
    let same : lines ≡ take 64 (drop (64 * page) array) = same_lists lines (take 64 (drop (64 * page) array)) (size ∙ sym long) (λ k d less.
    let within : k < 64 = omega (arith, less, size) in
    get_or_default lines k d [] less
    ∙ each k within
    ∙ sym (get_or-map-range_with_len f 0 n (64 * page + k) (64 * page + k) d (omega (arith, fits, within)) (omega arith))
    ∙ sym (get_or-drop (64 * page) array k d)
    ∙ sym (get_or-take 64 (drop (64 * page) array) k d within)) in
    let all : take 64 lines ≡ lines = take_all 64 lines (omega (arith, size)) in
    ap bytes_of (all ∙ same)
