-- The commands of lists, one more at a time.
use Rattle.std.proofs.Common.{◌≡◌, ◌∙◌, ℕ, suc, ◌+◌, ◌<◌, All, List, [], ◌∷◌, ◌++◌, append_assoc, ap, arith, drop, drop-cons, get_or, length, map, subst, sym, take}
use Rattle.std.proofs.lemmas.List.{get_or-map, length-map, map-append, take_more}
use Rattle.ddr4_timing.specs.declared.command.Stamped.{Stamped}
use Rattle.command_trace.specs.declared.entry.Located.{Located}
use Rattle.trace_statistics.specs.Lists.{AreEarly, IsEarly, located, located_from}

-- one command more of a channel
pub list_more : (channel : ℕ) (commands : List Stamped) (i : ℕ) (none : Stamped) (given mid new : List Located) → i < length commands
    → mid ≡ given ++ map (λ x. located channel x) (take i commands) → new ≡ mid ++ located channel (get_or commands i none) ∷ []
    → new ≡ given ++ map (λ x. located channel x) (take (i + 1) commands)
list_more channel commands i none given mid new inside was adds =
    let here : Located = located channel (get_or commands i none) in
    let more : map (λ x. located channel x) (take (i + 1) commands) ≡ map (λ x. located channel x) (take i commands) ++ here ∷ [] =
    ap (λ (xs : List Stamped). map (λ x. located channel x) xs) (take_more commands i none inside) ∙ map-append (λ x. located channel x) (take i commands) (get_or commands i none ∷ []) in
    adds ∙ ap (λ (l : List Located). l ++ here ∷ []) was ∙ append_assoc given (map (λ x. located channel x) (take i commands)) (here ∷ []) ∙ ap (λ (l : List Located). given ++ l) (sym more)

-- one channel more
pub lists_more : (lists : List (List Stamped)) (i : ℕ) (given new : List Located) → i < length lists → located_from 0 lists ≡ given ++ located_from i (drop i lists)
    → new ≡ given ++ map (λ x. located i x) (get_or lists i []) → located_from 0 lists ≡ new ++ located_from (i + 1) (drop (i + 1) lists)
lists_more lists i given new inside so_far adds =
    let rest : List Located = located_from (i + 1) (drop (suc i) lists) in
    let next : suc i ≡ i + 1 = omega arith in
    so_far ∙ ap (λ (l : List (List Stamped)). given ++ located_from i l) (drop-cons lists i [] inside)
    ∙ sym (append_assoc given (map (λ x. located i x) (get_or lists i [])) rest) ∙ ap (λ (l : List Located). l ++ rest) (sym adds)
    ∙ ap (λ (n : ℕ). new ++ located_from (i + 1) (drop n lists)) next

-- the same of what holds the lists
pub channel_more : {V : Type 0} (items : V → List Stamped) (channels : List V) (i : ℕ) (channel : V) (commands : List Stamped) (given new : List Located) → i < length channels
    → channel ≡ get_or channels i channel → commands ≡ items channel → AreEarly (map items channels)
    → located_from 0 (map items channels) ≡ given ++ located_from i (drop i (map items channels)) → (All IsEarly commands → new ≡ given ++ map (λ x. located i x) commands)
    → located_from 0 (map items channels) ≡ new ++ located_from (i + 1) (drop (i + 1) (map items channels))
channel_more items channels i channel commands given new inside is same early so_far adds =
    let at : get_or (map items channels) i [] ≡ commands = get_or-map items channels i channel [] inside ∙ ap items (sym is) ∙ sym same in
    let within : i < length (map items channels) = subst (λ (n : ℕ). i < n) (sym (length-map channels items)) inside in
    let all : All IsEarly commands = subst (λ (l : List Stamped). All IsEarly l) at (early.early i [] within) in
    lists_more (map items channels) i given new within so_far (adds all ∙ ap (λ (l : List Stamped). given ++ map (λ x. located i x) l) (sym at))
