-- The faults of a list, one place more.
use Rattle.std.proofs.Common.{◌≡◌, ◌⊎◌, ◌∙◌, inl, inr, ℕ, ◌+◌, ◌*◌, ◌-◌, ◌<◌, ◌≤◌, ◌==◌, ◌&&◌, ◌||◌, not, cond, count_by, max, Bool, true, false, List, [], ◌∷◌, ◌++◌, All, IfNone, IfSome, Option, None, Some, length, take, drop, get_or, slice_get, slice_index, ap, arith, refl, subst, sym}
use Rattle.std.proofs.lemmas.List.{get_or_append_left, get_or_at, length_push, length-take-le, take_more}
use Rattle.std.proofs.lemmas.Bool.{cases_lt}
use Rattle.std.proofs.lemmas.Option.{get_or_from_slice_get, slice_get-get_or, slice_get_within}
use Rattle.std.proofs.lemmas.List.Elements.{All-nil, All-push, Contains-append_left, Contains-push}
use Rattle.std.proofs.lemmas.List.Quantifiers.{all_pairs_push}
use Rattle.ddr4_timing.specs.declared.command.Command.{Command}
use Rattle.ddr4_timing.specs.declared.command.Stamped.{Stamped}
use Rattle.ddr4_timing.specs.declared.fault.Fault.{Fault}
use Rattle.ddr4_timing.specs.declared.rules.Rule.{Rule}
use Rattle.ddr4_timing.specs.declared.rules.Rule.TheVariants.{Ccd, Cs, Faw, Order, Ras, Rc, Rcd, Refi, Rfc, Rows, Rp, Rrd, Rtp, Rtw, Wr, Wtr}
use Rattle.ddr4_timing.specs.Command.{is_act, is_act_of, is_column, is_idle, is_precharge, is_rd, is_ref, is_wr, precharges, rank_of, same_bank, same_group, same_rank}
use Rattle.ddr4_timing.specs.declared.timing.CommandRules.{CommandRules}
use Rattle.ddr4_timing.specs.declared.timing.Timing.{Timing}
use Rattle.ddr4_timing.specs.Gaps.{gap, pair_gap, faw_gap}
use Rattle.ddr4_timing.specs.Lawful.{IsInGeometry, KeepsGap, KeepsRefresh, KeepsRule, ObeysRule}
use Rattle.ddr4_timing.proofs.Faults.{ObeysRule-alone}
use Rattle.ddr4_timing.specs.Rules.{every_rule, rule_number}
use Rattle.ddr4_timing.proofs.RuleOrder.{number_at, number_small, rule_at}
use Rattle.all_faults.specs.Faults.{AreFaultsOf, AreFaultsUpTo, AreLatest, ComesBehind, IsAsked, IsAskedOf, IsFarBefore, IsFaultOf, Keeps, TellsOf, place_of}
use Rattle.all_faults.specs.Left.{most_asked}

-- of the command that stands in the list what holds of it behind those before it
pub keeps_there : (c : CommandRules) (list : List Stamped) (rule : Rule) (first second : ℕ) (d : Stamped) → second < length list
    → ObeysRule c.timing c.geometry (take second list) (get_or list second d) rule first → KeepsRule c.timing c.geometry list rule first second
keeps_there c list rule first second d here obeys = λ x s.
    subst (λ (y : Stamped). ObeysRule c.timing c.geometry (take second list) y rule first) (get_or_from_slice_get list second x d s) obeys

pub asked_there : (c : CommandRules) (list : List Stamped) (rule : Rule) (second : ℕ) (d : Stamped) → second < length list
    → IsAskedOf c (get_or list second d) rule → IsAsked c list rule second
asked_there c list rule second d here asked = λ x s.
    subst (λ (y : Stamped). IsAskedOf c y rule) (get_or_from_slice_get list second x d s) asked

-- a fault of the command at a place
pub fault_there : (c : CommandRules) (list : List Stamped) (f : Fault) (d : Stamped) → f.first ≤ f.second → f.second < length list
    → IsAskedOf c (get_or list f.second d) f.rule → (ObeysRule c.timing c.geometry (take f.second list) (get_or list f.second d) f.rule f.first → ⊥)
    → ((k : ℕ) → k < f.first → ObeysRule c.timing c.geometry (take f.second list) (get_or list f.second d) f.rule k) → IsFaultOf c list f
fault_there c list f d order here asked broken least = record {
  order = order;
  within = here;
  asked = asked_there c list f.rule f.second d here asked;
  broken = λ holds. broken (holds (get_or list f.second d) (slice_get-get_or list f.second d here));
  least = λ k below. keeps_there c list f.rule k f.second d here (least k below);
}

number_some : (rule : Rule) → 0 < rule_number rule
number_some Order = omega arith
number_some rule = omega arith

same_rule : (a b : Rule) → rule_number a ≡ rule_number b → a ≡ b
same_rule a b e =
    let at_a : slice_get every_rule (rule_number a - 1) ≡ Some a = rule_at a in
    let at_b : slice_get every_rule (rule_number b - 1) ≡ Some b = rule_at b in
    let moved : slice_get every_rule (rule_number b - 1) ≡ Some a = subst (λ (n : ℕ). slice_get every_rule (n - 1) ≡ Some a) e at_a in
    cc

-- the place of a rule and a command tells both
record SamePlace (rule other : Rule) (second at : ℕ) : Type 0 where
  command : at ≡ second
  rule_is : other ≡ rule

same_place : (rule other : Rule) (second at : ℕ) → place_of other at ≡ place_of rule second → SamePlace rule other second at
same_place rule other second at e =
    let some = number_some rule in
    let few = number_small rule in
    let some_other = number_some other in
    let few_other = number_small other in
    let command : at ≡ second = omega (arith, some, few, some_other, few_other, e) in
    record { command = command; rule_is = same_rule other rule (omega (arith, command, e)) }

tells_more : (faults : List Fault) (f : Fault) (rule : Rule) (second : ℕ) → TellsOf faults rule second → TellsOf (faults ++ f ∷ []) rule second
tells_more faults f rule second tells = (tells.0, Contains-append_left faults (f ∷ []) tells.0 tells.1, tells.2, tells.3)

below_more : (faults : List Fault) (most : ℕ) → All (λ f. place_of f.rule f.second ≤ most) faults → All (λ f. place_of f.rule f.second ≤ most + 1) faults
below_more faults most below = λ i d here. let low = below i d here in omega (arith, low)

-- the rule and the command at the next place have no fault
pub no_more : (c : CommandRules) (list : List Stamped) (most : ℕ) (faults : List Fault) (rule : Rule) (second : ℕ) → place_of rule second ≡ most + 1
    → (IsAsked c list rule second → Keeps c list rule second) → AreFaultsUpTo c list most faults → AreFaultsUpTo c list (most + 1) faults
no_more c list most faults rule second here keeps so_far = record {
  are = so_far.are;
  once = so_far.once;
  below = below_more faults most so_far.below;
  each = λ other at low asked. elim (cases_lt most (place_of other at)) [
    | inl above ↦
        let same : SamePlace rule other second at = same_place rule other second at (omega (arith, above, low, here)) in
        let there : IsAsked c list rule second = subst (λ (n : ℕ). IsAsked c list rule n) same.command (subst (λ (r : Rule). IsAsked c list r at) same.rule_is asked) in
        inr (subst (λ (r : Rule). Keeps c list r at) (sym same.rule_is) (subst (λ (n : ℕ). Keeps c list rule n) (sym same.command) (keeps there)))
    | inr under ↦ so_far.each other at under asked
  ];
}

-- they have one
pub one_more : (c : CommandRules) (list : List Stamped) (most : ℕ) (faults : List Fault) (f : Fault) → place_of f.rule f.second ≡ most + 1
    → IsFaultOf c list f → AreFaultsUpTo c list most faults → AreFaultsUpTo c list (most + 1) (faults ++ f ∷ [])
one_more c list most faults f here is so_far = record {
  are = All-push (IsFaultOf c list) faults f so_far.are is;
  once = all_pairs_push ComesBehind faults f so_far.once (λ k d low. let under = so_far.below k d low in omega (arith, under, here));
  below = All-push (λ (g : Fault). place_of g.rule g.second ≤ most + 1) faults f (below_more faults most so_far.below) (omega (arith, here));
  each = λ other at low asked. elim (cases_lt most (place_of other at)) [
    | inl above ↦
        let same : SamePlace f.rule other f.second at = same_place f.rule other f.second at (omega (arith, above, low, here)) in
        inl (f, Contains-push faults f, sym same.rule_is, sym same.command)
    | inr under ↦ elim (so_far.each other at under asked) [ inl tells ↦ inl (tells_more faults f other at tells) | inr keeps ↦ inr keeps ]
  ];
}

-- of the rule behind the first ones of a command: it holds
pub none_at : (c : CommandRules) (list : List Stamped) (i second : ℕ) (d : Stamped) (faults : List Fault) → second < length list → i < 16
    → (IsAskedOf c (get_or list second d) (get_or every_rule i Order) → (k : ℕ) → ObeysRule c.timing c.geometry (take second list) (get_or list second d) (get_or every_rule i Order) k)
    → AreFaultsUpTo c list (16 * second + i) faults → AreFaultsUpTo c list (16 * second + (i + 1)) faults
none_at c list i second d faults here few obeys so_far =
    let rule : Rule = get_or every_rule i Order in
    let number : rule_number rule ≡ i + 1 = number_at i Order few in
    let place : place_of rule second ≡ 16 * second + i + 1 = omega (arith, number) in
    let next : 16 * second + i + 1 ≡ 16 * second + (i + 1) = omega arith in
    subst (λ (n : ℕ). AreFaultsUpTo c list n faults) next
    (no_more c list (16 * second + i) faults rule second place
    (λ asked first. keeps_there c list rule first second d here (obeys (asked (get_or list second d) (slice_get-get_or list second d here)) first)) so_far)

-- it is broken
pub some_at : (c : CommandRules) (list : List Stamped) (i second first : ℕ) (d : Stamped) (faults : List Fault) → second < length list → i < 16 → first ≤ length (take second list)
    → IsAskedOf c (get_or list second d) (get_or every_rule i Order) → (ObeysRule c.timing c.geometry (take second list) (get_or list second d) (get_or every_rule i Order) first → ⊥)
    → ((k : ℕ) → k < first → ObeysRule c.timing c.geometry (take second list) (get_or list second d) (get_or every_rule i Order) k)
    → AreFaultsUpTo c list (16 * second + i) faults
    → AreFaultsUpTo c list (16 * second + (i + 1)) (faults ++ record { first = first; second = second; rule = get_or every_rule i Order } ∷ [])
some_at c list i second first d faults here few order asked broken least so_far =
    let rule : Rule = get_or every_rule i Order in
    let fault : Fault = record { first = first; second = second; rule = rule } in
    let number : rule_number rule ≡ i + 1 = number_at i Order few in
    let place : place_of rule second ≡ 16 * second + i + 1 = omega (arith, number) in
    let next : 16 * second + i + 1 ≡ 16 * second + (i + 1) = omega arith in
    let size : length (take second list) ≡ second = length-take-le second list (omega (arith, here)) in
    subst (λ (n : ℕ). AreFaultsUpTo c list n (faults ++ fault ∷ [])) next
    (one_more c list (16 * second + i) faults fault place (fault_there c list fault d (omega (arith, order, size)) here asked broken least) so_far)

-- behind the last command all places are
pub all_places : (c : CommandRules) (list : List Stamped) (faults : List Fault) → AreFaultsUpTo c list (16 * length list) faults → AreFaultsOf c list faults
all_places c list faults upto = record {
  are = upto.are;
  once = upto.once;
  each = λ rule second asked. elim (cases_lt second (length list)) [
    | inl here ↦ let few = number_small rule in upto.each rule second (omega (arith, few, here)) asked
    | inr past ↦ inr (λ first x s. absurd (let within = slice_get_within list second x s in omega (arith, within, past)))
  ];
}

pub none_yet : (c : CommandRules) (list : List Stamped) → AreFaultsUpTo c list 0 []
none_yet c list = record {
  are = All-nil (IsFaultOf c list);
  once = λ i j d before here. absurd (omega arith);
  below = All-nil (λ (f : Fault). place_of f.rule f.second ≤ 0);
  each = λ rule second low asked. let some = number_some rule in absurd (omega (arith, some, low));
}

cond_most : (b : Bool) (m k n : ℕ) → m ≤ n → k ≤ n → cond b m k ≤ n
cond_most true m k n first second = first
cond_most false m k n first second = second

-- of a rule that is on the command alone no place before it is broken
pub refresh_least : (c : CommandRules) (before : List Stamped) (x : Stamped) (rule : Rule) (found : Option ℕ) → rule ≡ Refi
    → IfSome found (λ first. (first ≡ length before) × (KeepsRefresh c.timing before x → ⊥)) → IfSome found (λ first. (k : ℕ) → k < first → ObeysRule c.timing c.geometry before x rule k)
refresh_least c before x rule None is there = there
refresh_least c before x rule (Some first) is there = λ k below.
    ObeysRule-alone c.timing c.geometry before x rule k (inr is) (λ e. absurd cc) (λ _ at. absurd (let place = there.0 in omega (arith, at, place, below)))

pub refresh_none : (c : CommandRules) (before : List Stamped) (x : Stamped) (rule : Rule) (found : Option ℕ) → rule ≡ Refi
    → IfNone found (IsInGeometry c.geometry x.cmd → KeepsRefresh c.timing before x) → IfNone found (IsAskedOf c x rule → (k : ℕ) → ObeysRule c.timing c.geometry before x rule k)
refresh_none c before x rule (Some first) is keeps = keeps
refresh_none c before x rule None is keeps = λ asked k.
    ObeysRule-alone c.timing c.geometry before x rule k (inr is) (λ e. absurd cc) (λ _ _. elim asked [ inl e ↦ absurd cc | inr here ↦ keeps here ])

-- what a rule on two commands asks for is no more than the most
pub gap_within : (t : Timing) (rule : Rule) (a b : Command) (between : List Stamped) → gap t rule a between b ≤ most_asked t
unfolding gap pair_gap faw_gap
gap_within t Order a b between = omega arith
gap_within t Rows a b between = omega arith
gap_within t Rcd a b between = cond_most (is_act a && is_column b && same_bank a b) t.t_rcd 0 (most_asked t) (omega arith) (omega arith)
gap_within t Ras a b between = cond_most (is_act a && precharges b a) t.t_ras 0 (most_asked t) (omega arith) (omega arith)
gap_within t Rp a b between =
    let idle : cond (is_idle b && is_precharge a && same_rank a b) t.t_rp 0 ≤ most_asked t = cond_most (is_idle b && is_precharge a && same_rank a b) t.t_rp 0 (most_asked t) (omega arith) (omega arith) in
    cond_most (is_act b && precharges a b) t.t_rp (cond (is_idle b && is_precharge a && same_rank a b) t.t_rp 0) (most_asked t) (omega arith) idle
gap_within t Rc a b between = cond_most (is_act a && is_act b && same_bank a b) (t.t_ras + t.t_rp) 0 (most_asked t) (omega arith) (omega arith)
gap_within t Rtp a b between = cond_most (is_rd a && precharges b a) t.t_rtp 0 (most_asked t) (omega arith) (omega arith)
gap_within t Wr a b between = cond_most (is_wr a && precharges b a) (t.cwl + 4 + t.t_wr) 0 (most_asked t) (omega arith) (omega arith)
gap_within t Rrd a b between =
    cond_most (is_act a && is_act b && same_rank a b) (cond (same_group a b) t.t_rrd_l t.t_rrd_s) 0 (most_asked t)
    (cond_most (same_group a b) t.t_rrd_l t.t_rrd_s (most_asked t) (omega arith) (omega arith)) (omega arith)
gap_within t Faw a b between =
    cond_most (is_act b && is_act_of (rank_of b) a && count_by (λ (x : Stamped). is_act_of (rank_of b) x.cmd) between == 3) t.t_faw 0 (most_asked t) (omega arith) (omega arith)
gap_within t Ccd a b between =
    cond_most (((is_rd a && is_rd b) || (is_wr a && is_wr b)) && same_rank a b) (cond (same_group a b) t.t_ccd_l t.t_ccd_s) 0 (most_asked t)
    (cond_most (same_group a b) t.t_ccd_l t.t_ccd_s (most_asked t) (omega arith) (omega arith)) (omega arith)
gap_within t Wtr a b between =
    let group : cond (same_group a b) t.t_wtr_l t.t_wtr_s ≤ t.t_wtr_l + t.t_wtr_s = cond_most (same_group a b) t.t_wtr_l t.t_wtr_s (t.t_wtr_l + t.t_wtr_s) (omega arith) (omega arith) in
    cond_most (is_wr a && is_rd b && same_rank a b) (t.cwl + 4 + cond (same_group a b) t.t_wtr_l t.t_wtr_s) 0 (most_asked t) (omega (arith, group)) (omega arith)
gap_within t Rtw a b between = cond_most (is_rd a && is_wr b) t.t_rtw 0 (most_asked t) (omega arith) (omega arith)
gap_within t Cs a b between = cond_most (is_column a && is_column b && not (same_rank a b)) (4 + t.t_cs) 0 (most_asked t) (omega arith) (omega arith)
gap_within t Rfc a b between = cond_most (is_ref a && (is_act b || is_idle b) && same_rank a b) t.t_rfc 0 (most_asked t) (omega arith) (omega arith)
gap_within t Refi a b between = omega arith

-- commands that are too far from a clock keep each rule on two
pub far_keeps : (c : CommandRules) (before : List Stamped) (from : ℕ) (x : Stamped) (rule : Rule) → IsFarBefore c before from x.clock
    → (k : ℕ) → k < from → KeepsGap c.timing before x rule k
far_keeps c before from x rule far k below = λ a s.
    let most = gap_within c.timing rule a.cmd x.cmd (drop (k + 1) before) in
    let there = far k a below s in omega (arith, most, there)

pub far_before : (c : CommandRules) (before : List Stamped) (latest : List ℕ) (i clock : ℕ) → AreLatest before latest → i < length latest
    → slice_index latest i + most_asked c.timing ≤ clock → IsFarBefore c before (i + 1) clock
far_before c before latest i clock are within far = λ k a below s.
    let early = are.reach i k a (omega (arith, below)) within s in omega (arith, early, far)

pub far_none : (c : CommandRules) (before : List Stamped) (clock : ℕ) → IsFarBefore c before 0 clock
far_none c before clock = λ k a below s. absurd (omega (arith, below))

-- an element of a list with one more is of the list, or the last
one_of : {X : Type 0} (xs : List X) (y : X) (k : ℕ) (a : X) → slice_get (xs ++ y ∷ []) k ≡ Some a → (slice_get xs k ≡ Some a) ⊎ ((k ≡ length xs) × (a ≡ y))
one_of xs y k a s =
    let within = slice_get_within (xs ++ y ∷ []) k a s in
    let size = length_push xs y in
    let is : get_or (xs ++ y ∷ []) k y ≡ a = get_or_from_slice_get (xs ++ y ∷ []) k a y s in
    elim (cases_lt k (length xs)) [
      | inl front ↦ inl (slice_get-get_or xs k y front ∙ ap Some (sym (get_or_append_left xs (y ∷ []) y k front) ∙ is))
      | inr last ↦
          let same : length xs ≡ k = omega (arith, within, size, last) in
          inr (sym same, sym is ∙ get_or_at xs y [] y k same)
    ]

pub highest_more : (list : List Stamped) (n highest : ℕ) (d : Stamped) → n < length list
    → ((k : ℕ) (a : Stamped) → slice_get (take n list) k ≡ Some a → a.clock ≤ highest)
    → (k : ℕ) (a : Stamped) → slice_get (take (n + 1) list) k ≡ Some a → a.clock ≤ max (get_or list n d).clock highest
highest_more list n highest d here so_far k a s =
    elim (one_of (take n list) (get_or list n d) k a (subst (λ (l : List Stamped). slice_get l k ≡ Some a) (take_more list n d here) s)) [
      | inl before ↦ let low = so_far k a before in omega (arith, low)
      | inr last ↦ let is : a.clock ≡ (get_or list n d).clock = ap (λ (x : Stamped). x.clock) last.1 in omega (arith, is)
    ]

pub latest_none : AreLatest [] []
latest_none = record { size = refl; reach = λ i k a low here s. absurd (omega arith) }

pub latest_more : (list : List Stamped) (latest : List ℕ) (n high : ℕ) → n < length list → AreLatest (take n list) latest
    → ((k : ℕ) (a : Stamped) → slice_get (take (n + 1) list) k ≡ Some a → a.clock ≤ high) → AreLatest (take (n + 1) list) (latest ++ high ∷ [])
latest_more list latest n high here so_far all =
    let front : length (take n list) ≡ n = length-take-le n list (omega (arith, here)) in
    let grown : length (take (n + 1) list) ≡ n + 1 = length-take-le (n + 1) list (omega (arith, here)) in
    let size = length_push latest high in
    record {
      size = omega (arith, front, grown, size, so_far.size);
      reach = λ i k a low within s. elim (cases_lt i (length latest)) [
        | inl old ↦
            let is : slice_index (latest ++ high ∷ []) i ≡ slice_index latest i = get_or_append_left latest (high ∷ []) 0 i old in
            elim (one_of (take n list) (get_or list n a) k a (subst (λ (l : List Stamped). slice_get l k ≡ Some a) (take_more list n a here) s)) [
              | inl before ↦ let early = so_far.reach i k a low old before in omega (arith, early, is)
              | inr last ↦ absurd (let at = last.0 in omega (arith, at, front, low, old, so_far.size))
            ]
        | inr new ↦
            let is : slice_index (latest ++ high ∷ []) i ≡ high = get_or_at latest high [] 0 i (omega (arith, new, within, size)) in
            let most = all k a s in omega (arith, most, is)
      ];
    }
