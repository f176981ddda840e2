-- Lanes that show shapes.
use Rattle.std.proofs.Common.{◌≡◌, ℕ, ◌+◌, ◌<◌, ◌∷◌, [], ◌++◌, List, length, take, get_or, Contains, inl, inr, ap, ◌∙◌, subst, sym}
use Rattle.std.specs.Prelude.{◌⊎◌}
use Rattle.std.proofs.lemmas.List.{take_more}
use Rattle.std.proofs.lemmas.List.Elements.{All-more, Contains-append_left, Contains-push}
use Rattle.std.proofs.lemmas.List.Sorted.{Contains-permutation}
use Rattle.std.specs.List.Sorted.{IsPermutation}
use Rattle.ddr4_timing.specs.declared.place.BankAddress.{BankAddress}
use Rattle.schedule_drawing.specs.declared.lanes.Lane.{Lane}
use Rattle.schedule_drawing.specs.declared.lanes.LaneKind.{LaneKind}
use Rattle.schedule_drawing.specs.declared.lanes.LaneKind.TheVariants.{Bank}
use Rattle.schedule_drawing.specs.declared.shapes.Shape.{Shape}
use Rattle.schedule_drawing.specs.Drawing.{AreShown, shape_lane}
use Rattle.schedule_drawing.specs.Lanes.{bus_lane, rank_lane}
use Rattle.schedule_drawing.specs.Layouts.{AreNeeded, IsRankOver, IsShownFor}

-- more lanes show the same shapes
pub shown-kept : (lanes more : List Lane) (shapes : List Shape) → ((other : Lane) → Contains lanes other → Contains more other)
    → AreShown lanes shapes → AreShown more shapes
shown-kept lanes more shapes kept shown = λ k d below. kept (shape_lane (get_or shapes k d)) (shown k d below)

-- lanes in another order show the same shapes
pub shown-permuted : (lanes others : List Lane) (shapes : List Shape)
    → IsPermutation lanes others → AreShown lanes shapes → AreShown others shapes
shown-permuted lanes others shapes permuted =
    shown-kept lanes others shapes (λ other held. Contains-permutation lanes others other permuted held)

-- lanes that show some shapes and the next one
pub shown-more : (lanes : List Lane) (shapes : List Shape) (i : ℕ) (d : Shape) → i < length shapes → AreShown lanes (take i shapes)
    → Contains lanes (shape_lane (get_or shapes i d)) → AreShown lanes (take (i + 1) shapes)
shown-more lanes shapes i d below shown held = All-more (λ (shape : Shape). Contains lanes (shape_lane shape)) shapes i d below shown held

-- lanes with one more
abbrev pub AddsOnly : List Lane → List Lane → Lane → Type 0
AddsOnly old new it = (other : Lane) → Contains new other → Contains old other ⊎ (it ≡ other)

-- lanes with some more, which are shown for a lane
abbrev pub AddsShown : List Lane → List Lane → Lane → Type 0
AddsShown old new lane = (other : Lane) → Contains new other → Contains old other ⊎ IsShownFor lane other

adds-shown : (old mid new : List Lane) (lane it : Lane) → IsShownFor lane it → AddsShown old mid lane → AddsOnly mid new it → AddsShown old new lane
adds-shown old mid new lane it shown below only = λ other held.
    elim (only other held) [
      | inl before ↦ below other before
      | inr same ↦ inr (subst (λ (l : Lane). IsShownFor lane l) same shown)
    ]

-- with a shape's own lane
pub own-shown : (old new : List Lane) (lane own : Lane) → own ≡ lane → AddsOnly old new own → AddsShown old new lane
own-shown old new lane own same only =
    adds-shown old old new lane own (record { is = inl same }) (λ other held. inl held) only

-- with its channel's bus too
pub bus-shown : (old mid new : List Lane) (lane own bus : Lane) → own ≡ lane → bus ≡ bus_lane own.channel → AddsShown old mid lane → AddsOnly mid new bus
    → AddsShown old new lane
bus-shown old mid new lane own bus same is below only =
    adds-shown old mid new lane bus
    (record { is = inr (inl (is ∙ ap (λ (l : Lane). bus_lane l.channel) same)) }) below only

-- and with its bank's rank
pub rank-shown : (old mid new : List Lane) (lane own rank : Lane) (at : BankAddress) → own ≡ lane → own.kind ≡ Bank at → rank ≡ rank_lane own.channel at.rank
    → AddsShown old mid lane → AddsOnly mid new rank → AddsShown old new lane
rank-shown old mid new lane own rank at same is_bank is below only =
    let over : IsRankOver own.channel own.kind rank = subst (λ (kind : LaneKind). IsRankOver own.channel kind rank) (sym is_bank) is in
    adds-shown old mid new lane rank
    (record { is = inr (inr (subst (λ (l : Lane). IsRankOver l.channel l.kind rank) same over)) }) below only

-- lanes in another order are needed by the same shapes
pub needed-permuted : (lanes others : List Lane) (shapes : List Shape) → IsPermutation others lanes → AreNeeded lanes shapes → AreNeeded others shapes
needed-permuted lanes others shapes permuted needed = λ it held. needed it (Contains-permutation others lanes it permuted held)

-- and so are those of some shapes and the next one
pub needed-more : (old new : List Lane) (shapes : List Shape) (i : ℕ) (d : Shape) → i < length shapes
    → ((it : Lane) → Contains new it → Contains old it ⊎ IsShownFor (shape_lane (get_or shapes i d)) it) → AreNeeded old (take i shapes) → AreNeeded new (take (i + 1) shapes)
needed-more old new shapes i d below only needed = λ it held.
    let next : Shape = get_or shapes i d in
    let more : take (i + 1) shapes ≡ take i shapes ++ next ∷ [] = take_more shapes i d below in
    elim (only it held) [
      | inl before ↦
          let need = needed it before in
          (need.0, subst (λ (xs : List Shape). Contains xs need.0) (sym more) (Contains-append_left (take i shapes) (next ∷ []) need.0 need.1), need.2)
      | inr here ↦ (next, subst (λ (xs : List Shape). Contains xs next) (sym more) (Contains-push (take i shapes) next), here)
    ]
