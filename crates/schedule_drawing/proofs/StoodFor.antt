-- The lists that channels stand for lie in the geometry.
use Rattle.std.proofs.Common.{◌≡◌, ◌<◌, ◌∙◌, ℕ, zero, suc, ◌+◌, Bool, true, false, ◌&&◌, List, [], ◌∷◌, ◌++◌, All, fold, nat_le, Option, Some, None, ap, arith, inl, inr, refl, subst, sym}
use Rattle.std.specs.List.{flat_map, range_with_len}
use Rattle.std.proofs.lemmas.Bool.{cases_Bool}
use Rattle.std.proofs.lemmas.Grind.{flat_map-append}
use Rattle.std.proofs.lemmas.List.{append-nil}
use Rattle.std.proofs.lemmas.List.Elements.{All-append, All-cons, All-map, All-nil, All-push}
use Rattle.ddr4_timing.specs.Command.{is_column}
use Rattle.ddr4_timing.specs.Lawful.{IsInGeometry}
use Rattle.ddr4_timing.specs.declared.command.Stamped.{Stamped}
use Rattle.ddr4_timing.specs.declared.timing.CommandRules.{CommandRules}
use Rattle.ddr4_timing.specs.declared.timing.Geometry.{Geometry}
use Rattle.auto_precharge.specs.Unfolding.{ArePlaced, IsLawfulTrace, MayAllFollow, Unfolded, due, gone, settled, unfolded_none, unfolded_with, went}
use Rattle.auto_precharge.specs.declared.issued.Issued.{Issued}
use Rattle.auto_precharge.specs.declared.waiting.Closing.{Closing}
use Rattle.auto_precharge.proofs.Settling.{column_has_bank, place_of_next, placed_later, placed_none, placed_set}
use Rattle.command_trace.specs.Channels.{issued_to}
use Rattle.command_trace.specs.declared.entry.ChannelCommand.{ChannelCommand}
use Rattle.command_trace.specs.declared.entry.Located.{Located}
use Rattle.schedule_drawing.specs.Entries.{AreAllLawful, AreFoundIn, LieIn, entries_found, entries_stood_for, entries_to, stood_for}
use Rattle.schedule_drawing.proofs.FlawLemmas.{range_more}

-- the geometry has the place of each command
abbrev pub AreIn : Geometry → List Stamped → Type 0
AreIn g list = All (λ (x : Stamped). IsInGeometry g x.cmd) list

gone_in : (g : Geometry) (clock : ℕ) (p : Closing) → ArePlaced g (Some p ∷ []) → AreIn g (gone clock (Some p))
gone_in g clock p placed = elim (cases_Bool (nat_le clock p.clock)) [
  | inl waits ↦ rw waits (All-nil (λ (x : Stamped). IsInGeometry g x.cmd))
  | inr goes ↦ rw goes (All-cons (λ (x : Stamped). IsInGeometry g x.cmd) _ [] (placed 0 p refl) (All-nil (λ (x : Stamped). IsInGeometry g x.cmd)))
]

first_placed : (g : Geometry) (p : Closing) (waiting : List (Option Closing)) → ArePlaced g (Some p ∷ waiting) → ArePlaced g (Some p ∷ [])
first_placed g p waiting placed zero q e = placed 0 q e
first_placed g p waiting placed (suc i) q e = absurd (let no : None ≡ Some q = e in cc)

due_in : (g : Geometry) (clock : ℕ) (waiting : List (Option Closing)) → ArePlaced g waiting → AreIn g (due clock waiting)
due_in g clock [] placed = All-nil (λ (x : Stamped). IsInGeometry g x.cmd)
due_in g clock (None ∷ waiting) placed = due_in g clock waiting (λ i p e. placed (suc i) p e)
due_in g clock (Some p ∷ waiting) placed =
    All-append (λ (x : Stamped). IsInGeometry g x.cmd) (gone clock (Some p)) (due clock waiting) (gone_in g clock p (first_placed g p waiting placed))
    (due_in g clock waiting (λ i q e. placed (suc i) q e))

-- all that was unfolded
abbrev pub IsIn : Geometry → Unfolded → Type 0
IsIn g u = AreIn g u.list × ArePlaced g u.waiting

settled_in : (g : Geometry) (clock : ℕ) (u : Unfolded) → IsIn g u → IsIn g (settled clock u)
settled_in g clock u here = (
  All-append (λ (x : Stamped). IsInGeometry g x.cmd) u.list (due clock u.waiting) here.0 (due_in g clock u.waiting here.1),
  placed_later clock g u.waiting here.1,
)

second_true : (a b : Bool) → (a && b) ≡ true → b ≡ true
second_true true b e = e
second_true false b e = absurd cc

went_placed : (r : CommandRules) (u : Unfolded) (x : Issued) → IsInGeometry r.geometry x.command.cmd → ArePlaced r.geometry u.waiting → ArePlaced r.geometry (went r.timing u x).waiting
went_placed r u x place placed = elim (cases_Bool (x.closes && is_column x.command.cmd)) [
  | inl brings ↦
      let column : is_column x.command.cmd ≡ true = second_true x.closes (is_column x.command.cmd) brings in
      rw brings (placed_set r.geometry u.waiting _ _ placed (column_has_bank r.geometry x.command.cmd place column))
  | inr not ↦ rw not placed
]

went_in : (r : CommandRules) (u : Unfolded) (x : Issued) → IsInGeometry r.geometry x.command.cmd → IsIn r.geometry u → IsIn r.geometry (went r.timing u x)
went_in r u x place here = (
  All-push (λ (y : Stamped). IsInGeometry r.geometry y.cmd) u.list x.command here.0 place,
  went_placed r u x place here.1,
)

all_in : (r : CommandRules) (u : Unfolded) (found : List Issued) → IsIn r.geometry u → MayAllFollow r u found → IsIn r.geometry (fold (λ v y. unfolded_with r.timing v y) u found)
all_in r u [] here may = here
all_in r u (x ∷ found) here may =
    let place = place_of_next r.timing r.geometry (settled x.command.clock u).list x.command may.0.next in
    all_in r (unfolded_with r.timing u x) found (went_in r (settled x.command.clock u) x place (settled_in r.geometry x.command.clock u here)) may.1

pub stood_for_in : (r : CommandRules) (found : List Located) (channel : ℕ) → IsLawfulTrace r (issued_to channel found) → AreIn r.geometry (stood_for r found channel)
stood_for_in r found channel lawful =
    (settled_in r.geometry _ (fold (λ (v : Unfolded) (y : Issued). unfolded_with r.timing v y) unfolded_none (issued_to channel found)) (all_in r unfolded_none (issued_to channel found) (All-nil (λ (x : Stamped). IsInGeometry r.geometry x.cmd), placed_none r.geometry 128) lawful)).0

entries_in : (g : Geometry) (channel : ℕ) (list : List Stamped) → AreIn g list → LieIn g (entries_to channel list)
entries_in g channel list here =
    All-map (λ (entry : ChannelCommand). IsInGeometry g entry.command.cmd) (λ (x : Stamped). record { channel = channel; command = x }) list here

-- the channels up to one
abbrev pub stood_up_to : CommandRules → List Located → ℕ → List ChannelCommand
stood_up_to r found n = flat_map (λ channel. entries_to channel (stood_for r found channel)) (range_with_len 0 n)

pub stood_more : (r : CommandRules) (found : List Located) (n : ℕ) → stood_up_to r found (n + 1) ≡ stood_up_to r found n ++ entries_to n (stood_for r found n)
stood_more r found n =
    ap (λ (l : List ℕ). flat_map (λ channel. entries_to channel (stood_for r found channel)) l) (range_more n)
    ∙ flat_map-append (λ channel. entries_to channel (stood_for r found channel)) (range_with_len 0 n) (n ∷ [])
    ∙ ap (λ (l : List ChannelCommand). stood_up_to r found n ++ l) (append-nil (entries_to n (stood_for r found n)))

up_to_in : (r : CommandRules) (found : List Located) (n : ℕ) → ((channel : ℕ) → channel < n → IsLawfulTrace r (issued_to channel found)) → LieIn r.geometry (stood_up_to r found n)
up_to_in r found zero lawful = All-nil (λ (entry : ChannelCommand). IsInGeometry r.geometry entry.command.cmd)
up_to_in r found (suc n) lawful =
    let next : n + 1 ≡ suc n = omega arith in
    subst (λ (k : ℕ). LieIn r.geometry (stood_up_to r found k)) next
    (subst (λ (l : List ChannelCommand). LieIn r.geometry l) (sym (stood_more r found n))
    (All-append (λ (entry : ChannelCommand). IsInGeometry r.geometry entry.command.cmd) (stood_up_to r found n) _ (up_to_in r found n (λ k below. lawful k (omega (arith, below))))
    (entries_in r.geometry n (stood_for r found n) (stood_for_in r found n (lawful n (omega arith))))))

pub stood_for_all_in : (r : CommandRules) (found : List Located) → AreAllLawful r found → LieIn r.geometry (entries_stood_for r found)
stood_for_all_in r found lawful = up_to_in r found r.geometry.channels lawful

-- the same of a list that is known to be this one
pub stood_lie : (r : CommandRules) (found : List Located) (entries : List ChannelCommand) → entries ≡ entries_stood_for r found → AreAllLawful r found → LieIn r.geometry entries
stood_lie r found entries is lawful = subst (λ (l : List ChannelCommand). LieIn r.geometry l) (sym is) (stood_for_all_in r found lawful)

pub found_lie : (g : Geometry) (found : List Located) (entries : List ChannelCommand) → entries ≡ entries_found found → AreFoundIn g found → LieIn g entries
found_lie g found entries is here =
    subst (λ (l : List ChannelCommand). LieIn g l) (sym is) (All-map (λ (entry : ChannelCommand). IsInGeometry g entry.command.cmd) (λ (l : Located). l.entry) found here)
