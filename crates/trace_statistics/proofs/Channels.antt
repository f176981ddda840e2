-- The channels of a trace behind one more command of one of them.
use Rattle.std.proofs.Common.{◌≡◌, ◌≢◌, ◌∙◌, ◌<◌, ℕ, List, [], ◌∷◌, ◌++◌, get_or, set, slice_set, length, refl, ap, sym, subst, inl, inr, arith}
use Rattle.std.proofs.lemmas.Bool.{cases_eq}
use Rattle.std.proofs.lemmas.Grind.{get_or-set_at}
use Rattle.std.proofs.lemmas.List.{get_or-set_same, get_or-set_other}
use Rattle.auto_precharge.proofs.Settling.{follow_more, place_of_next}
use Rattle.auto_precharge.specs.Unfolding.{IsLawfulTrace, unfolded_none}
use Rattle.auto_precharge.specs.declared.issued.Issued.{Issued}
use Rattle.ddr4_timing.proofs.Addresses.{has_room, rank_within}
use Rattle.ddr4_timing.specs.Command.{bank_of, rank_of}
use Rattle.ddr4_timing.specs.Lawful.{IsInGeometry}
use Rattle.ddr4_timing.specs.Limits.{HasFewBanks}
use Rattle.ddr4_timing.specs.Places.{HasSlot}
use Rattle.ddr4_timing.specs.declared.command.Command.{Command}
use Rattle.ddr4_timing.specs.declared.command.Command.TheVariants.{Act, Rd, Wr, Pre, PreAll, Ref, Sre}
use Rattle.ddr4_timing.specs.declared.timing.CommandRules.{CommandRules}
use Rattle.ddr4_timing.specs.declared.timing.Geometry.{Geometry}
use Rattle.command_trace.proofs.Channels.{found_of-at, found_of-other}
use Rattle.command_trace.proofs.Following.{issued_in-append}
use Rattle.command_trace.specs.Channels.{found_of, issued_to}
use Rattle.command_trace.specs.Following.{issued_in, issued_of}
use Rattle.command_trace.specs.declared.entry.Located.{Located}
use Rattle.trace_statistics.specs.declared.channel.Channel.{Channel}
use Rattle.trace_statistics.specs.declared.rank.Rank.{Rank}
use Rattle.trace_statistics.specs.Standing.{AreOfLawful, ChannelStands, RankStands, StandForAll}
use Rattle.trace_statistics.proofs.Banks.{rank_apart_stands}

-- a command of the geometry goes to a bank that a table of ranks has
pub has_slot_in : (g : Geometry) (x : Command) → HasFewBanks g → IsInGeometry g x → HasSlot (bank_of x)
has_slot_in g (Act at row) few h = has_room g at few h.0
has_slot_in g (Rd at column) few h = has_room g at few h.0
has_slot_in g (Wr at column) few h = has_room g at few h.0
has_slot_in g (Pre at) few h = has_room g at few h
has_slot_in g (PreAll rank) few h = record { group = omega arith; bank = omega arith }
has_slot_in g (Ref rank) few h = record { group = omega arith; bank = omega arith }
has_slot_in g (Sre rank) few h = record { group = omega arith; bank = omega arith }

pub rank_small : (g : Geometry) (x : Command) → HasFewBanks g → IsInGeometry g x → rank_of x < 8
rank_small g x few h = let w = rank_within g x h in omega (arith, w, few.ranks)

-- the ranks of a channel
pub rank_old : (ranks : List Rank) (list : List Issued) (x : Issued) (n : ℕ) (d : Rank) → n ≡ rank_of x.command.cmd → rank_of x.command.cmd < 8
    → ((rank : ℕ) (none : Rank) → rank < 8 → RankStands rank (get_or ranks rank none) list) → RankStands (rank_of x.command.cmd) (get_or ranks n d) list
rank_old ranks list x n d index small stands = subst (λ (m : ℕ). RankStands (rank_of x.command.cmd) (get_or ranks m d) list) (sym index) (stands (rank_of x.command.cmd) d small)

pub ranks_more : (ranks : List Rank) (list : List Issued) (x : Issued) (n : ℕ) (new : Rank) → length ranks ≡ 8 → n ≡ rank_of x.command.cmd → rank_of x.command.cmd < 8
    → RankStands (rank_of x.command.cmd) new (x ∷ list) → ((rank : ℕ) (none : Rank) → rank < 8 → RankStands rank (get_or ranks rank none) list)
    → (rank : ℕ) (none : Rank) → rank < 8 → RankStands rank (get_or (set ranks n new) rank none) (x ∷ list)
ranks_more ranks list x n new size index small one stands rank none below =
    elim (cases_eq n rank) [
      | inl same ↦
          rw (get_or-set_at ranks n rank new none (sym same) (omega (arith, size, below)))
          (subst (λ (m : ℕ). RankStands m new (x ∷ list)) (sym index ∙ same) one)
      | inr other ↦
          rw (get_or-set_other ranks n rank new none (λ s. other (sym s)))
          (rank_apart_stands rank _ x list (λ q. other (index ∙ q)) (stands rank none below))
    ]

pub issued_more : (channel : ℕ) (found : List Located) (x : Located) → x.entry.channel ≡ channel
    → issued_to channel (found ++ x ∷ []) ≡ issued_to channel found ++ issued_of x ∷ []
issued_more channel found x same = ap (λ (l : List Located). issued_in l) (found_of-at channel found x same) ∙ issued_in-append (found_of channel found) (x ∷ [])

pub issued_past : (channel : ℕ) (found : List Located) (x : Located) → x.entry.channel ≢ channel → issued_to channel (found ++ x ∷ []) ≡ issued_to channel found
issued_past channel found x other = ap (λ (l : List Located). issued_in l) (found_of-other channel found x other)

-- the channels of a trace
pub stand_for_all : (channels : List Channel) (found : List Located) (x : Located) (new : Channel) → x.entry.channel < length channels → StandForAll channels found
    → ChannelStands new (issued_to x.entry.channel found ++ issued_of x ∷ []) → StandForAll (slice_set channels x.entry.channel new) (found ++ x ∷ [])
stand_for_all channels found x new within all one channel none below =
    elim (cases_eq x.entry.channel channel) [
      | inl same ↦
          subst (λ (n : ℕ). ChannelStands (get_or (set channels x.entry.channel new) n none) (issued_to n (found ++ x ∷ []))) same
          (rw (get_or-set_same channels x.entry.channel new none within, issued_more x.entry.channel found x refl) one)
      | inr other ↦
          rw (get_or-set_other channels x.entry.channel channel new none (λ s. other (sym s)), issued_past channel found x other)
          (all channel none below)
    ]

-- the last command of a lawful list is one of the geometry
pub in_geometry : (r : CommandRules) (channel : ℕ) (found : List Located) (x : Located) → x.entry.channel ≡ channel → IsLawfulTrace r (issued_to channel (found ++ x ∷ []))
    → IsInGeometry r.geometry x.entry.command.cmd
in_geometry r channel found x same lawful =
    let list = subst (λ (l : List Issued). IsLawfulTrace r l) (issued_more channel found x same) lawful in
    let next = ((follow_more r unfolded_none (issued_to channel found) (issued_of x)).0 list).1 in
    place_of_next r.timing r.geometry _ x.entry.command next.next

lawful_before : (r : CommandRules) (channel : ℕ) (found : List Located) (x : Located) → x.entry.channel ≡ channel → IsLawfulTrace r (issued_to channel (found ++ x ∷ []))
    → IsLawfulTrace r (issued_to channel found)
lawful_before r channel found x same lawful =
    ((follow_more r unfolded_none (issued_to channel found) (issued_of x)).0 (subst (λ (l : List Issued). IsLawfulTrace r l) (issued_more channel found x same) lawful)).0

-- a lawful command is counted
pub counted_more : (r : CommandRules) (found counted : List Located) (x : Located) → AreOfLawful r found counted → AreOfLawful r (found ++ x ∷ []) (counted ++ x ∷ [])
counted_more r found counted x of channel below lawful = elim (cases_eq x.entry.channel channel) [
  | inl same ↦
      issued_more channel counted x same ∙ ap (λ (l : List Issued). l ++ issued_of x ∷ []) (of channel below (lawful_before r channel found x same lawful))
      ∙ sym (issued_more channel found x same)
  | inr other ↦
      issued_past channel counted x other ∙ of channel below (subst (λ (l : List Issued). IsLawfulTrace r l) (issued_past channel found x other) lawful)
      ∙ sym (issued_past channel found x other)
]

-- and one that isn't leaves no lawful list in its channel
pub left_out : (r : CommandRules) (found counted : List Located) (x : Located) → (¬ IsLawfulTrace r (issued_to x.entry.channel (found ++ x ∷ []))) → AreOfLawful r found counted
    → AreOfLawful r (found ++ x ∷ []) counted
left_out r found counted x broken of channel below lawful = elim (cases_eq x.entry.channel channel) [
  | inl same ↦ absurd (broken (subst (λ (n : ℕ). IsLawfulTrace r (issued_to n (found ++ x ∷ []))) (sym same) lawful))
  | inr other ↦
      of channel below (subst (λ (l : List Issued). IsLawfulTrace r l) (issued_past channel found x other) lawful)
      ∙ sym (issued_past channel found x other)
]

-- the same of lists that are known to be these
pub in_geometry_next : (r : CommandRules) (found new : List Located) (x : Located) → new ≡ found ++ x ∷ [] → IsLawfulTrace r (issued_to x.entry.channel new) → IsInGeometry r.geometry x.entry.command.cmd
in_geometry_next r found new x adds lawful = in_geometry r x.entry.channel found x refl (subst (λ (l : List Located). IsLawfulTrace r (issued_to x.entry.channel l)) adds lawful)

pub counted_next : (r : CommandRules) (found new counted more : List Located) (x : Located) → new ≡ found ++ x ∷ [] → more ≡ counted ++ x ∷ [] → AreOfLawful r found counted → AreOfLawful r new more
counted_next r found new counted more x adds counts of = rw (adds, counts) (counted_more r found counted x of)

pub left_next : (r : CommandRules) (found new counted more : List Located) (x : Located) → new ≡ found ++ x ∷ [] → more ≡ counted → (¬ IsLawfulTrace r (issued_to x.entry.channel new)) → AreOfLawful r found counted
    → AreOfLawful r new more
left_next r found new counted more x adds same broken of =
    rw (adds, same) (left_out r found counted x (subst (λ (l : List Located). ¬ IsLawfulTrace r (issued_to x.entry.channel l)) adds broken) of)
