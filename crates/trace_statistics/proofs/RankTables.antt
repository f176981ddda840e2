-- The margins of the ranks of a channel with one more command.
use Rattle.std.proofs.Common.{◌≡◌, ◌≢◌, ◌∙◌, ◌<◌, ◌==◌, ◌&&◌, ℕ, Bool, true, false, List, [], ◌∷◌, ◌++◌, get_or, set, slice_set, length, ap, refl, sym, subst, inl, inr, arith}
use Rattle.std.proofs.Math.Bool.{and-false}
use Rattle.std.proofs.lemmas.Bool.{cases_eq, eq-eqb, ne_eqb}
use Rattle.std.proofs.lemmas.Grind.{get_or-set_at}
use Rattle.std.proofs.lemmas.List.{get_or-set_same, get_or-set_other, map-append}
use Rattle.auto_precharge.specs.Unfolding.{plain_commands}
use Rattle.auto_precharge.specs.declared.issued.Issued.{Issued}
use Rattle.command_trace.specs.Channels.{issued_to}
use Rattle.command_trace.specs.Following.{issued_of}
use Rattle.command_trace.specs.declared.entry.Located.{Located}
use Rattle.ddr4_timing.specs.Command.{is_act, is_act_of, is_ref, is_ref_of, rank_of}
use Rattle.ddr4_timing.specs.declared.command.Command.{Command}
use Rattle.ddr4_timing.specs.declared.command.Command.TheVariants.{Act, Rd, Wr, Pre, PreAll, Ref, Sre}
use Rattle.ddr4_timing.specs.declared.command.Stamped.{Stamped}
use Rattle.ddr4_timing.specs.declared.place.BankAddress.{BankAddress}
use Rattle.ddr4_timing.specs.declared.timing.Timing.{Timing}
use Rattle.trace_statistics.specs.declared.margins.ChannelMargins.{ChannelMargins}
use Rattle.trace_statistics.specs.declared.margins.RankMargins.{RankMargins}
use Rattle.trace_statistics.specs.MarginsStanding.{MarginsStand, RanksStand, StandByAll}
use Rattle.trace_statistics.proofs.Channels.{issued_more, issued_past}
use Rattle.trace_statistics.proofs.Turns.{margins_apart}

ref_apart : (rank : ℕ) (x : Command) → rank_of x ≢ rank → is_ref_of rank x ≡ false
ref_apart rank x other = ap (λ (b : Bool). is_ref x && b) (ne_eqb (rank_of x) rank other) ∙ and-false (is_ref x)

act_apart : (rank : ℕ) (x : Command) → rank_of x ≢ rank → is_act_of rank x ≡ false
act_apart rank x other = ap (λ (b : Bool). is_act x && b) (ne_eqb (rank_of x) rank other) ∙ and-false (is_act x)

eqb_self : (n : ℕ) → (n == n) ≡ true
eqb_self n = eq-eqb n n refl

-- a REF, an ACT, and any other command, of its own rank
pub ref_own : (x : Command) (rank : ℕ) → x ≡ Ref rank → (is_ref_of (rank_of x) x ≡ true) × (is_act_of (rank_of x) x ≡ false)
ref_own x rank e = subst (λ (y : Command). (is_ref_of (rank_of y) y ≡ true) × (is_act_of (rank_of y) y ≡ false)) (sym e) (eqb_self rank, refl)

pub act_own : (x : Command) (at : BankAddress) (row : ℕ) → x ≡ Act at row → (is_ref_of (rank_of x) x ≡ false) × (is_act_of (rank_of x) x ≡ true)
act_own x at row e = subst (λ (y : Command). (is_ref_of (rank_of y) y ≡ false) × (is_act_of (rank_of y) y ≡ true)) (sym e) (refl, eqb_self at.rank)

pub other_own : (x : Command) → ((at : BankAddress) (row : ℕ) → x ≢ Act at row) → ((rank : ℕ) → x ≢ Ref rank) → (is_ref_of (rank_of x) x ≡ false) × (is_act_of (rank_of x) x ≡ false)
other_own (Act at row) act ref = absurd (act at row refl)
other_own (Rd at column) act ref = (refl, refl)
other_own (Wr at column) act ref = (refl, refl)
other_own (Pre at) act ref = (refl, refl)
other_own (PreAll rank) act ref = (refl, refl)
other_own (Ref rank) act ref = absurd (ref rank refl)
other_own (Sre rank) act ref = (refl, refl)

pub margins_of_rank : (t : Timing) (ranks : List RankMargins) (list : List Stamped) (x : Stamped) (n : ℕ) (d : RankMargins) → n ≡ rank_of x.cmd → rank_of x.cmd < 8
    → ((rank : ℕ) (none : RankMargins) → rank < 8 → MarginsStand t rank list (get_or ranks rank none)) → MarginsStand t (rank_of x.cmd) list (get_or ranks n d)
margins_of_rank t ranks list x n d index small stands = subst (λ (m : ℕ). MarginsStand t (rank_of x.cmd) list (get_or ranks m d)) (sym index) (stands (rank_of x.cmd) d small)

pub margins_more : (t : Timing) (ranks : List RankMargins) (list : List Stamped) (x : Stamped) (n : ℕ) (new : RankMargins) → length ranks ≡ 8 → n ≡ rank_of x.cmd → rank_of x.cmd < 8
    → MarginsStand t (rank_of x.cmd) (list ++ x ∷ []) new → ((rank : ℕ) (none : RankMargins) → rank < 8 → MarginsStand t rank list (get_or ranks rank none))
    → (rank : ℕ) (none : RankMargins) → rank < 8 → MarginsStand t rank (list ++ x ∷ []) (get_or (set ranks n new) rank none)
margins_more t ranks list x n new size index small one stands rank none below = elim (cases_eq n rank) [
  | inl same ↦
      rw (get_or-set_at ranks n rank new none (sym same) (omega (arith, size, below)))
      (subst (λ (m : ℕ). MarginsStand t m (list ++ x ∷ []) new) (sym index ∙ same) one)
  | inr other ↦
      let apart : rank_of x.cmd ≢ rank = λ q. other (index ∙ q) in
      rw (get_or-set_other ranks n rank new none (λ s. other (sym s)))
      (margins_apart t rank list x _ (ne_eqb (rank_of x.cmd) rank apart) (ref_apart rank x.cmd apart) (act_apart rank x.cmd apart) (stands rank none below))
]

pub plain_more : (list : List Issued) (x : Issued) → plain_commands (list ++ x ∷ []) ≡ plain_commands list ++ x.command ∷ []
plain_more list x = map-append (λ (y : Issued). y.command) list (x ∷ [])

-- the channels of a trace
pub stand_by_all : (t : Timing) (margins : List ChannelMargins) (found : List Located) (x : Located) (new : ChannelMargins) → x.entry.channel < length margins → StandByAll t margins found
    → RanksStand t new (plain_commands (issued_to x.entry.channel found ++ issued_of x ∷ [])) → StandByAll t (slice_set margins x.entry.channel new) (found ++ x ∷ [])
stand_by_all t margins found x new within all one channel none below = elim (cases_eq x.entry.channel channel) [
  | inl same ↦
      subst (λ (n : ℕ). RanksStand t (get_or (set margins x.entry.channel new) n none) (plain_commands (issued_to n (found ++ x ∷ [])))) same
      (rw (get_or-set_same margins x.entry.channel new none within, issued_more x.entry.channel found x refl) one)
  | inr other ↦
      rw (get_or-set_other margins x.entry.channel channel new none (λ s. other (sym s)), issued_past channel found x other)
      (all channel none below)
]
