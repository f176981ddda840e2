-- Banks are the same where their numbers are.
use Rattle.std.proofs.Common.{◌≡◌, ℕ, ◌<◌, ap, ◌∙◌, arith}
use Rattle.ddr4_timing.proofs.Common.{Act, BankAddress, Command, Geometry, HasBank, HasFewBanks, HasSlot, IsInGeometry, IsSmall, rank_of, slot_of}

pub same_address : (a b : BankAddress) → a.rank ≡ b.rank → a.group ≡ b.group → a.bank ≡ b.bank → a ≡ b
same_address a b rank group bank =
    ap (λ (n : ℕ). record { rank = n; group = a.group; bank = a.bank }) rank
    ∙ (ap (λ (n : ℕ). record { rank = b.rank; group = n; bank = a.bank }) group
    ∙ ap (λ (n : ℕ). record { rank = b.rank; group = b.group; bank = n }) bank)

pub has_slot : (g : Geometry) (at : BankAddress) → IsSmall g → HasBank g at → HasSlot at
has_slot g at small h = record { group = omega arith; bank = omega arith }

pub has_room : (g : Geometry) (at : BankAddress) → HasFewBanks g → HasBank g at → HasSlot at
has_room g at few h = record { group = omega arith; bank = omega arith }

pub few_of_small : (g : Geometry) → IsSmall g → HasFewBanks g
few_of_small g small = record { ranks = omega arith; groups = small.groups; banks = small.banks }

pub slot_small : (at : BankAddress) → HasSlot at → slot_of at < 16
slot_small at h = omega arith

-- banks of one rank are the same where their slots are
pub same_slot : (a b : BankAddress) → HasSlot a → HasSlot b → a.rank ≡ b.rank → slot_of a ≡ slot_of b → a ≡ b
same_slot a b x y rank slot = same_address a b rank (omega arith) (omega arith)

pub rank_within : (g : Geometry) (x : Command) → IsInGeometry g x → rank_of x < g.ranks
rank_within g (Act at row) h = omega arith
rank_within g x h = omega arith
