use Rattle.std.proofs.Common.{◌≡◌, ◌∙◌, ℕ, ◌∷◌, ap, inl, inr, subst, sym}
use Rattle.std.proofs.lemmas.List.{get_or-replicate}
use Rattle.ddr4_timing.specs.Command.{bank_of, rank_of}
use Rattle.ddr4_timing.specs.declared.command.Command.{Command}
use Rattle.ddr4_timing.specs.declared.place.BankAddress.{BankAddress}
use Rattle.trace_statistics.specs.Numbers.{touching}
use Rattle.trace_statistics.specs.Standing.{RankStands, phase_of}
use Rattle.trace_statistics.specs.declared.phase.Phase.TheVariants.{Closed}
use Rattle.trace_statistics.proofs.Banks.{bank_wide, rank_closed}
use Rattle.trace_statistics.proofs.Counting.{IsWide}
use Rattle.trace_statistics.proofs.rank.Rank.take.Goals as goal

pub returns-in-Pre-clause-stands : goal.returns-in-Pre-clause-stands
returns-in-Pre-clause-stands c before s =
    let rank : rank_of c.args.next.now.command.cmd ≡ c.in-Pre.at.rank = ap rank_of c.in-Pre.is in
    subst (λ (n : ℕ). RankStands n c.take_at.new.self (c.args.next.now ∷ before)) (sym rank)
    (c.take_at.ensures.stands before (subst (λ (n : ℕ). RankStands n c.args.self.now before) rank s))

pub returns-in-PreAll-clause-stands : goal.returns-in-PreAll-clause-stands
returns-in-PreAll-clause-stands c before s =
    let wide : IsWide c.args.next.now.command.cmd = elim c.in-PreAll.is [
      | inl a ↦ subst (λ (x : Command). IsWide x) (sym a.1) tt
      | inr r ↦ elim r [ inl a ↦ subst (λ (x : Command). IsWide x) (sym a.1) tt | inr a ↦ subst (λ (x : Command). IsWide x) (sym a.1) tt ]
    ] in
    rank_closed _ c.args.self.now _ before _ (λ i d small. get_or-replicate 16 i Closed d small)
    (λ at p n of b. bank_wide at c.args.next.now before p n wide of b) s

bank_named : (c : goal.After-take_at-in-Act) → bank_of c.args.next.now.command.cmd ≡ c.in-Act.at
bank_named c = elim c.in-Act.is [ inl a ↦ ap bank_of a.1 | inr r ↦ elim r [ inl a ↦ ap bank_of a.1 | inr a ↦ ap bank_of a.1 ] ]

pub returns-in-Act-clause-stands : goal.returns-in-Act-clause-stands
returns-in-Act-clause-stands c before s =
    let rank : rank_of c.args.next.now.command.cmd ≡ c.in-Act.at.rank = ap (λ (at : BankAddress). at.rank) (bank_named c) in
    subst (λ (n : ℕ). RankStands n c.take_at-in-Act.new.self (c.args.next.now ∷ before)) (sym rank)
    (c.take_at-in-Act.ensures.stands before (subst (λ (n : ℕ). RankStands n c.args.self.now before) rank s))

pub returns-in-Act-clause-found : goal.returns-in-Act-clause-found
returns-in-Act-clause-found c before s column =
    let rank : rank_of c.args.next.now.command.cmd ≡ c.in-Act.at.rank = ap (λ (at : BankAddress). at.rank) (bank_named c) in
    c.take_at-in-Act.ensures.found before (subst (λ (n : ℕ). RankStands n c.args.self.now before) rank s)
    ∙ ap (λ (at : BankAddress). phase_of (touching at before)) (sym (bank_named c))
