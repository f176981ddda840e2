use Rattle.std.proofs.Common.{◌≡◌, ◌∙◌, ◌-◌, ℕ, Option, Some, ap, refl}
use Rattle.ddr4_timing.specs.Command.{rank_of}
use Rattle.trace_statistics.specs.Margins.{lesser}
use Rattle.trace_statistics.proofs.RankTables.{act_own, other_own, ref_own}
use Rattle.trace_statistics.proofs.Turns.{margins_at_act, margins_at_other, margins_at_ref}
use Rattle.trace_statistics.proofs.margins.RankMargins.take.Goals as goal

pub returns-in-Ref : goal.returns-in-Ref
returns-in-Ref c list s =
    let x = c.args.next.now in
    let old = c.args.self.now in
    let left : c.lesser-self.result ≡ lesser old.margins.refresh (Some (old.deadline - x.clock)) =
    c.lesser-self.ensures ∙ ap (λ (n : ℕ). lesser old.margins.refresh (Some n)) c.saturating_sub-left.ensures in
    let own = ref_own x.cmd c.in-Ref.rank c.in-Ref.is in
    margins_at_ref c.args.t.now (rank_of x.cmd) list x old _ c.refresh.new.self refl own.0 own.1
    (ap (λ (o : Option ℕ). record old { margins = record old.margins { refresh = o } }) left) c.refresh.ensures s

pub returns-in-Act : goal.returns-in-Act
returns-in-Act c list s =
    let x = c.args.next.now in
    let old = c.args.self.now in
    let left : c.lesser-self.result ≡ lesser old.margins.refresh (Some (old.deadline - x.clock)) =
    c.lesser-self.ensures ∙ ap (λ (n : ℕ). lesser old.margins.refresh (Some n)) c.saturating_sub-left.ensures in
    let own = act_own x.cmd c.in-Act.at c.in-Act.row c.in-Act.is in
    margins_at_act c.args.t.now (rank_of x.cmd) list x old _ c.activate.new.self refl own.0 own.1
    (ap (λ (o : Option ℕ). record old { margins = record old.margins { refresh = o } }) left) c.activate.ensures s

pub returns-in_default : goal.returns-in_default
returns-in_default c list s =
    let x = c.args.next.now in
    let old = c.args.self.now in
    let left : c.lesser-self.result ≡ lesser old.margins.refresh (Some (old.deadline - x.clock)) =
    c.lesser-self.ensures ∙ ap (λ (n : ℕ). lesser old.margins.refresh (Some n)) c.saturating_sub-left.ensures in
    let own = other_own x.cmd c.in_default.not-Act c.in_default.not-Ref in
    margins_at_other c.args.t.now (rank_of x.cmd) list x old _ refl own.0 own.1
    (ap (λ (o : Option ℕ). record old { margins = record old.margins { refresh = o } }) left) s
