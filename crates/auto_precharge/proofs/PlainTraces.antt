-- Of a trace in which no command closes its bank by itself the list is that of its commands.
use Rattle.std.proofs.Common.{◌≡◌, ◌↔◌, ℕ, false, IsTrue, List, [], ◌∷◌, ◌++◌, All, append-nil, append_assoc, slice_index_or, Some, None, ◌∙◌, refl, sym, ap, subst, arith}
use Rattle.std.proofs.lemmas.List.Elements.{All-head, All-tail}
use Rattle.ddr4_timing.proofs.Lawfulness.{goes_in_turn, lawful_from}
use Rattle.ddr4_timing.specs.Command.{bank_of}
use Rattle.ddr4_timing.specs.Lawful.{IsLawfulIn, MayComeNext}
use Rattle.ddr4_timing.specs.Places.{bank_index}
use Rattle.ddr4_timing.specs.declared.command.Stamped.{Stamped}
use Rattle.ddr4_timing.specs.declared.timing.CommandRules.{CommandRules}
use Rattle.ddr4_timing.specs.declared.timing.Timing.{Timing}
use Rattle.auto_precharge.specs.Unfolding.{AreFrom, MayAllFollow, NoneWaits, Unfolded, plain_commands, settled, unfolded_with, went}
use Rattle.auto_precharge.specs.declared.issued.Issued.{Issued}
use Rattle.auto_precharge.proofs.Settling.{all_later, no_lines, none_due}

-- no precharge is to come
abbrev pub IsQuiet : Unfolded → Type 0
IsQuiet u = NoneWaits u.waiting

quiet_from : (clock : ℕ) (u : Unfolded) → IsQuiet u → AreFrom clock u.waiting
quiet_from clock u quiet i p e = absurd (let no : None ≡ Some p = sym (quiet i) ∙ e in cc)

quiet_settled : (clock : ℕ) (u : Unfolded) → IsQuiet u → settled clock u ≡ u
quiet_settled clock u quiet =
    let from : AreFrom clock u.waiting = quiet_from clock u quiet in
    rw (none_due clock u.waiting from, no_lines clock u.waiting from, all_later clock u.waiting from, append-nil u.list, append-nil u.lines) refl

-- one more command
abbrev with_plain : Unfolded → Issued → Unfolded
with_plain u x = record { list = u.list ++ x.command ∷ []; lines = u.lines ++ x.line ∷ []; waiting = u.waiting }

quiet_with : (t : Timing) (u : Unfolded) (x : Issued) → IsQuiet u → x.closes ≡ false → unfolded_with t u x ≡ with_plain u x
quiet_with t u x quiet plain = ap (λ (v : Unfolded). went t v x) (quiet_settled x.command.clock u quiet) ∙ rw plain refl

pub plain_from : (r : CommandRules) (u : Unfolded) (found : List Issued) → IsQuiet u → All (λ (l : Issued). l.closes ≡ false) found → IsLawfulIn r.timing r.geometry u.list
    → (MayAllFollow r u found ↔ IsLawfulIn r.timing r.geometry (u.list ++ plain_commands found))
plain_from r u [] quiet plain lawful = (λ _. rw (append-nil u.list) lawful, λ _. omega arith)
plain_from r u (x ∷ found) quiet plain lawful =
    let c : Stamped = x.command in
    let own = All-head (λ (l : Issued). l.closes ≡ false) x found plain in
    let others = All-tail (λ (l : Issued). l.closes ≡ false) x found plain in
    let step : unfolded_with r.timing u x ≡ with_plain u x = quiet_with r.timing u x quiet own in
    let same : settled c.clock u ≡ u = quiet_settled c.clock u quiet in
    let joined : (u.list ++ c ∷ []) ++ plain_commands found ≡ u.list ++ c ∷ plain_commands found = append_assoc u.list (c ∷ []) (plain_commands found) in
    let lawful_in = λ (list : List Stamped). IsLawfulIn r.timing r.geometry list in (
      λ h.
          let next : MayComeNext r.timing r.geometry u.list c = subst (λ (v : Unfolded). MayComeNext r.timing r.geometry v.list c) same h.0.next in
          let longer = lawful_from r.timing r.geometry u.list c lawful next in
          let rest : MayAllFollow r (with_plain u x) found = subst (λ (v : Unfolded). MayAllFollow r v found) step h.1 in
          subst lawful_in joined ((plain_from r (with_plain u x) found quiet others longer).0 rest),
      λ h.
          let next = goes_in_turn r.timing r.geometry u.list c (plain_commands found) h in
          let longer = lawful_from r.timing r.geometry u.list c lawful next in (
            record {
              next = subst (λ (v : Unfolded). MayComeNext r.timing r.geometry v.list c) (sym same) next;
              is_open = λ _. subst (λ (v : Unfolded). slice_index_or v.waiting (bank_index (bank_of c.cmd)) None ≡ None) (sym same) (quiet (bank_index (bank_of c.cmd)));
            },
            subst (λ (v : Unfolded). MayAllFollow r v found) (sym step) ((plain_from r (with_plain u x) found quiet others longer).1 (subst lawful_in (sym joined) h)),
          ),
    )

-- no command is lawful
pub none_lawful : (r : CommandRules) → IsLawfulIn r.timing r.geometry []
none_lawful r rule first second x s = absurd cc
