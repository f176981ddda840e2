use Rattle.std.proofs.Common.{◌≡◌, ℕ, ◌*◌, ◌/◌, ◌%◌, refl, ap, sym, ◌∙◌, arith}
use Rattle.std.proofs.lemmas.Bool.{false_from_ne_true}
use Rattle.ddr4_timing.proofs.Common.{BankAddress, BankCells, HasBank, slot_of}
use Rattle.ddr4_timing.proofs.timing_state.TimingState.all_closed.Goals as goal

pub returns : goal.returns
returns c list s =
    let g = c.args.g.now in
    let all_banks : g.groups * g.banks ≡ g.groups * 4 = ap (λ (n : ℕ). g.groups * n) c.requires.few.banks in
    let bank : BankCells = record { act = 0; column = 0; pre = 0 } in
    let rows = λ (at : BankAddress) (h : HasBank g at) (own : at.rank ≡ c.args.rank). ((c.rank.ensures list 0 s).banks at bank 0 h own).row in (
      λ e grp bnk l m.
          let at : BankAddress = record { rank = c.args.rank; group = grp; bank = bnk } in
          let shut = c.all_closed.ensures.0 e (slot_of at) (omega (arith, all_banks)) in
          sym (rows at (record { rank = c.requires.rank; group = l; bank = m }) refl) ∙ rw shut refl,
      λ all. c.all_closed.ensures.1 (λ k l.
          let at : BankAddress = record { rank = c.args.rank; group = k / 4; bank = k % 4 } in
          let here : HasBank g at = record { rank = c.requires.rank; group = omega (arith, all_banks); bank = omega arith } in
          let slot : slot_of at ≡ k = omega arith in
          let shut = rows at here refl ∙ all (k / 4) (k % 4) here.group here.bank in
          rw (← slot) (false_from_ne_true _ (λ opened. let no = rw opened at shut in absurd cc))),
    )
