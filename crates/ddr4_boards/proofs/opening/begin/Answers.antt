use Rattle.std.proofs.Common.{◌∙◌, ℕ, List, [], ap, refl, subst, sym}
use Rattle.line_memory.specs.History.{recorded}
use Rattle.nv_machine.specs.State.{Setup}
use Rattle.board_hosts.specs.Opening.{OpeningView}
use Rattle.ddr4_boards.specs.Setup.{IsSetupOf}
use Rattle.ddr4_boards.proofs.opening.begin.Goals as goal

pub returns-clause-mark : goal.returns-clause-mark
returns-clause-mark g c = ap (λ (o : OpeningView). o.mark) c.in_ok-tables.ensures ∙ (c.in_ok-opening.ensures.mark ∙ c.mark.ensures)

pub returns-clause-setup : goal.returns-clause-setup
returns-clause-setup g c =
    subst (λ (s : Setup). IsSetupOf (g.M.LineMap.place_of c.args.map.now) c.args.profile.now s) (sym c.in-Ok.ensures.setup)
    (record {
      is = refl;
      numbers = c.with_retries-costs.ensures.numbers ∙ c.of.ensures.numbers;
      retries = c.with_retries-costs.ensures.retries;
      reckoned = c.with_retries-costs.ensures.profile c.args.profile.now.checked c.of.ensures.profile;
    })

pub returns-clause-history : goal.returns-clause-history
returns-clause-history g c =
    c.in_ok-history.ensures ∙ ap (λ (lines : List (List ℕ)). recorded lines c.args.restored.head.count [] c.args.profile.now.sizes.trail) c.deref.ensures.value
