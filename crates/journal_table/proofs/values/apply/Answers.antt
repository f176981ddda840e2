use Rattle.std.proofs.Common.{rules, ◌≡◌, ◌∙◌, List, ℕ, ap, sym}
use Rattle.std.specs.Prelude.{Bool, true, Option, Some, bytes_eq, if◌then◌else◌}
use Rattle.table_log.specs.Changes.{Put, Remove, value_behind}
use Rattle.journal_table.specs.Values.{held}
use Rattle.journal_table.proofs.Holding.{held_changed}
use Rattle.journal_table.proofs.values.apply.Goals as goal

pub returns : goal.returns
returns c = λ other.
    let had : Option (List ℕ) = held c.args.values.now other in
    let put : c.args.parts.is_put ≡ true = search rules in
    let key : c.in_ok-key.key.items ≡ c.args.parts.key.now = c.in_ok-key.ensures.items_if_clones_equal (λ x y same. same) in
    let value : c.in_ok-value.value.items ≡ c.args.parts.value.now = c.in_ok-value.ensures.items_if_clones_equal (λ x y same. same) in
    held_changed c.in_ok-key.key.items c.args.values.now c.insert.new.self (Some c.in_ok-value.value) c.in_ok-insert.ensures.updates other
    ∙ ap (λ (k : List ℕ). if bytes_eq other k then Some c.in_ok-value.value.items else had) key
    ∙ ap (λ (v : List ℕ). if bytes_eq other c.args.parts.key.now then Some v else had) value
    ∙ ap (λ (b : Bool). value_behind other had (if b then Put c.args.parts.key.now c.args.parts.value.now else Remove c.args.parts.key.now)) (sym put)
