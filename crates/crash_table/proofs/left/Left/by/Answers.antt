use Rattle.std.proofs.Common.{ap, length, List, ◌∙◌, subst, sym, ℕ}
use Rattle.save_device.specs.Memory.{IsPicked}
use Rattle.save_device.specs.declared.memory.Pick.{Pick}
use Rattle.crash_table.proofs.Lefts.{new_picked, settled_picked, torn_picked}
use Rattle.crash_table.proofs.left.Left.by.Goals as goal

pub returns-in_ok-bytes-in-Old : goal.returns-in_ok-bytes-in-Old
returns-in_ok-bytes-in-Old c = λ device is.
    let image : List ℕ = c.in_ok-bytes-in-Old.field-0.items in
    (settled_picked c.args.pick device c.args.self.now image is (c.is_settled.ensures c.if-is_settled.true) c.in_ok-bytes-in-Old.ensures, ap length (c.in_ok-bytes-in-Old.ensures ∙ is.bytes))

pub returns-in_ok-bytes-in-New : goal.returns-in_ok-bytes-in-New
returns-in_ok-bytes-in-New c = λ device is.
    let image : List ℕ = c.in_ok-bytes-in-New.field-0.items in
    let picked = new_picked device c.args.self.now image is c.in_ok-bytes-in-New.ensures in
    (subst (λ (pick : Pick). IsPicked pick device image) (sym c.in-New.is) picked, ap length (c.in_ok-bytes-in-New.ensures ∙ is.bytes))

pub returns-in_ok-torn_to-in-Torn : goal.returns-in_ok-torn_to-in-Torn
returns-in_ok-torn_to-in-Torn c = λ device is.
    let image : List ℕ = c.in_ok-torn_to-in-Torn.field-0.items in
    let picked = torn_picked device c.args.self.now c.in-Torn.byte image is c.in_ok-torn_to-in-Torn.ensures in
    (subst (λ (pick : Pick). IsPicked pick device image) (sym c.in-Torn.is) picked, c.in_ok-torn_to-in-Torn.ensures.size ∙ ap length is.bytes)
