use Rattle.std.proofs.Common.{◌≡◌, ◌++◌, ap, ◌∙◌, arith}
use Rattle.save_image.specs.Header.{fields, zeros, arm_byte}
use Rattle.save_image.proofs.Pages.{assembled}
use Rattle.save_image.proofs.writing.page_of_fields.Goals as goal
use Rattle.save_image.proofs.writing.page_of_fields.Goals.{then-armed, else-armed}

arm_is : (c : goal.After-page-10-1) → c.if-armed.arm ≡ arm_byte c.args.armed
arm_is c = elim c.if-armed.branch [ then-armed w ↦ rw w.if-armed.true w.arm-is | else-armed w ↦ rw w.if-armed.false w.arm-is ]

pub returns : goal.returns
returns c =
    assembled c.zero_page-page.result c.put.new.page c.put-2.new.page c.put_number.new.page c.put_number-2.new.page c.put_number-3.new.page c.args.magic.now c.if-armed.arm c.args.generation c.args.count c.args.lines
    (omega arith) c.zero_page-page.ensures c.put.ensures c.put-2.ensures c.put_number.ensures c.put_number-2.ensures c.put_number-3.ensures
    ∙ ap (λ arm. fields 0 arm c.args.magic.now c.args.generation c.args.count c.args.lines ++ zeros 4056) (arm_is c)
