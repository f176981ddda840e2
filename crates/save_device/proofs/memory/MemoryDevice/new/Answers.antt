use Rattle.std.proofs.Common.{◌∙◌}
use Rattle.save_device.proofs.memory.MemoryDevice.new.Goals as goal

pub returns-clause-settled_row : goal.returns-clause-settled_row
returns-clause-settled_row c = c.in_ok-settled.ensures.items_if_clones_equal (λ x y same. same) ∙ c.deref.ensures.value
