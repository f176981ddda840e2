use Rattle.slot_store.proofs.Common.{arith, sym, zero_lines-IsMemory}
use Rattle.slot_store.proofs.FirstSave.{page_of-zero_lines}
use Rattle.slot_store.proofs.formatting.ZeroLinesSaveSource.page.Goals as goal

pub returns : goal.returns
returns c = let lines = c.args.self.now.lines in sym (page_of-zero_lines c.args._page lines (omega (arith, c.requires, (zero_lines-IsMemory lines).size)))
