use Rattle.std.proofs.Common.{rules, ◌≡◌, ◌∙◌, ◌<◌, ◌∷◌, ◌++◌, ◌+◌, [], ap, get_or, length, sym, subst, take, List, ℕ}
use Rattle.std.specs.Io.KnownBytes.{Appends}
use Rattle.std.proofs.KnownBytes.{Appends-trans}
use Rattle.std.proofs.lemmas.List.{take_more}
use Rattle.crash_table.specs.declared.table.Block.{Block}
use Rattle.report_json.specs.Crashes.{block_in, blocks_in}
use Rattle.report_json.proofs.Tables.{more_of}
use Rattle.report_json.proofs.crashes.write_blocks.Goals as goal

pub loop-block-preserved : goal.loop-block-preserved
loop-block-preserved g c =
    let index = c.loop-block.block-index in let blocks = c.args.blocks.now in let j = c.args.is_json in
    let here : Block = c.block-item.result in
    let within : index < length blocks = search rules in
    let is : get_or blocks index here ≡ here = search rules in
    let taken : take (index + 1) blocks ≡ take index blocks ++ here ∷ [] =
    take_more blocks index here within ∙ ap (λ (b : Block). take index blocks ++ b ∷ []) is in
    let contents = g.W.Write.contents in
    let old = contents c.args.writer.now in let new = contents c.write_block.new.writer in
    subst (λ (bs : List ℕ). Appends old new bs) (sym (more_of (block_in j) (take (index + 1) blocks) (take index blocks) here taken))
    (Appends-trans old (contents c.loop-block.writer) new (blocks_in j (take index blocks)) (block_in j here) c.loop-block.invariant
    c.in_ok-write_block.ensures)
