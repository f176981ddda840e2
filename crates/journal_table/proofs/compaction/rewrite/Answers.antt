use Rattle.std.proofs.Common.{◌∙◌, Global, ℕ, refl, subst, sym}
use Rattle.std.specs.Prelude.{Vec}
use Rattle.journal_table.specs.Calling.{HasKeptUp, log_behind_calls, rewrites_of, table_behind_calls}
use Rattle.journal_table.proofs.Compacting.{RewrittenSoFar, all_held, all_rewritten, kept_up_then, none_rewritten, one_rewritten, respelled}
use Rattle.journal_table.proofs.compaction.rewrite.Goals as goal

pub loop-key-init : goal.loop-key-init
loop-key-init g c = record {
  so = subst (λ rest. RewrittenSoFar g.K.ChannelPort c.args.journal.now.index.lines c.args.values.now c.args.journal.now.index c.args.nvdimm.now c.args.values.now.entries rest c.args.journal.now.index c.args.nvdimm.now)
      (sym (c.into_iter-key-iterator.ensures.into_iter_gives ∙ c.iter-key-items.ensures.rest))
      (none_rewritten g.K.ChannelPort c.args.journal.now.index.lines c.args.values.now c.args.journal.now.index c.args.nvdimm.now c.args.values.now.entries);
  lines = refl;
  setup = refl;
}

pub returns-in-Err-clause-part : goal.returns-in-Err-clause-part
returns-in-Err-clause-part g c = λ log table is says.
    let lines : ℕ = c.args.journal.now.index.lines in
    let so = c.loop-key.invariant.so in
    let first = so.called log table is says in
    let mid_log = log_behind_calls lines log (rewrites_of so.done) in
    let mid_table = table_behind_calls table (rewrites_of so.done) in
    kept_up_then g.K.ChannelPort lines c.args.values.now c.args.journal.now.index c.args.nvdimm.now so.done log table c.loop-key.journal.index c.rewrite_one.new.journal.index c.loop-key.nvdimm c.rewrite_one.new.nvdimm first
    (subst (λ (n : ℕ). HasKeptUp g.K.ChannelPort n mid_log mid_table c.rewrite_one.new.journal.index c.loop-key.nvdimm c.rewrite_one.new.nvdimm) c.loop-key.invariant.lines
    (c.in-Err.ensures.part mid_log mid_table first.indexed))

pub returns-in-Err-clause-found : goal.returns-in-Err-clause-found
returns-in-Err-clause-found g c = all_held c.args.values.now c.iter-key-items.ensures.found

pub loop-key-preserved : goal.loop-key-preserved
loop-key-preserved g c = record {
  so =
      let lines : ℕ = c.args.journal.now.index.lines in
      let e : Vec ℕ Global × Vec ℕ Global = (c.in-Some.key.now, c.in-Some.value.now) in
      let so = subst (λ rest. RewrittenSoFar g.K.ChannelPort lines c.args.values.now c.args.journal.now.index c.args.nvdimm.now c.args.values.now.entries rest c.loop-key.journal.index c.loop-key.nvdimm)
      c.in-Some.ensures.steps c.loop-key.invariant.so in
      one_rewritten g.K.ChannelPort lines c.args.values.now c.args.journal.now.index c.args.nvdimm.now c.args.values.now.entries c.next.new.self e c.loop-key.journal.index c.rewrite_one.new.journal.index
      c.loop-key.nvdimm c.rewrite_one.new.nvdimm so (all_held c.args.values.now c.iter-key-items.ensures.found)
      (respelled g.K.ChannelPort c.loop-key.journal.index c.rewrite_one.new.journal.index c.loop-key.nvdimm c.rewrite_one.new.nvdimm c.loop-key.journal.index.lines lines c.deref.result.now c.in-Some.key.now.items
      c.deref-in-loop-key.result.now c.in-Some.value.now.items c.loop-key.invariant.lines c.deref.ensures.value c.deref-in-loop-key.ensures.value c.in_default.ensures.done);
  lines = c.rewrite_one.ensures.lines ∙ c.loop-key.invariant.lines;
  setup = c.rewrite_one.ensures.setup ∙ c.loop-key.invariant.setup;
}

pub returns-clause-done : goal.returns-clause-done
returns-clause-done g c = λ log table is says.
    let lines : ℕ = c.args.journal.now.index.lines in
    let so = subst (λ rest. RewrittenSoFar g.K.ChannelPort lines c.args.values.now c.args.journal.now.index c.args.nvdimm.now c.args.values.now.entries rest c.loop-key.journal.index c.loop-key.nvdimm)
    c.in-None.ensures.steps.0 c.loop-key.invariant.so in
    all_rewritten g.K.ChannelPort lines c.args.values.now c.args.journal.now.index c.args.nvdimm.now c.args.values.now.entries c.loop-key.journal.index c.loop-key.nvdimm so log table is says
