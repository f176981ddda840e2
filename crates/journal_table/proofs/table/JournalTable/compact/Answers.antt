use Rattle.std.proofs.Common.{ℕ, refl, subst}
use Rattle.journal_table.specs.Calling.{HasKeptUp, log_behind_calls, rewrites_of, table_behind_calls}
use Rattle.journal_table.proofs.Compacting.{compacted_either, kept_up, kept_up_then}
use Rattle.journal_table.proofs.table.JournalTable.compact.Goals as goal

pub returns-in-Err-clause-part : goal.returns-in-Err-clause-part
returns-in-Err-clause-part g c = λ log table is.
    kept_up g.K.ChannelPort c.args.self.now.journal.index.lines log table c.args.self.now (record { journal = c.rewrite.new.journal; values = c.args.self.now.values; spelled = c.args.self.now.spelled }) c.args.nvdimm.now c.rewrite.new.nvdimm refl is
    (c.in-Err.ensures.part log table is.index is.values)

pub returns-in-Ok-clause-done : goal.returns-in-Ok-clause-done
returns-in-Ok-clause-done g c = λ log table is.
    compacted_either g.K.ChannelPort c.args.self.now.journal.index.lines log table c.args.self.now (record { journal = c.cut.new.journal; values = c.args.self.now.values; spelled = c.args.self.now.spelled }) c.rewrite.new.journal
    c.args.nvdimm.now c.rewrite.new.nvdimm c.cut.new.nvdimm refl is c.rewrite.ensures.found (c.in_default.ensures.done log table is.index is.values) c.rewrite.ensures.lines c.end-end.result c.end-end.ensures
    c.in-Ok.cut c.in-Ok.ensures.some c.in-Ok.ensures.none

pub returns-in-Err-cut-clause-part : goal.returns-in-Err-cut-clause-part
returns-in-Err-cut-clause-part g c = λ log table is.
    let lines : ℕ = c.args.self.now.journal.index.lines in
    let entries = c.args.self.now.values.entries in
    let first = c.in_default.ensures.done log table is.index is.values in
    let mid_log = log_behind_calls lines log (rewrites_of entries) in
    let mid_table = table_behind_calls table (rewrites_of entries) in
    kept_up g.K.ChannelPort lines log table c.args.self.now (record { journal = c.cut.new.journal; values = c.args.self.now.values; spelled = c.args.self.now.spelled }) c.args.nvdimm.now c.cut.new.nvdimm refl is
    (kept_up_then g.K.ChannelPort lines c.args.self.now.values c.args.self.now.journal.index c.args.nvdimm.now entries log table c.rewrite.new.journal.index c.cut.new.journal.index c.rewrite.new.nvdimm c.cut.new.nvdimm first
    (subst (λ (n : ℕ). HasKeptUp g.K.ChannelPort n mid_log mid_table c.cut.new.journal.index c.rewrite.new.nvdimm c.cut.new.nvdimm) c.rewrite.ensures.lines
    (c.in-Err-cut.ensures.part mid_log mid_table first.indexed)))
