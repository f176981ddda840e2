use Rattle.std.proofs.Common.{arith, rules}
use Rattle.save_image.proofs.Again.{ok_header, ok_header_in, err_header_in, only_header}
use Rattle.save_image.proofs.reading.read_header.Goals as goal

pub returns-clause-found : goal.returns-clause-found
returns-clause-found c = ok_header c.args.lines c.args.page.now c.fields.result (omega arith) (λ i. search rules) c.fields.ensures.ok

pub returns-clause-only : goal.returns-clause-only
returns-clause-only c h is fits = only_header c.args.lines c.args.page.now c.fields.result h (omega arith) (omega arith) c.fields.ensures.ok c.fields.ensures.err is fits

pub returns-clause-header : goal.returns-clause-header
returns-clause-header c = ok_header_in c.args.lines c.args.page.now c.fields.result (omega arith) (λ i. search rules) c.fields.ensures.ok

pub returns-clause-none : goal.returns-clause-none
returns-clause-none c = err_header_in c.args.lines c.args.page.now c.fields.result (omega arith) (omega arith) c.fields.ensures.err
