use Rattle.std.proofs.Common.{arith}
use Rattle.save_image.specs.Header.{arm_byte, magic_2}
use Rattle.save_image.proofs.Pages.{digested}
use Rattle.save_image.proofs.writing.header_bytes_2.Goals as goal

pub returns : goal.returns
unfolding magic_2
returns c =
    digested c.page_of_fields-page.result c.put.new.page c.args.digest.now (arm_byte c.args.armed) c.args.generation c.args.count c.args.lines
    (omega arith) c.page_of_fields-page.ensures c.put.ensures
