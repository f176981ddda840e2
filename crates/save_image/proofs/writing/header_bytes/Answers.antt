use Rattle.save_image.specs.Header.{header, magic, magic_1, tail}
use Rattle.save_image.proofs.writing.header_bytes.Goals as goal

pub returns : goal.returns
unfolding header magic magic_1 tail
returns c = c.page_of_fields.ensures
