use Rattle.nv_script.proofs.Words.{byte_read, no_byte}
use Rattle.nv_script.proofs.word.byte.Goals as goal

pub returns-in-Ok-clause-byte : goal.returns-in-Ok-clause-byte
returns-in-Ok-clause-byte c = byte_read c.args.word.now c.in-Ok.bytes (cc)

pub returns-in-Err-clause-none : goal.returns-in-Err-clause-none
returns-in-Err-clause-none c = no_byte c.args.word.now c.in-Err.field-0 (cc)
