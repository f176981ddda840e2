use Rattle.std.proofs.Common.{rules}
use Rattle.notice_book.proofs.entry.Entry.call.Goals as goal

pub call_once-requires : goal.call_once-requires
call_once-requires g c = search rules

pub returns : goal.returns
returns g c = search
