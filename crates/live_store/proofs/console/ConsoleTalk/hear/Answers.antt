use Rattle.std.proofs.Common.{◌≡◌, [], ◌∷◌, ◌++◌}
use Rattle.live_store.proofs.Hearing.{heard_next}
use Rattle.live_store.proofs.console.ConsoleTalk.hear.Goals as goal

pub returns-then-is_err-clause-said : goal.returns-then-is_err-clause-said
returns-then-is_err-clause-said g c = cc

pub returns-in_err-read_line-clause-said : goal.returns-in_err-read_line-clause-said
returns-in_err-read_line-clause-said g c = cc

pub returns-clause-line : goal.returns-clause-line
returns-clause-line g c =
    let is : c.note.new.self.items ≡ c.args.self.now.heard.items ++ c.read_line.new.line ∷ [] = cc in
    heard_next _ c.args.self.now.heard.items c.note.new.self.items c.read_line.new.line is

pub returns-clause-said : goal.returns-clause-said
returns-clause-said g c = cc
