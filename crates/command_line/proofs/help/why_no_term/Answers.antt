use Rattle.std.proofs.Common.{ℕ, List, Contains, IfSome, Option, subst}
use Rattle.std.specs.Borrow.{Bor}
use Rattle.command_line.proofs.TermWords.{names_near}
use Rattle.command_line.proofs.help.why_no_term.Goals as goal

pub returns-in-Some : goal.returns-in-Some
returns-in-Some c =
    let one : Contains c.deref.result.now c.in-Some.near =
    subst (λ (near : Option (Bor (List ℕ))). IfSome near (λ word. Contains c.deref.result.now word)) c.in-Some.is c.in_ok-near.ensures in
    names_near c.args.terms.now c.in_ok-words.words.items c.in-Some.near c.told_near.result c.in_ok-words.ensures
    (subst (λ (words : List (Bor (List ℕ))). Contains words c.in-Some.near) c.deref.ensures.value one) c.told_near.ensures
