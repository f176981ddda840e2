-- Why what the words name isn't read.
use Rattle.std.proofs.Common.{List, ℕ, Result, Ok, Err, inl, inr, subst, sym, ◌≡◌}
use Rattle.std.specs.Borrow.{Bor}
use Rattle.std.specs.Prelude.{IfErr}
use Rattle.std.specs.Result.{IsErrAnd}
use Rattle.clap.specs.declared.parser.matches.ArgMatches.{ArgMatches}
use Rattle.command_faults.specs.Exit.{IsOfFile}
use Rattle.command_faults.specs.declared.failure.Failure.{Failure}
use Rattle.command_faults.specs.declared.fault.ProgramFault.{ProgramFault}
use Rattle.command_line.specs.Verbs.{IsUnread, script_word}

-- the script can't be had
script_unread : (matches : ArgMatches) (word : Bor (List ℕ)) (fault : ProgramFault) → word.now ≡ script_word matches → IsOfFile word fault → IsUnread matches fault
script_unread matches word fault is (inl file) = inr (word, file, is)
script_unread matches word fault is (inr memory) = inl (inr (inl memory))

-- so it is of what is handed on
pub err_script_unread : {T : Type 0} (matches : ArgMatches) (word : Bor (List ℕ)) (result : Result T Failure) (why : Failure) → IsErrAnd result (λ failure. failure ≡ why)
    → word.now ≡ script_word matches → IsOfFile word why.fault → IfErr result (λ failure. IsUnread matches failure.fault)
err_script_unread matches word (Ok asked) why handed is of = tt
err_script_unread matches word (Err failure) why handed is of =
    subst (λ (it : Failure). IsUnread matches it.fault) (sym handed) (script_unread matches word why.fault is of)
