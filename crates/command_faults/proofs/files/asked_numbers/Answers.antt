use Rattle.std.proofs.Common.{rules, inl}
use Rattle.command_faults.proofs.files.asked_numbers.Goals as goal

pub returns-in-Err-Refused-clause-file : goal.returns-in-Err-Refused-clause-file
returns-in-Err-Refused-clause-file g c = inl (c.in_ok-why-in-Err-Refused.why, search rules)
