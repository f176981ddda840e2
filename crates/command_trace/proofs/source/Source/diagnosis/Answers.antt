use Rattle.std.proofs.Common.{refl, subst, List, Option, IfSome}
use Rattle.auto_precharge.specs.declared.issued.Issued.{Issued}
use Rattle.command_trace.specs.Faults.{EndsAtFault}
use Rattle.command_trace.specs.declared.diagnosis.Diagnosis.{Diagnosis}
use Rattle.command_trace.proofs.source.Source.diagnosis.Goals as goal

pub returns-then-is_lawful-clause-none : goal.returns-then-is_lawful-clause-none
returns-then-is_lawful-clause-none g c = λ follows. ((λ _. (c.is_lawful.ensures follows).0 c.if-is_lawful.true), (λ _. refl))

pub returns-in-Some-clause-fault : goal.returns-in-Some-clause-fault
returns-in-Some-clause-fault g c = λ follows. let r = c.args.rules.now in let issued : List Issued = c.in_ok-issued.issued.items in record {
  line = c.line.result;
  of_check = c.line.ensures.first r follows (λ lawful. absurd (let is = (c.is_lawful.ensures follows).1 lawful in cc));
  issued = issued;
  are = c.in_ok-issued.ensures.reads;
  ends = subst (λ (o : Option Diagnosis). IfSome o (EndsAtFault r issued)) c.in-Some.is
      (subst (λ (l : List Issued). IfSome c.in_ok-found.field-0 (EndsAtFault r l)) c.deref.ensures.value c.in_ok-found.ensures.fault);
}
