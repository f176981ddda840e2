use Rattle.module_saves.proofs.Common.{refl}
use Rattle.module_saves.proofs.saves.Saves.begin.Goals as goal

pub returns : goal.returns
returns c =
    let e = c.begin-run.ensures in
    record {
      run = c.begin-run.result;
      begun = record { slot = e.slot; generation = e.generation; count_is = e.count; arm = e.armed; shut = e.closed; lines_are = e.lines; next = e.next; untried = e.untried; unfailed = e.unfailed; saving = e.begun };
      runs = refl;
      newest = refl;
      closed = refl;
      unsettled = refl;
    }
