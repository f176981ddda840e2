use Rattle.command_line.proofs.check.write_checked.Goals as goal

pub returns-in_ok-write_channels-in-Ok : goal.returns-in_ok-write_channels-in-Ok
returns-in_ok-write_channels-in-Ok g c = λ follows.
    let told = c.in_ok-write_channels-in-Ok.ensures follows in (
      told.0,
      record {
        status = c.in-Ok.ensures.status follows;
        some = λ off none. let is = c.in-Ok.is in let empty = c.in-Ok.ensures.some none off in cc;
        channels = told.1;
      },
      told.2,
    )
