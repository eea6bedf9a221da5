use Rattle.std.proofs.Common.{Err}
use Rattle.cm_tool.proofs.running.run.Goals as goal

pub returns-in-Err : goal.returns-in-Err
returns-in-Err g c =
    let done = c.in-Err.ensures in (
      done.0,
      done.1,
      Err c.in-Err.fault,
      record {
        does = done.2;
        told = c.tell_fault.ensures.status;
        reports = c.tell_fault.ensures.line;
      },
    )
