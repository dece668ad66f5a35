use Rattle.std.proofs.Common.{None, refl}
use Rattle.vac_manager.proofs.recorder.NoRecorderRecorder.keep.Goals as goal

-- src/keep.rt:45:5
pub returns-clause-kept : goal.returns-clause-kept
returns-clause-kept c = record {
  note = record {
    begin = 0;
    end = 0;
    task = c.args._task;
    reply = c.args.placed.reply;
    place = c.args.placed.place;
    attempt = None;
  };
  task = refl;
  reply = refl;
  place = refl;
  attempt = tt;
  kept = refl;
}
