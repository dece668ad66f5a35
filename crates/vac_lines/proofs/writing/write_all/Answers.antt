use Rattle.std.proofs.Common.{arith, take-add, length-drop}
use Rattle.std.proofs.KnownBytes.{Appends-kept, Appends-trans}
use Rattle.vac_lines.proofs.Extends.{taken_end}
use Rattle.vac_lines.proofs.writing.write_all.Goals as goal
use Rattle.vac_lines.proofs.writing.write_all.Goals.{in-Ok, in-Err+else-ne}

pub writes-preserved : goal.writes-preserved
writes-preserved g c =
    let inv = c.writes.invariant in
    let all = c.args.text.now in
    let sent = c.writes.sent in
    elim c.match-write.branch [
      | in-Ok w ↦
          let more = rw (taken_end all sent) at w.in-Ok.ensures.bytes in
          let bound = rw (taken_end all sent) at w.in-Ok.ensures.bound in
          rw (w.sent-is, take-add sent w.in-Ok.taken all) (
            omega (arith, inv.0, bound, length-drop sent all),
            Appends-trans _ _ _ _ _ inv.1 more,
          )
      | in-Err+else-ne w ↦ rw w.sent-is (inv.0, Appends-kept _ _ _ _ inv.1 w.in-Err.ensures.bytes)
    ]
