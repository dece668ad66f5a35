use Rattle.std.proofs.Common.{◌∙◌, sym, subst, arith, length-append, ap, length}
use Rattle.vac_lines.specs.Feeding.{HasBegun}
use Rattle.vac_lines.proofs.LineCuts.{has_begun, nothing_begun}
use Rattle.vac_lines.proofs.Telling.{fed_line, fed_last, fed_rest, fed_paused, fed_err}
use Rattle.vac_lines.proofs.lines.Lines.feed.Goals as goal

pub returns-in_err-end_line-clause-fed : goal.returns-in_err-end_line-clause-fed
returns-in_err-end_line-clause-fed g c =
    let at = c.loop-line in
    let told = rw at.invariant.longest at c.in_err-end_line.ensures.heard in
    let all = rw at.invariant.longest at at.invariant.all in
    fed_err g.S.Sink.hears c.args.self.now.longest c.from_residual.result c.in_err-end_line.field-0.0 _ _ _ _ _ _ _
    c.from_residual.ensures.1
    (fed_last g.S.Sink.hears c.args.self.now.longest _ at.self.line.items _ at.rest.now c.in-Some.line.now
    c.in-Some.behind.now _ _ _ _ _ _ _ all at.invariant.begun.0
    c.in-Some.ensures.0 c.in-Some.ensures.1 told)

pub returns-in-Stop-clause-fed : goal.returns-in-Stop-clause-fed
returns-in-Stop-clause-fed g c =
    let at = c.loop-line in
    let told = rw (at.invariant.longest, c.in-Stop.is) at c.in_ok-end_line.ensures.heard in
    let all = rw at.invariant.longest at at.invariant.all in
    fed_last g.S.Sink.hears c.args.self.now.longest _ at.self.line.items _ at.rest.now c.in-Some.line.now
    c.in-Some.behind.now _ _ _ _ _ _ _ all at.invariant.begun.0
    c.in-Some.ensures.0 c.in-Some.ensures.1 told

pub loop-line-preserved : goal.loop-line-preserved
loop-line-preserved g c =
    let at = c.loop-line in
    let next = c.in_ok-end_line.ensures in
    let told = rw c.in_default-2.is at next.heard in
    record {
      longest = next.longest ∙ at.invariant.longest;
      begun = nothing_begun c.end_line.new.self.longest c.end_line.new.self.line.items next.line;
      all = rw next.longest (fed_line g.S.Sink.hears at.self.longest _ at.self.line.items _ at.rest.now
          c.in-Some.line.now c.in-Some.behind.now _ _ _ _ _ _ _ at.invariant.all at.invariant.begun.0
          c.in-Some.ensures.0 c.in-Some.ensures.1 told next.line);
      room = omega (
        arith,
        at.invariant.room,
        next.room,
        ap length c.in-Some.ensures.1,
        length-append
            c.in-Some.line.now,
      );
    }

pub returns-clause-fed : goal.returns-clause-fed
returns-clause-fed g c =
    let at = c.loop-line in
    let longest = c.args.self.now.longest in
    let all = rw at.invariant.longest at at.invariant.all in
    let line = rw at.invariant.longest at c.keep.ensures.line in
    let begun = subst (HasBegun longest) (sym line)
    (has_begun longest at.self.line.items at.rest.now at.invariant.begun.0 c.in_default.ensures) in
    fed_paused g.S.Sink.hears longest _ c.keep.new.self.line.items _ c.pause.result _ _ _ _ _ _
    (fed_rest g.S.Sink.hears longest _ at.self.line.items _ at.rest.now c.keep.new.self.line.items _ _ _ _ all
    at.invariant.begun.0 c.in_default.ensures line) begun c.pause.ensures.heard
