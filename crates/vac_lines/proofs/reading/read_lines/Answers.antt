use Rattle.std.proofs.Common.{◌≡◌, ◌<◌, ◌∙◌, length, arith, refl, length-take}
use Rattle.vac_lines.specs.declared.reading.TheConstants.{MOST_LINES}
use Rattle.vac_lines.proofs.LineCuts.{nothing_begun}
use Rattle.vac_lines.proofs.Telling.{heard_nothing, heard_kept, heard_on, heard_last, heard_end, heard_err}
use Rattle.vac_lines.proofs.Telling.{heard_failed, heard_bound, fed_more, fed_enough}
use Rattle.vac_lines.proofs.reading.read_lines.Goals as goal
use Rattle.vac_lines.proofs.reading.read_lines.Goals.{in-Ok+in_ok-feed-in-Ok+in_default, in-Err+else-ne}

pub reads-init : goal.reads-init
reads-init g c = record {
  longest = c.in_ok-lines.ensures.longest;
  progress = heard_nothing g.S.Sink.hears c.args.longest _ _ _ _ c.in_ok-lines.ensures.line;
  begun = nothing_begun c.args.longest _ c.in_ok-lines.ensures.line;
  room = omega (arith, c.requires.room);
  chunk = c.as_mut_slice-chunk.ensures.len ∙ c.in_ok-buffer.ensures.len;
}

pub reads-preserved : goal.reads-preserved
reads-preserved g c =
    let at = c.reads.invariant in
    let chunk : length c.read.new.buf ≡ 65536 = omega (arith, at.chunk) in
    elim c.match-read.branch [
      | in-Ok+in_ok-feed-in-Ok+in_default w ↦
          let next = w.in_ok-feed-in-Ok.ensures in
          let fed = fed_more g.S.Sink.hears c.args.longest _ _ _ _ _ _ _ _ _ at.longest w.in_default.is next.fed in
          rw (w.sink-is, w.output-is, w.lines-is) (record {
            longest = next.longest ∙ at.longest;
            progress = heard_on g.S.Sink.hears c.args.longest _ _ _ _ _ _ _ _ _ _ _ _ at.progress
                w.in-Ok.ensures.bytes.0 fed;
            begun = fed.begun;
            room = omega (arith, at.room, next.room, chunk, length-take w.in-Ok.count c.read.new.buf);
            chunk = chunk;
          })
      | in-Err+else-ne w ↦
          rw (w.sink-is, w.output-is, w.lines-is) (record {
            longest = at.longest;
            progress = heard_kept g.S.Sink.hears c.args.longest _ _ _ _ _ _ _ _ at.progress w.in-Err.ensures.bytes;
            begun = at.begun;
            room = omega (arith, at.room);
            chunk = chunk;
          })
    ]

pub finish-requires-clause-begun : goal.finish-requires-clause-begun
finish-requires-clause-begun g c = rw c.reads.invariant.longest c.reads.invariant.begun

pub finish-requires-clause-room : goal.finish-requires-clause-room
finish-requires-clause-room g c =
    let most : MOST_LINES ≡ 281474976776193 = refl in
    omega (arith, most, c.reads.invariant.room, c.reads-test.true)

pub returns-in-Ok-eq0 : goal.returns-in-Ok-eq0
returns-in-Ok-eq0 g c =
    let at = c.reads.invariant in
    let zero : c.in-Ok-eq0.field-0 ≡ 0 = c.in-Ok-eq0.field-0-test in
    let got = rw zero at c.in-Ok-eq0.ensures.bytes in
    let room : 0 < length c.read.new.buf = omega (arith, at.chunk) in
    heard_end g.S.Sink.hears c.args.longest c.finish.result _ _ _ _ _ _ _ _ _ _ at.progress got.0 (got.1 refl room)
    (rw at.longest at c.finish.ensures)

pub returns-in_err-feed-in-Ok : goal.returns-in_err-feed-in-Ok
returns-in_err-feed-in-Ok g c =
    let at = c.reads.invariant in
    heard_err g.S.Sink.hears c.args.longest c.from_residual-in_err-feed-in-Ok.result c.in_err-feed-in-Ok.field-0.0 _ _
    _ _ _ _ c.from_residual-in_err-feed-in-Ok.ensures.1
    (heard_last g.S.Sink.hears c.args.longest _ _ _ _ _ _ _ _ _ _ _ _ at.progress c.in-Ok.ensures.bytes.0
    (rw at.longest at c.in_err-feed-in-Ok.ensures.fed))

pub returns-in-Stop : goal.returns-in-Stop
returns-in-Stop g c =
    let at = c.reads.invariant in
    heard_last g.S.Sink.hears c.args.longest _ _ _ _ _ _ _ _ _ _ _ _ at.progress c.in-Ok.ensures.bytes.0
    (fed_enough g.S.Sink.hears c.args.longest _ _ _ _ _ _ _ _ _ at.longest c.in-Stop.is c.in_ok-feed-in-Ok.ensures.fed)

pub returns-then-ne : goal.returns-then-ne
returns-then-ne g c =
    heard_failed g.S.Sink.hears c.args.longest _ _ _ _ _ _ _
    (heard_kept g.S.Sink.hears c.args.longest _ _ _ _ _ _ _ _ c.reads.invariant.progress c.in-Err.ensures.bytes)

pub returns : goal.returns
returns g c = heard_bound g.S.Sink.hears c.args.longest _ _ _ _ _ _ _ c.reads.invariant.progress
