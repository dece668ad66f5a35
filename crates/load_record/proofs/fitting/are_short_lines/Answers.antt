use Rattle.std.proofs.Common.{refl, sym}
use Rattle.load_record.proofs.ShortLines.{short_more, not_short, fit_more}
use Rattle.load_record.proofs.fitting.are_short_lines.Goals as goal

pub returns-then-not-is_short_line-clause-short : goal.returns-then-not-is_short_line-clause-short
returns-then-not-is_short_line-clause-short c =
    let is = c.if-not-is_short_line.ensures in
    sym (not_short c.args.words c.args.lines.now c.loop-line.line-index c.line-item.result c.loop-line-test.true
    c.line-item.is (sym is.short))

pub loop-line-preserved : goal.loop-line-preserved
loop-line-preserved c =
    let i = c.loop-line.line-index in
    let line = c.line-item.result in
    let is = c.if-not-is_short_line.ensures in
    record {
      short = short_more c.args.words c.args.lines.now i line c.loop-line-test.true c.line-item.is
          c.loop-line.invariant.short (sym is.short);
      fits = fit_more c.args.words c.args.lines.now i line c.loop-line-test.true c.line-item.is
          c.loop-line.invariant.fits (is.fits refl);
    }
