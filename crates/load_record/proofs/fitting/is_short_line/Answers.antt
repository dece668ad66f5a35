use Rattle.load_record.specs.Lines.{line_entry}
use Rattle.load_record.proofs.ShortLines.{short_fits}
use Rattle.load_record.proofs.fitting.is_short_line.Goals as goal

pub returns-then-accesses-le-FITTING_ACCESSES-clause-fits :
    goal.returns-then-accesses-le-FITTING_ACCESSES-clause-fits
returns-then-accesses-le-FITTING_ACCESSES-clause-fits c = λ e.
    let numbers = c.numbers_of.ensures in
    let same = c.as_slice-accesses.ensures.value in
    short_fits c.args.words (line_entry c.args.line) c.requires.few numbers.client numbers.begin numbers.end
    (rw same at c.if-accesses-le-FITTING_ACCESSES.true) (rw same at c.have_words.ensures.fits e)
