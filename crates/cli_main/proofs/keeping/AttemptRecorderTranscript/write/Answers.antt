use Rattle.std.proofs.Common.{inl, inr, refl}
use Rattle.cli_main.proofs.LoadEnds.{right_blocks}
use Rattle.cli_main.proofs.Ledgers.{wrote_tried, wrote_tried_in_part, has_long}
use Rattle.cli_main.proofs.keeping.AttemptRecorderTranscript.write.Goals as goal

pub write_attempts-requires-clause-blocks : goal.write_attempts-requires-clause-blocks
write_attempts-requires-clause-blocks g c = right_blocks c.args.load.now.settings.now c.requires.fits

pub returns-in-Ok-true : goal.returns-in-Ok-true
returns-in-Ok-true g c =
    let l = c.args.load.now in
    let wrote = c.in-Ok-true.ensures.ok c.in-Ok-true.field-0-test in
    inl (
      refl,
      wrote_tried l.settings.now l.summary l.recorders.opening l.recorders.clients.items c.requires.fits
          c.requires.noted.calls _ _ c.requires.whole c.requires.noted.setup_attempts
          c.requires.noted.setup_aborts c.requires.noted.opening c.requires.noted.clients
          (rw (← c.as_slice-clients.ensures.value) wrote),
    )

pub returns-in-Ok-false : goal.returns-in-Ok-false
returns-in-Ok-false g c =
    let l = c.args.load.now in
    let unfit = c.in-Ok-false.ensures.unfit c.in-Ok-false.field-0-test in
    inr (
      c.end_long_attempt.ensures.status,
      inr (has_long l.settings.now l.summary l.recorders.opening
          l.recorders.clients.items c.requires.fits c.requires.noted.calls _
          (g.O.Write.contents c.write_attempts.new.output)
          _ unfit.1 (rw (← c.as_slice-clients.ensures.value) unfit.0) c.end_long_attempt.ensures.line),
    )

pub returns-in-Err : goal.returns-in-Err
returns-in-Err g c =
    let l = c.args.load.now in
    let written = wrote_tried_in_part l.settings.now l.summary l.recorders.opening l.recorders.clients.items
    c.requires.fits
    c.requires.noted.calls _ _ c.requires.whole c.requires.noted.setup_attempts
    c.requires.noted.setup_aborts c.requires.noted.opening c.requires.noted.clients
    (rw (← c.as_slice-clients.ensures.value) c.in-Err.ensures.err) in
    inr (
      c.end_by.ensures.status,
      inl (
        g.O.Write.contents c.write_attempts.new.output,
        written,
        (c.in-Err.fault, c.in-Err.ensures.fault, c.end_by.ensures.line),
      ),
    )
