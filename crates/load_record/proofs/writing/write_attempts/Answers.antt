use Rattle.std.proofs.Common.{ℕ, List, [], Option, Some, None, map, refl, sym, inl, append-nil}
use Rattle.load_record.specs.Lines.{line_entry}
use Rattle.load_record.specs.Laying.{Lays}
use Rattle.load_record.specs.Pages.{pages_of}
use Rattle.load_record.specs.Text.{AreAttempts}
use Rattle.vac_lines.specs.Writing.{AppendsPrefix}
use Rattle.vac_lines.proofs.Extends.{on_err}
use Rattle.load_record.proofs.AttemptTexts.{wrote_all}
use Rattle.load_record.proofs.writing.write_attempts.Goals as goal

pub returns-clause-ok : goal.returns-clause-ok
returns-clause-ok g c = λ e.
    let pages = pages_of c.args.opening.now c.args.clients.now in
    let lines = c.as_slice-all.result.now in
    let lays : Lays c.args.blocks c.as_slice.result.now = rw c.as_slice.ensures.value c.in_ok-laid.ensures in
    let are : AreAttempts c.args.blocks pages (map line_entry lines) =
    rw c.as_slice-all.ensures.value (c.in_ok-lines.ensures c.args.blocks lays) in
    wrote_all c.args.blocks pages lines are (c.if-not-are_short_lines.ensures.fits refl) _ _
    c.in_ok-send_text.ensures.ok

-- nothing was written
nothing : (held : Option (List ℕ)) → AppendsPrefix held held []
nothing None = (0, tt)
nothing (Some xs) = (0, sym (append-nil xs))

pub returns-in_err-lines-clause-err : goal.returns-in_err-lines-clause-err
returns-in_err-lines-clause-err g c =
    on_err c.from_residual-in_err-lines.result (inl (nothing (g.O.Write.contents c.args.output.now)))

pub returns-then-not-are_short_lines-clause-unfit : goal.returns-then-not-are_short_lines-clause-unfit
returns-then-not-are_short_lines-clause-unfit g c = λ e.
    let pages = pages_of c.args.opening.now c.args.clients.now in
    let lines = c.as_slice-all.result.now in
    let lays : Lays c.args.blocks c.as_slice.result.now = rw c.as_slice.ensures.value c.in_ok-laid.ensures in
    let are : AreAttempts c.args.blocks pages (map line_entry lines) =
    rw c.as_slice-all.ensures.value (c.in_ok-lines.ensures c.args.blocks lays) in (
      record {
        all = map line_entry lines;
        attempts = are;
        long = sym c.if-not-are_short_lines.ensures.short;
      },
      refl,
    )
