use Rattle.std.proofs.Common.{rules, ◌≡◌, ◌∙◌, ◌+◌, refl, sym, subst, Some, None, slice_get}
use Rattle.load_record.specs.Rests.{IsBest}
use Rattle.load_record.proofs.Best.{none_first, some_first, best_kept, best_changed, best_first, best_skipped}
use Rattle.load_record.proofs.merging.better.Goals as goal
use Rattle.load_record.proofs.merging.better.Goals.{in_default-best-via-in-Some-best+else-not-precedes}
use Rattle.load_record.proofs.merging.better.Goals.{in_default-best-via-in_default-best}

pub returns-in_default : goal.returns-in_default
returns-in_default c = λ lists at i.
    let none : slice_get c.args.rest.notes.now 0 ≡ None = search rules in
    best_skipped lists c.args.place c.args.rest.client c.args.rest.notes.now at
    (none_first c.args.rest.notes.now none) c.args.best i

pub returns-in-Some-best : goal.returns-in-Some-best
returns-in-Some-best c = λ lists at i.
    let some : slice_get c.args.rest.notes.now 0 ≡ Some c.in-Some.note.now = search rules in
    let first = some_first c.args.rest.notes.now c.in-Some.note.now some in
    subst (IsBest lists (c.args.place + 1)) (sym c.in-Some-best.is)
    (best_kept lists c.args.place c.args.rest.client c.args.rest.notes.now at c.in-Some.note.now first.0 first.1
    (c.in-Some-best.field-0-0, c.in-Some-best.least) (sym c.precedes.ensures ∙ c.if-not-precedes.true)
    (subst (IsBest lists c.args.place) c.in-Some-best.is i))

pub returns-in_default-best : goal.returns-in_default-best
returns-in_default-best c = λ lists at i.
    let some : slice_get c.args.rest.notes.now 0 ≡ Some c.in-Some.note.now = search rules in
    let first = some_first c.args.rest.notes.now c.in-Some.note.now some in
    elim c.in_default-best.branch [
      | in_default-best-via-in-Some-best+else-not-precedes w ↦
          best_changed lists c.args.place c.args.rest.client c.args.rest.notes.now at c.in-Some.note.now first.0 first.1
          (w.in-Some-best.field-0-0, w.in-Some-best.least) c.in-Some.note refl
          (sym w.precedes.ensures ∙ w.if-not-precedes.false) (subst (IsBest lists c.args.place) w.in-Some-best.is i)
      | in_default-best-via-in_default-best w ↦
          let none : c.args.best ≡ None = w.in_default-best.is in
          best_first lists c.args.place c.args.rest.client c.args.rest.notes.now at c.in-Some.note.now first.0 first.1
          c.in-Some.note refl (subst (IsBest lists c.args.place) none i)
    ]
