use Rattle.std.proofs.Common.{◌≡◌, ◌<◌, [], length, sym, ap, ◌∙◌, subst, arith}
use Rattle.std.proofs.lemmas.List.Edits.{length-remove}
use Rattle.judge_opacity.specs.declared.logged.Logged.{Logged}
use Rattle.judge_opacity.specs.Parts.{AllAmong}
use Rattle.judge_opacity.specs.Placing.{Completes}
use Rattle.judge_opacity.specs.Logs.{AreAmong, MayComeNext, attempts_in}
use Rattle.judge_opacity.proofs.Searching.{same_follows, among_removed, next_placed}
use Rattle.judge_opacity.proofs.placing.place_next.Goals as goal

pub take_at-requires-clause-place : goal.take_at-requires-clause-place
take_at-requires-clause-place c =
    subst (λ t. c.in-Some.place < length t) c.as_slice.ensures.value (rw c.in-Some.is at c.in_ok-place.ensures.within)

pub returns-in_ok-take_at-in-Some-clause-among : goal.returns-in_ok-take_at-in-Some-clause-among
returns-in_ok-take_at-in-Some-clause-among c = λ e.
    let left = c.args.left.now.items in
    let words = length c.args.judge.now.memory.words.items in
    let within : c.in-Some.place < length left =
    subst (λ t. c.in-Some.place < length t) c.as_slice.ensures.value (rw c.in-Some.is at c.in_ok-place.ensures.within)
    in
    subst (λ n. AreAmong n c.take_at.new.left.items)
    (sym (c.in_ok-take_at-in-Some.ensures.size ∙ ap length c.in_ok-place.ensures.same.words))
    (subst (AreAmong words) (sym c.in_ok-take_at-in-Some.ensures.left)
    (among_removed (λ (logged : Logged). AllAmong words logged.accesses.items) left c.in-Some.place within
    c.requires.among))

pub returns-in_ok-take_at-in-Some-clause-less : goal.returns-in_ok-take_at-in-Some-clause-less
returns-in_ok-take_at-in-Some-clause-less c = λ e.
    let left = c.args.left.now.items in
    let within : c.in-Some.place < length left =
    subst (λ t. c.in-Some.place < length t) c.as_slice.ensures.value (rw c.in-Some.is at c.in_ok-place.ensures.within)
    in
    let short = ap length c.in_ok-take_at-in-Some.ensures.left in
    omega (arith, short, length-remove left c.in-Some.place within)

pub returns-in_ok-take_at-in-Some-clause-next : goal.returns-in_ok-take_at-in-Some-clause-next
returns-in_ok-take_at-in-Some-clause-next c = λ words earlier f.
    let left = c.args.left.now.items in
    let place = c.in-Some.place in
    let may : MayComeNext earlier left place =
    subst (λ t. MayComeNext earlier t place) c.as_slice.ensures.value
    (rw c.in-Some.is at (c.in_ok-place.ensures.found words earlier f)) in
    let now = same_follows words c.args.judge.now c.find_next.new.judge earlier c.in_ok-place.ensures.same f in
    next_placed words c.take_at.new.judge earlier left c.take_at.new.left.items place may
    c.in_ok-take_at-in-Some.ensures.left
    (λ d. c.in_ok-take_at-in-Some.ensures.taken words earlier d now (may.fits d))

pub returns-in-None-clause-next : goal.returns-in-None-clause-next
returns-in-None-clause-next c = λ words earlier f.
    subst (λ t. Completes earlier (attempts_in t) → attempts_in t ≡ []) c.as_slice.ensures.value
    (rw c.in-None.is at (c.in_ok-place.ensures.found words earlier f))
