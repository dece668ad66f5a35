use Rattle.std.proofs.Common.{◌≡◌, ◌<◌, ℕ, Bool, true, false, ◌++◌, ◌∷◌, [], List, take, get_or, refl, sym, subst}
use Rattle.std.proofs.Common.{arith}
use Rattle.std.specs.Prelude.{IfSome}
use Rattle.std.proofs.lemmas.List.{take_more, take_all}
use Rattle.judge_search.specs.Configurations.{answered}
use Rattle.judge_search.specs.Marks.{is_made}
use Rattle.judge_search.specs.Point.{made_of}
use Rattle.judge_search.specs.Calls.{calls_of, rest_of}
use Rattle.judge_search.specs.Views.{TellsLeft}
use Rattle.judge_search.specs.Checking.{HavePlaces}
use Rattle.judge_search.proofs.Checks.{placed_none, placed_all}
use Rattle.judge_search.proofs.Exact.{split_at, goes_on, none_left}
use Rattle.judge_search.proofs.Sorted.{length_calls}
use Rattle.judge_search.proofs.order.is_linearization.Goals as goal

pub places-init : goal.places-init
places-init g c =
    placed_none (g.M.Object.rules) c.args.machine c.args.calls.now.lines.items c.new-point.result
    c.new-point.ensures.low c.new-point.ensures.beyond c.new-point.ensures.machine

pub places-preserved : goal.places-preserved
places-preserved g c =
    let rules = g.M.Object.rules in
    let calls = calls_of c.args.calls.now.lines.items in
    let i = c.places.number in
    let places = c.args.places.now in
    let place = get_or places i 0 in
    let led = subst (λ found. IfSome found (λ next. (s : _) (before : List ℕ) →
    HavePlaces rules s calls before c.places.point → HavePlaces rules s calls (before ++ place ∷ []) next)) c.in-Some.is
    c.in_ok-next.ensures.led in
    subst (λ ps. HavePlaces rules c.args.machine calls ps c.in-Some.next)
    (sym (take_more places i 0 c.places-test.true))
    (led c.args.machine (take i places) c.places.invariant)

false_true : false ≡ true → ⊥
false_true e = cc

pub returns-in-None : goal.returns-in-None
returns-in-None g c = (
  λ e. absurd (false_true e),
  λ is.
      let rules = g.M.Object.rules in
      let lines = c.args.calls.now.lines.items in
      let calls = calls_of lines in
      let i = c.places.number in
      let places = c.args.places.now in
      let place = get_or places i 0 in
      let parts = split_at places i 0 c.places-test.true in
      let on = goes_on rules c.args.machine calls places (take i places) place parts.0 c.places.point c.requires.whole
      is
      parts.1 c.places.invariant in
      let long = length_calls rules lines in
      absurd (c.in_ok-next.ensures.refused c.in-None.is (let l = on.within in omega arith) on.can on.fit),
)

pub returns : goal.returns
returns g c =
    let rules = g.M.Object.rules in
    let lines = c.args.calls.now.lines.items in
    let places = c.args.places.now in
    let point = c.places.point in
    let placed = subst (λ ps. HavePlaces rules c.args.machine (calls_of lines) ps point)
    (take_all c.places.number places c.places-test.false) c.places.invariant in
    let told = subst (λ ls. TellsLeft (answered (rest_of (made_of point) 0 (calls_of ls))) c.is_finished.result)
    c.as_slice-lines.ensures
    (subst (λ b. TellsLeft (answered (rest_of (is_made point.low b) 0 (calls_of c.as_slice-lines.result.now)))
    c.is_finished.result) c.as_slice.ensures.value c.is_finished.ensures) in (
      λ done.
          let none = (subst (TellsLeft (answered (rest_of (made_of point) 0 (calls_of lines)))) done told).0 refl in
          record {
            is = placed_all rules c.args.machine lines places point c.requires.whole placed none;
            turns = placed.turns;
          },
      λ is.
          finished (answered (rest_of (made_of point) 0 (calls_of lines))) c.is_finished.result told
          (none_left rules c.args.machine (calls_of lines) places point c.requires.whole is placed),
    )
  where
    finished : (left : ℕ) (b : Bool) → TellsLeft left b → left ≡ 0 → b ≡ true
    finished left true h e = refl
    finished left false h e = absurd (let some : 0 < left = h.1 refl in omega arith)
