use Rattle.std.proofs.Common.{◌≡◌, ◌<◌, length, get_or, arith}
use Rattle.judge_search.specs.Marks.{is_made}
use Rattle.judge_search.specs.Calls.{calls_of}
use Rattle.judge_search.proofs.Sorted.{length_calls}
use Rattle.judge_search.proofs.Soonest.{same_default}
use Rattle.judge_search.proofs.Points.{tells_all, tells_first}
use Rattle.judge_search.proofs.point.is_finished.Goals as goal

pub returns-then-first-lines : goal.returns-then-first-lines
returns-then-first-lines g c =
    let lines = c.args.lines.now in
    let e : c.first_left-first.result ≡ length lines = c.if-first-lines.true in
    let long = length_calls (g.M.Object.rules) lines in
    tells_all (g.M.Object.rules) (is_made c.args.low c.args.beyond.now) (calls_of lines)
    (λ p l. c.first_left-first.ensures.below p (omega arith))

pub returns : goal.returns
returns g c =
    let lines = c.args.lines.now in
    let first = c.first_left-first.result in
    let within : first < length lines = (let a = c.first_left-first.ensures.within in let b = c.if-first-lines.false in
    omega arith) in
    let line = get_or lines first c.index-lines-first.result in
    tells_first (g.M.Object.rules) (is_made c.args.low c.args.beyond.now) lines first line
    (record {
      sorted = c.requires;
      within = within;
      is = same_default lines first c.index-lines-first.result line within;
      below = c.first_left-first.ensures.below;
      left = c.first_left-first.ensures.left within;
    })
