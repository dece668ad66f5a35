use Rattle.std.proofs.Common.{◌≡◌, ◌≤◌, ◌<◌, Some, None, sym, ◌∙◌, false, arith}
use Rattle.judge_object.specs.Order.{itself, breaks_client}
use Rattle.judge_object.proofs.Keeping.{ends_first, breaks_by, in_turn, too_late, in_time, misplaced_client}
use Rattle.judge_object.proofs.Keeping.{misplaced_time, well_placed}
use Rattle.judge_object.proofs.spans.Spans.find.Goals as goal
use Rattle.judge_object.proofs.spans.Spans.find.Goals.{in-Some+else-begin-last, in_default}

pub returns-then-span-begin : goal.returns-then-span-begin
returns-then-span-begin c = λ earlier f.
    let span = c.args.span.now in
    let less : span.end < span.begin = omega (arith, c.from-begin.ensures, c.if-span-begin.true) in
    misplaced_client span earlier (ends_first span earlier less)

pub returns-then-begin-last : goal.returns-then-begin-last
returns-then-begin-last c = λ earlier f.
    let span = c.args.span.now in
    let meets : span.begin < c.in-Some.last = omega (arith, c.from-begin.ensures, c.if-begin-last.true) in
    misplaced_client span earlier (breaks_by _ span earlier c.in-Some.last f (sym c.get.ensures ∙ c.in-Some.is) meets)

pub returns-then-span-from : goal.returns-then-span-from
returns-then-span-from c = λ earlier f.
    let span = c.args.span.now in
    let own : span.begin ≤ span.end = omega (arith, c.from-begin.ensures, c.if-span-begin.false) in
    let fits : breaks_client itself earlier span ≡ false =
    elim c.match-get.branch [
      | in-Some+else-begin-last w ↦
          let over : w.in-Some.last ≤ span.begin = omega (arith, c.from-begin.ensures, w.if-begin-last.false) in
          in_turn _ span earlier (Some w.in-Some.last) f (sym c.get.ensures ∙ w.in-Some.is) over own
      | in_default w ↦ in_turn _ span earlier None f (sym c.get.ensures ∙ w.in_default.is) tt own
    ] in
    let late : span.end < c.args.self.now.latest = omega (arith, c.from.ensures, c.if-span-from.true) in
    misplaced_time span earlier fits (too_late _ span earlier f late)

pub returns : goal.returns
returns c = λ earlier f.
    let span = c.args.span.now in
    let own : span.begin ≤ span.end = omega (arith, c.from-begin.ensures, c.if-span-begin.false) in
    let fits : breaks_client itself earlier span ≡ false =
    elim c.match-get.branch [
      | in-Some+else-begin-last w ↦
          let over : w.in-Some.last ≤ span.begin = omega (arith, c.from-begin.ensures, w.if-begin-last.false) in
          in_turn _ span earlier (Some w.in-Some.last) f (sym c.get.ensures ∙ w.in-Some.is) over own
      | in_default w ↦ in_turn _ span earlier None f (sym c.get.ensures ∙ w.in_default.is) tt own
    ] in
    let timely : c.args.self.now.latest ≤ span.end = omega (arith, c.from.ensures, c.if-span-from.false) in
    well_placed span earlier fits (in_time _ span earlier f timely)
