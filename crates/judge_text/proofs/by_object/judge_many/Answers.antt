use Rattle.std.proofs.Common.{sym, subst}
use Rattle.judge_object.specs.Orders.{IsLinearizable}
use Rattle.judge_search.specs.Calls.{calls_of}
use Rattle.judge_text.specs.Classing.{object_of, for_object}
use Rattle.judge_text.specs.Turns.{AreTurns}
use Rattle.judge_text.specs.ByObject.{JudgesParts}
use Rattle.judge_text.proofs.OfOne.{parts}
use Rattle.judge_text.proofs.ByNames.{part_lines}
use Rattle.judge_text.specs.Runs.{AreOfOne}
use Rattle.judge_text.specs.Starts.{start_of}
use Rattle.judge_text.proofs.One.{one_alone}
use Rattle.judge_text.proofs.Whole.{whole}
use Rattle.judge_text.proofs.by_object.judge_many.Goals as goal

pub returns-then-is_strict : goal.returns-then-is_strict
returns-then-is_strict g c =
    let rules = g.M.Object.rules in
    let name = (for_object (object_of c.args.names.now) (g.M.Named.name)) in
    let lines = c.args.lines.items in
    let turns = subst (AreTurns (calls_of lines)) c.in-Held.is
    (subst (λ ls. AreTurns (calls_of ls) c.in_ok-place.field-0)
    c.as_slice.ensures.value c.in_ok-place.ensures) in (
      turns.0,
      whole rules name (start_of c.args.starts.now) (calls_of lines) turns.0 (turns.1 c.if-is_strict.true)
          (subst (JudgesParts rules name (start_of c.args.starts.now) c.args.steps lines) c.in-Linearizable.is
          c.in_ok-judge_parts.ensures),
    )

pub returns-then-is_one : goal.returns-then-is_one
returns-then-is_one g c =
    let rules = g.M.Object.rules in
    let name = (for_object (object_of c.args.names.now) (g.M.Named.name)) in
    let lines = c.args.lines.items in
    let turns = subst (AreTurns (calls_of lines)) c.in-Held.is
    (subst (λ ls. AreTurns (calls_of ls) c.in_ok-place.field-0)
    c.as_slice.ensures.value c.in_ok-place.ensures) in (
      turns.0,
      one_alone rules name (start_of c.args.starts.now) lines
          (subst (AreOfOne name) c.as_slice-2.ensures.value (c.is_of_one-is_one.ensures.one c.if-is_one.true))
          (subst (JudgesParts rules name (start_of c.args.starts.now) c.args.steps lines) c.in-Linearizable.is
          c.in_ok-judge_parts.ensures),
    )

pub returns-else-is_one : goal.returns-else-is_one
returns-else-is_one g c =
    let rules = g.M.Object.rules in
    let name = (for_object (object_of c.args.names.now) (g.M.Named.name)) in
    let lines = c.args.lines.items in
    let turns = subst (AreTurns (calls_of lines)) c.in-Held.is
    (subst (λ ls. AreTurns (calls_of ls) c.in_ok-place.field-0)
    c.as_slice.ensures.value c.in_ok-place.ensures) in (
      turns.0,
      record {
        parts = subst (JudgesParts rules name (start_of c.args.starts.now) c.args.steps lines) c.in-Linearizable.is
            c.in_ok-judge_parts.ensures;
        touches = turns.2 c.if-is_strict.false;
        several = λ one. c.is_of_one-is_one.ensures.many c.if-is_one.false
            (subst (AreOfOne name) (sym c.as_slice-2.ensures.value) one);
      },
    )

pub returns-in-NotLinearizable : goal.returns-in-NotLinearizable
returns-in-NotLinearizable g c =
    let rules = g.M.Object.rules in
    let name = (for_object (object_of c.args.names.now) (g.M.Named.name)) in
    let lines = c.args.lines.items in
    let turns = subst (AreTurns (calls_of lines)) c.in-Held.is
    (subst (λ ls. AreTurns (calls_of ls) c.in_ok-place.field-0)
    c.as_slice.ensures.value c.in_ok-place.ensures) in
    let bad = subst (JudgesParts rules name (start_of c.args.starts.now) c.args.steps lines) c.in-NotLinearizable.is
    c.in_ok-judge_parts.ensures in (
      turns.0,
      bad,
      λ good. bad.is.none (subst (IsLinearizable rules (start_of c.args.starts.now bad.for))
          (part_lines name bad.for lines)
          (parts rules name (start_of c.args.starts.now) (calls_of lines) good bad.for)),
    )

pub returns-in-Unknown : goal.returns-in-Unknown
returns-in-Unknown g c =
    let rules = g.M.Object.rules in
    let name = (for_object (object_of c.args.names.now) (g.M.Named.name)) in
    let lines = c.args.lines.items in
    let turns = subst (AreTurns (calls_of lines)) c.in-Held.is
    (subst (λ ls. AreTurns (calls_of ls) c.in_ok-place.field-0)
    c.as_slice.ensures.value c.in_ok-place.ensures) in (
      turns.0,
      subst (JudgesParts rules name (start_of c.args.starts.now) c.args.steps lines) c.in-Unknown.is
          c.in_ok-judge_parts.ensures,
    )

pub returns-in-Broken : goal.returns-in-Broken
returns-in-Broken g c =
    let lines = c.args.lines.items in
    subst (AreTurns (calls_of lines)) c.in-Broken.is (subst (λ ls. AreTurns (calls_of ls) c.in_ok-place.field-0)
    c.as_slice.ensures.value c.in_ok-place.ensures)
