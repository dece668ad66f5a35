use Rattle.std.proofs.Common.{ap, ◌∙◌, subst}
use Rattle.judge_text.specs.Classing.{object_of, for_object}
use Rattle.judge_text.specs.ByObject.{JudgesRun, SearchesRun}
use Rattle.judge_text.specs.Starts.{start_of}
use Rattle.judge_text.proofs.ByNames.{is_taken, judged_none, run_whole, judged_more, judged_bad, judged_open}
use Rattle.judge_text.proofs.ByNames.{spent_none, spent_more}
use Rattle.judge_text.proofs.parts.judge_parts.Goals as goal

pub runs-init : goal.runs-init
runs-init g c =
    let s = start_of c.args.starts.now in (
      judged_none (g.M.Object.rules) (for_object (object_of c.args.names.now) (g.M.Named.name)) s
          c.args.lines.items c.in_ok-left.left c.in_ok-left.ensures,
      spent_none (g.M.Object.rules) (for_object (object_of c.args.names.now) (g.M.Named.name)) s c.args.steps
          c.args.lines.items c.in_ok-left.left,
    )

pub judge_run-requires : goal.judge_run-requires
judge_run-requires g c =
    let taken = is_taken c.runs.left c.pop_first.new.self c.in-Some.name c.in-Some.run' c.in-Some.ensures.value
    c.in-Some.ensures.least c.in-Some.ensures.updates in
    record {
      whole = run_whole (g.M.Object.rules) (for_object (object_of c.args.names.now) (g.M.Named.name)) (start_of
          c.args.starts.now) c.args.lines.items c.runs.left c.pop_first.new.self c.in-Some.name.items c.in-Some.run'
          c.requires.whole taken c.runs.invariant.0;
    }

pub runs-preserved : goal.runs-preserved
runs-preserved g c =
    let s = start_of c.args.starts.now in
    let for = c.in-Some.name.items in
    let run = c.in-Some.run' in
    let taken = is_taken c.runs.left c.pop_first.new.self c.in-Some.name run c.in-Some.ensures.value
    c.in-Some.ensures.least c.in-Some.ensures.updates in
    let searched = subst (λ m. SearchesRun (g.M.Object.rules) m c.runs.rest run.items c.in_ok-judged.field-0)
    (c.in_ok-machine.ensures ∙ ap s c.as_slice.ensures.value) c.in_ok-judged.ensures in (
      judged_more (g.M.Object.rules) (for_object (object_of c.args.names.now) (g.M.Named.name)) s c.args.lines.items
          c.runs.left c.pop_first.new.self for run taken c.runs.invariant.0
          (subst (JudgesRun (g.M.Object.rules) (s for) c.runs.rest run.items) c.in-Linearizable.is searched.judges),
      spent_more (g.M.Object.rules) (for_object (object_of c.args.names.now) (g.M.Named.name)) s c.args.steps
          c.args.lines.items c.runs.left c.pop_first.new.self for run c.runs.rest c.in_ok-judged.field-0.steps taken
          c.runs.invariant.0 c.runs.invariant.1 searched.within searched.run,
    )

pub returns-in-NotLinearizable : goal.returns-in-NotLinearizable
returns-in-NotLinearizable g c =
    let s = start_of c.args.starts.now in
    let for = c.in-Some.name.items in
    let run = c.in-Some.run' in
    let taken = is_taken c.runs.left c.pop_first.new.self c.in-Some.name run c.in-Some.ensures.value
    c.in-Some.ensures.least c.in-Some.ensures.updates in
    let searched = subst (λ m. SearchesRun (g.M.Object.rules) m c.runs.rest run.items c.in_ok-judged.field-0)
    (c.in_ok-machine.ensures ∙ ap s c.as_slice.ensures.value) c.in_ok-judged.ensures in
    judged_bad (g.M.Object.rules) (for_object (object_of c.args.names.now) (g.M.Named.name)) s c.args.lines.items
    c.runs.left c.pop_first.new.self for run c.in-NotLinearizable.blocked taken c.runs.invariant.0
    (subst (JudgesRun (g.M.Object.rules) (s for) c.runs.rest run.items) c.in-NotLinearizable.is searched.judges)

pub returns-in-Unknown : goal.returns-in-Unknown
returns-in-Unknown g c =
    let s = start_of c.args.starts.now in
    let for = c.in-Some.name.items in
    let run = c.in-Some.run' in
    let taken = is_taken c.runs.left c.pop_first.new.self c.in-Some.name run c.in-Some.ensures.value
    c.in-Some.ensures.least c.in-Some.ensures.updates in
    let searched = subst (λ m. SearchesRun (g.M.Object.rules) m c.runs.rest run.items c.in_ok-judged.field-0)
    (c.in_ok-machine.ensures ∙ ap s c.as_slice.ensures.value) c.in_ok-judged.ensures in
    judged_open (g.M.Object.rules) (for_object (object_of c.args.names.now) (g.M.Named.name)) s c.args.steps
    c.args.lines.items c.runs.left c.pop_first.new.self for run c.runs.rest c.in-Unknown.undecided taken
    c.runs.invariant.0 c.runs.invariant.1
    (subst (JudgesRun (g.M.Object.rules) (s for) c.runs.rest run.items) c.in-Unknown.is searched.judges)
