use Rattle.std.proofs.Common.{rules, ◌≡◌, true, vec_len}
use Rattle.load_tasks.specs.Setting.{is_settings}
use Rattle.load_run.specs.declared.load.LoadFault.TheVariants as load
use Rattle.load_run.specs.declared.summary.LoadSummary.{LoadSummary}
use Rattle.cli_main.specs.Load.{WroteLoad, WroteLoadInPart}
use Rattle.cli_main.proofs.LoadEnds.{ended_for_memory, ended_kept, ended_by_fault, written_lines, reports_nothing}
use Rattle.cli_main.proofs.Ledgers.{not_refused}
use Rattle.cli_main.proofs.load.LoadRequest.report.Goals as goal

pub returns-in_default : goal.returns-in_default
returns-in_default g c =
    let e = c.end_load_by.ensures in
    let told = g.E.Write.contents c.args.errors.now in
    ended_for_memory WroteLoad WroteLoadInPart c.args.self.now.how c.args.self.now.settings.now (search rules) _
    (g.W.Write.contents c.args.output.now) (g.W.Write.contents c.end_load_by.new.output) told told
    e.low e.high e.refused e.line (reports_nothing c.args.self.now.how.progress c.args.self.now.settings.now told)

pub returns-in-Ok-run_with_progress : goal.returns-in-Ok-run_with_progress
returns-in-Ok-run_with_progress g c =
    let e = c.write_load.ensures in
    let how = c.args.self.now.how in
    let s = c.args.self.now.settings.now in
    let held = g.W.Write.contents c.args.output.now in
    let holds = g.W.Write.contents c.write_load.new.output in
    let kept = c.in-Ok-run_with_progress.ensures.kept in
    let summary : LoadSummary = record {
      nanos = c.nanos-nanos.result;
      report = c.in-Ok-run_with_progress.report;
      statistics = c.in-Ok-run_with_progress.statistics;
    } in
    ended_kept WroteLoad WroteLoadInPart how s (search rules) summary c.write_load.result held holds
    (g.E.Write.contents c.args.errors.now) (g.E.Write.contents c.tell_summary.new.errors) kept.statistics (
      g.E.Write.contents c.run_with_progress.new.errors,
      c.in-Ok-run_with_progress.ensures.progress,
      c.tell_summary.ensures,
    )
    (written_lines s summary c.write_load.result held holds kept.kept.loaded e.status e.done e.stopped)

pub returns : goal.returns
returns g c =
    let s = c.args.self.now.settings.now in
    let e = c.end_load_by-in-Err.ensures in
    let fits : is_settings s ≡ true = search rules in
    let is_not : c.in-Err.fault ≡ load.Arguments → ⊥ = not_refused s
    (vec_len c.in-Ok.recorders.clients) c.in-Err.fault fits c.in-Ok.ensures c.in-Err.ensures.kept.arguments in
    ended_by_fault WroteLoad WroteLoadInPart c.args.self.now.how s fits c.in-Err.fault c.end_load_by-in-Err.result
    (g.W.Write.contents c.args.output.now) (g.W.Write.contents c.end_load_by-in-Err.new.output)
    (g.E.Write.contents c.args.errors.now) (g.E.Write.contents c.run_with_progress.new.errors) is_not
    c.in-Err.ensures.kept.refused e.low e.high e.refused e.line c.in-Err.ensures.progress
