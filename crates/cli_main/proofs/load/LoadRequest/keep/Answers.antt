use Rattle.std.proofs.Common.{rules, ◌≡◌, ◌≤◌, true, length, vec_len, arith}
use Rattle.load_tasks.specs.Setting.{is_settings}
use Rattle.load_run.specs.declared.load.LoadFault.TheVariants as load
use Rattle.load_run.specs.Keeping.{contents}
use Rattle.load_run.specs.declared.summary.LoadSummary.{LoadSummary}
use Rattle.cli_main.proofs.Kept.{noted, same_clients}
use Rattle.cli_main.proofs.LoadEnds.{ended_for_memory, ended_kept, ended_by_fault, few_clients, reports_nothing}
use Rattle.cli_main.proofs.Ledgers.{not_refused}
use Rattle.cli_main.proofs.load.LoadRequest.keep.Goals as goal

pub returns-in_default : goal.returns-in_default
returns-in_default g c =
    let e = c.end_load_by.ensures in
    let how = c.args.self.now.how in
    let told = g.E.Write.contents c.args.errors.now in
    ended_for_memory g.K.Transcript.wrote g.K.Transcript.stopped how c.args.self.now.settings.now
    (search rules) _ (g.W.Write.contents c.args.output.now) (g.W.Write.contents c.end_load_by.new.output) told told
    e.low e.high e.refused e.line (reports_nothing how.progress c.args.self.now.settings.now told)

pub returns-then-not-are_whole : goal.returns-then-not-are_whole
returns-then-not-are_whole g c =
    let e = c.end_load_by-then-not-are_whole.ensures in
    ended_for_memory g.K.Transcript.wrote g.K.Transcript.stopped c.args.self.now.how c.args.self.now.settings.now
    (search rules) _ (g.W.Write.contents c.args.output.now)
    (g.W.Write.contents c.end_load_by-then-not-are_whole.new.output)
    (g.E.Write.contents c.args.errors.now) (g.E.Write.contents c.run_with_progress.new.errors)
    e.low e.high e.refused e.line c.in-Ok-run_with_progress.ensures.progress

pub write-requires : goal.write-requires
write-requires g c =
    let s = c.args.self.now.settings.now in
    let fits : is_settings s ≡ true = search rules in
    let few : s.clients ≤ 64 = few_clients s fits in
    let loaded = c.in-Ok-run_with_progress.loaded in
    let kept = c.in-Ok-run_with_progress.ensures.kept.kept in
    let empty = c.in-Ok.empty in
    let summary : LoadSummary = record {
      nanos = c.nanos-nanos.result;
      report = loaded.0;
      statistics = loaded.1;
    } in
    let number : vec_len empty.clients ≡ s.clients = rw c.in-Ok.is at c.requires.number in
    let same : length loaded.2.clients.items ≡ length empty.clients.items =
    same_clients (contents g.K.Recorder.notes g.K.Recorder.traced g.K.Recorder.latest) s loaded.0 loaded.1.attempts
    empty loaded.2 kept in
    record {
      fits = fits;
      noted = noted (contents g.K.Recorder.notes g.K.Recorder.traced g.K.Recorder.latest) s summary empty loaded.2
          (rw c.in-Ok.is at c.requires.opening)
          (rw c.in-Ok.is at c.requires.clients) kept;
      whole = search rules;
      few = omega (arith, few, same, number);
    }

pub returns : goal.returns
returns g c =
    let how = c.args.self.now.how in
    let told = g.E.Write.contents c.args.errors.now in
    let tells = g.E.Write.contents c.tell_summary.new.errors in
    let loaded = c.in-Ok-run_with_progress.loaded in
    let summary : LoadSummary = record {
      nanos = c.nanos-nanos.result;
      report = loaded.0;
      statistics = loaded.1;
    } in
    ended_kept g.K.Transcript.wrote g.K.Transcript.stopped how c.args.self.now.settings.now (search rules) summary
    c.write.result (g.W.Write.contents c.args.output.now) (g.W.Write.contents c.write.new.output) told tells
    c.in-Ok-run_with_progress.ensures.kept.statistics (
      g.E.Write.contents c.run_with_progress.new.errors,
      c.in-Ok-run_with_progress.ensures.progress,
      c.tell_summary.ensures,
    ) c.write.ensures

pub returns-in-Err : goal.returns-in-Err
returns-in-Err g c =
    let s = c.args.self.now.settings.now in
    let e = c.end_load_by-in-Err.ensures in
    let fits : is_settings s ≡ true = search rules in
    let is_not : c.in-Err.fault ≡ load.Arguments → ⊥ = not_refused s
    (vec_len c.in-Ok.empty.clients) c.in-Err.fault fits (rw c.in-Ok.is at c.requires.number)
    c.in-Err.ensures.kept.arguments in
    ended_by_fault g.K.Transcript.wrote g.K.Transcript.stopped c.args.self.now.how s fits c.in-Err.fault
    c.end_load_by-in-Err.result (g.W.Write.contents c.args.output.now)
    (g.W.Write.contents c.end_load_by-in-Err.new.output)
    (g.E.Write.contents c.args.errors.now) (g.E.Write.contents c.run_with_progress.new.errors) is_not
    c.in-Err.ensures.kept.refused e.low e.high e.refused e.line c.in-Err.ensures.progress
