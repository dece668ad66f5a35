use Rattle.cli_judge.specs.Objects.{settings_of}
use Rattle.cli_judge.proofs.Stores.{of_no_file, of_file, of_unopened}
use Rattle.cli_judge.proofs.keys.judge_keys_of.Goals as goal

pub returns-in-Ok-None-clause-judged : goal.returns-in-Ok-None-clause-judged
returns-in-Ok-None-clause-judged g c =
    of_no_file (g.F.Open.holds c.args.files.now) c.args.how.whole (settings_of c.args.how.search) _ _ _ _ _ _ _
    c.in-Ok-None.field-0 c.args.how.start c.in-Ok-None.field-0-is c.in-Ok-None.ensures.opened
    c.in-Ok-None.ensures.unwritten c.judge_unstarted.ensures.judged

pub returns-in-Ok-Some-clause-judged : goal.returns-in-Ok-Some-clause-judged
returns-in-Ok-Some-clause-judged g c =
    of_file (g.F.Open.holds c.args.files.now) c.args.how.whole (settings_of c.args.how.search) _ _ _ _ _ _ _
    c.in-Ok-Some.field-0 c.in-Ok-Some.file c.args.how.start c.in-Ok-Some.field-0-is c.in-Ok-Some.ensures.opened
    c.in-Ok-Some.ensures.unwritten c.judge_started.ensures.judged

pub returns-in-Err-clause-judged : goal.returns-in-Err-clause-judged
returns-in-Err-clause-judged g c =
    of_unopened (g.F.Open.holds c.args.files.now) c.args.how.whole (settings_of c.args.how.search) _ _ _ _
    c.args.how.start c.in-Err.ensures.named c.in-Err.ensures.refused
