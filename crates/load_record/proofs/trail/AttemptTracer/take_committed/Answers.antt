use Rattle.std.proofs.Common.{rules, ◌≡◌, true, Some}
use Rattle.load_record.proofs.Ended.{last_taken}
use Rattle.load_record.proofs.trail.AttemptTracer.take_committed.Goals as goal

pub returns-clause-last : goal.returns-clause-last
returns-clause-last g c =
    let whole : c.args.self.now.is_whole ≡ true = search rules in
    let there : c.args.self.now.committed ≡ Some c.in_ok-note.note = search rules in
    last_taken c.args.self.now.given_up.items c.args.self.now.committed c.in_ok-note.note c.new.result c.ok.result
    c.args.self.now.is_whole whole there c.new.ensures.ok c.ok.ensures.value
