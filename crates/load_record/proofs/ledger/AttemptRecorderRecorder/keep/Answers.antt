use Rattle.load_record.proofs.Ended.{has_taken}
use Rattle.load_record.proofs.ledger.AttemptRecorderRecorder.keep.Goals as goal

pub returns-clause-taken : goal.returns-clause-taken
returns-clause-taken g c =
    has_taken _ _ c.args.self.now.trail.committed _ _ _ c.take_committed-attempt.ensures.taken
    c.take_committed-attempt.ensures.given_up
    c.take_committed-attempt.ensures.whole
