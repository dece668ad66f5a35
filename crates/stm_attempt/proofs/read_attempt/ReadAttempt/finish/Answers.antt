use Rattle.stm_attempt.proofs.Parts.{made_by_finish}
use Rattle.stm_attempt.proofs.read_attempt.ReadAttempt.finish.Goals as goal

pub returns-clause-decides : goal.returns-clause-decides
returns-clause-decides g c =
    made_by_finish g.L.Law.fits g.L.Law.lawful c.args.self.region.now
    (g.T.Tag.numbers c.args.tag.now) c.finish.ensures.after.0 c.args.self.client.now.value c.finish.new.client.value
    c.finish.ensures.after.2
