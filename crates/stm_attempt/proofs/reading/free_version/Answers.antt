use Rattle.stm_attempt.proofs.Parity.{says_held, says_free}
use Rattle.stm_attempt.proofs.reading.free_version.Goals as goal

pub returns-then-held-clause-held : goal.returns-then-held-clause-held
returns-then-held-clause-held c = says_held _ _ _ c.decode-version.ensures.free c.if-held.true

pub returns-else-held-clause-free : goal.returns-else-held-clause-free
returns-else-held-clause-free c = says_free _ _ _ c.decode-version.ensures.free c.decode-version.ensures.held
    c.if-held.false
