use Rattle.vac_audit.proofs.Inside.{flaw_inside}
use Rattle.vac_audit.proofs.laws.flaws_have_their_words.Goals as goal

pub returns : goal.returns
returns c = flaw_inside
