use Rattle.vac_audit.proofs.Examples.{sound_heaps, one_flaw, two_flaws}
use Rattle.vac_audit.proofs.laws.damaged_words_have_their_flaws.Goals as goal

pub returns-clause-sound : goal.returns-clause-sound
returns-clause-sound c = sound_heaps

pub returns-clause-one : goal.returns-clause-one
returns-clause-one c = one_flaw

pub returns-clause-two : goal.returns-clause-two
returns-clause-two c = two_flaws
