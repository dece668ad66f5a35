use Rattle.vac_audit.proofs.Clean.{state_found}
use Rattle.vac_audit.proofs.Stated.{state_clean, flawed_is_none}
use Rattle.vac_audit.proofs.laws.an_audit_finds_the_balanced_states.Goals as goal

pub returns-clause-found : goal.returns-clause-found
returns-clause-found c = state_found

pub returns-clause-clean : goal.returns-clause-clean
returns-clause-clean c = state_clean

pub returns-clause-flawed : goal.returns-clause-flawed
returns-clause-flawed c = flawed_is_none
