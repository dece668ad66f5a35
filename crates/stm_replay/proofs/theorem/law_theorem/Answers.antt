use Rattle.stm_replay.proofs.Numbering.{allowed_with_numbers, same_but_tags}
use Rattle.stm_replay.proofs.Tagging.{every_list_has_numbers, legal_histories}
use Rattle.stm_replay.proofs.Replaying.{played_with_numbers, every_event_is_playable}
use Rattle.stm_replay.proofs.theorem.law_theorem.Goals as goal

pub returns-clause-allowed : goal.returns-clause-allowed
returns-clause-allowed g c = allowed_with_numbers g.L.Law.lawful

pub returns-clause-played : goal.returns-clause-played
returns-clause-played g c = played_with_numbers g.L.Law.lawful

pub returns-clause-records : goal.returns-clause-records
returns-clause-records g c = same_but_tags g.L.Law.lawful

pub returns-clause-history : goal.returns-clause-history
returns-clause-history g c = legal_histories g.L.Law.lawful

pub returns-clause-numbers : goal.returns-clause-numbers
returns-clause-numbers g c = every_list_has_numbers

pub returns-clause-events : goal.returns-clause-events
returns-clause-events g c = every_event_is_playable _
