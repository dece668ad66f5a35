use Rattle.std.proofs.Common.{◌≡◌, drop}
use Rattle.judge_kv.specs.StoreRules.{all_hold}
use Rattle.judge_kv.proofs.store.Store.do_hold.Given as goal

abbrev pub invariant-clauses : goal.invariant-clauses
invariant-clauses l = all_hold l.self l.role l.clauses ≡ all_hold l.self l.role (drop l.place l.clauses)
