use Rattle.std.proofs.Common.{◌≡◌, drop}
use Rattle.judge_kv.specs.StoreRules.{written}
use Rattle.judge_kv.proofs.store.Store.write.Given as goal

abbrev pub invariant-clauses : goal.invariant-clauses
invariant-clauses l = written l.initial.self l.role l.clauses ≡ written l.self l.role (drop l.place l.clauses)
