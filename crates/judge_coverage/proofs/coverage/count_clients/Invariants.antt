use Rattle.std.proofs.Common.{map, take}
use Rattle.judge_coverage.proofs.Clients.{HasClients}
use Rattle.judge_coverage.proofs.coverage.count_clients.Given as goal

-- the set has the clients of the calls before
abbrev pub invariant-calls : goal.invariant-calls
invariant-calls l = HasClients l.clients (map (λ call. call.client) (take l.place l.calls))
