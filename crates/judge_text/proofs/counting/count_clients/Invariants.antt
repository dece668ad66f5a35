use Rattle.std.proofs.Common.{map, take}
use Rattle.std.specs.Ordering.{nat_cmp}
use Rattle.judge_text.proofs.Counted.{HasKeys}
use Rattle.judge_text.proofs.counting.count_clients.Given as goal

-- the set has the clients of the lines before
abbrev pub invariant-lines : goal.invariant-lines
invariant-lines g l = HasKeys nat_cmp l.clients (map (λ line. line.client) (take l.place l.lines))
