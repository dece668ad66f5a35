use Rattle.std.proofs.Common.{nat_le}
use Rattle.std.proofs.lemmas.List.Sorted.{IsNonDecreasingBy-from_sort}
use Rattle.judge_coverage.proofs.Counting.{count_permuted}
use Rattle.judge_coverage.proofs.moments.sorted.Goals as goal

pub returns-clause-ascending : goal.returns-clause-ascending
returns-clause-ascending c = IsNonDecreasingBy-from_sort (λ x. x) c.sort.new.self.items c.in_ok-sort.ensures.sorted

pub returns-clause-same : goal.returns-clause-same
returns-clause-same c = λ key.
    count_permuted (λ other. nat_le other key) c.args.keys.items c.sort.new.self.items c.sort.ensures.permutation
