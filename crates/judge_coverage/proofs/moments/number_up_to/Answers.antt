use Rattle.std.proofs.Common.{sym, nat_le, rules, arith}
use Rattle.std.proofs.lemmas.List.Sorted.{IsPartitionPoint-from_clause, IsPartitionedBy-leb}
use Rattle.judge_coverage.proofs.Counting.{count_parted}
use Rattle.judge_coverage.proofs.moments.number_up_to.Goals as goal

pub returns : goal.returns
returns c =
    let keys = c.args.keys.now in
    let parted = IsPartitionedBy-leb (λ x. x) keys c.args.key c.requires in
    let point = IsPartitionPoint-from_clause (λ x. nat_le x c.args.key) keys c.partition_point.result
    c.partition_point.ensures.partitioned parted (λ a r q k. search rules) in
    sym (count_parted (λ x. nat_le x c.args.key) keys c.partition_point.result c.partition_point.ensures.bound
    (λ k d h. point.0 k d (omega arith) h) (λ k d a b. point.1 k d a b))
