use Rattle.std.proofs.Common.{◌≡◌, length, ap, arith}
use Rattle.stm_logs.specs.Nodes.{Block}
use Rattle.stm_logs.proofs.LogLemmas.{none_log, log_of}
use Rattle.stm_logs.proofs.table.Table.new.Goals as goal
use Rattle.std.proofs.Common.{refl}

pub invariant_of-result : goal.invariant_of-result
invariant_of-result g c =
    let s : Block = c.in_ok-nodes.nodes in
    let blank = c.in_ok-nodes.ensures in
    let len : length s.list ≡ 64 = blank.0 in
    let root = blank.2 0 in
    let log = none_log s.list (omega arith) (omega arith) (λ q _. ap (λ x. x.slot) (blank.2 q))
    (ap (λ x. x.number) root) (ap (λ x. x.lock) root) (ap (λ x. x.next) root) in
    log_of s s.list 0 refl blank.1 log.ready log.places
