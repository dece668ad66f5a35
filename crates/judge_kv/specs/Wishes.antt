-- The operations that requests stand for.
use Rattle.judge_kv.specs.declared.request.RequestKind.{RequestKind}
use Rattle.judge_kv.specs.declared.request.RequestKind.TheVariants as kind
use Rattle.judge_kv.specs.Requests.{Requested, One, Transact}

-- what is asked
abbrev pub request_in : RequestKind → Requested
request_in (kind.One op) = One op
request_in (kind.Transact clauses) = Transact clauses.items
