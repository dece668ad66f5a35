use Rattle.std.proofs.Common.{◌≡◌, OnOk, sym, ap, ◌∙◌, subst}
use Rattle.judge_kv.specs.Classes.{AreKeysJoined, keys_of}
use Rattle.judge_kv.specs.Wishes.{request_in}
use Rattle.judge_kv.proofs.Joining.{clause_keys}
use Rattle.judge_kv.proofs.objects.join_request.Goals as goal

pub returns-in-Transact-clause-joined : goal.returns-in-Transact-clause-joined
returns-in-Transact-clause-joined c =
    let path : clause_keys c.as_slice.result.now ≡ keys_of c.args.request.now =
    ap clause_keys c.as_slice.ensures.value
    ∙ ap (λ w. keys_of (request_in w)) (sym c.in-Transact.is)
    ∙ ap keys_of c.kind.ensures in
    subst (λ ks. OnOk c.join_clauses.result (AreKeysJoined ks c.args.classes.now c.join_clauses.new.classes))
    path c.join_clauses.ensures.joined
