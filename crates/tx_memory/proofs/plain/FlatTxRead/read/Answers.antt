use Rattle.std.proofs.Common.{ℕ, List, ◌≡◌, get_or, sym, subst, ◌∙◌, ap}
use Rattle.std.proofs.lemmas.List.{get_or_read}
use Rattle.tx_memory.specs.View.{HasRead}
use Rattle.tx_memory.specs.Plain.{flat_view}
use Rattle.tx_memory.specs.PlainSeen.{flat_read}
use Rattle.tx_memory.proofs.plain.FlatTxRead.read.Goals as goal

pub returns-clause-answer : goal.returns-clause-answer
returns-clause-answer c =
    let xs = c.args.self.now in
    let here : c.index.result.now ≡ get_or xs c.args.addr.0 c.index.result.now =
    c.index.ensures ∙ ap (λ (ys : List ℕ). get_or ys c.args.addr.0 c.index.result.now) c.self.view_is in
    let e = get_or_read xs _ _ c.requires here 0 in
    subst (λ (v : ℕ). HasRead (flat_view xs) (flat_view xs) c.args.addr.0 v) (sym e)
    (flat_read xs c.args.addr.0 c.requires)
