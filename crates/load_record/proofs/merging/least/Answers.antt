use Rattle.std.proofs.Common.{◌≡◌, length, arith, subst, ℕ}
use Rattle.load_record.specs.Rests.{left_of, IsBest}
use Rattle.load_record.proofs.Left.{left_at}
use Rattle.load_record.proofs.merging.least.Goals as goal

pub clients-preserved : goal.clients-preserved
clients-preserved c = c.better-best.ensures (left_of c.args.rests.now)
    (left_at c.args.rests.now c.clients.place c.index-rests-place.result c.clients-test.true c.index-rests-place.is)
    c.clients.invariant

pub returns : goal.returns
returns c =
    let e : c.clients.place ≡ length c.args.rests.now = omega (arith, c.clients-test.false, c.clients.auto.place-end) in
    subst (λ (n : ℕ). IsBest (left_of c.args.rests.now) n c.clients.best) e c.clients.invariant
