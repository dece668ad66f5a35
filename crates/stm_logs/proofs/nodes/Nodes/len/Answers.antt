use Rattle.std.proofs.Common.{◌≡◌, length, ap, arith}
use Rattle.stm_logs.specs.Nodes.{Block, beside}
use Rattle.stm_logs.proofs.BesideLemmas.{len_beside}
use Rattle.stm_logs.proofs.nodes.Nodes.len.Goals as goal

pub returns : goal.returns
returns g c =
    let s = c.self.inside in
    let same : length s.row.items ≡ length s.index.items = omega (
      arith,
      s.row.ok.0,
      s.index.ok.0,
      c.self.invariant.0.0,
      c.self.invariant.2.0,
    ) in
    let seen : length (beside s.row.items s.index.items) ≡ length c.args.self.now.list =
    ap (λ (b : Block). length b.list) c.self.view_is in
    omega (arith, seen, len_beside s.row.items s.index.items same, s.row.ok.0, c.self.invariant.0.0)
