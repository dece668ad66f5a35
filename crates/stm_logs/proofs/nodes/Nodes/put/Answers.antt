use Rattle.std.proofs.Common.{◌<◌, length, ap, arith}
use Rattle.stm_logs.specs.Nodes.{Block}
use Rattle.stm_logs.proofs.BesideLemmas.{place_in, entry_put}
use Rattle.stm_logs.proofs.nodes.Nodes.put.Goals as goal

pub put-requires : goal.put-requires
put-requires g c =
    let s = c.self.inside in
    let list = ap (λ (b : Block). b.list) c.self.view_is in
    let p = place_in _ _ s.len s.row.items s.index.items _ c.args.i s.row.ok.0 s.index.ok.0 c.self.invariant.0.0
    c.self.invariant.2.0 list c.requires in
    let l : c.args.i < length s.row.items = omega (arith, p.1, s.row.ok.0, c.self.invariant.0.0) in
    omega (arith, l, s.row.ok.0)

pub returns : goal.returns
returns g c =
    let s = c.self.inside in
    let list = ap (λ (b : Block). b.list) c.self.view_is in
    let p = place_in _ _ s.len s.row.items s.index.items _ c.args.i s.row.ok.0 s.index.ok.0 c.self.invariant.0.0
    c.self.invariant.2.0 list c.requires in
    let l : c.args.i < length s.row.items = omega (arith, p.1, s.row.ok.0, c.self.invariant.0.0) in
    entry_put _ _ s.count _ _ _ _ p.0 l c.self.view_is c.put.ensures.items
