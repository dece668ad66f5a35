use Rattle.std.proofs.Common.{rules, ◌≡◌, ℕ, ◌<◌, true, false, length, ap, ◌∙◌, arith, get_or}
use Rattle.stm_logs.specs.declared.nodes.Slot.{Slot}
use Rattle.stm_logs.specs.Nodes.{Block, at, with_node}
use Rattle.stm_logs.proofs.BesideLemmas.{place_in, slot_here, slot_put}
use Rattle.stm_logs.proofs.nodes.Nodes.set_slot.Goals as goal

pub get-requires : goal.get-requires
get-requires g c =
    let s = c.self.inside in
    let list = ap (λ (b : Block). b.list) c.self.view_is in
    let p = place_in _ _ s.len s.row.items s.index.items _ c.args.place s.row.ok.0 s.index.ok.0 c.self.invariant.0.0
    c.self.invariant.2.0 list c.requires in
    let l : c.args.place < length s.row.items = omega (arith, p.1, s.row.ok.0, c.self.invariant.0.0) in
    let there : get_or s.index.filled c.args.place false ≡ true = c.self.invariant.2.1 c.args.place (omega arith) p.1 in
    (omega (arith, p.1, c.self.invariant.2.0), rw there (search rules))

pub put-requires : goal.put-requires
put-requires g c =
    let s = c.self.inside in
    let list = ap (λ (b : Block). b.list) c.self.view_is in
    let p = place_in _ _ s.len s.row.items s.index.items _ c.args.place s.row.ok.0 s.index.ok.0 c.self.invariant.0.0
    c.self.invariant.2.0 list c.requires in
    let l : c.args.place < length s.row.items = omega (arith, p.1, s.row.ok.0, c.self.invariant.0.0) in
    omega (arith, p.1, c.self.invariant.2.0)

pub returns : goal.returns
returns g c =
    let s = c.self.inside in
    let list = ap (λ (b : Block). b.list) c.self.view_is in
    let p = place_in _ _ s.len s.row.items s.index.items _ c.args.place s.row.ok.0 s.index.ok.0 c.self.invariant.0.0
    c.self.invariant.2.0 list c.requires in
    let l : c.args.place < length s.row.items = omega (arith, p.1, s.row.ok.0, c.self.invariant.0.0) in
    let here = c.get.ensures ∙ slot_here _ _ _ _ _ p.0 l list in
    slot_put _ _ s.count _ _ _ _ p.0 l c.self.view_is c.put.ensures.items
    ∙ ap (λ (f : ℕ). with_node c.args.self.now c.args.place (record (at c.args.self.now.list c.args.place) {
      slot = c.args.node;
      finger = f;
    })) (ap (λ (t : Slot). t.finger) here)
