use Rattle.std.proofs.Common.{◌≡◌, ◌-◌, ◌≤◌, sum_by, sym, ap, subst, ◌∙◌}
use Rattle.std.specs.FinMap as fin
use Rattle.vac_sequential.specs.Tries.{map_at, map_in, changed_at, EntryAdds}
use Rattle.vac_sequential.proofs.Woven.{counted_change}
use Rattle.vac_sequential.proofs.maps.IdMap.changed.Goals as goal

pub overflow_sub-result : goal.overflow_sub-result
overflow_sub-result g c =
    let f = g.C.Change.changed c.args.change in
    let m = map_at c.self.inside.root in
    let before = c.in_ok-link.field-0.before in
    let after = c.in_ok-link.field-0.after in
    let h = subst (λ n. EntryAdds g.V.Entry.weight (fin.get n c.args.id) before.len before.weight)
    c.in_ok-root.ensures c.in_ok-link.ensures.before in
    let a = subst (λ n. EntryAdds g.V.Entry.weight (f (fin.get n c.args.id)) after.len after.weight)
    c.in_ok-root.ensures c.in_ok-link.ensures.after in
    let r = counted_change g.V.Entry.weight m c.args.id (f (fin.get m c.args.id)) c.self.inside.len
    c.self.inside.weight before.len before.weight after.len after.weight c.self.invariant h a in
    subst (λ n. before.len ≤ n) (sym c.in-Some.ensures.1) r.0

pub overflow_sub-result-2 : goal.overflow_sub-result-2
overflow_sub-result-2 g c =
    let f = g.C.Change.changed c.args.change in
    let m = map_at c.self.inside.root in
    let before = c.in_ok-link.field-0.before in
    let after = c.in_ok-link.field-0.after in
    let h = subst (λ n. EntryAdds g.V.Entry.weight (fin.get n c.args.id) before.len before.weight)
    c.in_ok-root.ensures c.in_ok-link.ensures.before in
    let a = subst (λ n. EntryAdds g.V.Entry.weight (f (fin.get n c.args.id)) after.len after.weight)
    c.in_ok-root.ensures c.in_ok-link.ensures.after in
    let r = counted_change g.V.Entry.weight m c.args.id (f (fin.get m c.args.id)) c.self.inside.len
    c.self.inside.weight before.len before.weight after.len after.weight c.self.invariant h a in
    subst (λ n. before.weight ≤ n) (sym c.in-Some-checked_add.ensures.1) r.1

pub invariant_of-result : goal.invariant_of-result
invariant_of-result g c =
    let f = g.C.Change.changed c.args.change in
    let m = map_at c.self.inside.root in
    let before = c.in_ok-link.field-0.before in
    let after = c.in_ok-link.field-0.after in
    let h = subst (λ n. EntryAdds g.V.Entry.weight (fin.get n c.args.id) before.len before.weight)
    c.in_ok-root.ensures c.in_ok-link.ensures.before in
    let a = subst (λ n. EntryAdds g.V.Entry.weight (f (fin.get n c.args.id)) after.len after.weight)
    c.in_ok-root.ensures c.in_ok-link.ensures.after in
    let r = counted_change g.V.Entry.weight m c.args.id (f (fin.get m c.args.id)) c.self.inside.len
    c.self.inside.weight before.len before.weight after.len after.weight c.self.invariant h a in
    let made : map_in c.in_ok-link.field-0.link ≡ changed_at f m c.args.id =
    c.in_ok-link.ensures.map ∙ ap (λ n. changed_at f n c.args.id) c.in_ok-root.ensures in (
      ap (λ n. n - before.len) c.in-Some.ensures.1 ∙ r.2.0 ∙ ap fin.len (sym made),
      ap (λ n. n - before.weight) c.in-Some-checked_add.ensures.1 ∙ r.2.1
          ∙ ap (λ n. sum_by g.V.Entry.weight (fin.values n)) (sym made),
    )
