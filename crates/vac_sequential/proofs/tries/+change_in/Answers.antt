use Rattle.std.proofs.Common.{◌≡◌, ◌-◌, ◌/◌, ◌%◌, ap, sym, subst, ◌∙◌}
use Rattle.std.specs.FinMap as fin
use Rattle.vac_sequential.specs.declared.tries.Kids.{Kids}
use Rattle.vac_sequential.specs.Tries.{map_in, map_of, value_in, swapped, with_value, EntryAdds}
use Rattle.vac_sequential.proofs.Woven.{set_first, set_child, get_first, get_swapped}
use Rattle.vac_sequential.proofs.tries.+change_in.Goals as goal

pub returns-then-id-eq0-clause-map : goal.returns-then-id-eq0-clause-map
returns-then-id-eq0-clause-map g t c =
    let f = g.C.Change.changed c.args.change in
    let m = map_in c.args.link in
    let p = c.in_ok-place.field-0.parts in
    let first : value_in p.value ≡ fin.get m c.args.id =
    get_first m p.value p.kids (sym c.in_ok-place.ensures) ∙ ap (fin.get m) (sym c.if-id-eq0.true) in
    c.in_ok-link.ensures ∙ set_first m p c.in_ok-value.value c.args.id c.if-id-eq0.true c.in_ok-place.ensures
    ∙ ap (with_value m c.args.id) (c.in_ok-value.ensures ∙ ap f first)

pub returns-then-id-eq0-clause-before : goal.returns-then-id-eq0-clause-before
returns-then-id-eq0-clause-before g t c =
    let m = map_in c.args.link in
    let p = c.in_ok-place.field-0.parts in
    let first : value_in p.value ≡ fin.get m c.args.id =
    get_first m p.value p.kids (sym c.in_ok-place.ensures) ∙ ap (fin.get m) (sym c.if-id-eq0.true) in
    subst (λ o. EntryAdds g.V.Entry.weight o c.weigh-before.result.len c.weigh-before.result.weight) first
    c.weigh-before.ensures

pub returns-then-id-eq0-clause-after : goal.returns-then-id-eq0-clause-after
returns-then-id-eq0-clause-after g t c =
    let m = map_in c.args.link in
    let p = c.in_ok-place.field-0.parts in
    let first : value_in p.value ≡ fin.get m c.args.id =
    get_first m p.value p.kids (sym c.in_ok-place.ensures) ∙ ap (fin.get m) (sym c.if-id-eq0.true) in
    subst (λ o. EntryAdds g.V.Entry.weight o c.weigh-after.result.len c.weigh-after.result.weight)
    (c.in_ok-value.ensures ∙ ap (g.C.Change.changed c.args.change) first) c.weigh-after.ensures

pub returns-clause-map : goal.returns-clause-map
returns-clause-map g t c =
    let f = g.C.Change.changed c.args.change in
    let m = map_in c.args.link in
    let id = c.args.id in
    let d = (id - 1) % 4 in
    let q = (id - 1) / 4 in
    let p = c.in_ok-place.field-0.parts in
    let child = c.in_ok-child.child.link in
    let made : map_in child ≡ with_value (map_in (swapped p.kids d).zero) q (f (fin.get m id)) =
    c.in_ok-child.ensures.map
    ∙ ap (λ (k : Kids g.row.V.Denot). with_value (map_in k.zero) q (f (fin.get (map_in k.zero) q)))
    c.swapped-kids.ensures
    ∙ ap (λ o. with_value (map_in (swapped p.kids d).zero) q (f o))
    (get_swapped p m id c.if-id-eq0.false c.in_ok-place.ensures) in
    let back : c.swapped.result ≡ swapped (record (swapped p.kids d) { zero = child }) d =
    c.swapped.ensures ∙ ap (λ (k : Kids g.row.V.Denot). swapped (record k { zero = child }) d)
    c.swapped-kids.ensures in
    c.in_ok-link-2.ensures ∙ ap (λ (k : Kids g.row.V.Denot). map_of (record p { kids = k })) back
    ∙ set_child m p child (f (fin.get m id)) id c.if-id-eq0.false c.in_ok-place.ensures made

pub returns-clause-before : goal.returns-clause-before
returns-clause-before g t c =
    let m = map_in c.args.link in
    let id = c.args.id in
    let q = (id - 1) / 4 in
    let p = c.in_ok-place.field-0.parts in
    subst (λ o. EntryAdds g.V.Entry.weight o c.in_ok-child.child.before.len c.in_ok-child.child.before.weight)
    (ap (λ (k : Kids g.row.V.Denot). fin.get (map_in k.zero) q) c.swapped-kids.ensures
    ∙ get_swapped p m id c.if-id-eq0.false c.in_ok-place.ensures) c.in_ok-child.ensures.before

pub returns-clause-after : goal.returns-clause-after
returns-clause-after g t c =
    let f = g.C.Change.changed c.args.change in
    let m = map_in c.args.link in
    let id = c.args.id in
    let q = (id - 1) / 4 in
    let p = c.in_ok-place.field-0.parts in
    subst (λ o. EntryAdds g.V.Entry.weight (f o) c.in_ok-child.child.after.len c.in_ok-child.child.after.weight)
    (ap (λ (k : Kids g.row.V.Denot). fin.get (map_in k.zero) q) c.swapped-kids.ensures
    ∙ get_swapped p m id c.if-id-eq0.false c.in_ok-place.ensures) c.in_ok-child.ensures.after
