use Rattle.std.proofs.Common.{◌≡◌, ℕ, ◌<◌, ap, sym, subst, ◌∙◌, arith, rules}
use Rattle.std.specs.Option.{option_copied}
use Rattle.std.specs.Ordering.{nat_cmp}
use Rattle.std.specs.FinMap.{FinMap}
use Rattle.vac_sequential.specs.declared.tries.Parts.{Parts}
use Rattle.vac_sequential.specs.Tries.{map_in, map_of, parts_of, depth_of}
use Rattle.vac_sequential.proofs.Woven.{last_same, same_values, same_children, kid_depths}
use Rattle.vac_sequential.proofs.tries.+is_same_in.Goals as goal

pub returns-then-not-is_same_value : goal.returns-then-not-is_same_value
returns-then-not-is_same_value g t c =
    let first = λ (x : FinMap nat_cmp g.row.V.Denot × ℕ). x.0 in
    let p : Parts g.row.V.Denot = parts_of (option_copied c.in-Some.x) c.in-Some.p.now in
    let q : Parts g.row.V.Denot = parts_of (option_copied c.in-Some-shown.y) c.in-Some-shown.q.now in
    let left : map_in c.args.a.now ≡ map_of p = ap first (sym c.deref.ensures) ∙ c.in-Some.ensures.map in
    let right : map_in c.args.b.now ≡ map_of q = ap first (sym c.deref-2.ensures) ∙ c.in-Some-shown.ensures.map in
    λ e. c.if-not-is_same_value.ensures (same_values p q (sym left ∙ e ∙ right))

pub returns-then-not-is_same_in : goal.returns-then-not-is_same_in
returns-then-not-is_same_in g t c =
    let first = λ (x : FinMap nat_cmp g.row.V.Denot × ℕ). x.0 in
    let p : Parts g.row.V.Denot = parts_of (option_copied c.in-Some.x) c.in-Some.p.now in
    let q : Parts g.row.V.Denot = parts_of (option_copied c.in-Some-shown.y) c.in-Some-shown.q.now in
    let left : map_in c.args.a.now ≡ map_of p = ap first (sym c.deref.ensures) ∙ c.in-Some.ensures.map in
    let right : map_in c.args.b.now ≡ map_of q = ap first (sym c.deref-2.ensures) ∙ c.in-Some-shown.ensures.map in
    λ e. c.if-not-is_same_in.ensures (same_children p q (sym left ∙ e ∙ right) 0 (omega arith))

pub returns-then-not-is_same_in-2 : goal.returns-then-not-is_same_in-2
returns-then-not-is_same_in-2 g t c =
    let first = λ (x : FinMap nat_cmp g.row.V.Denot × ℕ). x.0 in
    let p : Parts g.row.V.Denot = parts_of (option_copied c.in-Some.x) c.in-Some.p.now in
    let q : Parts g.row.V.Denot = parts_of (option_copied c.in-Some-shown.y) c.in-Some-shown.q.now in
    let left : map_in c.args.a.now ≡ map_of p = ap first (sym c.deref.ensures) ∙ c.in-Some.ensures.map in
    let right : map_in c.args.b.now ≡ map_of q = ap first (sym c.deref-2.ensures) ∙ c.in-Some-shown.ensures.map in
    λ e. c.if-not-is_same_in-2.ensures (same_children p q (sym left ∙ e ∙ right) 1 (omega arith))

pub returns-then-not-is_same_in-3 : goal.returns-then-not-is_same_in-3
returns-then-not-is_same_in-3 g t c =
    let first = λ (x : FinMap nat_cmp g.row.V.Denot × ℕ). x.0 in
    let p : Parts g.row.V.Denot = parts_of (option_copied c.in-Some.x) c.in-Some.p.now in
    let q : Parts g.row.V.Denot = parts_of (option_copied c.in-Some-shown.y) c.in-Some-shown.q.now in
    let left : map_in c.args.a.now ≡ map_of p = ap first (sym c.deref.ensures) ∙ c.in-Some.ensures.map in
    let right : map_in c.args.b.now ≡ map_of q = ap first (sym c.deref-2.ensures) ∙ c.in-Some-shown.ensures.map in
    λ e. c.if-not-is_same_in-3.ensures (same_children p q (sym left ∙ e ∙ right) 2 (omega arith))

pub returns : goal.returns
returns g t c =
    let first = λ (x : FinMap nat_cmp g.row.V.Denot × ℕ). x.0 in
    let p : Parts g.row.V.Denot = parts_of (option_copied c.in-Some.x) c.in-Some.p.now in
    let q : Parts g.row.V.Denot = parts_of (option_copied c.in-Some-shown.y) c.in-Some-shown.q.now in
    let left : map_in c.args.a.now ≡ map_of p = ap first (sym c.deref.ensures) ∙ c.in-Some.ensures.map in
    let right : map_in c.args.b.now ≡ map_of q = ap first (sym c.deref-2.ensures) ∙ c.in-Some-shown.ensures.map in
    last_same (map_in c.args.a.now) (map_in c.args.b.now) p q left right c.if-not-is_same_value.ensures
    c.if-not-is_same_in.ensures c.if-not-is_same_in-2.ensures c.if-not-is_same_in-3.ensures
    c.is_same_in-4.result c.is_same_in-4.ensures

pub is_same_in-requires : goal.is_same_in-requires
is_same_in-requires g t c κs within =
    let deep : c.args.a.now.value.1 ≡ depth_of c.in-Some.p.now =
    ap (λ (x : FinMap nat_cmp g.row.V.Denot × ℕ). x.1) (sym c.deref.ensures) ∙ c.in-Some.ensures.depth in
    let smaller : c.in-Some.p.now.zero.value.1 < c.args.a.now.value.1 =
    subst (λ n. c.in-Some.p.now.zero.value.1 < n) (sym deep) (kid_depths c.in-Some.p.now).0 in
    search rules

pub is_same_in-requires-2 : goal.is_same_in-requires-2
is_same_in-requires-2 g t c κs within =
    let deep : c.args.a.now.value.1 ≡ depth_of c.in-Some.p.now =
    ap (λ (x : FinMap nat_cmp g.row.V.Denot × ℕ). x.1) (sym c.deref.ensures) ∙ c.in-Some.ensures.depth in
    let smaller : c.in-Some.p.now.one.value.1 < c.args.a.now.value.1 =
    subst (λ n. c.in-Some.p.now.one.value.1 < n) (sym deep) (kid_depths c.in-Some.p.now).1 in
    search rules

pub is_same_in-requires-3 : goal.is_same_in-requires-3
is_same_in-requires-3 g t c κs within =
    let deep : c.args.a.now.value.1 ≡ depth_of c.in-Some.p.now =
    ap (λ (x : FinMap nat_cmp g.row.V.Denot × ℕ). x.1) (sym c.deref.ensures) ∙ c.in-Some.ensures.depth in
    let smaller : c.in-Some.p.now.two.value.1 < c.args.a.now.value.1 =
    subst (λ n. c.in-Some.p.now.two.value.1 < n) (sym deep) (kid_depths c.in-Some.p.now).2 in
    search rules

pub is_same_in-requires-4 : goal.is_same_in-requires-4
is_same_in-requires-4 g t c κs within =
    let deep : c.args.a.now.value.1 ≡ depth_of c.in-Some.p.now =
    ap (λ (x : FinMap nat_cmp g.row.V.Denot × ℕ). x.1) (sym c.deref.ensures) ∙ c.in-Some.ensures.depth in
    let smaller : c.in-Some.p.now.three.value.1 < c.args.a.now.value.1 =
    subst (λ n. c.in-Some.p.now.three.value.1 < n) (sym deep) (kid_depths c.in-Some.p.now).3 in
    search rules
