use Rattle.std.proofs.Common.{◌≡◌, ℕ, ◌+◌, ◌<◌, ◌^◌, Some, List, map, sum_by, ap, sym, subst, ◌∙◌, arith, rules}
use Rattle.std.specs.Option.{option_map_or, option_copied}
use Rattle.std.specs.Ordering.{nat_cmp}
use Rattle.std.specs.FinMap as fin
use Rattle.std.specs.FinMap.{FinMap}
use Rattle.vac_sequential.specs.Tries.{value_in, map_in, depth_of}
use Rattle.vac_model.proofs.Views.{entries-empty}
use Rattle.vac_sequential.proofs.Woven.{sum_woven, part_small, kid_depths}
use Rattle.vac_sequential.proofs.tries.+total_in.Goals as goal
use Rattle.vac_sequential.proofs.tries.+total_in.Goals.{in-Some-value, in-None}

pub returns-in_default : goal.returns-in_default
returns-in_default g t c =
    let none : map_in c.args.link.now ≡ fin.empty = ap (λ (x : FinMap nat_cmp g.row.V.Denot × ℕ). x.0)
    (sym c.deref.ensures) ∙ c.in_default.ensures in
    ap (λ (es : List (ℕ × g.row.V.Denot)). sum_by g.A.Amount.amount (map (λ e. e.1) es)) (sym (entries-empty nat_cmp)) ∙
    ap (λ (m : FinMap nat_cmp g.row.V.Denot). sum_by g.A.Amount.amount (fin.values m)) (sym none)

pub amount-first-requires : goal.amount-first-requires
amount-first-requires g t c =
    let f = g.A.Amount.amount in
    let v = option_copied c.in-Some.value in
    let k = c.in-Some.kids.now in
    let whole : sum_by f (fin.values (map_in c.args.link.now)) ≡ option_map_or f (value_in v) 0
    + (sum_by f (fin.values (map_in k.zero)) + (sum_by f (fin.values (map_in k.one)) +
    (sum_by f (fin.values (map_in k.two)) + sum_by f (fin.values (map_in k.three))))) =
    ap (λ (x : FinMap nat_cmp g.row.V.Denot × ℕ). sum_by f (fin.values x.0)) (sym c.deref.ensures)
    ∙ ap (λ (m : FinMap nat_cmp g.row.V.Denot). sum_by f (fin.values m)) c.in-Some.ensures.map
    ∙ sum_woven f v (map_in k.zero) (map_in k.one) (map_in k.two) (map_in k.three) in
    let small = c.requires in
    part_small f v c.deref-in-Some-value.result.now (sum_by f (fin.values (map_in k.zero)) +
    (sum_by f (fin.values (map_in k.one)) + (sum_by f (fin.values (map_in k.two)) + sum_by f
    (fin.values (map_in k.three))))) (2 ^ 64)
    (ap (λ o. value_in (option_copied o)) c.in-Some-value.is ∙ ap Some (sym c.deref-in-Some-value.ensures))
    (subst (λ n. n < 2 ^ 64) whole small)

pub total_in-zero-requires : goal.total_in-zero-requires
total_in-zero-requires g t c κs within =
    let f = g.A.Amount.amount in
    let v = option_copied c.in-Some.value in
    let k = c.in-Some.kids.now in
    let whole : sum_by f (fin.values (map_in c.args.link.now)) ≡ option_map_or f (value_in v) 0
    + (sum_by f (fin.values (map_in k.zero)) + (sum_by f (fin.values (map_in k.one)) +
    (sum_by f (fin.values (map_in k.two)) + sum_by f (fin.values (map_in k.three))))) =
    ap (λ (x : FinMap nat_cmp g.row.V.Denot × ℕ). sum_by f (fin.values x.0)) (sym c.deref.ensures)
    ∙ ap (λ (m : FinMap nat_cmp g.row.V.Denot). sum_by f (fin.values m)) c.in-Some.ensures.map
    ∙ sum_woven f v (map_in k.zero) (map_in k.one) (map_in k.two) (map_in k.three) in
    let small = c.requires in
    let part : sum_by f (fin.values (map_in k.zero)) < 2 ^ 64 = omega (arith, whole, small) in
    let deep : c.args.link.now.value.1 ≡ depth_of k = ap (λ (x : FinMap nat_cmp g.row.V.Denot × ℕ). x.1)
    (sym c.deref.ensures) ∙ c.in-Some.ensures.depth in
    let smaller : k.zero.value.1 < c.args.link.now.value.1 =
    subst (λ n. k.zero.value.1 < n) (sym deep) (kid_depths k).0 in
    search rules

pub total_in-one-requires : goal.total_in-one-requires
total_in-one-requires g t c κs within =
    let f = g.A.Amount.amount in
    let v = option_copied c.in-Some.value in
    let k = c.in-Some.kids.now in
    let whole : sum_by f (fin.values (map_in c.args.link.now)) ≡ option_map_or f (value_in v) 0
    + (sum_by f (fin.values (map_in k.zero)) + (sum_by f (fin.values (map_in k.one)) +
    (sum_by f (fin.values (map_in k.two)) + sum_by f (fin.values (map_in k.three))))) =
    ap (λ (x : FinMap nat_cmp g.row.V.Denot × ℕ). sum_by f (fin.values x.0)) (sym c.deref.ensures)
    ∙ ap (λ (m : FinMap nat_cmp g.row.V.Denot). sum_by f (fin.values m)) c.in-Some.ensures.map
    ∙ sum_woven f v (map_in k.zero) (map_in k.one) (map_in k.two) (map_in k.three) in
    let small = c.requires in
    let part : sum_by f (fin.values (map_in k.one)) < 2 ^ 64 = omega (arith, whole, small) in
    let deep : c.args.link.now.value.1 ≡ depth_of k = ap (λ (x : FinMap nat_cmp g.row.V.Denot × ℕ). x.1)
    (sym c.deref.ensures) ∙ c.in-Some.ensures.depth in
    let smaller : k.one.value.1 < c.args.link.now.value.1 = subst (λ n. k.one.value.1 < n) (sym deep)
    (kid_depths k).1 in
    search rules

pub total_in-two-requires : goal.total_in-two-requires
total_in-two-requires g t c κs within =
    let f = g.A.Amount.amount in
    let v = option_copied c.in-Some.value in
    let k = c.in-Some.kids.now in
    let whole : sum_by f (fin.values (map_in c.args.link.now)) ≡ option_map_or f (value_in v) 0
    + (sum_by f (fin.values (map_in k.zero)) + (sum_by f (fin.values (map_in k.one)) +
    (sum_by f (fin.values (map_in k.two)) + sum_by f (fin.values (map_in k.three))))) =
    ap (λ (x : FinMap nat_cmp g.row.V.Denot × ℕ). sum_by f (fin.values x.0)) (sym c.deref.ensures)
    ∙ ap (λ (m : FinMap nat_cmp g.row.V.Denot). sum_by f (fin.values m)) c.in-Some.ensures.map
    ∙ sum_woven f v (map_in k.zero) (map_in k.one) (map_in k.two) (map_in k.three) in
    let small = c.requires in
    let part : sum_by f (fin.values (map_in k.two)) < 2 ^ 64 = omega (arith, whole, small) in
    let deep : c.args.link.now.value.1 ≡ depth_of k = ap (λ (x : FinMap nat_cmp g.row.V.Denot × ℕ). x.1)
    (sym c.deref.ensures) ∙ c.in-Some.ensures.depth in
    let smaller : k.two.value.1 < c.args.link.now.value.1 = subst (λ n. k.two.value.1 < n) (sym deep)
    (kid_depths k).2 in
    search rules

pub total_in-three-requires : goal.total_in-three-requires
total_in-three-requires g t c κs within =
    let f = g.A.Amount.amount in
    let v = option_copied c.in-Some.value in
    let k = c.in-Some.kids.now in
    let whole : sum_by f (fin.values (map_in c.args.link.now)) ≡ option_map_or f (value_in v) 0
    + (sum_by f (fin.values (map_in k.zero)) + (sum_by f (fin.values (map_in k.one)) +
    (sum_by f (fin.values (map_in k.two)) + sum_by f (fin.values (map_in k.three))))) =
    ap (λ (x : FinMap nat_cmp g.row.V.Denot × ℕ). sum_by f (fin.values x.0)) (sym c.deref.ensures)
    ∙ ap (λ (m : FinMap nat_cmp g.row.V.Denot). sum_by f (fin.values m)) c.in-Some.ensures.map
    ∙ sum_woven f v (map_in k.zero) (map_in k.one) (map_in k.two) (map_in k.three) in
    let small = c.requires in
    let part : sum_by f (fin.values (map_in k.three)) < 2 ^ 64 = omega (arith, whole, small) in
    let deep : c.args.link.now.value.1 ≡ depth_of k = ap (λ (x : FinMap nat_cmp g.row.V.Denot × ℕ). x.1)
    (sym c.deref.ensures) ∙ c.in-Some.ensures.depth in
    let smaller : k.three.value.1 < c.args.link.now.value.1 =
    subst (λ n. k.three.value.1 < n) (sym deep) (kid_depths k).3 in
    search rules

pub overflow_add-result : goal.overflow_add-result
overflow_add-result g t c =
    let f = g.A.Amount.amount in
    let v = option_copied c.in-Some.value in
    let k = c.in-Some.kids.now in
    let whole : sum_by f (fin.values (map_in c.args.link.now)) ≡ option_map_or f (value_in v) 0
    + (sum_by f (fin.values (map_in k.zero)) + (sum_by f (fin.values (map_in k.one)) +
    (sum_by f (fin.values (map_in k.two)) + sum_by f (fin.values (map_in k.three))))) =
    ap (λ (x : FinMap nat_cmp g.row.V.Denot × ℕ). sum_by f (fin.values x.0)) (sym c.deref.ensures)
    ∙ ap (λ (m : FinMap nat_cmp g.row.V.Denot). sum_by f (fin.values m)) c.in-Some.ensures.map
    ∙ sum_woven f v (map_in k.zero) (map_in k.one) (map_in k.two) (map_in k.three) in
    let small = c.requires in
    let first : c.match-value.first ≡ option_map_or f (value_in v) 0 =
    elim c.match-value.branch [
      | in-Some-value w ↦ w.first-is ∙ w.amount-first.ensures ∙ ap f w.deref-in-Some-value.ensures ∙
          ap (λ o. option_map_or f (value_in (option_copied o)) 0) (sym w.in-Some-value.is)
      | in-None w ↦ w.first-is ∙ ap (λ o. option_map_or f (value_in (option_copied o)) 0) (sym w.in-None.is)
    ] in
    omega (
      arith,
      whole,
      small,
      first,
      c.total_in-zero.ensures,
      c.total_in-one.ensures,
      c.total_in-two.ensures,
      c.total_in-three.ensures,
    )

pub overflow_add-result-2 : goal.overflow_add-result-2
overflow_add-result-2 g t c =
    let f = g.A.Amount.amount in
    let v = option_copied c.in-Some.value in
    let k = c.in-Some.kids.now in
    let whole : sum_by f (fin.values (map_in c.args.link.now)) ≡ option_map_or f (value_in v) 0
    + (sum_by f (fin.values (map_in k.zero)) + (sum_by f (fin.values (map_in k.one)) +
    (sum_by f (fin.values (map_in k.two)) + sum_by f (fin.values (map_in k.three))))) =
    ap (λ (x : FinMap nat_cmp g.row.V.Denot × ℕ). sum_by f (fin.values x.0)) (sym c.deref.ensures)
    ∙ ap (λ (m : FinMap nat_cmp g.row.V.Denot). sum_by f (fin.values m)) c.in-Some.ensures.map
    ∙ sum_woven f v (map_in k.zero) (map_in k.one) (map_in k.two) (map_in k.three) in
    let small = c.requires in
    let first : c.match-value.first ≡ option_map_or f (value_in v) 0 =
    elim c.match-value.branch [
      | in-Some-value w ↦ w.first-is ∙ w.amount-first.ensures ∙ ap f w.deref-in-Some-value.ensures ∙
          ap (λ o. option_map_or f (value_in (option_copied o)) 0) (sym w.in-Some-value.is)
      | in-None w ↦ w.first-is ∙ ap (λ o. option_map_or f (value_in (option_copied o)) 0) (sym w.in-None.is)
    ] in
    omega (
      arith,
      whole,
      small,
      first,
      c.total_in-zero.ensures,
      c.total_in-one.ensures,
      c.total_in-two.ensures,
      c.total_in-three.ensures,
    )

pub overflow_add-result-3 : goal.overflow_add-result-3
overflow_add-result-3 g t c =
    let f = g.A.Amount.amount in
    let v = option_copied c.in-Some.value in
    let k = c.in-Some.kids.now in
    let whole : sum_by f (fin.values (map_in c.args.link.now)) ≡ option_map_or f (value_in v) 0
    + (sum_by f (fin.values (map_in k.zero)) + (sum_by f (fin.values (map_in k.one)) +
    (sum_by f (fin.values (map_in k.two)) + sum_by f (fin.values (map_in k.three))))) =
    ap (λ (x : FinMap nat_cmp g.row.V.Denot × ℕ). sum_by f (fin.values x.0)) (sym c.deref.ensures)
    ∙ ap (λ (m : FinMap nat_cmp g.row.V.Denot). sum_by f (fin.values m)) c.in-Some.ensures.map
    ∙ sum_woven f v (map_in k.zero) (map_in k.one) (map_in k.two) (map_in k.three) in
    let small = c.requires in
    let first : c.match-value.first ≡ option_map_or f (value_in v) 0 =
    elim c.match-value.branch [
      | in-Some-value w ↦ w.first-is ∙ w.amount-first.ensures ∙ ap f w.deref-in-Some-value.ensures ∙
          ap (λ o. option_map_or f (value_in (option_copied o)) 0) (sym w.in-Some-value.is)
      | in-None w ↦ w.first-is ∙ ap (λ o. option_map_or f (value_in (option_copied o)) 0) (sym w.in-None.is)
    ] in
    omega (
      arith,
      whole,
      small,
      first,
      c.total_in-zero.ensures,
      c.total_in-one.ensures,
      c.total_in-two.ensures,
      c.total_in-three.ensures,
    )

pub overflow_add-result-4 : goal.overflow_add-result-4
overflow_add-result-4 g t c =
    let f = g.A.Amount.amount in
    let v = option_copied c.in-Some.value in
    let k = c.in-Some.kids.now in
    let whole : sum_by f (fin.values (map_in c.args.link.now)) ≡ option_map_or f (value_in v) 0
    + (sum_by f (fin.values (map_in k.zero)) + (sum_by f (fin.values (map_in k.one)) +
    (sum_by f (fin.values (map_in k.two)) + sum_by f (fin.values (map_in k.three))))) =
    ap (λ (x : FinMap nat_cmp g.row.V.Denot × ℕ). sum_by f (fin.values x.0)) (sym c.deref.ensures)
    ∙ ap (λ (m : FinMap nat_cmp g.row.V.Denot). sum_by f (fin.values m)) c.in-Some.ensures.map
    ∙ sum_woven f v (map_in k.zero) (map_in k.one) (map_in k.two) (map_in k.three) in
    let small = c.requires in
    let first : c.match-value.first ≡ option_map_or f (value_in v) 0 =
    elim c.match-value.branch [
      | in-Some-value w ↦ w.first-is ∙ w.amount-first.ensures ∙ ap f w.deref-in-Some-value.ensures ∙
          ap (λ o. option_map_or f (value_in (option_copied o)) 0) (sym w.in-Some-value.is)
      | in-None w ↦ w.first-is ∙ ap (λ o. option_map_or f (value_in (option_copied o)) 0) (sym w.in-None.is)
    ] in
    omega (
      arith,
      whole,
      small,
      first,
      c.total_in-zero.ensures,
      c.total_in-one.ensures,
      c.total_in-two.ensures,
      c.total_in-three.ensures,
    )

pub returns : goal.returns
returns g t c =
    let f = g.A.Amount.amount in
    let v = option_copied c.in-Some.value in
    let k = c.in-Some.kids.now in
    let whole : sum_by f (fin.values (map_in c.args.link.now)) ≡ option_map_or f (value_in v) 0
    + (sum_by f (fin.values (map_in k.zero)) + (sum_by f (fin.values (map_in k.one)) +
    (sum_by f (fin.values (map_in k.two)) + sum_by f (fin.values (map_in k.three))))) =
    ap (λ (x : FinMap nat_cmp g.row.V.Denot × ℕ). sum_by f (fin.values x.0)) (sym c.deref.ensures)
    ∙ ap (λ (m : FinMap nat_cmp g.row.V.Denot). sum_by f (fin.values m)) c.in-Some.ensures.map
    ∙ sum_woven f v (map_in k.zero) (map_in k.one) (map_in k.two) (map_in k.three) in
    let small = c.requires in
    let first : c.match-value.first ≡ option_map_or f (value_in v) 0 =
    elim c.match-value.branch [
      | in-Some-value w ↦ w.first-is ∙ w.amount-first.ensures ∙ ap f w.deref-in-Some-value.ensures ∙
          ap (λ o. option_map_or f (value_in (option_copied o)) 0) (sym w.in-Some-value.is)
      | in-None w ↦ w.first-is ∙ ap (λ o. option_map_or f (value_in (option_copied o)) 0) (sym w.in-None.is)
    ] in
    omega (
      arith,
      whole,
      first,
      c.total_in-zero.ensures,
      c.total_in-one.ensures,
      c.total_in-two.ensures,
      c.total_in-three.ensures,
    )
