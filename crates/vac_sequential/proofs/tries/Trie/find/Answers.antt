use Rattle.std.proofs.Common.{ℕ, ◌-◌, ◌/◌, ap, sym, ◌∙◌}
use Rattle.std.specs.Option.{option_copied}
use Rattle.std.specs.Ordering.{nat_cmp}
use Rattle.std.specs.FinMap as fin
use Rattle.std.specs.FinMap.{FinMap}
use Rattle.vac_sequential.specs.Tries.{Link, map_in}
use Rattle.vac_sequential.proofs.Woven.{get_kid, get_first}
use Rattle.vac_sequential.proofs.tries.Trie.find.Goals as goal

pub loop-rest-preserved : goal.loop-rest-preserved
loop-rest-preserved g c =
    let q = (c.loop-rest.rest - 1) / 4 in
    ap (λ (x : FinMap nat_cmp g.row.V.Denot × ℕ). fin.get x.0 q) c.deref-trie.ensures
    ∙ ap (λ (l : Link g.row.V.Denot). fin.get (map_in l) q) c.kid.ensures
    ∙ get_kid c.loop-rest.trie.now.0 _ c.in-Some.kids.now c.loop-rest.rest c.loop-rest-test.true c.in-Some.ensures.map
    ∙ c.loop-rest.invariant

pub returns-in_default : goal.returns-in_default
returns-in_default g c =
    sym (fin.get-empty nat_cmp c.loop-rest.rest)
    ∙ ap (λ (m : FinMap nat_cmp g.row.V.Denot). fin.get m c.loop-rest.rest) (sym c.in_default.ensures)
    ∙ c.loop-rest.invariant

pub returns-in_default-shown : goal.returns-in_default-shown
returns-in_default-shown g c =
    sym (fin.get-empty nat_cmp c.loop-rest.rest)
    ∙ ap (λ (m : FinMap nat_cmp g.row.V.Denot). fin.get m c.loop-rest.rest) (sym c.in_default-shown.ensures)
    ∙ c.loop-rest.invariant

pub returns : goal.returns
returns g c =
    get_first c.loop-rest.trie.now.0 (option_copied c.in-Some-shown.value) c.in-Some-shown.field-0-1.now
    c.in-Some-shown.ensures.map
    ∙ ap (fin.get c.loop-rest.trie.now.0) (sym c.loop-rest-test.false)
    ∙ c.loop-rest.invariant
