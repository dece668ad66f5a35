use Rattle.std.proofs.Common.{rules, arith, ap}
use Rattle.stm_region.specs.Shown.{RegionShown}
use Rattle.vac_manager.proofs.Openings.{fresh_begins, fresh_words, opened_on, opens}
use Rattle.vac_manager.proofs.manager.Manager.with_stripes.Goals as goal

pub new-requires-3-clause-begins : goal.new-requires-3-clause-begins
new-requires-3-clause-begins c = fresh_begins _ _ _ c.as_slice.ensures.value (record {
  empty = c.in-Ok.ensures.words;
  pool = c.in-Ok.ensures.pool;
  few = search (rules, arith);
})

pub new-requires-3-clause-size : goal.new-requires-3-clause-size
new-requires-3-clause-size c = fresh_words _ _ _ c.as_slice.ensures.value (record {
  empty = c.in-Ok.ensures.words;
  pool = c.in-Ok.ensures.pool;
  few = search (rules, arith);
})

pub invariant_of-result : goal.invariant_of-result
invariant_of-result c =
    opened_on _ _ _ _ c.as_slice.ensures.value (record {
      empty = c.in-Ok.ensures.words;
      pool = c.in-Ok.ensures.pool;
      few = search (rules, arith);
    })
    (ap (λ (r : RegionShown). r.size) c.in-Ok-new.ensures.region)
    (ap (λ (r : RegionShown). r.first) c.in-Ok-new.ensures.region)

pub returns-clause-ok : goal.returns-clause-ok
returns-clause-ok c =
    let user = c.in-Ok-new.ensures.user in
    opens _ _ _ _ _ _ _ c.as_slice.ensures.value
    (record { empty = c.in-Ok.ensures.words; pool = c.in-Ok.ensures.pool; few = search (rules, arith) })
    c.in-Ok-new.ensures.region (rw (c.new.ensures, c.new-2.ensures) at user)
