use Rattle.std.proofs.Common.{ap, ◌∙◌}
use Rattle.stm_region.specs.Shown.{ClientShown, unplaced}
use Rattle.stm_attempt.proofs.StoredPairs.{storing_none, all_storable, put_inside, may_put, stored_one, has_stored}
use Rattle.stm_attempt.proofs.storing.store_all.Goals as goal

pub loop-addr-init : goal.loop-addr-init
loop-addr-init g c = (
  tt,
  tt,
  c.requires.own,
  storing_none c.args.writes.now c.args.client.now.value _ (c.into_iter-addr-iterator.ensures.into_iter_gives ∙
      c.pairs_by_lock-addr-items.ensures),
)

pub put-requires-clause-range : goal.put-requires-clause-range
put-requires-clause-range g c =
    put_inside g.L.Law.lawful (unplaced c.args.region.now.renewal) c.args.region.now c.args.client.now.value
    c.loop-addr.client.value _ _ _ _ _ c.loop-addr.invariant.3 c.in-Some.ensures.steps
    (all_storable c.args.region.now c.args.writes.now c.args.client.now.value c.requires.placed c.requires.decided)

pub put-requires-clause-allowed : goal.put-requires-clause-allowed
put-requires-clause-allowed g c =
    may_put g.L.Law.lawful (unplaced c.args.region.now.renewal) c.args.region.now c.args.client.now.value
    c.loop-addr.client.value _ _ _ _ _ c.loop-addr.invariant.3 c.in-Some.ensures.steps
    (all_storable c.args.region.now c.args.writes.now c.args.client.now.value c.requires.placed c.requires.decided)
    (c.requires.decided.out, c.requires.decided.phase)

pub loop-addr-preserved : goal.loop-addr-preserved
loop-addr-preserved g c = (
  tt,
  tt,
  ap (λ (x : ClientShown). x.table) c.put.ensures.client ∙ c.loop-addr.invariant.2,
  stored_one g.L.Law.lawful (unplaced c.args.region.now.renewal) c.args.region.now c.args.client.now.value
      c.loop-addr.client.value _ _ _ _ _ c.loop-addr.invariant.3 c.in-Some.ensures.steps
      (all_storable c.args.region.now c.args.writes.now c.args.client.now.value c.requires.placed c.requires.decided)
      c.put.new.client.value (ap (λ (x : ClientShown). x.value) c.put.ensures.client),
)

pub returns-clause-stored : goal.returns-clause-stored
returns-clause-stored g c =
    has_stored c.args.writes.now c.args.client.now.value c.loop-addr.client.value _ c.loop-addr.invariant.3
    c.in-None.ensures.steps.0 c.same_addresses.ensures c.requires.decided.writes
