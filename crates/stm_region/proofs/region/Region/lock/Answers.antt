use Rattle.stm_core.specs.Event.{lock}
use Rattle.stm_core.specs.Guards.{stripe_of}
use Rattle.stm_core.proofs.Conditions.{can_act}
use Rattle.stm_region.specs.Shown.{bounds}
use Rattle.stm_region.proofs.Probing.{word_is, exchanged}
use Rattle.stm_region.proofs.region.Region.lock.Goals as goal

pub exchange-requires-clause-probe : goal.exchange-requires-clause-probe
exchange-requires-clause-probe g c =
    let r = c.args.self.now in
    let t = c.args.probed.client.now.value.attempt in
    let free = (can_act (stripe_of r.stripes) g.L.Law.lawful (bounds r) t
    (lock c.args.probed.lock) c.requires.allowed.1).2 in
    word_is t.last c.args.probed.lock free.0 c.args.probed.word free.1 c.args.probed.last

pub invariant_of-probed : goal.invariant_of-probed
invariant_of-probed g c = record {
  last = exchanged c.exchange.result c.args.self.now c.args.probed.lock _ c.args.probed.word
      c.args.probed.client.now c.exchange.new.client c.exchange.ensures.client;
}
