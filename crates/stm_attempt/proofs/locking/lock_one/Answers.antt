use Rattle.std.proofs.Common.{rules, refl, sym, ap, subst, ◌∙◌}
use Rattle.stm_core.specs.Client.{word_before}
use Rattle.stm_core.specs.Event.{after, probe, lock}
use Rattle.stm_region.specs.Shown.{ClientShown, IsAllowed, bounds, unplaced}
use Rattle.stm_core.specs.Guards.{stripe_of}
use Rattle.stm_attempt.proofs.Climbing.{held_shown, left_by, may_lock, has_taken_left}
use Rattle.stm_attempt.proofs.Lone.{open_reading, none_held}
use Rattle.stm_attempt.proofs.locking.lock_one.Goals as goal

pub returns-in_default-clause-shown : goal.returns-in_default-clause-shown
returns-in_default-clause-shown g c =
    let shown = held_shown g.L.Law.lawful (unplaced c.args.region.now.renewal) (stripe_of c.args.region.now.stripes)
    (bounds c.args.region.now) c.args.client.now.value c.probe_to_lock-probed.result.client.now.value _ _
    (ap (λ (x : ClientShown). x.value) c.probe_to_lock-probed.ensures.client
    ∙ ap (λ n. after (unplaced c.args.region.now.renewal) (stripe_of c.args.region.now.stripes) (probe c.args.lock) n
    c.args.client.now.value) (sym c.word-word.ensures)) c.requires.above c.in_default.ensures.held in
    (refl, left_by _ _ _ shown.1 (search rules), shown.2, left_by _ _ _ shown.3 (search rules))

pub lock-requires-clause-allowed : goal.lock-requires-clause-allowed
lock-requires-clause-allowed g c =
    subst (λ k. IsAllowed g.L.Law.lawful c.args.region.now (lock k) c.probe_to_lock-probed.result.client.now)
    (sym c.probe_to_lock-probed.ensures.kept.1)
    (may_lock g.L.Law.lawful (unplaced c.args.region.now.renewal) (stripe_of c.args.region.now.stripes)
    (bounds c.args.region.now) c.args.client.now.value c.probe_to_lock-probed.result.client.now.value _ _
    (ap (λ (x : ClientShown). x.value) c.probe_to_lock-probed.ensures.client) c.requires.above c.requires.ready.0
    c.requires.ready.1 c.requires.range c.in-Some._version (sym c.word-word.ensures ∙ c.in-Some.ensures.free))

pub returns-in_default-clause-lone : goal.returns-in_default-clause-lone
returns-in_default-clause-lone g c = λ lone. none_held c.args.client.now.value c.args.lock
    c.probe_to_lock-probed.result.word c.requires.above
    (c.probe_to_lock-probed.ensures.lone (open_reading c.args.client.now.value lone c.requires.ready.1)).0
    (let word = c.word-word.ensures in rw (sym word) c.in_default.ensures.held)

pub returns-in-Ok-clause-taken : goal.returns-in-Ok-clause-taken
returns-in-Ok-clause-taken g c =
    let v = c.probe_to_lock-probed.result.client.now.value in
    has_taken_left g.L.Law.lawful (unplaced c.args.region.now.renewal) (stripe_of c.args.region.now.stripes)
    (bounds c.args.region.now) c.args.client.now.value v _ _
    (ap (λ (x : ClientShown). x.value) c.probe_to_lock-probed.ensures.client) c.requires.above _
    (ap (λ (x : ClientShown). x.value) c.in-Ok.ensures.client
    ∙ ap (λ k. after (unplaced c.args.region.now.renewal) (stripe_of c.args.region.now.stripes) (lock k)
    (word_before v.attempt.last) v) c.probe_to_lock-probed.ensures.kept.1) _ (search rules)
