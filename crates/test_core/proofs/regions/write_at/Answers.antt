use Rattle.std.proofs.Common.{rules, [], ◌∷◌, refl, sym, ap, ◌∙◌, arith}
use Rattle.std.specs.FinMap.{get}
use Rattle.stm_logs.specs.Log.{LogValue, log_pairs}
use Rattle.stm_logs.specs.Held.{with_word}
use Rattle.test_core.proofs.OneWord.{took_one, may_tick, one_pair, has_lock, may_give_back, lost_one, won_one}
use Rattle.test_core.proofs.OneWord.{may_put, may_release, given_free, released_free, not_there}
use Rattle.test_core.proofs.regions.write_at.Goals as goal

pub put-requires : goal.put-requires
put-requires c l e = absurd (not_there c.args.addr.0 l (ap (λ (w : LogValue). get w.locks c.args.addr.0)
    (sym c.new-log.ensures) ∙ e))

pub tick-requires-clause-allowed : goal.tick-requires-clause-allowed
tick-requires-clause-allowed c =
    let r = c.args.region.now in
    let h = took_one r c.args.client.now c.begin-from.new.client c.probe_to_lock-probed.result.client.now
    c.client-2-1.given.0 _ c.lock_of-lock.result _ c.begin-from.result c.begin-from.result
    c.probe_to_lock-probed.result.word c.requires.free refl c.probe_to_lock-probed.ensures.kept.1
    c.begin-from.ensures.client c.probe_to_lock-probed.ensures.client c.in-Ok.ensures.client (search rules) in
    may_tick r c.client-2-1.given.0 c.lock_of-lock.result c.begin-from.result c.args.addr.0 c.args.value (1 ∷ []) _ h
    (omega arith) c.requires.range c.lock_of-lock.ensures.value
    (ap log_pairs (c.in_ok-put.ensures.answer ∙ ap (λ (w : LogValue). with_word w c.args.addr.0 c.lock_of-lock.result
    c.args.value) c.new-log.ensures) ∙ one_pair c.args.addr.0 c.lock_of-lock.result c.args.value)

pub give_back-requires-clause-allowed : goal.give_back-requires-clause-allowed
give_back-requires-clause-allowed c =
    let r = c.args.region.now in
    let h = took_one r c.args.client.now c.begin-from.new.client c.probe_to_lock-probed.result.client.now
    c.client-2-1.given.0 _ c.lock_of-lock.result _ c.begin-from.result c.begin-from.result
    c.probe_to_lock-probed.result.word c.requires.free refl c.probe_to_lock-probed.ensures.kept.1
    c.begin-from.ensures.client c.probe_to_lock-probed.ensures.client c.in-Ok.ensures.client (search rules) in
    may_give_back r c.client-2-1.given.0 c.lock_of-lock.result (has_lock _ _ _ h)

pub give_back-requires-in_default-tick-clause-allowed : goal.give_back-requires-in_default-tick-clause-allowed
give_back-requires-in_default-tick-clause-allowed c =
    let r = c.args.region.now in
    let h = took_one r c.args.client.now c.begin-from.new.client c.probe_to_lock-probed.result.client.now
    c.client-2-1.given.0 _ c.lock_of-lock.result _ c.begin-from.result c.begin-from.result
    c.probe_to_lock-probed.result.word c.requires.free refl c.probe_to_lock-probed.ensures.kept.1
    c.begin-from.ensures.client c.probe_to_lock-probed.ensures.client c.in-Ok.ensures.client (search rules) in
    may_give_back r c.tick.new.client c.lock_of-lock.result (lost_one r c.client-2-1.given.0 c.tick.new.client
    c.lock_of-lock.result c.begin-from.result c.in_default-tick.field-0
    (1 ∷ []) _ h c.in_default-tick.ensures.client.0 c.in_default-tick.ensures.client.1)

pub put-requires-2-clause-allowed : goal.put-requires-2-clause-allowed
put-requires-2-clause-allowed c =
    let r = c.args.region.now in
    let h = took_one r c.args.client.now c.begin-from.new.client c.probe_to_lock-probed.result.client.now
    c.client-2-1.given.0 _ c.lock_of-lock.result _ c.begin-from.result c.begin-from.result
    c.probe_to_lock-probed.result.word c.requires.free refl c.probe_to_lock-probed.ensures.kept.1
    c.begin-from.ensures.client c.probe_to_lock-probed.ensures.client c.in-Ok.ensures.client (search rules) in
    let pairs = ap log_pairs (c.in_ok-put.ensures.answer ∙ ap (λ
    (w : LogValue). with_word w c.args.addr.0 c.lock_of-lock.result c.args.value) c.new-log.ensures) ∙
    one_pair c.args.addr.0 c.lock_of-lock.result c.args.value in
    may_put r c.tick.new.client c.lock_of-lock.result c.args.addr.0 c.args.value
    (won_one r c.client-2-1.given.0 c.tick.new.client _ c.begin-from.result _ _
    (1 ∷ []) _ h pairs c.in-Ok-tick.ensures.client) c.lock_of-lock.ensures.value

pub release-requires-clause-allowed : goal.release-requires-clause-allowed
release-requires-clause-allowed c =
    let r = c.args.region.now in
    let h = took_one r c.args.client.now c.begin-from.new.client c.probe_to_lock-probed.result.client.now
    c.client-2-1.given.0 _ c.lock_of-lock.result _ c.begin-from.result c.begin-from.result
    c.probe_to_lock-probed.result.word c.requires.free refl c.probe_to_lock-probed.ensures.kept.1
    c.begin-from.ensures.client c.probe_to_lock-probed.ensures.client c.in-Ok.ensures.client (search rules) in
    let pairs = ap log_pairs (c.in_ok-put.ensures.answer ∙ ap (λ
    (w : LogValue). with_word w c.args.addr.0 c.lock_of-lock.result c.args.value) c.new-log.ensures) ∙
    one_pair c.args.addr.0 c.lock_of-lock.result c.args.value in
    may_release r c.tick.new.client c.put-2.new.client c.lock_of-lock.result c.args.addr.0 c.args.value
    (won_one r c.client-2-1.given.0 c.tick.new.client _ c.begin-from.result _ _
    (1 ∷ []) _ h pairs c.in-Ok-tick.ensures.client) c.put-2.ensures.client

pub returns-in_default-tick-clause-free : goal.returns-in_default-tick-clause-free
returns-in_default-tick-clause-free c =
    let r = c.args.region.now in
    let h = took_one r c.args.client.now c.begin-from.new.client c.probe_to_lock-probed.result.client.now
    c.client-2-1.given.0 _ c.lock_of-lock.result _ c.begin-from.result c.begin-from.result
    c.probe_to_lock-probed.result.word c.requires.free refl c.probe_to_lock-probed.ensures.kept.1
    c.begin-from.ensures.client c.probe_to_lock-probed.ensures.client c.in-Ok.ensures.client (search rules) in
    given_free r c.tick.new.client c.give_back-in_default-tick.new.client c.lock_of-lock.result
    (lost_one r c.client-2-1.given.0 c.tick.new.client c.lock_of-lock.result c.begin-from.result
    c.in_default-tick.field-0 (1 ∷ []) _ h c.in_default-tick.ensures.client.0 c.in_default-tick.ensures.client.1)
    c.give_back-in_default-tick.ensures.client

pub returns-clause-free : goal.returns-clause-free
returns-clause-free c =
    let r = c.args.region.now in
    let h = took_one r c.args.client.now c.begin-from.new.client c.probe_to_lock-probed.result.client.now
    c.client-2-1.given.0 _ c.lock_of-lock.result _ c.begin-from.result c.begin-from.result
    c.probe_to_lock-probed.result.word c.requires.free refl c.probe_to_lock-probed.ensures.kept.1
    c.begin-from.ensures.client c.probe_to_lock-probed.ensures.client c.in-Ok.ensures.client (search rules) in
    let pairs = ap log_pairs (c.in_ok-put.ensures.answer ∙ ap (λ
    (w : LogValue). with_word w c.args.addr.0 c.lock_of-lock.result c.args.value) c.new-log.ensures) ∙
    one_pair c.args.addr.0 c.lock_of-lock.result c.args.value in
    released_free r c.tick.new.client c.put-2.new.client c.release.new.client c.lock_of-lock.result c.args.addr.0
    c.args.value (won_one r c.client-2-1.given.0 c.tick.new.client _ c.begin-from.result _ _
    (1 ∷ []) _ h pairs c.in-Ok-tick.ensures.client) c.put-2.ensures.client c.release.ensures.client
