use Rattle.std.proofs.Common.{rules, [], ◌∷◌, refl, sym, ap, ◌∙◌, arith}
use Rattle.std.specs.FinMap.{get}
use Rattle.stm_logs.specs.Log.{LogValue, log_pairs}
use Rattle.stm_logs.specs.Held.{with_word}
use Rattle.test_core.proofs.OneWord.{took_one, may_tick, one_pair, won_one, may_put, may_release, not_there}
use Rattle.test_core.proofs.losses.tick_across.Goals as goal

pub put-requires : goal.put-requires
put-requires c l e = absurd (not_there c.args.addr.0 l (ap (λ (w : LogValue). get w.locks c.args.addr.0)
    (sym c.new-log.ensures) ∙ e))

pub tick-requires-clause-allowed : goal.tick-requires-clause-allowed
tick-requires-clause-allowed c =
    let r = c.args.region.now in
    let h = took_one r c.args.client.now c.begin-from.new.client c.probe_to_lock-probed.result.client.now
    c.client-2-1.given.0 _ c.lock_of-lock.result _ c.begin-from.result c.begin-from.result
    c.probe_to_lock-probed.result.word c.requires.free.0 refl c.probe_to_lock-probed.ensures.kept.1
    c.begin-from.ensures.client c.probe_to_lock-probed.ensures.client c.in-Ok.ensures.client (search rules) in
    may_tick r c.client-2-1.given.0 c.lock_of-lock.result c.begin-from.result c.args.addr.0 7 (1 ∷ []) _ h
    (omega arith) c.requires.range.0 c.lock_of-lock.ensures.value
    (ap log_pairs (c.in_ok-put.ensures.answer ∙ ap (λ (w : LogValue). with_word w c.args.addr.0 c.lock_of-lock.result 7)
    c.new-log.ensures) ∙ one_pair c.args.addr.0 c.lock_of-lock.result 7)

pub put-requires-in-Ok-tick-clause-allowed : goal.put-requires-in-Ok-tick-clause-allowed
put-requires-in-Ok-tick-clause-allowed c =
    let r = c.args.region.now in
    let h = took_one r c.args.client.now c.begin-from.new.client c.probe_to_lock-probed.result.client.now
    c.client-2-1.given.0 _ c.lock_of-lock.result _ c.begin-from.result c.begin-from.result
    c.probe_to_lock-probed.result.word c.requires.free.0 refl c.probe_to_lock-probed.ensures.kept.1
    c.begin-from.ensures.client c.probe_to_lock-probed.ensures.client c.in-Ok.ensures.client (search rules) in
    let pairs = ap log_pairs (c.in_ok-put.ensures.answer ∙ ap (λ
    (w : LogValue). with_word w c.args.addr.0 c.lock_of-lock.result 7) c.new-log.ensures) ∙
    one_pair c.args.addr.0 c.lock_of-lock.result 7 in
    may_put r c.tick.new.client c.lock_of-lock.result c.args.addr.0 7
    (won_one r c.client-2-1.given.0 c.tick.new.client _ c.begin-from.result _ _
    (1 ∷ []) _ h pairs c.in-Ok-tick.ensures.client) c.lock_of-lock.ensures.value

pub release-requires-clause-allowed : goal.release-requires-clause-allowed
release-requires-clause-allowed c =
    let r = c.args.region.now in
    let h = took_one r c.args.client.now c.begin-from.new.client c.probe_to_lock-probed.result.client.now
    c.client-2-1.given.0 _ c.lock_of-lock.result _ c.begin-from.result c.begin-from.result
    c.probe_to_lock-probed.result.word c.requires.free.0 refl c.probe_to_lock-probed.ensures.kept.1
    c.begin-from.ensures.client c.probe_to_lock-probed.ensures.client c.in-Ok.ensures.client (search rules) in
    let pairs = ap log_pairs (c.in_ok-put.ensures.answer ∙ ap (λ
    (w : LogValue). with_word w c.args.addr.0 c.lock_of-lock.result 7) c.new-log.ensures) ∙
    one_pair c.args.addr.0 c.lock_of-lock.result 7 in
    may_release r c.tick.new.client c.put-in-Ok-tick.new.client c.lock_of-lock.result c.args.addr.0 7
    (won_one r c.client-2-1.given.0 c.tick.new.client _ c.begin-from.result _ _
    (1 ∷ []) _ h pairs c.in-Ok-tick.ensures.client) c.put-in-Ok-tick.ensures.client
