use Rattle.std.proofs.Common.{◌≡◌, ◌≤◌, ◌+◌, ◌∷◌, ◌&&◌, not, nat_le, false, unwrap_or, rules}
use Rattle.std.specs.FinMap.{get}
use Rattle.judge_calls.proofs.Handed.{no_bytes, seen_first, seen_more, seen_missing, seen_all, found_open}
use Rattle.judge_calls.proofs.Handed.{closed_by_stop}
use Rattle.judge_calls.proofs.Handed.{closed_by_made}
use Rattle.judge_calls.proofs.holding.first_missing.Goals as goal
use Rattle.judge_calls.proofs.holding.first_missing.Goals.{else-so_far-before-via-then-so_far-before+else-not-so_far}
use Rattle.judge_calls.proofs.holding.first_missing.Goals.{else-so_far-before-via-else-so_far-before}

pub loop-client-init : goal.loop-client-init
loop-client-init c = seen_first c.args.work.now c.args.held.now c.new-seen.result c.clients-rest.result.now
    c.new-seen.ensures c.clients-rest.ensures

pub returns-then-not-so_far-clause-missing : goal.returns-then-not-so_far-clause-missing
returns-then-not-so_far-clause-missing c =
    let at = c.loop-client in
    let p = c.count_of-so_far.result in
    let before = c.unwrap_or-before.result in
    let cut : at.rest.now ≡ c.in-Some.client.now ∷ c.in-Some.behind.now = search rules in
    let seen : before ≡ unwrap_or (get at.seen c.in-Some.client.now) 0 = search rules in
    let more : c.in_ok-number.number ≡ before + 1 = search rules in
    let few : p.made ≤ before = search rules in
    let goes : p.stopped ≡ false = search rules in
    seen_missing c.args.work.now c.args.held.now at.seen c.in-Some.client.now before c.in_ok-number.number at.rest.now
    c.in-Some.behind.now p at.invariant cut seen more
    c.count_of-so_far.ensures (found_open p.made before p.stopped few goes)

pub loop-client-preserved : goal.loop-client-preserved
loop-client-preserved c =
    let at = c.loop-client in
    let p = c.count_of-so_far.result in
    let before = c.unwrap_or-before.result in
    let cut : at.rest.now ≡ c.in-Some.client.now ∷ c.in-Some.behind.now = search rules in
    let seen : before ≡ unwrap_or (get at.seen c.in-Some.client.now) 0 = search rules in
    let more : c.in_ok-number.number ≡ before + 1 = search rules in
    let closed : (nat_le p.made before && not p.stopped) ≡ false =
    elim c.else-so_far-before.branch [
      | else-so_far-before-via-then-so_far-before+else-not-so_far w ↦
          closed_by_stop p.made before p.stopped w.if-not-so_far.false
      | else-so_far-before-via-else-so_far-before w ↦ closed_by_made p.made before p.stopped
          w.if-so_far-before.false
    ] in
    seen_more c.args.work.now c.args.held.now at.seen c.insert.new.self c.in-Some.client.now before
    c.in_ok-number.number at.rest.now c.in-Some.behind.now p at.invariant
    cut seen more c.in_ok-insert.ensures c.count_of-so_far.ensures closed

pub returns-clause-missing : goal.returns-clause-missing
returns-clause-missing c =
    let at = c.loop-client in
    seen_all c.args.work.now c.args.held.now at.seen at.rest.now at.invariant
    (no_bytes at.rest.now c.in_default.ensures.cases)
