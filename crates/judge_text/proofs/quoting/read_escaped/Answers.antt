use Rattle.std.proofs.Common.{◌<◌, ◌+◌, length, get_or, sym, ◌∙◌, subst, inl, inr, arith}
use Rattle.judge_text.proofs.Quotes.{IsReadTo, own, is_37, go_plain, go_pair, other}
use Rattle.judge_text.proofs.quoting.read_escaped.Goals as goal
use Rattle.judge_text.proofs.quoting.read_escaped.Goals.{else-byte-eq37-via-then-byte-eq37+else-text-at-ge3}
use Rattle.judge_text.proofs.quoting.read_escaped.Goals.{else-byte-eq37-via-else-byte-eq37}
use Rattle.judge_text.proofs.quoting.read_escaped.Goals.{else-byte-eq34-via-then-byte-eq34+else-at-text}
use Rattle.judge_text.proofs.quoting.read_escaped.Goals.{else-byte-eq34-via-else-byte-eq34}

pub bytes-preserved-then-is_plain : goal.bytes-preserved-then-is_plain
bytes-preserved-then-is_plain c =
    let text = c.args.text.now in
    let at = c.bytes.at in
    subst (IsReadTo text (at + 1)) (sym c.in_ok-push.ensures.items)
    (go_plain text at (get_or text at 0) c.bytes.bytes.items c.bytes-test.true (own text at 0 c.bytes-test.true)
    (sym c.is_plain.ensures ∙ c.if-is_plain.true) c.bytes.invariant)

pub bytes-preserved : goal.bytes-preserved
bytes-preserved c =
    let text = c.args.text.now in
    let at = c.bytes.at in
    let below = c.bytes-test.true in
    let room = c.if-text-at-ge3.true in
    let far : at + 2 < length text = omega arith in
    subst (IsReadTo text (at + 3)) (sym c.in_ok-push-2.ensures.items)
    (go_pair text at (get_or text at 0) (get_or text (at + 1) 0) (get_or text (at + 2) 0) c.in-Some.byte
    c.bytes.bytes.items far (own text at 0 below) (own text (at + 1) 0 (omega arith)) (own text (at + 2) 0 far)
    (sym c.is_plain.ensures ∙ c.if-is_plain.false) (is_37 (get_or text at 0) c.if-byte-eq37.true) c.in-Some.ensures
    c.bytes.invariant)

pub returns-else-byte-eq37 : goal.returns-else-byte-eq37
returns-else-byte-eq37 c =
    let text = c.args.text.now in
    let at = c.bytes.at in
    other text at (get_or text at 0) c.bytes.bytes.items c.bytes-test.true (own text at 0 c.bytes-test.true)
    (sym c.is_plain.ensures ∙ c.if-is_plain.false)
    (elim c.else-byte-eq37.branch [
      | else-byte-eq37-via-then-byte-eq37+else-text-at-ge3 w ↦ inr (let f = w.if-text-at-ge3.false in omega arith)
      | else-byte-eq37-via-else-byte-eq37 w ↦ inl w.if-byte-eq37.false
    ])
    (elim c.else-byte-eq34.branch [
      | else-byte-eq34-via-then-byte-eq34+else-at-text w ↦ inr w.if-at-text.false
      | else-byte-eq34-via-else-byte-eq34 w ↦ inl w.if-byte-eq34.false
    ])
    c.bytes.invariant
