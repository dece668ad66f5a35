use Rattle.std.proofs.Common.{◌≡◌, ◌<◌, ◌+◌, ◌++◌, ◌∷◌, [], true, false, take, get_or, length, refl, sym, ap, ◌∙◌}
use Rattle.std.proofs.Common.{subst, inl, inr, arith}
use Rattle.std.proofs.lemmas.List.{take_more, take_all, take-map, map-append, length-map}
use Rattle.judge_search.specs.Calls.{call_of, calls_of}
use Rattle.judge_search.specs.Walk.{IsWhole}
use Rattle.judge_object.specs.Relaxed.{PendingAreLast}
use Rattle.judge_text.specs.Many.{AreStrict}
use Rattle.judge_text.specs.Turns.{Stands, call_breaks_client}
use Rattle.judge_text.proofs.Ends.{AreHeld, calls_get, held_none, held_more, held_whole, timed_of}
use Rattle.judge_text.proofs.turns.find_turns.Goals as goal
use Rattle.judge_text.proofs.turns.find_turns.Goals.{in-Touches, in-Follows}

pub lines-init : goal.lines-init
lines-init g c = held_none c.new-ends.result [] c.new-ends.ensures refl

false_true : false ≡ true → ⊥
false_true e = cc

pub lines-preserved : goal.lines-preserved
lines-preserved g c =
    let lines = c.args.lines.now in
    let line = c.index-lines-place.result in
    let call = call_of line in
    let h = c.lines.invariant in
    let calls = calls_of (take c.lines.place lines) in
    let more : calls_of (take (c.lines.place + 1) lines) ≡ calls ++ call ∷ [] =
    ap calls_of (take_more lines c.lines.place line c.lines-test.true)
    ∙ map-append call_of (take c.lines.place lines) (get_or lines c.lines.place line ∷ [])
    ∙ ap (λ l. calls ++ call_of l ∷ []) (sym c.index-lines-place.is) in
    let told = c.stands.ensures.stands calls h.ends_are h.clients h.real in
    let timed = timed_of line c.stands.ensures.begun in
    subst (λ cs. AreHeld c.insert.new.self cs c.match-stands.is_strict) (sym more)
    (subst (λ m. AreHeld m (calls ++ call ∷ []) c.match-stands.is_strict) (sym c.in_ok-insert.ensures)
    (elim c.match-stands.branch [
      | in-Touches w ↦
          let both = subst (Stands calls call) w.in-Touches.is told in
          held_more c.lines.ends calls call c.lines.is_strict c.match-stands.is_strict h both.0 timed
          (λ s. absurd (false_true (sym w.is_strict-is ∙ s))) (λ s. inr both.1)
      | in-Follows w ↦
          let both = subst (Stands calls call) w.in-Follows.is told in
          held_more c.lines.ends calls call c.lines.is_strict c.match-stands.is_strict h both.0 timed
          (λ s. (sym w.is_strict-is ∙ s, both.1)) (λ s. inl (sym w.is_strict-is ∙ s))
    ]))

pub returns-in-Breaks : goal.returns-in-Breaks
returns-in-Breaks g c =
    let lines = c.args.lines.now in
    let place = c.lines.place in
    let line = c.index-lines-place.result in
    let h = c.lines.invariant in
    let calls = calls_of (take place lines) in
    let first : take place (calls_of lines) ≡ calls = take-map call_of place lines in
    let long : length (calls_of lines) ≡ length lines = length-map lines call_of in
    let below : place < length lines = c.lines-test.true in
    let told = subst (Stands calls (call_of line)) c.in-Breaks.is
    (c.stands.ensures.stands calls h.ends_are h.clients h.real) in
    record {
      within = (let x : place < length (calls_of lines) = omega arith in x);
      before = subst IsWhole (sym first) (held_whole c.lines.ends calls c.lines.is_strict h).0;
      breaks = λ d.
          ap (λ cs. call_breaks_client cs (get_or (calls_of lines) place d)) first
          ∙ ap (call_breaks_client calls) (calls_get lines place line d below
          ∙ ap call_of (sym c.index-lines-place.is))
          ∙ told;
    }

pub returns : goal.returns
returns g c =
    subst (λ ls. IsWhole (calls_of ls) × (c.lines.is_strict ≡ true → AreStrict (calls_of ls))
    × (c.lines.is_strict ≡ false → AreStrict (calls_of ls) → ⊥) × PendingAreLast (calls_of ls))
    (take_all c.lines.place c.args.lines.now c.lines-test.false)
    (held_whole c.lines.ends (calls_of (take c.lines.place c.args.lines.now)) c.lines.is_strict c.lines.invariant)
