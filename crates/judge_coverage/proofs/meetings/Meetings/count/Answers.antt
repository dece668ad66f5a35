use Rattle.std.proofs.Common.{◌≡◌, ℕ, ◌+◌, ◌<◌, ◌≤◌, ◌^◌, cond, nat_lt, min, max, length, get_or, take, sym, ap, ◌∙◌}
use Rattle.std.proofs.Common.{arith, rules}
use Rattle.std.specs.List.{count_by}
use Rattle.std.proofs.lemmas.Bool.Decides.{nat_tests}
use Rattle.std.proofs.lemmas.List.{take_more}
use Rattle.std.proofs.lemmas.List.Sums.{count_by-le-length, sum_by_push}
use Rattle.judge_object.specs.declared.span.Span.{Span}
use Rattle.judge_coverage.specs.Coverage.{meets, met_by, began_beside, greatest}
use Rattle.judge_coverage.proofs.Greatest.{greatest_more}
use Rattle.judge_coverage.proofs.meetings.Meetings.count.Goals.{then-met-gt0, else-met-gt0}
use Rattle.judge_coverage.proofs.meetings.Meetings.count.Goals as goal

risen : (most sum met n before len : ℕ) → most ≡ max sum before → sum ≡ min (met + 1) 18446744073709551615 → met ≡ n →
    n ≤ len → len < 2 ^ 63 → most ≡ max before (n + 1)
risen most sum met n before len e f g l s = omega arith

met_more : (new old before after met n : ℕ) → after ≡ before + cond (nat_lt 0 n) 1 0 → old ≡ before → met ≡ n →
    0 < met → new ≡ old + 1 → new ≡ after
met_more new old before after met n a e m l s = grind (arith, nat_tests)

met_none : (new old before after met n : ℕ) → after ≡ before + cond (nat_lt 0 n) 1 0 → old ≡ before → met ≡ n →
    met ≡ 0 → new ≡ old → new ≡ after
met_none new old before after met n a e m l s = grind (arith, nat_tests)

pub calls-preserved : goal.calls-preserved
calls-preserved c =
    let calls = c.args.self.now.calls.now in
    let none : Span = record { client = 0; begin = 0; end = 0 } in
    let call = get_or calls c.calls.place none in
    let small : length calls < 2 ^ 63 = omega arith in
    let met = c.met_by-met.result in
    let before = greatest (λ call. met_by calls call + 1) (take c.calls.place calls) in
    let rises : c.max-most_at_once.result ≡ max before (met_by calls call + 1) =
    risen _ c.saturating_add.result met (met_by calls call) before (length calls)
    (c.max-most_at_once.ensures ∙ ap (max c.saturating_add.result) c.calls.invariant.most) c.saturating_add.ensures
    c.met_by-met.ensures (count_by-le-length (meets call) calls) small in
    let most = rises ∙ sym (greatest_more (λ call. met_by calls call + 1) calls c.calls.place none c.calls-test.true) in
    let counted = count_by (began_beside calls) (take c.calls.place calls) in
    let next = count_by (began_beside calls) (take (c.calls.place + 1) calls) in
    let grown : next ≡ counted + cond (nat_lt 0 (met_by calls call)) 1 0 =
    ap (count_by (began_beside calls)) (take_more calls c.calls.place none c.calls-test.true)
    ∙ sum_by_push (λ x. cond (began_beside calls x) 1 0) (take c.calls.place calls) call in
    elim c.if-met-gt0.branch [
      | then-met-gt0 w ↦
          let some : 0 < met = search rules in
          record {
            counted = met_more c.if-met-gt0.overlapped c.calls.overlapped counted next met (met_by calls call) grown
                c.calls.invariant.counted c.met_by-met.ensures some w.overlapped-is;
            fits = omega (arith, w.overlapped-is, c.calls.invariant.fits);
            most = most;
          }
      | else-met-gt0 w ↦
          let no : met ≡ 0 = search rules in
          record {
            counted = met_none c.if-met-gt0.overlapped c.calls.overlapped counted next met (met_by calls call) grown
                c.calls.invariant.counted c.met_by-met.ensures no w.overlapped-is;
            fits = omega (arith, w.overlapped-is, c.calls.invariant.fits);
            most = most;
          }
    ]
