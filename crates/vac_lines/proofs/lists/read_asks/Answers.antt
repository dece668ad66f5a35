use Rattle.std.proofs.Common.{List, ℕ, [], refl, ap, sym, ◌∙◌, length, length-append, Bor, arith}
use Rattle.std.proofs.lemmas.Result.{err_from_is_err_and}
use Rattle.vac_model.specs.Amounts.{is_id}
use Rattle.vac_lines.specs.Lines.{texts}
use Rattle.vac_lines.specs.LineTable.{asks_of}
use Rattle.vac_lines.proofs.FewWords.{two_words}
use Rattle.vac_lines.proofs.WordReading.{put_behind, none_read, all_read, all_pushed}
use Rattle.vac_lines.proofs.Asking.{ask_read, ask_fault, no_pair_left}
use Rattle.vac_lines.proofs.lists.read_asks.Goals as goal

pub loop-pair-init : goal.loop-pair-init
loop-pair-init c =
    let given = c.into_iter-pair-iterator.ensures.into_iter_gives in
    let rest = ap (λ s. s.rest.now) given ∙ c.chunks_exact-pair-items.ensures.rest in
    record {
      pairs = ap (λ s. s.size) given ∙ c.chunks_exact-pair-items.ensures.size;
      same = ap (λ (ws : List (Bor (List ℕ))). asks_of (texts ws)) (sym rest) ∙ none_read _ _ c.new-asks.ensures;
      count = omega (arith, ap length c.new-asks.ensures, ap length rest);
      in_range = rw c.new-asks.ensures refl;
    }

pub loop-pair-preserved : goal.loop-pair-preserved
loop-pair-preserved c =
    let at = c.loop-pair in
    let steps = c.in-Some.ensures.steps in
    let words = two_words c.in-Some.pair.now (record { ref_ptr = (0, 0); now = [] }) c.in-len2.len_at_least
    c.in-len2.len_below in
    record {
      pairs = steps.0 ∙ at.invariant.pairs;
      same = rw c.push.ensures.items (ask_read _ _ _ _ _ _ at.asks.items _ steps.1.0 words
          (sym c.in_ok-place_at.ensures.place) at.invariant.same);
      count = omega (
        arith,
        c.push.ensures.len,
        at.invariant.count,
        ap length steps.1.0,
        length-append c.in-Some.pair.now c.next.new.self.rest.now,
        steps.1.1,
        at.invariant.pairs,
      );
      in_range = rw c.push.ensures.items (all_pushed (λ ask. is_id ask.1) at.asks.items _ at.invariant.in_range
          c.in_ok-place_at.ensures.in_range);
    }

pub returns-in_err-place_at-clause-err : goal.returns-in_err-place_at-clause-err
returns-in_err-place_at-clause-err c =
    let at = c.loop-pair in
    let words = two_words c.in-Some.pair.now (record { ref_ptr = (0, 0); now = [] }) c.in-len2.len_at_least
    c.in-len2.len_below in
    let p = err_from_is_err_and c.from_residual.result c.from_residual.ensures.1 in
    rw (p.1, p.2) (ask_fault _ _ _ _ _ _ at.asks.items _ c.in-Some.ensures.steps.1.0 words
    (sym c.in_err-place_at.ensures.place) at.invariant.same)

pub returns-clause-ok : goal.returns-clause-ok
returns-clause-ok c =
    let at = c.loop-pair in
    all_read at.asks.items _ (at.invariant.same ∙ ap (put_behind at.asks.items)
    (no_pair_left at.pair-iterator.rest.now (omega (arith, c.in-None.ensures.steps.1.0, at.invariant.pairs))))
