use Rattle.std.proofs.Common.{◌∙◌, ap, rules}
use Rattle.std.proofs.lemmas.List.Sorted.{IsNonDecreasingBy-from_sort_by_key, answers_always}
use Rattle.judge_object.specs.declared.line.Line.{Line}
use Rattle.judge_object.specs.Orders.{of_client}
use Rattle.judge_search.specs.Calls.{calls_of, are_sorted, soonest_of}
use Rattle.judge_search.proofs.Stable.{Rises, stable_merges}
use Rattle.judge_search.proofs.Soonest.{same_calls, sorted_soonest, whole_part, rises_from, stable_once}
use Rattle.judge_search.proofs.sorting.sorted_lines.Goals as goal

pub returns-clause-sorted : goal.returns-clause-sorted
returns-clause-sorted g c =
    let items = c.sort_by_key.new.self.items in
    let rises : Rises items = rises_from items (IsNonDecreasingBy-from_sort_by_key
    (λ (l : Line _). l.end) items c.in_ok-sort_by_key.ensures.sorted (λ a r q k. search rules)) in
    ap are_sorted (whole_part items c.keep_soonest.new.lines c.sort_by_key.new.self.len
    (c.keep_soonest.ensures ∙ ap soonest_of c.as_mut_slice.ensures.value) c.sort_by_key.new.self.ok.0) ∙
    sorted_soonest items rises

pub returns-clause-merges : goal.returns-clause-merges
returns-clause-merges g c = λ turn k.
    let items = c.sort_by_key.new.self.items in
    let rises : Rises items = rises_from items (IsNonDecreasingBy-from_sort_by_key
    (λ (l : Line _). l.end) items c.in_ok-sort_by_key.ensures.sorted (λ a r q k. search rules)) in
    ap (λ ls. of_client k (calls_of ls)) (whole_part items c.keep_soonest.new.lines c.sort_by_key.new.self.len
    (c.keep_soonest.ensures ∙ ap soonest_of c.as_mut_slice.ensures.value) c.sort_by_key.new.self.ok.0)
    ∙ ap (of_client k) (same_calls items)
    ∙ stable_merges c.args.lines.items items turn rises
    (stable_once c.args.lines.items items (c.in_ok-sort_by_key.ensures.stable (λ (l : Line _). l.end)
    (answers_always _ _ _ (λ f a r q k. search rules)))) k
