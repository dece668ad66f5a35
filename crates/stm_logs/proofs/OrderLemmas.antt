-- A node is chained behind the last one of a smaller rank.
use Rattle.std.proofs.Common.{◌≡◌, ◌≢◌, ◌⊎◌, inl, inr, ℕ, ◌+◌, ◌<◌, ◌≤◌, cond, nat_eq, List, sym, ap, ◌∙◌, arith, subst}
use Rattle.std.proofs.lemmas.Bool.{cases_lt}
use Rattle.std.proofs.lemmas.Bool.Decides.{nat_tests}
use Rattle.stm_logs.specs.declared.nodes.TheConstants.{TOP}
use Rattle.stm_logs.specs.Nodes.{Node, at}
use Rattle.stm_logs.specs.Index.{HasNoNumber}
use Rattle.stm_logs.specs.Order.{rank_of_number, rank_in, least_after, Least, IsChained, IsBefore}
use Rattle.stm_logs.proofs.NodeLemmas.{same_or}

-- ---- ranks
pub after_root : (ns : List Node) (e : ℕ) → e ≡ 0 → least_after ns e ≡ 0
after_root ns e is = grind (arith, nat_tests, is)

pub after_node : (ns : List Node) (e : ℕ) → 0 < e → least_after ns e ≡ rank_in (at ns e) + 1
after_node ns e some = grind (arith, nat_tests, some)

-- numbers below the greatest with their locks have ranks of their own
pub rank_number : (l k a b : ℕ) → a ≤ TOP → b ≤ TOP → rank_of_number l a ≡ rank_of_number k b → (l ≡ k) × (a ≡ b)
rank_number l k a b ma mb e = (omega arith, omega arith)

-- no rank that there is lies above the root's
pub rank_most : (l a : ℕ) → l ≤ TOP → a ≤ TOP → rank_of_number l a ≤ rank_of_number TOP TOP
rank_most l a ml ma = omega arith

pub root_rank : (ns : List Node) (n : ℕ) → IsChained ns n → rank_in (at ns 0) ≡ rank_of_number TOP TOP
root_rank ns n c = ap (λ l. rank_of_number l (at ns 0).number) c.top.1 ∙ ap (rank_of_number TOP) c.top.0

-- ---- what the nodes of a chain keep
-- the numbers and locks of the first n nodes are the same
abbrev pub SameRanks : List Node → List Node → ℕ → Type 0
SameRanks ns ns' n = (e : ℕ) → e ≤ n → ((at ns' e).number ≡ (at ns e).number) × ((at ns' e).lock ≡ (at ns e).lock)

rank_same : (ns ns' : List Node) (n e : ℕ) → SameRanks ns ns' n → e ≤ n → rank_in (at ns' e) ≡ rank_in (at ns e)
rank_same ns ns' n e s m = ap (λ l. rank_of_number l (at ns' e).number) (s e m).1 ∙ ap (rank_of_number (at ns e).lock)
    (s e m).0

after_same : (ns ns' : List Node) (n e : ℕ) → SameRanks ns ns' n → e ≤ n → least_after ns' e ≡ least_after ns e
after_same ns ns' n e s m = ap (λ r. cond (nat_eq e 0) 0 (r + 1)) (rank_same ns ns' n e s m)

least_same : (ns ns' : List Node) (n low low' p p' : ℕ) → SameRanks ns ns' n → low' ≡ low → p' ≡ p → Least ns n low p →
    Least ns' n low' p'
least_same ns ns' n low low' p p' same elow ep h = record {
  none = λ e f z m. (let less = h.none (omega (arith, ep)) f z m in
      omega (arith, less, rank_same ns ns' n f same m, elow));
  some = λ z.
      let s = h.some (omega (arith, ep)) in
      let inside : p' ≤ n = omega (arith, s.0, ep) in
      (inside, omega (arith, s.1, elow, rank_same ns ns' n p' same inside, ap (λ j. rank_in (at ns j)) ep));
  least = λ z f y m low_is.
      let s = h.some (omega (arith, ep)) in
      let inside : p' ≤ n = omega (arith, s.0, ep) in
      let less = h.least (omega (arith, ep)) f y m (omega (arith, low_is, elow, rank_same ns ns' n f same m)) in
      omega (
        arith,
        less,
        rank_same ns ns' n f same m,
        rank_same ns ns' n p' same inside,
        ap (λ j. rank_in (at ns j)) ep,
      );
}

-- a chain over nodes with the same numbers, locks and successors
pub chain_kept : (ns ns' : List Node) (n : ℕ) → SameRanks ns ns' n →
    ((e : ℕ) → e ≤ n → (at ns' e).next ≡ (at ns e).next) → IsChained ns n → IsChained ns' n
chain_kept ns ns' n same nexts c = record {
  top = ((same 0 (omega arith)).0 ∙ c.top.0, (same 0 (omega arith)).1 ∙ c.top.1);
  fits = λ e m. omega (arith, c.fits e m, (same e m).0);
  alone = λ e f z m y k num. c.alone e f z m y k (sym (same e m).0 ∙ num ∙ (same f k).0);
  next = λ e m. least_same ns ns' n _ _ _ _ same (after_same ns ns' n e same m) (nexts e m) (c.next e m);
}

-- a block without nodes
pub chain_none : (ns : List Node) → (at ns 0).number ≡ TOP → (at ns 0).lock ≡ TOP → (at ns 0).next ≡ 0 → IsChained ns 0
chain_none ns number lock next = record {
  top = (number, lock);
  fits = λ e m. (let is : e ≡ 0 = omega arith in omega (arith, ap (λ j. (at ns j).number) is, number));
  alone = λ e f z m. absurd (omega arith);
  next = λ e m.
      let is : e ≡ 0 = omega arith in
      let none : (at ns e).next ≡ 0 = ap (λ j. (at ns j).next) is ∙ next in
      record {
        none = λ _ f z k. absurd (omega arith);
        some = λ z. absurd (omega (arith, none));
        least = λ z. absurd (omega (arith, none));
      };
}

-- ---- a node more
-- node n + 1 has come behind node b, and all else is as before
pub record IsBehind (ns ns' : List Node) (n b : ℕ) : Type 0 where
  pub same : SameRanks ns ns' n
  pub others : (e : ℕ) → e ≤ n → e ≢ b → (at ns' e).next ≡ (at ns e).next
  pub before : (at ns' b).next ≡ n + 1
  pub here : (at ns' (n + 1)).next ≡ (at ns b).next

module _ (ns ns' : List Node) (n b : ℕ) (c : IsChained ns n) (h : IsBehind ns ns' n b)
    (fits : (at ns' (n + 1)).number ≤ TOP) (new : HasNoNumber ns n (at ns' (n + 1)).number)
    (is_before : IsBefore ns n (rank_in (at ns' (n + 1))) b) where
  abbrev x : ℕ
  x = rank_in (at ns' (n + 1))

  inside_b : b ≤ n
  inside_b = is_before.below.inside

  apart : (f : ℕ) → 0 < f → f ≤ n → rank_in (at ns f) ≢ x
  apart f z m e = new f z m (rank_number _ _ _ _ (c.fits f m) fits e).1

  -- the ranks that come behind b lie above the new one
  gap : (f : ℕ) → 0 < f → f ≤ n → least_after ns b ≤ rank_in (at ns f) → x < rank_in (at ns f)
  gap f z m up =
      let old = c.next b inside_b in
      elim (same_or (at ns b).next 0) [
        | inl none ↦ absurd (omega (arith, old.none none f z m))
        | inr some ↦ omega (arith, is_before.last (omega arith), old.least (omega arith) f z m up, apart f z m)
      ]

  -- a node other than b lies above the new rank, or leads to a node up to b
  side : (e : ℕ) → e ≤ n → e ≢ b → (x < least_after ns e) ⊎ ((0 < b) × (least_after ns e ≤ rank_in (at ns b)))
  side e m ne = elim (same_or b 0) [
    | inl root ↦ (
        let some : 0 < e = omega arith in
        let up = gap e some m (omega (arith, after_root ns b root)) in
        inl (omega (arith, up, after_node ns e some)))
    | inr other ↦ (
        let some_b : 0 < b = omega arith in
        elim (same_or e 0) [
          | inl first ↦ inr (some_b, omega (arith, after_root ns e first))
          | inr later ↦ (
              let some : 0 < e = omega arith in
              elim (cases_lt (rank_in (at ns e)) (rank_in (at ns b))) [
                | inl less ↦ inr (some_b, omega (arith, less, after_node ns e some))
                | inr more ↦ (
                    let apart_b : rank_in (at ns e) ≢ rank_in (at ns b) = λ is.
                    ne (c.alone e b some m some_b inside_b (rank_number _ _ _ _ (c.fits e m) (c.fits b inside_b) is).1)
                    in
                    let up = gap e some m (omega (arith, more, apart_b, after_node ns b some_b)) in
                    inl (omega (arith, up, after_node ns e some)))
              ])
        ])
  ]

  rank_kept : (e : ℕ) → e ≤ n → rank_in (at ns' e) ≡ rank_in (at ns e)
  rank_kept e m = rank_same ns ns' n e h.same m

  number_kept : (e : ℕ) → e ≤ n → (at ns' e).number ≡ (at ns e).number
  number_kept e m = (h.same e m).0

  next_here : Least ns' (n + 1) (x + 1) (at ns b).next
  next_here =
      let old = c.next b inside_b in
      let less = is_before.below.less in
      record {
        none = λ none f z m. elim (same_or f (n + 1)) [
          | inl is ↦ omega (arith, ap (λ j. rank_in (at ns' j)) is)
          | inr ne ↦ (let up = old.none none f z (omega arith) in omega (arith, up, rank_kept f (omega arith)))
        ];
        some = λ some. (
            let s = old.some some in
            let at_next = is_before.last some in
            let other = apart _ some s.0 in
            (omega (arith, s.0), omega (arith, at_next, other, rank_kept _ s.0)));
        least = λ some f z m up. elim (same_or f (n + 1)) [
          | inl is ↦ absurd (omega (arith, ap (λ j. rank_in (at ns' j)) is))
          | inr ne ↦ (
              let k : f ≤ n = omega arith in
              let r = rank_kept f k in
              let l = old.least some f z k (omega (arith, r)) in
              omega (arith, l, r, rank_kept _ (old.some some).0))
        ];
      }

  next_before : Least ns' (n + 1) (least_after ns b) (n + 1)
  next_before =
      let less = is_before.below.less in
      record {
        none = λ z. absurd (omega arith);
        some = λ z. (omega arith, less);
        least = λ z f y m up. elim (same_or f (n + 1)) [
          | inl is ↦ omega (arith, ap (λ j. rank_in (at ns' j)) is)
          | inr ne ↦ (
              let k : f ≤ n = omega arith in
              let r = rank_kept f k in
              let l = gap f y k (omega (arith, r)) in
              omega (arith, l, r))
        ];
      }

  next_other : (e : ℕ) → e ≤ n → e ≢ b → Least ns' (n + 1) (least_after ns e) (at ns e).next
  next_other e m ne =
      let old = c.next e m in
      let beside = side e m ne in
      record {
        none = λ none f z k. elim (same_or f (n + 1)) [
          | inl is ↦ elim beside [
            | inl above ↦ omega (arith, above, ap (λ j. rank_in (at ns' j)) is)
            | inr below ↦ absurd (omega (arith, old.none none b below.0 inside_b, below.1))
          ]
          | inr other ↦ (let l = old.none none f z (omega arith) in omega (arith, l, rank_kept f (omega arith)))
        ];
        some = λ some. (let s = old.some some in (omega (arith, s.0), omega (arith, s.1, rank_kept _ s.0)));
        least = λ some f z k up.
            let kept = rank_kept _ (old.some some).0 in
            elim (same_or f (n + 1)) [
              | inl is ↦ (
                  let at_new : rank_in (at ns' f) ≡ x = ap (λ j. rank_in (at ns' j)) is in
                  elim beside [
                    | inl above ↦ absurd (omega (arith, above, at_new, up))
                    | inr below ↦ (
                        let l = old.least some b below.0 inside_b below.1 in
                        let less = is_before.below.less in
                        omega (arith, l, kept, at_new, less, after_node ns b below.0))
                  ])
              | inr other ↦ (
                  let j : f ≤ n = omega arith in
                  let r = rank_kept f j in
                  let l = old.least some f z j (omega (arith, r, up)) in
                  omega (arith, l, r, kept))
            ];
      }

  pub chain_more : IsChained ns' (n + 1)
  chain_more = record {
    top = ((h.same 0 (omega arith)).0 ∙ c.top.0, (h.same 0 (omega arith)).1 ∙ c.top.1);
    fits = λ e m. elim (same_or e (n + 1)) [
      | inl is ↦ omega (arith, fits, ap (λ j. (at ns' j).number) is)
      | inr ne ↦ (let k : e ≤ n = omega arith in omega (arith, c.fits e k, number_kept e k))
    ];
    alone = λ e f z m y k num. elim (same_or e (n + 1)) [
      | inl is ↦ elim (same_or f (n + 1)) [
        | inl is' ↦ is ∙ sym is'
        | inr ne ↦ absurd (new f y (omega arith) (sym (number_kept f (omega arith)) ∙ sym num ∙
            ap (λ j. (at ns' j).number) is))
      ]
      | inr ne ↦ elim (same_or f (n + 1)) [
        | inl is' ↦ absurd (new e z (omega arith) (sym (number_kept e (omega arith)) ∙ num ∙
            ap (λ j. (at ns' j).number) is'))
        | inr ne' ↦ c.alone e f z (omega arith) y (omega arith) (sym (number_kept e (omega arith)) ∙ num ∙
            number_kept f (omega arith))
      ]
    ];
    next = λ e m. elim (same_or e (n + 1)) [
      | inl is ↦
          let next : (at ns' e).next ≡ (at ns b).next = ap (λ j. (at ns' j).next) is ∙ h.here in
          let low : least_after ns' e ≡ x + 1 = after_node ns' e (omega arith) ∙ ap (λ j. rank_in (at ns' j) + 1) is in
          subst (λ l. Least ns' (n + 1) l (at ns' e).next) (sym low)
          (subst (λ p. Least ns' (n + 1) (x + 1) p) (sym next) next_here)
      | inr old ↦
          let k : e ≤ n = omega arith in
          let low : least_after ns' e ≡ least_after ns e = after_same ns ns' n e h.same k in
          subst (λ l. Least ns' (n + 1) l (at ns' e).next) (sym low) (elim (same_or e b) [
            | inl is ↦
                let next : (at ns' e).next ≡ n + 1 = ap (λ j. (at ns' j).next) is ∙ h.before in
                subst (λ p. Least ns' (n + 1) (least_after ns e) p) (sym next)
                (subst (λ j. Least ns' (n + 1) (least_after ns j) (n + 1)) (sym is) next_before)
            | inr ne ↦ subst (λ p. Least ns' (n + 1) (least_after ns e) p) (sym (h.others e k ne)) (next_other e k ne)
          ])
    ];
  }
