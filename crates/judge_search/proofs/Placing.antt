-- The places of a path are made each once.
use Rattle.std.proofs.Common.{◌≡◌, ℕ, ◌+◌, ◌<◌, ◌≤◌, ◌==◌, ◌||◌, Bool, true, false, cond, List, [], ◌∷◌, ◌++◌}
use Rattle.std.proofs.Common.{refl, sym, ap, ◌∙◌, subst, arith, append_assoc}
use Rattle.std.specs.List.{list_any, sum_by}
use Rattle.std.proofs.lemmas.Bool.Decides.{nat_tests}
use Rattle.std.proofs.lemmas.List.Folds.{list_any-append}
use Rattle.std.proofs.lemmas.List.Sums.{sum_by-append, sum_by-cons}
use Rattle.std.proofs.lemmas.List.Elements.{All-append, All-cons, All-nil}
use Rattle.judge_search.specs.declared.path.Frame.{Frame}
use Rattle.judge_search.specs.Views.{Views}
use Rattle.judge_search.specs.Walking.{AreDistinct, AreMade, AreMadeBy, places_of}

-- how often a number stands in a list
abbrev pub times : ℕ → List ℕ → ℕ
times n ns = sum_by (λ o. cond (o == n) 1 0) ns

has_none : (n : ℕ) (ns : List ℕ) → list_any (λ o. o == n) ns ≡ false → times n ns ≡ 0
has_none n [] h = refl
has_none n (x ∷ xs) h = go (x == n) refl h (has_none n xs)
  where
    false_true : true ≡ false → ⊥
    false_true e = cc

    go : (b : Bool) → (x == n) ≡ b → (b || list_any (λ o. o == n) xs) ≡ false →
        (list_any (λ o. o == n) xs ≡ false → times n xs ≡ 0) → times n (x ∷ xs) ≡ 0
    go true e g more = absurd (false_true g)
    go false e g more = let one : times n (x ∷ xs) ≡ cond {A = ℕ} (x == n) 1 0 + times n xs =
        sum_by-cons (λ o. cond (o == n) 1 0) x xs in
        let none : cond {A = ℕ} (x == n) 1 0 ≡ 0 = ap (λ (b : Bool). cond {A = ℕ} b 1 0) e in let rest = more g in
        omega arith

pub distinct_none : AreDistinct []
distinct_none n = omega arith

-- one more that is not there
pub distinct_more : (ns : List ℕ) (p : ℕ) → AreDistinct ns → list_any (λ o. o == p) ns ≡ false →
    AreDistinct (ns ++ p ∷ [])
distinct_more ns p h f n =
    let all : times n (ns ++ p ∷ []) ≡ times n ns + cond (p == n) 1 0 =
    sum_by-append (λ o. cond (o == n) 1 0) ns (p ∷ []) ∙ ap (λ k. times n ns + k)
    (sum_by-cons (λ o. cond (o == n) 1 0) p []) ∙ omega arith in
    go (p == n) refl all
  where
    go : (b : Bool) → (p == n) ≡ b → times n (ns ++ p ∷ []) ≡ times n ns + cond (p == n) 1 0 →
        times n (ns ++ p ∷ []) ≤ 1
    go true e all =
        let same : p ≡ n = grind (arith, nat_tests) in
        let none : times n ns ≡ 0 = subst (λ k. times k ns ≡ 0) same (has_none p ns f) in
        let one : times n (ns ++ p ∷ []) ≡ times n ns + 1 = all ∙ ap (λ b. times n ns + cond b 1 0) e in omega arith
    go false e all =
        let one : times n (ns ++ p ∷ []) ≡ times n ns + 0 = all ∙ ap (λ b. times n ns + cond b 1 0) e in
        let old : times n ns ≤ 1 = h n in omega arith

or_none : (a b : Bool) → (a || b) ≡ false → b ≡ false
or_none true b h = absurd (true_false h)
  where
    true_false : true ≡ false → ⊥
    true_false e = cc
or_none false b h = h

or_assoc : (a b c : Bool) → ((a || b) || c) ≡ (a || (b || c))
or_assoc true b c = refl
or_assoc false b c = refl

or_false : (b : Bool) → (b || false) ≡ b
or_false true = refl
or_false false = refl

swap : (a b : ℕ) → (a == b) ≡ (b == a)
swap a b = go (a == b) refl
  where
    go : (x : Bool) → (a == b) ≡ x → x ≡ (b == a)
    go true e = grind (arith, nat_tests)
    go false e = grind (arith, nat_tests)

-- a number is in a list with one more where it is in the list or is that one
pub any_more : (places : List ℕ) (place p : ℕ) →
    list_any (λ o. o == p) (places ++ place ∷ []) ≡ (list_any (λ o. o == p) places || p == place)
any_more places place p =
    list_any-append (λ o. o == p) places (place ∷ [])
    ∙ ap (λ b. list_any (λ o. o == p) places || b) (or_false (place == p) ∙ swap place p)

module _ {P S O : Type 0} where
  -- no call has a place besides those that had one
  pub made_none : (views : Views P S O) (point : P) → AreMade views (views.made point) [] point
  made_none views point = record {
    made = λ p. sym (or_false (views.made point p));
    distinct = distinct_none;
    within = All-nil (λ p. p < views.count);
  }

  -- one call more
  pub made_one : (views : Views P S O) (first : ℕ → Bool) (places : List ℕ) (point next : P) (place : ℕ) →
      AreMade views first places point
      → views.made point place ≡ false → place < views.count →
      ((p : ℕ) → views.made next p ≡ (views.made point p || p == place)) →
      AreMade views first (places ++ place ∷ []) next
  made_one views first places point next place h left within more = record {
    made = λ p.
        more p ∙ ap (λ b. b || p == place) (h.made p) ∙ or_assoc (first p) (list_any (λ o. o == p) places) (p == place)
        ∙ ap (λ b. first p || b) (sym (any_more places place p));
    distinct = distinct_more places place h.distinct (or_none (first place) (list_any (λ o. o == place) places)
        (sym (h.made place) ∙ left));
    within = All-append (λ p. p < views.count) places (place ∷ []) h.within
        (All-cons (λ p. p < views.count) place [] within (All-nil (λ p. p < views.count)));
  }

  -- the places along a path
  pub made_all : (views : Views P S O) (first : ℕ → Bool) (places : List ℕ) (path : List (Frame P)) (point : P)
      → AreMadeBy views first places path point → AreMade views first (places ++ places_of path) point
  made_all views first places [] point h = subst (λ ps. AreMade views first ps point) (sym (none places)) h
    where
      none : (l : List ℕ) → l ++ [] ≡ l
      none [] = refl
      none (x ∷ xs) = ap (λ l. x ∷ l) (none xs)
  made_all views first places (f ∷ path) point h =
      subst (λ ps. AreMade views first ps point) (append_assoc places (f.place ∷ []) (places_of path))
      (made_all views first (places ++ f.place ∷ []) path point h.1)

  -- a place more, and a place less
  pub made_push : (views : Views P S O) (first : ℕ → Bool) (places : List ℕ) (path : List (Frame P))
      (frame : Frame P) (next : P)
      → AreMadeBy views first places path frame.point → views.made frame.point frame.place ≡ false →
      frame.place < views.count
      → ((p : ℕ) → views.made next p ≡ (views.made frame.point p || p == frame.place)) →
      AreMadeBy views first places (path ++ frame ∷ []) next
  made_push views first places [] frame next h left within more =
      (h, made_one views first places frame.point next frame.place h left within more)
  made_push views first places (f ∷ path) frame next h left within more =
      (h.0, made_push views first (places ++ f.place ∷ []) path frame next h.1 left within more)

  pub made_pop : (views : Views P S O) (first : ℕ → Bool) (places : List ℕ) (path : List (Frame P))
      (frame : Frame P) (point : P)
      → AreMadeBy views first places (path ++ frame ∷ []) point → AreMadeBy views first places path frame.point
  made_pop views first places [] frame point h = h.0
  made_pop views first places (f ∷ path) frame point h = (
    h.0,
    made_pop views first (places ++ f.place ∷ []) path frame point h.1,
  )
