-- The lines as they are kept are those that were read.
use Rattle.std.proofs.Common.{◌≡◌, ℕ, ◌+◌, ◌-◌, ◌<◌, ◌≤◌, ◌==◌, Bool, true, false, cond, List, [], ◌∷◌, ◌++◌}
use Rattle.std.proofs.Common.{length, map, get_or, refl, sym, ap, ◌∙◌, subst, arith, append_assoc}
use Rattle.std.specs.Prelude.{All, IsPermutation}
use Rattle.std.proofs.lemmas.Bool.Decides.{nat_tests}
use Rattle.std.proofs.lemmas.List.Elements.{All-cons, All-head, All-tail, All-nil}
use Rattle.std.proofs.lemmas.List.Sums.{sum_by-cons}
use Rattle.std.proofs.lemmas.List.Sorted.{All-permutation, IsPermutation-map, sum_by-IsPermutation}
use Rattle.judge_object.specs.declared.line.Line.{Line}
use Rattle.judge_object.specs.Orders.{IsMerge}
use Rattle.judge_search.specs.Walking.{AreDistinct}
use Rattle.judge_search.specs.Calls.{call_of, calls_of, no_call, soonest_of}
use Rattle.judge_linear.specs.Reading.{texts_of, numbers_of, AreNumbered, IsLineAt, AreKeptLines}
use Rattle.judge_search.specs.Sorting.{AreSortOf}
use Rattle.judge_search.proofs.Placing.{times}
use Rattle.vac_model.specs.declared.tasks.Task.{Task}
use Rattle.judge_reservations.specs.Reserving.{reserving}

-- what stands behind a front
get_behind : {X Y : Type 0} (f : X → Y) (front : List X) (x : X) (more : List X) (d : Y) →
    get_or (map f (front ++ x ∷ more)) (length front) d ≡ f x
get_behind f [] x more d = refl
get_behind f (y ∷ ys) x more d = get_behind f ys x more d

long_behind : {X : Type 0} (front : List X) (x : X) (more : List X) → length front + 1 ≤ length (front ++ x ∷ more)
long_behind [] x more = omega arith
long_behind (y ∷ ys) x more = let l = long_behind ys x more in omega arith

one_longer : {X : Type 0} (front : List X) (x : X) → length (front ++ x ∷ []) ≡ length front + 1
one_longer [] x = refl
one_longer (y ∷ ys) x = let l = one_longer ys x in omega arith

-- each line is the one that has its number
lines_behind : (front lines : List (Line Task)) → AreNumbered (1 + length front) lines →
    All (IsLineAt (front ++ lines)) lines
lines_behind front [] h = All-nil (IsLineAt (front ++ []))
lines_behind front (l ∷ ls) h =
    let at : l.number - 1 ≡ length front = (let n = h.0 in omega arith) in
    All-cons (IsLineAt (front ++ l ∷ ls)) l ls (record {
      first = (let n = h.0 in omega arith);
      last = (let n = h.0 in let long = long_behind front l ls in omega arith);
      text = ap (λ i. get_or (texts_of (front ++ l ∷ ls)) i []) at ∙
          get_behind (λ (x : Line Task). x.text.items) front l ls [];
      call = ap (λ i. get_or (calls_of (front ++ l ∷ ls)) i (no_call reserving)) at ∙ get_behind call_of front l ls
          (no_call reserving);
    })
    (subst (λ whole. All (IsLineAt whole) ls) (append_assoc front (l ∷ []) ls)
    (lines_behind (front ++ l ∷ []) ls (subst (λ n. AreNumbered n ls) (let long = one_longer front l in
    omega arith) h.1)))

each_read : (lines : List (Line Task)) → AreNumbered 1 lines → All (IsLineAt lines) lines
each_read lines h = lines_behind [] lines h

-- the same where it says from when on it and those after it begin
pub at_soonest : (lines sorted : List (Line Task)) → All (IsLineAt lines) sorted →
    All (IsLineAt lines) (soonest_of sorted)
at_soonest lines [] h = h
at_soonest lines (l ∷ ls) h =
    let own = All-head (IsLineAt lines) l ls h in
    All-cons (IsLineAt lines) _ (soonest_of ls) (record {
      first = own.first;
      last = own.last;
      text = own.text;
      call = own.call;
    })
    (at_soonest lines ls (All-tail (IsLineAt lines) l ls h))

pub numbers_soonest : (lines : List (Line Task)) → numbers_of (soonest_of lines) ≡ numbers_of lines
numbers_soonest [] = refl
numbers_soonest (l ∷ ls) = ap (λ ns. l.number ∷ ns) (numbers_soonest ls)

-- no number stands twice
pub times_cons : (x y : ℕ) (ys : List ℕ) → times x (y ∷ ys) ≡ cond {A = ℕ} (y == x) 1 0 + times x ys
times_cons x y ys = sum_by-cons (λ o. cond (o == x) 1 0) y ys

numbers_above : (x n : ℕ) (lines : List (Line Task)) → AreNumbered n lines → x < n → times x (numbers_of lines) ≡ 0
numbers_above x n [] h l = refl
numbers_above x n (y ∷ ys) h l =
    let none : (y.number == x) ≡ false = (let e = h.0 in grind (arith, nat_tests)) in
    let zero : cond {A = ℕ} (y.number == x) 1 0 ≡ 0 = ap (λ (b : Bool). cond {A = ℕ} b 1 0) none in
    let rest = numbers_above x (n + 1) ys h.1 (omega arith) in
    let all = times_cons x y.number (numbers_of ys) in omega arith

numbers_once : (n : ℕ) (lines : List (Line Task)) → AreNumbered n lines → AreDistinct (numbers_of lines)
numbers_once n [] h x = omega arith
numbers_once n (y ∷ ys) h x = go (y.number == x) refl (numbers_once (n + 1) ys h.1 x)
    (λ e. numbers_above x (n + 1) ys h.1 (let m = h.0 in omega arith))
  where
    go : (b : Bool) → (y.number == x) ≡ b → times x (numbers_of ys) ≤ 1 → (y.number ≡ x → times x (numbers_of ys) ≡ 0) →
        times x (y.number ∷ numbers_of ys) ≤ 1
    go true e old none =
        let one : cond {A = ℕ} (y.number == x) 1 0 ≡ 1 = ap (λ (b : Bool). cond {A = ℕ} b 1 0) e in
        let rest = none (grind (arith, nat_tests)) in
        let all = times_cons x y.number (numbers_of ys) in omega arith
    go false e old none =
        let zero : cond {A = ℕ} (y.number == x) 1 0 ≡ 0 = ap (λ (b : Bool). cond {A = ℕ} b 1 0) e in
        let all = times_cons x y.number (numbers_of ys) in omega arith

pub distinct_sorted : (ns ms : List ℕ) → IsPermutation ns ms → AreDistinct ns → AreDistinct ms
distinct_sorted ns ms p h x = subst (λ k. k ≤ 1) (sym (sum_by-IsPermutation (λ o. cond (o == x) 1 0) ns ms p)) (h x)

-- lines that are sorted are kept
pub kept_lines : (lines kept : List (Line Task)) → AreNumbered 1 lines → IsMerge (calls_of lines) (calls_of kept) →
    AreSortOf lines kept → AreKeptLines lines kept
kept_lines lines kept n m s =
    subst (AreKeptLines lines) (sym s.2) (record {
      merges = subst (λ (k : List (Line Task)). IsMerge (calls_of lines) (calls_of k)) s.2 m;
      each = at_soonest lines s.0 (All-permutation (IsLineAt lines) lines s.0 s.1 (each_read lines n));
      distinct = subst AreDistinct (sym (numbers_soonest s.0))
          (distinct_sorted (numbers_of lines) (numbers_of s.0)
          (IsPermutation-map (λ (l : Line Task). l.number) lines s.0 s.1) (numbers_once 1 lines n));
    })
