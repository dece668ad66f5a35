-- The words of a heap whose lists have a piece of it each, as far as they are written.
use Rattle.std.proofs.lemmas.Bool.Decides.{nat_tests}
use Rattle.std.proofs.Common.{◌≡◌, ◌≢◌, inl, inr, ℕ, ◌+◌, ◌*◌, ◌<◌, ◌≤◌, List, ◌++◌, take, drop, length, get_or, set}
use Rattle.std.proofs.Common.{length-set, get_or-set_same, get_or-set_other, add-one, refl, sym, ap, ◌∙◌, subst, arith}
use Rattle.std.proofs.Common.{zero, suc}
use Rattle.std.proofs.lemmas.Grind.{common_steps}
use Rattle.std.proofs.lemmas.Bool.{cases_lt}
use Rattle.tx_alloc.specs.Pool.{place_of_block}
use Rattle.tx_alloc.specs.Spread.{IsLinked, IsSpreadHeap, share_of_list, spread_start}
use Rattle.tx_alloc.proofs.Empty.{eight_lists}

-- the blocks from first on, before upto, were linked
pub record Linking (xs ys : List ℕ) (list first end upto : ℕ) : Type 0 where
  pub size : length ys ≡ length xs
  pub head : get_or ys (8 + list) 0 ≡ place_of_block end first
  pub nexts : (b : ℕ) → first ≤ b → b < upto → get_or ys (16 + 8 * b) 0 ≡ place_of_block end (b + 1)
  pub others : (x : ℕ) → x ≢ 8 + list → ((b : ℕ) → first ≤ b → b < upto → x ≢ 16 + 8 * b) →
      get_or ys x 0 ≡ get_or xs x 0

pub linking_start : (xs : List ℕ) (list first end v : ℕ) → list < 8 → 16 ≤ length xs → v ≡ place_of_block end first →
    Linking xs (set xs (8 + list) v) list first end first
linking_start xs list first end v l room e = record {
  size = length-set xs (8 + list) v;
  head = get_or-set_same xs (8 + list) v 0 (omega arith) ∙ e;
  nexts = λ b ge less. absurd (omega arith);
  others = λ x ne _. get_or-set_other xs (8 + list) x v 0 ne;
}

pub linking_step : (xs ys : List ℕ) (list first end b v : ℕ) → list < 8 → Linking xs ys list first end b → first ≤ b →
    b < end → 16 + 8 * end ≤ length xs → v ≡ place_of_block end (b + 1) →
    Linking xs (set ys (16 + 8 * b) v) list first end (b + 1)
linking_step xs ys list first end b v l h ge less room e =
    let inside : 16 + 8 * b < length ys = omega (arith, h.size) in
    record {
      size = length-set ys (16 + 8 * b) v ∙ h.size;
      head = get_or-set_other ys (16 + 8 * b) (8 + list) v 0 (omega arith) ∙ h.head;
      nexts = λ c from under. elim (cases_lt c b) [
        | inl below ↦ get_or-set_other ys (16 + 8 * b) (16 + 8 * c) v 0 (omega arith) ∙ h.nexts c from below
        | inr here ↦ (
            let q : b ≡ c = omega arith in
            subst (λ (x : ℕ). get_or (set ys (16 + 8 * b) v) (16 + 8 * x) 0 ≡ place_of_block end (x + 1)) q
            (get_or-set_same ys (16 + 8 * b) v 0 inside ∙ e))
      ];
      others = λ x ne away. get_or-set_other ys (16 + 8 * b) x v 0 (away b ge (omega arith)) ∙
          h.others x ne (λ c from under. away c from (omega arith));
    }

pub linked : (xs ys : List ℕ) (list first end upto : ℕ) → Linking xs ys list first end upto → upto ≡ end →
    IsLinked xs ys list first end
linked xs ys list first end upto h e = record {
  size = h.size;
  head = h.head;
  nexts = λ b ge less. h.nexts b ge (omega arith);
  others = λ x ne away. h.others x ne (λ b ge less. away b ge (omega arith));
}

-- where a list starts
pub start_next : (n i : ℕ) → spread_start n (i + 1) ≡ share_of_list n i + spread_start n i
start_next n i = rw (add-one i) refl

pub start_grows : (n i j : ℕ) → i ≤ j → spread_start n i ≤ spread_start n j
start_grows n i zero l = let e : i ≡ 0 = omega arith in omega (arith, ap (spread_start n) e)
start_grows n i (suc j) l =
    elim (cases_lt j i) [
      | inl here ↦ (let e : i ≡ suc j = omega arith in omega (arith, ap (spread_start n) e))
      | inr below ↦ omega (arith, start_grows n i j below)
    ]

pub start_all : (n : ℕ) → spread_start n 8 ≡ n
start_all n = eight_lists n

-- the first i lists were written
pub record Spreading (xs : List ℕ) (n i first : ℕ) : Type 0 where
  pub size : length xs ≡ 16 + 8 * n
  pub start : first ≡ spread_start n i
  pub heads : (j : ℕ) → j < i → get_or xs (8 + j) 0 ≡ place_of_block (spread_start n (j + 1)) (spread_start n j)
  pub nexts : (j b : ℕ) → j < i → spread_start n j ≤ b → b < spread_start n (j + 1) →
      get_or xs (16 + 8 * b) 0 ≡ place_of_block (spread_start n (j + 1)) (b + 1)
  pub others : (x : ℕ) → ((j : ℕ) → j < i → x ≢ 8 + j) → ((b : ℕ) → b < first → x ≢ 16 + 8 * b) → get_or xs x 0 ≡ 0

-- where the next list ends
pub end_of : (xs : List ℕ) (n i first end : ℕ) → Spreading xs n i first → i < 8 → end ≡ first + share_of_list n i →
    (end ≡ spread_start n (i + 1)) × (first ≤ end) × (end ≤ n)
end_of xs n i first end h l e = grind (arith, nat_tests, start_next n i, start_grows n (i + 1) 8, start_all n)

pub spread_step : (xs ys : List ℕ) (n i first end : ℕ) → Spreading xs n i first → i < 8 →
    end ≡ first + share_of_list n i →
    IsLinked xs ys i first end → Spreading ys n (i + 1) end
spread_step xs ys n i first end h l e k =
    let ends = end_of xs n i first end h l e in
    record {
      size = k.size ∙ h.size;
      start = ends.0;
      heads = λ j less. elim (cases_lt j i) [
        | inl below ↦ k.others (8 + j) (omega arith) (λ b _ _. omega arith) ∙ h.heads j below
        | inr here ↦ (
            let q : i ≡ j = omega arith in
            subst (λ (x : ℕ). get_or ys (8 + x) 0 ≡ place_of_block (spread_start n (x + 1)) (spread_start n x)) q
            (k.head ∙ (ap (λ (x : ℕ). place_of_block x first) ends.0 ∙
            ap (place_of_block (spread_start n (i + 1))) h.start)))
      ];
      nexts = λ j b less ge under. elim (cases_lt j i) [
        | inl below ↦ (
            let before : b < first = omega (arith, under, start_grows n (j + 1) i (omega arith), h.start) in
            k.others (16 + 8 * b) (omega arith) (λ c from _. omega arith) ∙ h.nexts j b below ge under)
        | inr here ↦ (
            let q : j ≡ i = omega arith in
            let at : spread_start n (j + 1) ≡ end = ap (λ (x : ℕ). spread_start n (x + 1)) q ∙ sym ends.0 in
            let from : first ≤ b = omega (arith, ge, ap (spread_start n) q, h.start) in
            k.nexts b from (omega (arith, under, at)) ∙ ap (λ (x : ℕ). place_of_block x (b + 1)) (sym at))
      ];
      others = λ x heads blocks. k.others x (heads i (omega arith)) (λ b _ less. blocks b less) ∙
          h.others x (λ j less. heads j (omega arith)) (λ b less. blocks b (omega (arith, ends.1)));
    }

pub spread_end : (xs : List ℕ) (n i first : ℕ) → Spreading xs n i first → i ≡ 8 → IsSpreadHeap xs n
spread_end xs n i first h e = record {
  size = h.size;
  heads = λ j less. h.heads j (omega arith);
  nexts = λ j b less ge under. h.nexts j b (omega arith) ge under;
  others = λ x heads blocks. h.others x (λ j less. heads j (omega arith))
      (λ b less. blocks b (omega (arith, less, h.start, ap (spread_start n) e, start_all n)));
}

-- the words of a slice of all of a vector, written back
pub written_back : (xs ys zs : List ℕ) (n : ℕ) → zs ≡ xs → length ys ≡ length zs → n ≡ length xs →
    take n (ys ++ drop (length ys) xs) ≡ ys
written_back xs ys zs n e size all = grind (arith, common_steps)
