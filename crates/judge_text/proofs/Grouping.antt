-- The lines of each object, while lines are put into runs one after the other.
use Rattle.std.proofs.Common.{◌≡◌, ◌≢◌, ℕ, ◌+◌, ◌<◌, Option, Some, None, List, [], ◌∷◌, ◌++◌, length}
use Rattle.std.proofs.Common.{get_or, append-nil, append_assoc, refl, sym, ap, ◌∙◌, subst, inl, inr, arith, rules}
use Rattle.std.specs.Vec.Iter.{into_iter_items, into_iter_len}
use Rattle.std.specs.Prelude.{◌⊎◌, IsSome}
use Rattle.std.specs.Global.{Vec}
use Rattle.std.specs.BTreeMap.{BTreeMap, Updates}
use Rattle.std.specs.Ordering.{nat_cmp}
use Rattle.std.specs.Cmp.Lexicographic.{slice_cmp}
use Rattle.std.specs.BTreeMap.{is_at}
use Rattle.std.specs.Map.{lookup}
use Rattle.std.proofs.lemmas.Bool.{cases_lt}
use Rattle.std.proofs.lemmas.List.{length-append, get_or_append_left}
use Rattle.judge_object.specs.declared.line.Line.{Line}
use Rattle.judge_text.specs.declared.numbers.Numbers.{Numbers}
use Rattle.judge_text.specs.Numbers.{AreNumbered, HasNumber, number_in, name_in, name_of_number}
use Rattle.judge_search.proofs.Soonest.{same_default}
use Rattle.judge_text.specs.Runs.{name_of, name_at, lines_for, run_in, IsRunFor, AreEmpty, HasOneMore}
use Rattle.judge_text.specs.Runs.{AreNumbersOf, AreRunsOf, AreNamedRuns, AreRunsByName}
use Rattle.judge_text.proofs.OfOne.{named}
use Rattle.judge_text.proofs.Beginnings.{vec_cmp, set_finds}
use Rattle.judge_text.proofs.Classing.{seam, some_none, some_same}
use Rattle.judge_text.proofs.ByNames.{for_append, for_none}

-- the first of what is left goes over
pub one_on : {A : Type 0} (all xs left rest : List A) (x : A) → all ≡ xs ++ left → left ≡ x ∷ rest →
    all ≡ (xs ++ x ∷ []) ++ rest
one_on all xs left rest x e f = e ∙ ap (λ (l : List _). xs ++ l) f ∙ sym (append_assoc xs (x ∷ []) rest)

-- nothing is left
pub all_over : {A : Type 0} (all xs left : List A) → all ≡ xs ++ left → length left ≡ 0 → xs ≡ all
all_over all xs [] e n = sym (e ∙ append-nil xs)
all_over all xs (x ∷ left) e n = absurd (omega arith)

pub nothing_left : {A Z : Type 0} (it : _) → into_iter_len {X = A} {Z = Z} it ≡ 0 → length (into_iter_items it) ≡ 0
nothing_left it e = search rules

-- the element that goes over
pub one_here : {A : Type 0} (all xs left rest : List A) (x d : A) (place : ℕ) → all ≡ xs ++ left → left ≡ x ∷ rest →
    place ≡ length xs → (place < length all) × (get_or all place d ≡ x)
one_here all xs left rest x d place e f at =
    let is : all ≡ xs ++ x ∷ rest = e ∙ ap (λ (l : List _). xs ++ l) f in (
      (let n = ap length is in let m = length-append xs (x ∷ rest) in omega arith),
      ap (λ (l : List _). get_or l place d) is ∙ ap (λ i. get_or (xs ++ x ∷ rest) i d) at ∙ middle xs rest x d,
    )
  where
    middle : {A : Type 0} (xs rest : List A) (x d : A) → get_or (xs ++ x ∷ rest) (length xs) d ≡ x
    middle [] rest x d = refl
    middle (y ∷ xs) rest x d = middle xs rest x d

-- one more has gone over
pub one_more : {A : Type 0} (xs : List A) (x : A) (place : ℕ) → place ≡ length xs → place + 1 ≡ length (xs ++ x ∷ [])
one_more xs x place at = let m = length-append xs (x ∷ []) in omega arith

below : (n m : ℕ) → n < m + 1 → (n < m) ⊎ (n ≡ m)
below n m l =
    elim (cases_lt n m) [
      | inl k ↦ inl k
      | inr k ↦ inr (omega arith)
    ]

-- these are the numbers of the objects of the lines before a place
abbrev pub AreFoundTo : {O : Type 0} → (O → List ℕ) → Numbers → List (Line O) → List ℕ → ℕ → Type 0
AreFoundTo {O} name numbers lines found place = (i : ℕ) (d : Line O) → i < place →
    HasNumber numbers (name_at name lines i d) (get_or found i 0)

-- one number more was found
pub numbers_more : {O : Type 0} (name : O → List ℕ) (old new : Numbers) (lines : List (Line O)) (found : List ℕ)
    (place number : ℕ) (line : Line O) → length found ≡ place →
    ((k : List ℕ) (n : ℕ) → HasNumber old k n → HasNumber new k n) →
    AreFoundTo name old lines found place → place < length lines →
    HasNumber new (name_at name lines place line) number → AreFoundTo name new lines (found ++ number ∷ []) (place + 1)
numbers_more name old new lines found place number line long kept each within last i d l =
    elim (below i place l) [
      | inl k ↦
          subst (HasNumber new (name_at name lines i d))
          (sym (get_or_append_left found (number ∷ []) 0 i (omega arith)))
          (kept (name_at name lines i d) (get_or found i 0) (each i d k))
      | inr e ↦
          subst (HasNumber new (name_at name lines i d)) (sym (seam found i number 0 (e ∙ sym long)))
          (subst (λ j. HasNumber new (name_at name lines j d) number) (sym e)
          (subst (λ one. HasNumber new one number)
          (ap (name_of name) (same_default lines place line d within)) last))
    ]

module _ {O : Type 0} (names : List (Vec ℕ)) where
  pub named_none : (named_ : BTreeMap (Vec ℕ) (Vec (Line O))) → named_.entries ≡ [] → AreNamedRuns names [] named_
  named_none named_ e = record {
    found = λ k run is.
        absurd (some_none run (sym is ∙ ap (lookup (is_at (λ (key : Vec ℕ). slice_cmp nat_cmp k key.items))) e));
    listed = λ n l. absurd (omega arith);
  }

  pub named_more : (runs : List (Vec (Line O))) (run : Vec (Line O)) (old new : BTreeMap (Vec ℕ) (Vec (Line O)))
      (key : Vec ℕ) → AreNamedRuns names runs old → key.items ≡ name_in names (length runs) →
      Updates vec_cmp old new key (Some run) → AreNamedRuns names (runs ++ run ∷ []) new
  named_more runs run old new key h is u = record {
    found = λ k other e.
        elim (named k key.items) [
          | inl same ↦
              let at : run_in new k ≡ Some run = ap (run_in new) same.1 ∙ u.1 in
              let is_run : run ≡ other = some_same run other (sym at ∙ e) in (
                length runs,
                longer,
                sym (same.1 ∙ is),
                (λ d. seam runs (length runs) run d refl ∙ is_run),
              )
          | inr apart ↦
              let was = h.found k other (sym (set_finds old new key (Some run) u k apart.1) ∙ e) in (
                was.0,
                (let l = was.1 in let m = longer in omega arith),
                was.2,
                (λ d. get_or_append_left runs (run ∷ []) d was.0 was.1 ∙ was.3 d),
              )
        ];
    listed = λ n l.
        elim (named (name_in names n) key.items) [
          | inl same ↦ subst IsSome (sym (ap (run_in new) same.1 ∙ u.1)) refl
          | inr apart ↦
              elim (below n (length runs) (let e = length-append runs (run ∷ []) in omega arith)) [
                | inl k ↦
                    subst IsSome (sym (set_finds old new key (Some run) u (name_in names n) apart.1))
                    (h.listed n k)
                | inr e ↦ absurd (apart.1 (ap (name_in names) e ∙ sym is))
              ]
        ];
  }
    where
      longer : length runs < length (runs ++ run ∷ [])
      longer = let e = length-append runs (run ∷ []) in omega arith

module _ {O : Type 0} (name : O → List ℕ) where
  -- each run has the lines for its object among the first lines
  abbrev pub AreSoFar : List (Vec ℕ) → List (Line O) → List (Vec (Line O)) → Type 0
  AreSoFar names lines runs = (n : ℕ) (d : Vec (Line O)) → n < length runs →
      (get_or runs n d).items ≡ lines_for name (name_in names n) lines

  pub so_far_none : (names : List (Vec ℕ)) (count : ℕ) (runs : List (Vec (Line O))) → AreEmpty count runs →
      AreSoFar names [] runs
  so_far_none names count runs h n d l = h.each n d l

  no_more : (l : List (Line O)) → l ++ [] ≡ l
  no_more [] = refl
  no_more (x ∷ xs) = ap (λ l. x ∷ l) (no_more xs)

  own_line : (k : List ℕ) (line : Line O) → name line.op ≡ k → lines_for name k (line ∷ []) ≡ line ∷ []
  own_line k line e =
      elim (named (name line.op) k) [
        | inl n ↦ rw n.0 refl
        | inr n ↦ absurd (n.1 e)
      ]

  other_line : (k : List ℕ) (line : Line O) → (name line.op ≡ k → ⊥) → lines_for name k (line ∷ []) ≡ []
  other_line k line e =
      elim (named (name line.op) k) [
        | inl n ↦ absurd (e n.1)
        | inr n ↦ rw n.0 refl
      ]

  same_number : (numbers : Numbers) → AreNumbered numbers → (a b : ℕ) → a < length numbers.names.items →
      b < length numbers.names.items → name_of_number numbers a ≡ name_of_number numbers b → a ≡ b
  same_number numbers formed a b k l e =
      some_same a b (sym (formed.listed a k) ∙ ap (number_in numbers) e ∙ formed.listed b l)

  pub so_far_more : (numbers : Numbers) (lines : List (Line O)) (line : Line O) (number : ℕ)
      (old new : List (Vec (Line O))) → AreNumbered numbers → HasNumber numbers (name line.op) number →
      length old ≡ length numbers.names.items → HasOneMore number line old new →
      AreSoFar numbers.names.items lines old →
      AreSoFar numbers.names.items (lines ++ line ∷ []) new
  so_far_more numbers lines line number old new formed has long h each n d l =
      let k = name_of_number numbers n in
      let m = h.long in
      elim (cases_eq n number) [
        | inl e ↦
            let own : name line.op ≡ k = sym has.is ∙ ap (name_of_number numbers) (sym e) in
            ap (λ i. (get_or new i d).items) e ∙ h.here d
            ∙ ap (λ (ls : List (Line O)). ls ++ line ∷ []) (ap (λ i. (get_or old i d).items) (sym e)
            ∙ each n d (omega arith))
            ∙ ap (λ (ls : List (Line O)). lines_for name k lines ++ ls) (sym (own_line k line own))
            ∙ sym (for_append name k lines (line ∷ []))
        | inr e ↦
            let other : name line.op ≡ k → ⊥ =
            λ is. e (same_number numbers formed n number (omega arith) has.within (sym (has.is ∙ is))) in
            ap (λ (r : Vec (Line O)). r.items) (h.there n d e) ∙ each n d (omega arith)
            ∙ sym (no_more (lines_for name k lines))
            ∙ ap (λ (ls : List (Line O)). lines_for name k lines ++ ls) (sym (other_line k line other))
            ∙ sym (for_append name k lines (line ∷ []))
      ]
    where
      cases_eq : (a b : ℕ) → (a ≡ b) ⊎ (a ≢ b)
      cases_eq a b =
          elim (cases_lt a b) [
            | inl k ↦ inr (λ e. absurd (omega arith))
            | inr k ↦
                elim (cases_lt b a) [
                  | inl m ↦ inr (λ e. absurd (omega arith))
                  | inr m ↦ inl (omega arith)
                ]
          ]

  pub runs_made : (numbers : Numbers) (lines : List (Line O)) (found : List ℕ) (runs : List (Vec (Line O))) →
      AreNumbersOf name numbers lines found → length runs ≡ length numbers.names.items →
      AreSoFar numbers.names.items lines runs → AreRunsOf name numbers.names.items lines runs
  runs_made numbers lines found runs h long each = record {
    long = long;
    each = each;
    others = λ k none.
        for_none name k lines (λ j d l same.
        none (get_or found j 0) (let w = (h.each j d l).within in omega arith) ((h.each j d l).is ∙ same));
  }

  pub runs_named : (names : List (Vec ℕ)) (lines : List (Line O)) (runs : List (Vec (Line O)))
      (named_ : BTreeMap (Vec ℕ) (Vec (Line O))) → AreRunsOf name names lines runs →
      AreNamedRuns names runs named_ → AreRunsByName name lines named_
  runs_named names lines runs named_ h is k = go (run_in named_ k) refl
    where
      go : (found : Option (Vec (Line O))) → run_in named_ k ≡ found → IsRunFor found (lines_for name k lines)
      go None e = h.others k (λ n l same. absurd (no (subst IsSome (ap (run_in named_) same ∙ e) (is.listed n l))))
        where
          no : IsSome {T = Vec (Line O)} None → ⊥
          no x = cc
      go (Some run) e =
          let was = is.found k run e in
          sym (ap (λ (r : Vec (Line O)). r.items) (was.3 run)) ∙ h.each was.0 run was.1
          ∙ ap (λ j. lines_for name j lines) was.2
