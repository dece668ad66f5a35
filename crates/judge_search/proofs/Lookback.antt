-- Links of calls to their clients' calls before them.
use Rattle.std.proofs.Common.{◌≡◌, ◌≢◌, ℕ, ◌+◌, ◌<◌, ◌≤◌, ◌==◌, suc, zero, Bool, true, false}
use Rattle.std.proofs.Common.{Some, List, [], ◌∷◌, ◌++◌, length, take, get_or, refl, sym, ap, ◌∙◌, subst, ◌-◌}
use Rattle.std.proofs.Common.{inl, inr, arith}
use Rattle.std.specs.List.{list_any}
use Rattle.std.specs.Ordering.{nat_cmp, eq_by_cmp}
use Rattle.std.specs.FinMap.{FinMap, get, insert, empty, get-empty, get-insert}
use Rattle.std.proofs.lemmas.Cmp.{nat_cmp_total}
use Rattle.std.proofs.lemmas.Bool.Decides.{nat_tests}
use Rattle.std.proofs.lemmas.Bool.{cases_lt}
use Rattle.judge_object.specs.Call.{Call}
use Rattle.judge_object.specs.Rules.{Rules}
use Rattle.judge_object.specs.declared.line.Line.{Line}
use Rattle.judge_search.specs.Calls.{calls_of, has_ended, are_sorted, rest_of}
use Rattle.judge_search.specs.Links.{link_or, ArePartedAt, IsLastOf, IsLink, AreLinked}
use Rattle.judge_search.proofs.Each.{test}
use Rattle.judge_search.proofs.Tries.{at}
use Rattle.judge_search.proofs.Sorted.{AreSorted, Later, sorted_of, each_at, call_here, long_calls}
use Rattle.judge_search.proofs.Soonest.{same_default}
use Rattle.judge_search.proofs.Points.{none_front, front_has}

get_here : (m : FinMap nat_cmp ℕ) (a v b : ℕ) → b ≡ a → get (insert m a v) b ≡ Some v
get_here m a v b e =
    let t : eq_by_cmp nat_cmp b a ≡ true = grind (arith, nat_tests) in
    rw (get-insert nat_cmp_total m a v b, t) refl

get_other : (m : FinMap nat_cmp ℕ) (a v b : ℕ) → b ≢ a → get (insert m a v) b ≡ get m b
get_other m a v b ne =
    let t : eq_by_cmp nat_cmp b a ≡ false = grind (arith, nat_tests) in
    rw (get-insert nat_cmp_total m a v b, t) refl

get_front : (xs : List ℕ) (x p d : ℕ) → p < length xs → get_or (xs ++ x ∷ []) p d ≡ get_or xs p d
get_front [] x p d l = absurd (omega arith)
get_front (y ∷ ys) x zero d l = refl
get_front (y ∷ ys) x (suc p) d l = get_front ys x p d (omega arith)

get_last : (xs : List ℕ) (x p d : ℕ) → p ≡ length xs → get_or (xs ++ x ∷ []) p d ≡ x
get_last [] x zero d l = refl
get_last [] x (suc p) d l = absurd (omega arith)
get_last (y ∷ ys) x zero d l = absurd (omega arith)
get_last (y ∷ ys) x (suc p) d l = get_last ys x p d (omega arith)

long_more : (xs : List ℕ) (x : ℕ) → length (xs ++ x ∷ []) ≡ length xs + 1
long_more [] x = refl
long_more (y ∷ ys) x = ap suc (long_more ys x) ∙ (let e : suc (length ys + 1) ≡ suc (length ys) + 1 = omega arith in e)

module _ {O : Type 0} where
  -- the map names the last call of each client among the lines before a place
  abbrev pub KnowsLasts : List (Line O) → ℕ → FinMap nat_cmp ℕ → Type 0
  KnowsLasts lines place lasts = (client : ℕ) → IsLastOf lines client place (link_or (get lasts client))

  pub lasts_none : (lines : List (Line O)) (lasts : FinMap nat_cmp ℕ) → lasts ≡ empty → KnowsLasts lines 0 lasts
  lasts_none lines lasts e client =
      let none : link_or (get lasts client) ≡ 0 =
      ap (λ (m : FinMap nat_cmp ℕ). link_or (get m client)) e ∙ ap link_or (get-empty nat_cmp client) in
      record {
        before = omega arith;
        same = λ q d f. absurd (omega arith);
        none = λ j d l k. absurd (omega arith);
      }

  pub lasts_more : (lines : List (Line O)) (place : ℕ) (lasts : FinMap nat_cmp ℕ) (line : Line O) →
      place < length lines → line ≡ get_or lines place line → KnowsLasts lines place lasts →
      KnowsLasts lines (place + 1) (insert lasts line.client (place + 1))
  lasts_more lines place lasts line l e h client =
      elim (test client line.client) [
        | inl t ↦
            let same : client ≡ line.client = t.1 in
            let link : link_or (get (insert lasts line.client (place + 1)) client) ≡ place + 1 =
            ap link_or (get_here lasts line.client (place + 1) client same) in
            record {
              before = omega arith;
              same = λ q d f.
                  let p : q ≡ place = omega arith in
                  ap (λ i. (get_or lines i d).client) p
                  ∙ ap (λ (x : Line O). x.client) (same_default lines place d line l ∙ sym e) ∙ sym same;
              none = λ j d m k. absurd (omega arith);
            }
        | inr t ↦
            let before = h client in
            let link : link_or (get (insert lasts line.client (place + 1)) client) ≡ link_or (get lasts client) =
            ap link_or (get_other lasts line.client (place + 1) client t.1) in
            record {
              before = let b = before.before in omega arith;
              same = λ q d f. before.same q d (sym link ∙ f);
              none = λ j d m k.
                  elim (cases_lt j place) [
                    | inl g ↦ before.none j d (omega arith) g
                    | inr g ↦
                        let p : j ≡ place = omega arith in
                        λ own. t.1 (sym own ∙ ap (λ i. (get_or lines i d).client) p
                        ∙ ap (λ (x : Line O). x.client) (same_default lines place d line l ∙ sym e))
                  ];
            }
      ]

  pub line_at : (lines : List (Line O)) (place : ℕ) → place < length lines → Line O
  line_at [] place l = absurd (omega arith)
  line_at (x ∷ xs) place l = x

  -- links of the first lines
  pub record AreLinkedTo (lines : List (Line O)) (links : List ℕ) (place : ℕ) : Type 0 where
    pub length_is : length links ≡ place
    pub each : (p : ℕ) → p < place → IsLink lines p (get_or links p 0)

  pub linked_more : (lines : List (Line O)) (links : List ℕ) (place link : ℕ) → AreLinkedTo lines links place →
      IsLink lines place link → AreLinkedTo lines (links ++ link ∷ []) (place + 1)
  linked_more lines links place link h is = record {
    length_is = long_more links link ∙ ap (λ n. n + 1) h.length_is;
    each = λ p l.
        elim (cases_lt p place) [
          | inl g ↦ subst (IsLink lines p) (sym (get_front links link p 0 (let n = h.length_is in omega arith)))
              (h.each p g)
          | inr g ↦
              let e : p ≡ place = omega arith in
              subst (IsLink lines p) (sym (get_last links link p 0 (let n = h.length_is in omega arith)))
              (subst (λ i. IsLink lines i link) (sym e) is)
        ];
  }

  pub linked_none : (lines : List (Line O)) → AreLinkedTo lines [] 0
  linked_none lines = record {
    length_is = refl;
    each = λ p l. absurd (omega arith);
  }

  pub linked_all : (lines : List (Line O)) (links : List ℕ) (place : ℕ) → place ≡ length lines →
      AreLinkedTo lines links place → AreLinked lines links
  linked_all lines links place e h = record {
    length_is = h.length_is ∙ e;
    each = λ p l. h.each p (omega arith);
  }

  -- from a pending call on all are pending
  pub parted_at : (lines : List (Line O)) (place : ℕ) (line : Line O) → are_sorted lines ≡ true → place < length lines →
      line ≡ get_or lines place line → has_ended line ≡ false
      → ((j : ℕ) (d : Line O) → j < place → has_ended (get_or lines j d) ≡ true) → ArePartedAt lines place
  parted_at lines place line s l e none before = record {
    within = omega arith;
    before = before;
    after = λ j d m k. never lines place j d (sorted_of lines s) m k
        (ap has_ended (same_default lines place d line l ∙ sym e) ∙ none);
  }
    where
      never : (ls : List (Line O)) (p j : ℕ) (d : Line O) → AreSorted ls → p ≤ j → j < length ls →
          has_ended (get_or ls p d) ≡ false → has_ended (get_or ls j d) ≡ false
      never [] p j d s m k f = absurd (omega arith)
      never (x ∷ xs) zero zero d s m k f = f
      never (x ∷ xs) zero (suc j) d s m k f = (each_at (Later x) xs j d (omega arith) s.1).never f
      never (x ∷ xs) (suc p) zero d s m k f = absurd (omega arith)
      never (x ∷ xs) (suc p) (suc j) d s m k f = never xs p j d s.2 (omega arith) (omega arith) f

  pub parted_all : (lines : List (Line O)) →
      ((j : ℕ) (d : Line O) → j < length lines → has_ended (get_or lines j d) ≡ true) →
      ArePartedAt lines (length lines)
  parted_all lines h = record {
    within = omega arith;
    before = h;
    after = λ j d m k. absurd (omega arith);
  }

module _ {S O R : Type 0} (X : Rules S O R) where
  -- the client of a call is that of its line
  client_at : (lines : List (Line O)) (j : ℕ) (d : Line O) → j < length lines →
      (at X (calls_of lines) j).client ≡ (get_or lines j d).client
  client_at lines j d l =
      ap (λ (c : Call O). c.client) (call_here X lines j (get_or lines j d) l
      (same_default lines j d (get_or lines j d) l))

  -- the calls of a client between the last that was looked at and a place all have a place in the order
  abbrev pub AreMadeFrom : (ℕ → Bool) → List (Line O) → ℕ → ℕ → Type 0
  AreMadeFrom made lines place link = (j : ℕ) (d : Line O) → link ≤ j → j < place →
      (get_or lines j d).client ≡ (get_or lines place d).client → made j ≡ true

  pub none_earlier : (made : ℕ → Bool) (lines : List (Line O)) (first place link : ℕ) (d : Line O) →
      place < length lines → ((j : ℕ) → j < first → made j ≡ true) → link ≤ first →
      AreMadeFrom made lines place link →
      list_any (λ (o : Call O). o.client == (get_or lines place d).client)
      (rest_of made 0 (take place (calls_of lines))) ≡ false
  none_earlier made lines first place link d l below far h =
      none_front X (λ (o : Call O). o.client == (get_or lines place d).client) made (calls_of lines) place
      (let n = long_calls X lines place l in omega arith)
      (λ j k.
      elim (cases_lt j first) [
        | inl g ↦ inl (below j g)
        | inr g ↦
            elim (test (get_or lines j d).client (get_or lines place d).client) [
              | inl t ↦ inl (h j d (omega arith) k t.1)
              | inr t ↦ inr (ap (λ n. n == (get_or lines place d).client) (client_at lines j d (omega arith)) ∙ t.0)
            ]
      ])

  pub some_earlier : (made : ℕ → Bool) (lines : List (Line O)) (place q : ℕ) (d : Line O) → place < length lines →
      q < place → made q ≡ false → (get_or lines q d).client ≡ (get_or lines place d).client →
      list_any (λ (o : Call O). o.client == (get_or lines place d).client)
      (rest_of made 0 (take place (calls_of lines))) ≡ true
  some_earlier made lines place q d l k left same =
      front_has X (λ (o : Call O). o.client == (get_or lines place d).client) made 0 (calls_of lines) q place q
      (omega arith) k (long_calls X lines q (omega arith)) left
      (ap (λ n. n == (get_or lines place d).client) (client_at lines q d (omega arith) ∙ same)
      ∙ self (get_or lines place d).client)
    where
      self : (n : ℕ) → (n == n) ≡ true
      self n = grind (arith, nat_tests)

  -- the call before one of a client is the next to look at
  pub made_further : (made : ℕ → Bool) (lines : List (Line O)) (place q link : ℕ) → place < length lines → q < place →
      ((d : Line O) → (get_or lines q d).client ≡ (get_or lines place d).client) → made q ≡ true →
      IsLink lines q link → AreMadeFrom made lines place (suc q) → AreMadeFrom made lines place link
  made_further made lines place q link l k same is linked h j d m n own =
      elim (cases_lt j q) [
        | inl g ↦ absurd ((linked d).none j d m g (own ∙ sym (same d)))
        | inr g ↦
            elim (cases_lt q j) [
              | inl f ↦ h j d (omega arith) n own
              | inr f ↦ ap made (let e : j ≡ q = omega arith in e) ∙ is
            ]
      ]

  -- a look back along the links of a client's calls, from a place on
  pub record LooksBack (made : ℕ → Bool) (lines : List (Line O)) (place after : ℕ) : Type 0 where
    pub before : after ≤ place
    pub same : (q : ℕ) (d : Line O) → after ≡ suc q → (get_or lines q d).client ≡ (get_or lines place d).client
    pub done : AreMadeFrom made lines place after

  pub looks_first : (made : ℕ → Bool) (lines : List (Line O)) (place link : ℕ) (d : Line O) → IsLink lines place link →
      LooksBack made lines place link
  looks_first made lines place link d h = record {
    before = (h d).before;
    same = λ q e f. (h e).same q e f;
    done = λ j e m n own. absurd ((h e).none j e m n own);
  }

  pub looks_on : (made : ℕ → Bool) (lines : List (Line O)) (place after link : ℕ) (d : Line O) → place < length lines →
      0 < after →
      LooksBack made lines place after → made (after - 1) ≡ true → IsLink lines (after - 1) link →
      LooksBack made lines place link
  looks_on made lines place after link d l some h is linked =
      let q = after - 1 in
      let next : after ≡ suc q = omega arith in
      let b = h.before in
      record {
        before = let a = (linked d).before in omega arith;
        same = λ p e f. (linked e).same p e f ∙ h.same q e next;
        done = made_further made lines place q link l (omega arith) (λ e. h.same q e next) is linked
            (subst (AreMadeFrom made lines place) next h.done);
      }
