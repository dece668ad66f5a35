-- The code's walks of free lists, beside the definition's.
use Rattle.std.proofs.Common.{◌≡◌, ℕ, ◌+◌, ◌*◌, ◌-◌, ◌<◌, Bool, false, cond, List, [], ◌∷◌, length, zero, suc, refl}
use Rattle.std.proofs.Common.{sym, ap, ◌∙◌, subst, arith}
use Rattle.std.specs.Result.{IsErrAnd}
use Rattle.std.specs.Prelude.{Result, Ok, Err, Option, None, MatchResult, slice_index, slice_index_or, ⊤}
use Rattle.tx_alloc.specs.Pool.{IsBlock, with_at}
use Rattle.vac_audit.specs.Walk.{then, wants, follow, walk_free, walk_lists, check_reached}
use Rattle.vac_audit.specs.Marks.{Marks, LandsOnBlock, Fewer, Followed, FreeListRan, ListsRan, ReachedRan}
use Rattle.vac_audit.specs.declared.Flaw.{Flaw}
use Rattle.vac_audit.specs.declared.Flaw.TheVariants.{Lost}
use Rattle.vac_audit.proofs.Steps.{then_with, not_none}

-- a fault that is passed on by `?`
pub handed : {T E : Type 0} (P : Result T E → Type 0) (r : Result T E) (e : E) → IsErrAnd r (λ f. f ≡ e) → P (Err e) →
    P r
handed P (Ok x) e h p = absurd h
handed P (Err f) e h p = subst (λ (z : _). P (Err z)) (sym h) p

pub then_err : {A B : Type 0} (x : Result A Flaw) (k : A → Result B Flaw) (f : Flaw) → x ≡ Err f → then x k ≡ Err f
then_err x k f e = ap (λ (z : Result _ Flaw). then z k) e

-- the rest of a walk of a free list, whose result is the result of the whole
pub record FreeRest (words : List ℕ) (marks0 : List Bool) (head : ℕ) (seen0 : List ℕ) (marks : List Bool)
    (level at : ℕ) : Type 0 where
  pub levels : ℕ
  pub count : levels + level ≡ suc (length marks0)
  pub seen : List ℕ
  pub are : Marks marks seen
  pub fine : (x : List ℕ × List ℕ) → walk_free (slice_index words) (length words) levels at seen ≡ Ok x
      → (y : List ℕ × List ℕ) × ((walk_free (slice_index words) (length words) (suc (length marks0)) head seen0 ≡ Ok y)
      × (y.1 ≡ x.1))
  pub flaw : (f : Flaw) → walk_free (slice_index words) (length words) levels at seen ≡ Err f →
      walk_free (slice_index words) (length words) (suc (length marks0)) head seen0 ≡ Err f

pub record FreeGoes (words : List ℕ) (marks0 : List Bool) (head : ℕ) (marks : List Bool) (level at : ℕ) : Type 0 where
  pub size : length marks ≡ length marks0
  pub inside : at < length words
  pub rest : (seen0 : List ℕ) → Marks marks0 seen0 → FreeRest words marks0 head seen0 marks level at

pub free_start : (words : List ℕ) (marks : List Bool) (head : ℕ) → head < length words →
    FreeGoes words marks head marks 0 head
free_start words marks head l = record {
  size = refl;
  inside = l;
  rest = λ seen s. record {
    levels = suc (length marks);
    count = omega arith;
    seen = seen;
    are = s;
    fine = λ x e. (x, (e, refl));
    flaw = λ f e. e;
  };
}

-- one step of the definition, when the code made one
module _ (m : ℕ → ℕ) (n levels at : ℕ) (seen : List ℕ) where
  step_end : follow m n at seen ≡ Ok 0 → walk_free m n (suc levels) at seen ≡ Ok ([], seen)
  step_end e = then_with (follow m n at seen) _ 0 _ e refl

  step_flaw : (f : Flaw) → follow m n at seen ≡ Err f → walk_free m n (suc levels) at seen ≡ Err f
  step_flaw f e = then_err (follow m n at seen) _ f e

  step_block : (p : ℕ) (r : Result (List ℕ × List ℕ) Flaw) → follow m n at seen ≡ Ok p → IsBlock n p →
      then (walk_free m n levels p (p ∷ seen)) (λ x. Ok (p ∷ x.0, x.1)) ≡ r → walk_free m n (suc levels) at seen ≡ r
  step_block p r e b q = then_with (follow m n at seen) _ p r e
      (ap (λ (z : Bool). cond z (Ok ([], seen)) (then (walk_free m n levels p (p ∷ seen)) (λ x. Ok (p ∷ x.0, x.1))))
      (not_none n p b) ∙ q)

-- the rest of a walk with one more level
opened : (words : List ℕ) (marks0 : List Bool) (head : ℕ) (seen0 : List ℕ) (marks : List Bool) (level at : ℕ) →
    FreeRest words marks0 head seen0 marks level at → level < suc (length marks0)
    → (l : ℕ) × ((l + (level + 1) ≡ suc (length marks0)) × ((seen : List ℕ) × (Marks marks seen
    × ((x : List ℕ × List ℕ) → walk_free (slice_index words) (length words) (suc l) at seen ≡ Ok x →
    (y : List ℕ × List ℕ) × ((walk_free (slice_index words) (length words) (suc (length marks0)) head seen0 ≡ Ok y)
    × (y.1 ≡ x.1)))
    × ((f : Flaw) → walk_free (slice_index words) (length words) (suc l) at seen ≡ Err f →
    walk_free (slice_index words) (length words) (suc (length marks0)) head seen0 ≡ Err f))))
opened words marks0 head seen0 marks level at h less = go h.levels h.count h.fine h.flaw
  where
    go : (l : ℕ) → l + level ≡ suc (length marks0)
        → ((x : List ℕ × List ℕ) → walk_free (slice_index words) (length words) l at h.seen ≡ Ok x →
        (y : List ℕ × List ℕ) × ((walk_free (slice_index words) (length words)
        (suc (length marks0)) head seen0 ≡ Ok y) × (y.1 ≡ x.1)))
        → ((f : Flaw) → walk_free (slice_index words) (length words) l at h.seen ≡ Err f →
        walk_free (slice_index words) (length words) (suc (length marks0)) head seen0 ≡ Err f)
        → (l : ℕ) × ((l + (level + 1) ≡ suc (length marks0)) × ((seen : List ℕ) × (Marks marks seen
        × ((x : List ℕ × List ℕ) → walk_free (slice_index words) (length words) (suc l) at seen ≡ Ok x →
        (y : List ℕ × List ℕ) × ((walk_free (slice_index words) (length words)
        (suc (length marks0)) head seen0 ≡ Ok y) × (y.1 ≡ x.1)))
        × ((f : Flaw) → walk_free (slice_index words) (length words) (suc l) at seen ≡ Err f →
        walk_free (slice_index words) (length words) (suc (length marks0)) head seen0 ≡ Err f))))
    go zero c fine flaw = absurd (omega arith)
    go (suc l) c fine flaw = (l, (omega arith, (h.seen, (h.are, fine, flaw))))

pub free_end : (words : List ℕ) (marks0 : List Bool) (head : ℕ) (marks marks' : List Bool) (level at : ℕ) →
    FreeGoes words marks0 head marks level at → level < suc (length marks0)
    → Followed words marks marks' at (Ok None) → FreeListRan words marks0 marks' head (Ok tt)
free_end words marks0 head marks marks' level at h less f seen0 s =
    let o = opened words marks0 head seen0 marks level at (h.rest seen0 s) less in
    let seen = o.1.1.0 in
    let g = f seen o.1.1.1.0 in
    let y = o.1.1.1.1 ([], seen) (step_end (slice_index words) (length words) o.0 at seen g.0) in
    (y.0, (y.1.0, subst (λ (z : List ℕ). Marks marks' z) (sym y.1.1) g.1))

pub free_flaw : (words : List ℕ) (marks0 : List Bool) (head : ℕ) (marks marks' : List Bool) (level at : ℕ) (flaw : Flaw)
    → FreeGoes words marks0 head marks level at → level < suc (length marks0)
    → Followed words marks marks' at (Err flaw) → FreeListRan words marks0 marks' head (Err flaw)
free_flaw words marks0 head marks marks' level at flaw h less f seen0 s =
    let o = opened words marks0 head seen0 marks level at (h.rest seen0 s) less in
    o.1.1.1.2 flaw (step_flaw (slice_index words) (length words) o.0 at o.1.1.0 flaw (f o.1.1.0 o.1.1.1.0))

pub free_step : (words : List ℕ) (marks0 : List Bool) (head : ℕ) (marks marks' : List Bool) (level at p : ℕ) →
    FreeGoes words marks0 head marks level at → level < suc (length marks0) → length marks' ≡ length marks
    → ((seen : List ℕ) → Marks marks seen → (follow (slice_index words) (length words) at seen ≡ Ok p) ×
    IsBlock (length words) p × Marks marks' (p ∷ seen)) → IsBlock (length words) p →
    FreeGoes words marks0 head marks' (level + 1) p
free_step words marks0 head marks marks' level at p h less size f b = record {
  size = size ∙ h.size;
  inside = omega (arith, b.1.0);
  rest = λ seen0 s.
      let o = opened words marks0 head seen0 marks level at (h.rest seen0 s) less in
      let seen = o.1.1.0 in
      let g = f seen o.1.1.1.0 in
      record {
        levels = o.0;
        count = o.1.0;
        seen = p ∷ seen;
        are = g.2;
        fine = λ x e. o.1.1.1.1 (p ∷ x.0, x.1) (step_block (slice_index words) (length words) o.0 at seen p _ g.0 b
            (then_with (walk_free (slice_index words) (length words) o.0 p (p ∷ seen)) _ x _ e refl));
        flaw = λ f e. o.1.1.1.2 f (step_block (slice_index words) (length words) o.0 at seen p _ g.0 b
            (then_err (walk_free (slice_index words) (length words) o.0 p (p ∷ seen)) _ f e));
      };
}

-- the eight lists: those walked so far, and the rest
pub record ListsGo (words : List ℕ) (marks0 marks : List Bool) (k : ℕ) : Type 0 where
  pub size : length marks ≡ length marks0
  pub rest : (seen0 : List ℕ) → Marks marks0 seen0 → (x : (ℕ → List ℕ) × List ℕ) ×
      ((walk_lists (slice_index words) (length words) (suc (length marks0)) k seen0 ≡ Ok x) × Marks marks x.1)

pub lists_start : (words : List ℕ) (marks : List Bool) → ListsGo words marks marks 0
lists_start words marks = record { size = refl; rest = λ seen s. (((λ _. []), seen), (refl, s)) }

-- the definition's walk of more lists meets the flaw of the first
later_flaw : (m : ℕ → ℕ) (n levels k j : ℕ) (seen : List ℕ) (f : Flaw) → walk_lists m n levels k seen ≡ Err f →
    walk_lists m n levels (j + k) seen ≡ Err f
later_flaw m n levels k zero seen f e = subst (λ (z : ℕ). walk_lists m n levels z seen ≡ Err f) (let q : k ≡ 0 + k =
    omega arith in q) e
later_flaw m n levels k (suc j) seen f e =
    subst (λ (z : ℕ). walk_lists m n levels z seen ≡ Err f) (let q : suc (j + k) ≡ suc j + k = omega arith in
    q) (then_err (walk_lists m n levels (j + k) seen) _ f (later_flaw m n levels k j seen f e))

at_size : (words : List ℕ) (marks0 marks marks' : List Bool) (head : ℕ) (r : Result ⊤ Flaw) →
    length marks ≡ length marks0 → FreeListRan words marks marks' head r → (seen : List ℕ) → Marks marks seen →
    MatchResult r
    (λ _. (x : List ℕ × List ℕ) × ((walk_free (slice_index words) (length words) (suc (length marks0)) head seen ≡ Ok x)
    × Marks marks' x.1))
    (λ flaw. walk_free (slice_index words) (length words) (suc (length marks0)) head seen ≡ Err flaw)
at_size words marks0 marks marks' head r e f seen s = subst (λ (z : ℕ). MatchResult r
    (λ _. (x : List ℕ × List ℕ) × ((walk_free (slice_index words) (length words) (suc z) head seen ≡ Ok x) ×
    Marks marks' x.1))
    (λ flaw. walk_free (slice_index words) (length words) (suc z) head seen ≡ Err flaw)) e (f seen s)

pub lists_step : (words : List ℕ) (marks0 marks marks' : List Bool) (k : ℕ) → ListsGo words marks0 marks k →
    length marks' ≡ length marks → FreeListRan words marks marks' (8 + k) (Ok tt) → ListsGo words marks0 marks' (k + 1)
lists_step words marks0 marks marks' k h size f = record {
  size = size ∙ h.size;
  rest = λ seen0 s.
      let w = h.rest seen0 s in
      let g = at_size words marks0 marks marks' (8 + k) (Ok tt) h.size f w.0.1 w.1.1 in
      let more : walk_lists (slice_index words) (length words) (suc (length marks0)) (suc k) seen0 ≡ Ok
      (with_at w.0.0 k g.0.0, g.0.1) =
      then_with (walk_lists (slice_index words) (length words) (suc (length marks0)) k seen0) _ w.0 _ w.1.0
      (then_with (walk_free (slice_index words) (length words) (suc (length marks0)) (8 + k) w.0.1) _ g.0 _ g.1.0
      refl) in (
        (with_at w.0.0 k g.0.0, g.0.1),
        (
          subst (λ (z : ℕ). walk_lists (slice_index words) (length words)
              (suc (length marks0)) z seen0 ≡ Ok (with_at w.0.0 k g.0.0, g.0.1)) (let q : suc k ≡ k + 1 = omega arith in
              q) more,
          g.1.1,
        ),
      );
}

pub lists_flaw : (words : List ℕ) (marks0 marks marks' : List Bool) (k : ℕ) (f : Flaw) → ListsGo words marks0 marks k →
    k < 8 → FreeListRan words marks marks' (8 + k) (Err f) → ListsRan words marks0 marks' (Err f)
lists_flaw words marks0 marks marks' k f h l ran seen0 s =
    let w = h.rest seen0 s in
    let g = at_size words marks0 marks marks' (8 + k) (Err f) h.size ran w.0.1 w.1.1 in
    let here : walk_lists (slice_index words) (length words) (suc (length marks0)) (suc k) seen0 ≡ Err f =
    then_with (walk_lists (slice_index words) (length words) (suc (length marks0)) k seen0) _ w.0 _ w.1.0
    (then_err (walk_free (slice_index words) (length words) (suc (length marks0)) (8 + k) w.0.1) _ f g) in
    let e : (7 - k) + suc k ≡ 8 = omega arith in
    subst (λ (z : ℕ). walk_lists (slice_index words) (length words) (suc (length marks0)) z seen0 ≡ Err f) e
    (later_flaw (slice_index words) (length words) (suc (length marks0)) (suc k) (7 - k) seen0 f here)

-- the search for a block that was not reached
pub record ReachedGo (marks : List Bool) (k : ℕ) : Type 0 where
  pub rest : (seen : List ℕ) → Marks marks seen → check_reached k seen ≡ Ok tt

later_lost : (k j : ℕ) (seen : List ℕ) (f : Flaw) → check_reached k seen ≡ Err f → check_reached (j + k) seen ≡ Err f
later_lost k zero seen f e = subst (λ (z : ℕ). check_reached z seen ≡ Err f) (let q : k ≡ 0 + k = omega arith in q) e
later_lost k (suc j) seen f e = subst (λ (z : ℕ). check_reached z seen ≡ Err f) (let q : suc (j + k) ≡ suc j + k =
    omega arith in q) (then_err (check_reached (j + k) seen) _ f (later_lost k j seen f e))

pub reached_flaw : (marks : List Bool) (k : ℕ) → ReachedGo marks k → k < length marks →
    slice_index_or marks k false ≡ false → ReachedRan marks (Err (Lost (16 + 8 * k)))
reached_flaw marks k h l e seen s =
    let here : check_reached (suc k) seen ≡ Err (Lost (16 + 8 * k)) =
    then_with (check_reached k seen) _ tt _ (h.rest seen s) (ap (λ (b : Bool). wants b (Lost (16 + 8 * k)))
    (sym (s.is k l) ∙ e)) in
    let q : (length marks - suc k) + suc k ≡ length marks = omega arith in
    subst (λ (z : ℕ). check_reached z seen ≡ Err (Lost (16 + 8 * k))) q
    (later_lost (suc k) (length marks - suc k) seen (Lost (16 + 8 * k)) here)

-- the result of following a pointer, with the code's finding
pub found_as : (words : List ℕ) (marks marks' : List Bool) (at : ℕ) (found found' : Option ℕ) → found ≡ found' →
    Followed words marks marks' at (Ok found) → Followed words marks marks' at (Ok found')
found_as words marks marks' at found found' e f = subst (λ (z : Option ℕ). Followed words marks marks' at (Ok z)) e f

pub lands_as : (words : List ℕ) (found found' : Option ℕ) → found ≡ found' → LandsOnBlock words (Ok found) →
    LandsOnBlock words (Ok found')
lands_as words found found' e f = subst (λ (z : Option ℕ). LandsOnBlock words (Ok z)) e f

pub fewer_as : (marks marks' : List Bool) (found found' : Option ℕ) → found ≡ found' → Fewer marks marks' (Ok found) →
    Fewer marks marks' (Ok found')
fewer_as marks marks' found found' e f = subst (λ (z : Option ℕ). Fewer marks marks' (Ok z)) e f
