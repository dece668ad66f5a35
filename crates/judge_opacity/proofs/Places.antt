-- Laws on places and on the verdict on them.
use Rattle.std.proofs.Common.{◌≡◌, Bool, true, false, cond, List, [], ◌∷◌, ◌++◌, map, Result, Ok, Err, IsPermutation}
use Rattle.std.proofs.Common.{refl, sym}
use Rattle.std.proofs.Common.{ap, ◌∙◌, subst}
use Rattle.std.proofs.lemmas.List.Sorted.{IsPermutation-refl, IsPermutation-cons, IsPermutation-trans}
use Rattle.std.proofs.lemmas.List.Sorted.{IsPermutation-middle}
use Rattle.vac_lines.specs.declared.fault.LineFault.{LineFault}
use Rattle.judge_opacity.specs.declared.placed.Placed.TheVariants as placed
use Rattle.judge_opacity.specs.Attempt.{Attempt}
use Rattle.judge_opacity.specs.Placing.{is_writer, NoWriter, IsPlacement, IsPlaceable, writers_in}
use Rattle.judge_opacity.specs.Placing.{PlacementsKeepAttempts}
use Rattle.judge_opacity.specs.Placed.{PlacedIsOpacity}

-- ---- places only move attempts

writers_front : (b a : List Attempt) → NoWriter b → writers_in (b ++ a) ≡ writers_in a
writers_front [] a h = refl
writers_front (y ∷ b) a h =
    ap (λ w. cond w (y ∷ writers_in (b ++ a)) (writers_in (b ++ a))) h.0 ∙ writers_front b a h.1

writers_without : (b a : List Attempt) (x : Attempt) → is_writer x ≡ false →
    writers_in (b ++ x ∷ a) ≡ writers_in (b ++ a)
writers_without [] a x h = ap (λ w. cond w (x ∷ writers_in a) (writers_in a)) h
writers_without (y ∷ b) a x h =
    ap (λ t. cond (is_writer y) (y ∷ t) t) (writers_without b a x h)

writers_next : (b a order : List Attempt) (x : Attempt) (w : Bool) → is_writer x ≡ w → (w ≡ true → NoWriter b) →
    writers_in order ≡ writers_in (b ++ a) →
    writers_in (x ∷ order) ≡ writers_in (b ++ x ∷ a)
writers_next b a order x true e first h =
    let clear = first refl in
    ap (λ t. cond t (x ∷ writers_in order) (writers_in order)) e
    ∙ ap (λ t. x ∷ t) (h ∙ writers_front b a clear)
    ∙ sym (writers_front b (x ∷ a) clear ∙ ap (λ t. cond t (x ∷ writers_in a) (writers_in a)) e)
writers_next b a order x false e first h =
    ap (λ t. cond t (x ∷ writers_in order) (writers_in order)) e
    ∙ h ∙ sym (writers_without b a x e)

keep_attempts : (order attempts : List Attempt) → IsPlacement attempts order →
    IsPermutation attempts order × (writers_in order ≡ writers_in attempts)
keep_attempts [] attempts p =
    (subst (λ t. IsPermutation t []) (sym p) (IsPermutation-refl []), ap writers_in (sym p))
keep_attempts (x ∷ order) attempts p =
    let b = p.0 in
    let a = p.1 in
    let rest = keep_attempts order (b ++ a) p.4 in (
      subst (λ t. IsPermutation t (x ∷ order)) (sym p.2)
          (IsPermutation-trans (b ++ x ∷ a) (x ∷ (b ++ a)) (x ∷ order) (IsPermutation-middle b x a)
          (IsPermutation-cons x (b ++ a) order rest.0)),
      writers_next b a order x (is_writer x) refl p.3 rest.1 ∙ ap writers_in (sym p.2),
    )

pub placements_keep_attempts : PlacementsKeepAttempts
placements_keep_attempts attempts order p = keep_attempts order attempts p

-- ---- the verdict

-- lines as they are read
abbrev Lines : Type 0
Lines = List (Result Attempt LineFault)

ok_same : (a b : Attempt) (xs ys : Lines) → ◌≡◌ {A = Lines} (Ok a ∷ xs) (Ok b ∷ ys) → (a ≡ b) × (xs ≡ ys)
ok_same a b xs ys e = (cc, cc)

one_listing : (xs ys : List Attempt) → ◌≡◌ {A = Lines} (map Ok xs) (map Ok ys) → xs ≡ ys
one_listing [] [] e = refl
one_listing [] (y ∷ ys) e = cc
one_listing (x ∷ xs) [] e = cc
one_listing (x ∷ xs) (y ∷ ys) e =
    let h = ok_same x y (map Ok xs) (map Ok ys) e in
    ap (λ t. t ∷ xs) h.0 ∙ ap (λ t. y ∷ t) (one_listing xs ys h.1)

no_fault : (xs ys : List Attempt) (fault : LineFault) (rest : Lines) →
    ◌≡◌ {A = Lines} (map Ok xs) (map Ok ys ++ Err fault ∷ rest) → ⊥
no_fault [] [] fault rest e = cc
no_fault [] (y ∷ ys) fault rest e = cc
no_fault (x ∷ xs) [] fault rest e = cc
no_fault (x ∷ xs) (y ∷ ys) fault rest e =
    no_fault xs ys fault rest (ok_same x y (map Ok xs) (map Ok ys ++ Err fault ∷ rest) e).1

false_true : false ≡ true → ⊥
false_true e = cc

pub placed_is_opacity : PlacedIsOpacity
placed_is_opacity words bytes (placed.Opaque counts) p = (
  λ e. record {
    attempts = p.attempts;
    listed = p.listed;
    placeable = record {
      order = p.placed.order;
      placement = p.placed.placement;
      opaque = p.placed.opaque;
    };
  },
  λ t. refl,
)
placed_is_opacity words bytes (placed.Fault line fault) p = (
  λ e. absurd (false_true e),
  λ t. absurd (no_fault t.attempts p.before fault p.rest (sym t.listed ∙ p.listed)),
)
placed_is_opacity words bytes placed.NoPlaces p = (
  λ e. absurd (false_true e),
  λ t. absurd (p.none (subst IsPlaceable (one_listing t.attempts p.attempts (sym t.listed ∙ p.listed)) t.placeable)),
)
