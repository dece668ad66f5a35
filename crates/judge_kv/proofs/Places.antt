-- Places in the list of keys with their values.
use Rattle.std.proofs.Common.{◌≡◌, ℕ, ◌+◌, ◌<◌, ◌≤◌, true, false, cond, Some, None, List, [], ◌∷◌, ◌++◌, length}
use Rattle.std.proofs.Common.{get_or, take, drop}
use Rattle.std.proofs.Common.{sym, ap, ◌∙◌, arith, append_assoc}
use Rattle.std.specs.Str.{bytes_eq}
use Rattle.std.specs.Ordering.{is_lt, nat_cmp}
use Rattle.std.specs.Cmp.Lexicographic.{slice_cmp}
use Rattle.std.proofs.lemmas.List.{take_more, take_all, drop_more, drop_all, get_or_default, append-nil, take_at}
use Rattle.std.proofs.lemmas.List.{drop_at, length-take-le}
use Rattle.std.proofs.lemmas.Slice.Eq.{bytes_eq-Decides}
use Rattle.judge_kv.specs.Stores.{Pairs, held_at, without, among, IsPlaceOf}

-- the list from a place on, if this stands there
pub from_there : {X : Type 0} → (xs : List X) (p : ℕ) (x : X) → p < length xs → x ≡ get_or xs p x →
    drop p xs ≡ x ∷ drop (p + 1) xs
from_there xs p x l is = drop_more xs p x l ∙ ap (λ y. y ∷ drop (p + 1) xs) (sym is)

-- the list up to a place, and the pair that stands there
up_to : (pairs : Pairs) (p : ℕ) (x : List ℕ × List ℕ) (rest : Pairs) → p < length pairs → x ≡ get_or pairs p x →
    take p pairs ++ x ∷ rest ≡ take (p + 1) pairs ++ rest
up_to pairs p x rest l is =
    sym (append_assoc (take p pairs) (x ∷ []) rest)
    ∙ ap (λ t. t ++ rest) (ap (λ y. take p pairs ++ y ∷ []) is ∙ sym (take_more pairs p x l))

-- what a key has is what it has in the list from a place on
pub held_here : (key : List ℕ) (pairs : Pairs) (p : ℕ) (x : List ℕ × List ℕ) → p < length pairs → x ≡ get_or pairs p x →
    bytes_eq x.0 key ≡ true → held_at key pairs ≡ held_at key (drop p pairs) → IsPlaceOf key pairs (Some p)
held_here key pairs p x l is e h = (
  l,
  (λ d. h ∙ ap (held_at key) (from_there pairs p x l is)
      ∙ ap (λ b. cond b (Some x.1) (held_at key (drop (p + 1) pairs))) e
      ∙ ap (λ (y : List ℕ × List ℕ). Some y.1) (is ∙ get_or_default pairs p x d l)),
  (λ d. ap (λ (y : List ℕ × List ℕ). y.0) (get_or_default pairs p d x l ∙ sym is)
      ∙ (bytes_eq-Decides x.0 key).0 e),
)

pub held_next : (key : List ℕ) (pairs : Pairs) (p : ℕ) (x : List ℕ × List ℕ) → p < length pairs → x ≡ get_or pairs p x →
    bytes_eq x.0 key ≡ false → held_at key pairs ≡ held_at key (drop p pairs) →
    held_at key pairs ≡ held_at key (drop (p + 1) pairs)
held_next key pairs p x l is e h =
    h ∙ ap (held_at key) (from_there pairs p x l is)
    ∙ ap (λ b. cond b (Some x.1) (held_at key (drop (p + 1) pairs))) e

pub held_nowhere : (key : List ℕ) (pairs : Pairs) (p : ℕ) → length pairs ≤ p →
    held_at key pairs ≡ held_at key (drop p pairs) → held_at key pairs ≡ None
held_nowhere key pairs p l h = h ∙ ap (held_at key) (drop_all p pairs l)

-- a key among those behind a place
pub among_here : (key value : List ℕ) (pairs : Pairs) (p : ℕ) (x : List ℕ × List ℕ) → p < length pairs →
    x ≡ get_or pairs p x → is_lt (slice_cmp nat_cmp x.0 key) ≡ false →
    among key value pairs ≡ take p pairs ++ among key value (drop p pairs) →
    among key value pairs ≡ take p pairs ++ (key, value) ∷ drop p pairs
among_here key value pairs p x l is e h =
    h ∙ ap (λ t. take p pairs ++ among key value t) (from_there pairs p x l is)
    ∙ ap (λ b. take p pairs ++ cond b (x ∷ among key value (drop (p + 1) pairs))
    ((key, value) ∷ x ∷ drop (p + 1) pairs)) e
    ∙ ap (λ t. take p pairs ++ (key, value) ∷ t) (sym (from_there pairs p x l is))

pub among_next : (key value : List ℕ) (pairs : Pairs) (p : ℕ) (x : List ℕ × List ℕ) → p < length pairs →
    x ≡ get_or pairs p x → is_lt (slice_cmp nat_cmp x.0 key) ≡ true →
    among key value pairs ≡ take p pairs ++ among key value (drop p pairs) →
    among key value pairs ≡ take (p + 1) pairs ++ among key value (drop (p + 1) pairs)
among_next key value pairs p x l is e h =
    h ∙ ap (λ t. take p pairs ++ among key value t) (from_there pairs p x l is)
    ∙ ap (λ b. take p pairs ++ cond b (x ∷ among key value (drop (p + 1) pairs))
    ((key, value) ∷ x ∷ drop (p + 1) pairs)) e
    ∙ up_to pairs p x (among key value (drop (p + 1) pairs)) l is

pub among_last : (key value : List ℕ) (pairs : Pairs) (p n : ℕ) → n ≡ length pairs → length pairs ≤ p →
    among key value pairs ≡ take p pairs ++ among key value (drop p pairs) →
    among key value pairs ≡ take n pairs ++ (key, value) ∷ drop n pairs
among_last key value pairs p n same l h =
    h ∙ ap (λ t. take p pairs ++ among key value t) (drop_all p pairs l)
    ∙ ap (λ t. t ++ (key, value) ∷ []) (take_all p pairs l ∙ sym (take_all n pairs (omega arith)))
    ∙ ap (λ t. take n pairs ++ (key, value) ∷ t) (sym (drop_all n pairs (omega arith)))

-- a list without a key, of which the pairs up to a place are left
pub without_here : (key : List ℕ) (all pairs others : Pairs) (p : ℕ) (x : List ℕ × List ℕ) → p < length pairs →
    x ≡ get_or pairs p x → bytes_eq x.0 key ≡ true → others ≡ take p pairs ++ drop (p + 1) pairs →
    without key all ≡ take p pairs ++ without key (drop p pairs) →
    without key all ≡ take p others ++ without key (drop p others)
without_here key all pairs others p x l is e removed h =
    let len = length-take-le p pairs (omega arith) in
    h ∙ ap (λ t. take p pairs ++ without key t) (from_there pairs p x l is)
    ∙ ap (λ b. take p pairs ++ cond b (without key (drop (p + 1) pairs)) (x ∷ without key (drop (p + 1) pairs))) e
    ∙ ap (λ t. t ++ without key (drop (p + 1) pairs))
    (sym (ap (take p) removed ∙ take_at (take p pairs) (drop (p + 1) pairs) p len))
    ∙ ap (λ t. take p others ++ without key t)
    (sym (ap (drop p) removed ∙ drop_at (take p pairs) (drop (p + 1) pairs) p len))

pub without_next : (key : List ℕ) (all pairs : Pairs) (p : ℕ) (x : List ℕ × List ℕ) → p < length pairs →
    x ≡ get_or pairs p x → bytes_eq x.0 key ≡ false →
    without key all ≡ take p pairs ++ without key (drop p pairs) →
    without key all ≡ take (p + 1) pairs ++ without key (drop (p + 1) pairs)
without_next key all pairs p x l is e h =
    h ∙ ap (λ t. take p pairs ++ without key t) (from_there pairs p x l is)
    ∙ ap (λ b. take p pairs ++ cond b (without key (drop (p + 1) pairs)) (x ∷ without key (drop (p + 1) pairs))) e
    ∙ up_to pairs p x (without key (drop (p + 1) pairs)) l is

pub without_all : (key : List ℕ) (all pairs : Pairs) (p : ℕ) → length pairs ≤ p →
    without key all ≡ take p pairs ++ without key (drop p pairs) → pairs ≡ without key all
without_all key all pairs p l h =
    sym (h ∙ ap (λ t. take p pairs ++ without key t) (drop_all p pairs l) ∙ append-nil (take p pairs)
    ∙ take_all p pairs l)
