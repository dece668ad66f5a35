-- One place of the block is put anew.
use Rattle.std.proofs.Common.{◌≡◌, ◌≢◌, ◌⊎◌, inl, inr, ℕ, zero, suc, ◌+◌, ◌<◌, cond, nat_eq, List, [], ◌∷◌, length, set}
use Rattle.std.proofs.Common.{refl, sym, ap, ◌∙◌, arith, get_or-set_same, get_or-set_other}
use Rattle.std.proofs.lemmas.Bool.{cases_lt}
use Rattle.std.proofs.lemmas.Bool.Decides.{nat_tests}
use Rattle.stm_logs.specs.Nodes.{Node, at, blank_node}
use Rattle.stm_logs.specs.Index.{places_taken}

pub same_or : (j i : ℕ) → (j ≡ i) ⊎ (j ≢ i)
same_or j i = elim (cases_lt j i) [
  | inl below ↦ inr (omega arith)
  | inr above ↦ elim (cases_lt i j) [ inl over ↦ inr (omega arith) | inr at ↦ inl (omega arith) ]
]

pub put_here : (ns : List Node) (i : ℕ) (y : Node) → i < length ns → at (set ns i y) i ≡ y
put_here ns i y l = get_or-set_same ns i y blank_node l

pub put_other : (ns : List Node) (i j : ℕ) (y : Node) → j ≢ i → at (set ns i y) j ≡ at ns j
put_other ns i j y ne = get_or-set_other ns i j y blank_node ne

-- a field that the new node has as the old one is the same everywhere
pub field_kept : {X : Type 0} (f : Node → X) (ns : List Node) (i : ℕ) (y : Node) → i < length ns → f y ≡ f (at ns i) →
    (j : ℕ) → f (at (set ns i y) j) ≡ f (at ns j)
field_kept f ns i y l e j = elim (same_or j i) [
  | inl is ↦ ap (λ k. f (at (set ns i y) k)) is ∙ ap f (put_here ns i y l) ∙ e ∙ ap (λ k. f (at ns k)) (sym is)
  | inr ne ↦ ap f (put_other ns i j y ne)
]

abbrev pub bit : ℕ → ℕ
bit s = cond (nat_eq s 0) 0 1

-- the count of the taken places where one is put anew
pub taken_put : (ns : List Node) (i : ℕ) (y : Node) → i < length ns →
    places_taken (set ns i y) + bit (at ns i).slot ≡ places_taken ns + bit y.slot
taken_put [] i y l = absurd (omega arith)
taken_put (n ∷ ns) zero y l = omega arith
taken_put (n ∷ ns) (suc i) y l =
    let rest = taken_put ns i y (omega arith) in
    omega (arith, rest)

-- where not all are taken, there is a free place
pub free_place : (ns : List Node) → places_taken ns < length ns → (f : ℕ) × ((f < length ns) × ((at ns f).slot ≡ 0))
free_place [] l = absurd (omega arith)
free_place (n ∷ ns) l = elim (same_or n.slot 0) [
  | inl e ↦ (0, (omega arith, e))
  | inr ne ↦ (
      let one : bit n.slot ≡ 1 = grind (arith, nat_tests) in
      let rest = free_place ns (omega (arith, one)) in
      (suc rest.0, (omega (arith, rest.1.0), rest.1.1)))
]

pub none_taken : (ns : List Node) → ((q : ℕ) → q < length ns → (at ns q).slot ≡ 0) → places_taken ns ≡ 0
none_taken [] h = refl
none_taken (n ∷ ns) h =
    let rest = none_taken ns (λ q l. h (suc q) (omega arith)) in
    let here : n.slot ≡ 0 = h 0 (omega arith) in
    let none : bit n.slot ≡ 0 = grind (arith, nat_tests) in
    omega (arith, rest, none)
