-- The states in which objects begin, after one of them was set.
use Rattle.std.proofs.Common.{◌≡◌, ℕ, Bool, true, false, Option, Some, List, sym, ap, ◌∙◌, inl, inr}
use Rattle.std.specs.Prelude.{unwrap_or}
use Rattle.std.specs.Global.{Vec}
use Rattle.std.specs.BTreeMap.{BTreeMap, Updates, get_by, is_at}
use Rattle.std.specs.Map.{lookup, IsKeyTest, AreApart, KeepsOthers}
use Rattle.std.specs.Cmp.{eq_by_cmp_equiv}
use Rattle.std.specs.Ordering.{nat_cmp, is_eq, eq_by_cmp}
use Rattle.std.specs.Cmp.Lexicographic.{slice_cmp, nat_list_cmp_total}
use Rattle.std.specs.Str.{bytes_eq}
use Rattle.std.specs.declared.cmp.Ordering.{Ordering}
use Rattle.std.proofs.lemmas.Map.Text.{is_eq-slice_cmp}
use Rattle.std.proofs.lemmas.Slice.Eq.{bytes_eq-Decides}
use Rattle.judge_text.specs.Many.{changed}
use Rattle.judge_text.proofs.OfOne.{named, changed_here, changed_not}

-- names are told apart by their bytes
abbrev pub vec_cmp : Vec ℕ → Vec ℕ → Ordering
vec_cmp a b = slice_cmp nat_cmp a.items b.items

-- the state of a name in a map, or that of all others
abbrev state_in : {S : Type 0} → BTreeMap (Vec ℕ) S → S → List ℕ → S
state_in own others name = unwrap_or (get_by (λ (key : Vec ℕ). slice_cmp nat_cmp name key.items) own) others

-- a key that is another one than that which was set finds what it found
kept : {S : Type 0} (old new : List (Vec ℕ × S)) (name : Vec ℕ) →
    KeepsOthers (eq_by_cmp vec_cmp) (is_at (vec_cmp name)) old new → (other : Vec ℕ → Bool) →
    IsKeyTest (eq_by_cmp vec_cmp) other → AreApart (is_at (vec_cmp name)) other → lookup other new ≡ lookup other old
unfolding KeepsOthers
kept old new name h = h

false_true : false ≡ true → ⊥
false_true e = cc

apart_names : (a b k : List ℕ) → bytes_eq a b ≡ false → is_eq (slice_cmp nat_cmp a k) ≡ true →
    is_eq (slice_cmp nat_cmp b k) ≡ false
apart_names a b k n y =
    elim (named b k) [
      | inl e ↦
          let same : a ≡ k = (bytes_eq-Decides a k).0 (sym (is_eq-slice_cmp a k) ∙ y) in
          absurd (false_true (sym n ∙ (bytes_eq-Decides a b).1 (same ∙ sym e.1)))
      | inr e ↦ is_eq-slice_cmp b k ∙ e.0
    ]

-- what other names find in a map after one was set, or taken out
pub set_finds : {S : Type 0} (old new : BTreeMap (Vec ℕ) S) (name : Vec ℕ) (state : Option S) →
    Updates vec_cmp old new name state → (other : List ℕ) → (other ≡ name.items → ⊥) →
    get_by (λ (key : Vec ℕ). slice_cmp nat_cmp other key.items) new
    ≡ get_by (λ (key : Vec ℕ). slice_cmp nat_cmp other key.items) old
set_finds old new name state h other n =
    elim (named name.items other) [
      | inl e ↦ absurd (n (sym e.1))
      | inr e ↦
          kept old.entries new.entries name h.3 (is_at (λ (key : Vec ℕ). slice_cmp nat_cmp other key.items))
          (λ x y. (eq_by_cmp_equiv nat_list_cmp_total).congr other x.items y.items)
          (λ k t. apart_names name.items other k.items e.0 t)
    ]

pub set_updates : {S : Type 0} (old new : BTreeMap (Vec ℕ) S) (name : Vec ℕ) (state others : S) (other : List ℕ) →
    Updates vec_cmp old new name (Some state) →
    state_in new others other ≡ changed (state_in old others) name.items state other
set_updates old new name state others other h =
    elim (named name.items other) [
      | inl e ↦
          ap (state_in new others) (sym e.1) ∙ ap (λ o. unwrap_or o others) h.1
          ∙ sym (changed_here (state_in old others) name.items other state (sym e.1))
      | inr e ↦
          ap (λ o. unwrap_or o others)
          (kept old.entries new.entries name h.3 (is_at (λ (key : Vec ℕ). slice_cmp nat_cmp other key.items))
          (λ x y. (eq_by_cmp_equiv nat_list_cmp_total).congr other x.items y.items)
          (λ k t. apart_names name.items other k.items e.0 t))
          ∙ sym (changed_not (state_in old others) name.items other state (λ d. e.1 (sym d)))
    ]
