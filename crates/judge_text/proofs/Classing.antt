-- Classes of names: places that are added, parents that are set, and names of classes.
use Rattle.std.proofs.Common.{◌≡◌, ℕ, ◌+◌, ◌<◌, ◌≤◌, suc, zero, Option, Some, None, List, [], ◌∷◌, ◌++◌, length}
use Rattle.std.proofs.Common.{map}
use Rattle.std.proofs.Common.{get_or, refl, sym, ap, ◌∙◌, inl, inr, arith}
use Rattle.std.specs.Prelude.{◌⊎◌}
use Rattle.std.specs.Global.{Vec}
use Rattle.std.specs.BTreeMap.{Updates}
use Rattle.std.proofs.lemmas.Bool.{cases_lt}
use Rattle.std.proofs.lemmas.List.{length-append, get_or_append_left}
use Rattle.std.proofs.lemmas.List.{length-map, map-append}
use Rattle.judge_text.specs.declared.classes.Classes.{Classes}
use Rattle.judge_text.specs.Classes.{place_in, name_at, parent_at, class_at, class_of, IsOneForEach, AreWellFormed}
use Rattle.judge_text.specs.Classes.{HasPlace, KeepsPlaces, HasParent, AreJoined, AreSameClasses, AreFlatTo}
use Rattle.judge_text.specs.Classing.{NamesClasses}
use Rattle.judge_search.proofs.Each.{test}
use Rattle.judge_text.proofs.OfOne.{named}
use Rattle.judge_text.proofs.Beginnings.{vec_cmp, set_finds}

-- the element at a place does not depend on the default
pub any_default : (xs : List ℕ) (p d e : ℕ) → p < length xs → get_or xs p d ≡ get_or xs p e
any_default [] p d e l = absurd (omega arith)
any_default (x ∷ xs) zero d e l = refl
any_default (x ∷ xs) (suc p) d e l = any_default xs p d e (omega arith)

pub seam : {A : Type 0} (xs : List A) (n : ℕ) (y d : A) → n ≡ length xs → get_or (xs ++ y ∷ []) n d ≡ y
seam [] zero y d e = refl
seam [] (suc n) y d e = absurd (omega arith)
seam (x ∷ xs) zero y d e = absurd (omega arith)
seam (x ∷ xs) (suc n) y d e = seam xs n y d (omega arith)

pub some_none : {A : Type 0} (x : A) → Some x ≡ None → ⊥
some_none x e = cc

pub some_same : {A : Type 0} (x y : A) → Some x ≡ Some y → x ≡ y
some_same x y e = cc

-- a name and its place were added
pub record IsAdded (old new : Classes) (name : List ℕ) (place : ℕ) : Type 0 where
  pub at : place ≡ length old.parents.items
  pub names : map (λ (one : Vec ℕ). one.items) new.names.items
      ≡ map (λ (one : Vec ℕ). one.items) old.names.items ++ name ∷ []
  pub parents : new.parents.items ≡ old.parents.items ++ place ∷ []
  pub here : place_in new name ≡ Some place
  pub there : (other : List ℕ) → (other ≡ name → ⊥) → place_in new other ≡ place_in old other

pub is_added : (old new : Classes) (name : List ℕ) (place : ℕ) (own key : Vec ℕ) → AreWellFormed old →
    place ≡ length old.names.items → own.items ≡ name → key.items ≡ name →
    new.names.items ≡ old.names.items ++ own ∷ [] → new.parents.items ≡ old.parents.items ++ place ∷ [] →
    Updates vec_cmp old.places new.places key (Some place) → IsAdded old new name place
is_added old new name place own key formed at o k names parents u = record {
  at = at ∙ formed.long;
  names = ap (map (λ (one : Vec ℕ). one.items)) names
      ∙ map-append (λ (one : Vec ℕ). one.items) old.names.items (own ∷ [])
      ∙ ap (λ n. map (λ (one : Vec ℕ). one.items) old.names.items ++ n ∷ []) o;
  parents = parents;
  here = ap (place_in new) (sym k) ∙ u.1;
  there = λ other n. set_finds old.places new.places key (Some place) u other (λ e. n (e ∙ k));
}

module _ (old new : Classes) (name : List ℕ) (place : ℕ) (formed : AreWellFormed old) (h : IsAdded old new name place)
  where
    long_names : length (map (λ (one : Vec ℕ). one.items) old.names.items) ≡ length old.parents.items
    long_names = length-map old.names.items (λ (one : Vec ℕ). one.items) ∙ formed.long

    long_parents : length new.parents.items ≡ length old.parents.items + 1
    long_parents = ap length h.parents ∙ length-append old.parents.items (place ∷ [])

    pub old_name : (p : ℕ) → p < length old.parents.items → name_at new p ≡ name_at old p
    old_name p l =
        let n = long_names in
        ap (λ xs. get_or xs p []) h.names
        ∙ get_or_append_left (map (λ (one : Vec ℕ). one.items) old.names.items) (name ∷ []) [] p (omega arith)

    new_name : name_at new place ≡ name
    new_name =
        let n = long_names in
        let a = h.at in
        ap (λ xs. get_or xs place []) h.names
        ∙ seam (map (λ (one : Vec ℕ). one.items) old.names.items) place name [] (omega arith)

    old_parent : (p : ℕ) → p < length old.parents.items → parent_at new p ≡ parent_at old p
    old_parent p l =
        ap (λ xs. get_or xs p p) h.parents ∙ get_or_append_left old.parents.items (place ∷ []) p p l

    new_parent : parent_at new place ≡ place
    new_parent = ap (λ xs. get_or xs place place) h.parents ∙ seam old.parents.items place place place h.at

    -- an old place, or the new one
    which : (p : ℕ) → p < length new.parents.items → (p < length old.parents.items) ⊎ (p ≡ place)
    which p l =
        let n = long_parents in
        let a = h.at in
        elim (cases_lt p (length old.parents.items)) [
          | inl m ↦ inl m
          | inr m ↦ inr (omega arith)
        ]

    not_name : place_in old name ≡ None → (p : ℕ) → p < length old.parents.items → name_at old p ≡ name → ⊥
    not_name none p l e = some_none p (sym (formed.listed p l) ∙ ap (place_in old) e ∙ none)

    pub added_formed : place_in old name ≡ None → AreWellFormed new
    added_formed none = record {
      long =
          let n = long_parents in
          let m = length-map new.names.items (λ (one : Vec ℕ). one.items) in
          let k = ap length h.names
          ∙ length-append (map (λ (one : Vec ℕ). one.items) old.names.items) (name ∷ []) in
          let o = long_names in
          omega arith;
      below = λ p l.
          elim (which p l) [
            | inl m ↦ (let b = formed.below p m in let e = old_parent p m in omega arith)
            | inr e ↦ (let b : parent_at new p ≡ place = ap (parent_at new) e ∙ new_parent in omega arith)
          ];
      found = λ other p e.
          elim (named_or other) [
            | inl same ↦
                let at : place ≡ p = some_same place p (sym h.here ∙ ap (place_in new) (sym same) ∙ e) in
                let n = long_parents in
                let a = h.at in
                ((omega arith), ap (name_at new) (sym at) ∙ new_name ∙ sym same)
            | inr other_ ↦
                let f = formed.found other p (sym (h.there other other_) ∙ e) in
                let n = long_parents in
                let w = f.0 in
                ((omega arith), old_name p w ∙ f.1)
          ];
      listed = λ p l.
          elim (which p l) [
            | inl m ↦
                ap (place_in new) (old_name p m) ∙ h.there (name_at old p) (not_name none p m) ∙ formed.listed p m
            | inr e ↦ ap (λ q. place_in new (name_at new q)) e ∙ ap (place_in new) new_name ∙ h.here ∙ ap Some (sym e)
          ];
    }
      where
        named_or : (other : List ℕ) → (other ≡ name) ⊎ (other ≡ name → ⊥)
        named_or other = elim (named other name) [
          | inl t ↦ inl t.1
          | inr t ↦ inr t.1
        ]

    pub added_same : AreSameClasses old new
    added_same g = (
      λ k p l.
          let n = long_parents in
          let b = formed.below p l in
          sym (ap g (old_name p l)) ∙ k p (omega arith) ∙ ap (λ q. g (name_at new q)) (old_parent p l)
          ∙ ap g (old_name (parent_at old p) (omega arith)),
      λ k p l.
          elim (which p l) [
            | inl m ↦
                let b = formed.below p m in
                ap g (old_name p m) ∙ k p m ∙ ap g (sym (old_name (parent_at old p) (omega arith)))
                ∙ ap (λ q. g (name_at new q)) (sym (old_parent p m))
            | inr e ↦
                ap (λ q. g (name_at new q)) (let same : p ≡ parent_at new p = e ∙ sym new_parent
                ∙ ap (parent_at new) (sym e) in same)
          ],
    )

    pub added_kept : KeepsPlaces old new
    added_kept other p k =
        let n = long_parents in
        let w = k.within in
        record { within = (omega arith); is = old_name p w ∙ k.is }

    pub added_place : HasPlace new name place
    added_place =
        let n = long_parents in
        let a = h.at in
        record { within = (omega arith); is = new_name }

module _ (old new : Classes) (place parent : ℕ) (h : HasParent old new place parent) where
  pub kept_name : (p : ℕ) → name_at new p ≡ name_at old p
  kept_name p = ap (λ (v : Vec (Vec ℕ)). get_or (map (λ (one : Vec ℕ). one.items) v.items) p []) h.names

  kept_place : (name : List ℕ) → place_in new name ≡ place_in old name
  kept_place name = ap (λ m. place_in
      (record { alloc = new.alloc; places = m; names = new.names; parents = new.parents })
      name) h.places

  pub set_formed : AreWellFormed old → place < length old.parents.items → parent ≤ place → AreWellFormed new
  set_formed formed within l = record {
    long = ap (λ (v : Vec (Vec ℕ)). length v.items) h.names ∙ formed.long ∙ sym h.long;
    below = λ p w.
        let n = h.long in
        elim (is_there p) [
          | inl e ↦ (let b : parent_at new p ≡ parent = ap (parent_at new) e ∙ h.own in omega arith)
          | inr e ↦ (let b = h.others p e in let o = formed.below p (omega arith) in omega arith)
        ];
    found = λ name p e.
        let f = formed.found name p (sym (kept_place name) ∙ e) in
        let n = h.long in
        let w = f.0 in
        ((omega arith), kept_name p ∙ f.1);
    listed = λ p w.
        let n = h.long in
        ap (place_in new) (kept_name p) ∙ kept_place (name_at old p) ∙ formed.listed p (omega arith);
  }
    where
      is_there : (p : ℕ) → (p ≡ place) ⊎ (p ≡ place → ⊥)
      is_there p = elim (test p place) [
        | inl t ↦ inl t.1
        | inr t ↦ inr t.1
      ]

  -- a function that gives the same for a name and for its new parent, in both directions
  pub set_one : (g : List ℕ → List ℕ) → IsOneForEach g old → g (name_at old place) ≡ g (name_at old parent) →
      IsOneForEach g new
  set_one g k e p w =
      let n = h.long in
      elim (test p place) [
        | inl t ↦
            ap g (kept_name p) ∙ ap (λ q. g (name_at old q)) t.1 ∙ e ∙ ap g (sym (kept_name parent))
            ∙ ap (λ q. g (name_at new q)) (sym h.own ∙ ap (parent_at new) (sym t.1))
        | inr t ↦
            ap g (kept_name p) ∙ k p (omega arith) ∙ ap g (sym (kept_name (parent_at old p)))
            ∙ ap (λ q. g (name_at new q)) (sym (h.others p t.1))
      ]

  pub set_back : (g : List ℕ → List ℕ) → IsOneForEach g new →
      g (name_at old place) ≡ g (name_at old (parent_at old place)) → IsOneForEach g old
  set_back g k e p w =
      let n = h.long in
      elim (test p place) [
        | inl t ↦ ap (λ q. g (name_at old q)) t.1 ∙ e ∙ ap (λ q. g (name_at old (parent_at old q))) (sym t.1)
        | inr t ↦
            ap g (sym (kept_name p)) ∙ k p (omega arith)
            ∙ ap (λ q. g (name_at new q)) (h.others p t.1) ∙ ap g (kept_name (parent_at old p))
      ]

  pub own_one : (g : List ℕ → List ℕ) → place < length old.parents.items → IsOneForEach g new →
      g (name_at old place) ≡ g (name_at old parent)
  own_one g w k =
      let n = h.long in
      ap g (sym (kept_name place)) ∙ k place (omega arith) ∙ ap (λ q. g (name_at new q)) h.own
      ∙ ap g (kept_name parent)

  -- the classes of two places that are their own parents were joined
  pub linked : place < length old.parents.items → parent_at old place ≡ place →
      AreJoined (name_at old place) (name_at old parent) old new
  linked w root g = (
    λ k. (set_back g k (ap (λ q. g (name_at old q)) (sym root)), own_one g w k),
    λ k e. set_one g k e,
  )

  -- the parent's parent became the parent
  pub nearer : AreWellFormed old → place < length old.parents.items →
      parent ≡ parent_at old (parent_at old place) → AreSameClasses old new
  nearer formed w is g =
      let up = parent_at old place in
      let b = formed.below place w in (
        λ k. set_back g k (elim (test up place) [
          | inl t ↦ ap (λ q. g (name_at old q)) (sym t.1)
          | inr t ↦
              let n = h.long in
              own_one g w k ∙ sym (ap g (sym (kept_name up)) ∙ k up (omega arith)
              ∙ ap (λ q. g (name_at new q)) (h.others up t.1 ∙ sym is) ∙ ap g (kept_name parent))
        ]),
        λ k. set_one g k (k place w ∙ k up (omega arith) ∙ ap (λ q. g (name_at old q)) (sym is)),
      )

  pub halved_formed : AreWellFormed old → place < length old.parents.items →
      parent ≡ parent_at old (parent_at old place) → AreWellFormed new
  halved_formed formed w is =
      let b = formed.below place w in
      let o = formed.below (parent_at old place) (omega arith) in
      set_formed formed w (omega arith)

  pub flat_more : AreWellFormed old → place < length old.parents.items →
      parent ≡ parent_at old (parent_at old place) → AreFlatTo place old → AreFlatTo (place + 1) new
  flat_more formed w is flat p l =
      elim (cases_lt p place) [
        | inl m ↦
            let o = formed.below p (omega arith) in
            let q = parent_at old p in
            let e : parent_at new p ≡ q = h.others p (λ x. absurd (omega (arith, x))) in
            ap (parent_at new) e ∙ h.others q (λ x. absurd (omega (arith, x))) ∙ flat p m ∙ sym e
        | inr m ↦
            let at : p ≡ place = omega arith in
            let here : parent_at new p ≡ parent = ap (parent_at new) at ∙ h.own in
            ap (parent_at new) here ∙ above ∙ sym here
      ]
    where
      up : ℕ
      up = parent_at old place

      -- the new parent is its own parent
      above : parent_at new parent ≡ parent
      above =
          let b = formed.below place w in
          elim (cases_lt up place) [
            | inl m ↦
                let o = formed.below up (omega arith) in
                let same : parent ≡ parent_at old up = is in
                h.others parent (λ x. absurd (omega (arith, x)))
                ∙ ap (parent_at old) is ∙ flat up m ∙ sym is
            | inr m ↦
                let e : up ≡ place = omega arith in
                let own : parent ≡ place = is ∙ ap (parent_at old) e ∙ e in
                ap (parent_at new) own ∙ h.own
          ]

-- flat classes name themselves
module _ (classes : Classes) (formed : AreWellFormed classes) (flat : AreFlatTo (length classes.parents.items) classes)
  where
    at_place : (p : ℕ) → p < length classes.parents.items →
        class_of classes (name_at classes p) ≡ name_at classes (parent_at classes p)
    at_place p l = ap (class_at classes (name_at classes p)) (formed.listed p l)

    classes_one : IsOneForEach (class_of classes) classes
    classes_one p l =
        let b = formed.below p l in
        at_place p l ∙ sym (at_place (parent_at classes p) (omega arith) ∙ ap (name_at classes) (flat p l))

    class_apart : (g : List ℕ → List ℕ) → IsOneForEach g classes → (name : List ℕ) →
        g (class_of classes name) ≡ g name
    class_apart g one name = go (place_in classes name) refl
      where
        go : (at : Option ℕ) → place_in classes name ≡ at → g (class_at classes name at) ≡ g name
        go None e = refl
        go (Some p) e =
            let f = formed.found name p e in
            sym (one p f.0) ∙ ap g f.1

    -- and are those that they were
    pub names_classes : (old : Classes) → AreSameClasses old classes → NamesClasses old (class_of classes)
    names_classes old same = record {
      joins = (same (class_of classes)).0 classes_one;
      parts = λ g one name. class_apart g ((same g).1 one) name;
    }

-- names were joined, in either order
pub turned : (old new : Classes) (one other : ℕ) → AreJoined (name_at old other) (name_at old one) old new →
    AreJoined (name_at old one) (name_at old other) old new
turned old new one other h g = (
  λ k. (((h g).0 k).0, sym ((h g).0 k).1),
  λ k e. (h g).1 k (sym e),
)

pub same_more : (old middle new : Classes) → AreSameClasses old middle → AreSameClasses middle new →
    AreSameClasses old new
same_more old middle new h i g = (λ k. (h g).0 ((i g).0 k), λ k. (i g).1 ((h g).1 k))

-- the names at the places of two names, or above them, were joined
pub joined_all : (old one two new : Classes) (name other : List ℕ) (p q r s : ℕ) → AreSameClasses old one →
    AreSameClasses one two → HasPlace two name p → HasPlace two other q →
    ((g : List ℕ → List ℕ) → IsOneForEach g two → g (name_at two p) ≡ g (name_at two r)) →
    ((g : List ℕ → List ℕ) → IsOneForEach g two → g (name_at two q) ≡ g (name_at two s)) →
    AreJoined (name_at two r) (name_at two s) two new → AreJoined name other old new
joined_all old one two new name other p q r s first second here there up over h g = (
  λ k.
      let j = (h g).0 k in (
        (first g).0 ((second g).0 j.0),
        sym (ap g here.is) ∙ up g j.0 ∙ j.1 ∙ sym (over g j.0) ∙ ap g there.is,
      ),
  λ k e.
      let t = (second g).1 ((first g).1 k) in
      (h g).1 t (sym (up g t) ∙ ap g here.is ∙ e ∙ sym (ap g there.is) ∙ over g t),
)
