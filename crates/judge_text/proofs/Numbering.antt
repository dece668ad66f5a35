-- Numbers of names, after one more name was added.
use Rattle.std.proofs.Common.{◌≡◌, ℕ, ◌+◌, ◌<◌, Bool, true, false, Option, Some, None, List, [], ◌∷◌, ◌++◌, length, map}
use Rattle.std.proofs.Common.{get_or, sym, ap, ◌∙◌, inl, inr, arith}
use Rattle.std.specs.Prelude.{◌⊎◌}
use Rattle.std.specs.Global.{Vec}
use Rattle.std.specs.HashMap.{HashMap, Updates, get_by}
use Rattle.std.specs.Map.{lookup, IsKeyTest, AreApart, KeepsOthers}
use Rattle.std.specs.Cmp.Lexicographic.{nat_list_eq_equiv}
use Rattle.std.specs.Str.{bytes_eq}
use Rattle.std.proofs.lemmas.Bool.{cases_lt}
use Rattle.std.proofs.lemmas.List.{length-append, get_or_append_left, length-map, map-append}
use Rattle.judge_text.specs.declared.numbers.Numbers.{Numbers}
use Rattle.judge_text.specs.Numbers.{AreNumbered, HasNumber, KeepsNumbers, number_in, name_of_number}
use Rattle.judge_text.proofs.OfOne.{named}
use Rattle.judge_text.proofs.Classing.{seam, some_none, some_same}

-- keys are told apart by their bytes
abbrev pub key_eq : Vec ℕ → Vec ℕ → Bool
key_eq a b = bytes_eq a.items b.items

kept : {V : Type 0} (old new : List (Vec ℕ × V)) (key : Vec ℕ) → KeepsOthers key_eq (key_eq key) old new →
    (other : Vec ℕ → Bool) → IsKeyTest key_eq other → AreApart (key_eq key) other → lookup other new ≡ lookup other old
unfolding KeepsOthers
kept old new key h = h

apart : (a b k : List ℕ) → bytes_eq a b ≡ false → bytes_eq a k ≡ true → bytes_eq b k ≡ false
apart a b k n y =
    elim (named a k) [
      | inl e ↦
          elim (named b k) [
            | inl f ↦ absurd (no (sym n ∙ same a b (e.1 ∙ sym f.1)))
            | inr f ↦ f.0
          ]
      | inr e ↦ absurd (no (sym e.0 ∙ y))
    ]
  where
    no : false ≡ true → ⊥
    no e = cc

    same : (x z : List ℕ) → x ≡ z → bytes_eq x z ≡ true
    same x z e =
        elim (named x z) [
          | inl f ↦ f.0
          | inr f ↦ absurd (f.1 e)
        ]

-- a key that is another one than that which was set finds what it found
pub others_find : {V S : Type 0} (old new : HashMap (Vec ℕ) V S) (key : Vec ℕ) (value : Option V) →
    Updates key_eq old new key value → (other : List ℕ) → (other ≡ key.items → ⊥) →
    get_by (λ (k : Vec ℕ). bytes_eq other k.items) new ≡ get_by (λ (k : Vec ℕ). bytes_eq other k.items) old
others_find old new key value h other n =
    elim (named key.items other) [
      | inl e ↦ absurd (n (sym e.1))
      | inr e ↦
          kept old.entries new.entries key h.3 (λ (k : Vec ℕ). bytes_eq other k.items)
          (λ x y. nat_list_eq_equiv.congr other x.items y.items)
          (λ k t. apart key.items other k.items e.0 t)
    ]

-- a name and its number were added
pub record IsNew (old new : Numbers) (name : List ℕ) (number : ℕ) : Type 0 where
  pub at : number ≡ length old.names.items
  pub names : map (λ (one : Vec ℕ). one.items) new.names.items
      ≡ map (λ (one : Vec ℕ). one.items) old.names.items ++ name ∷ []
  pub here : number_in new name ≡ Some number
  pub there : (other : List ℕ) → (other ≡ name → ⊥) → number_in new other ≡ number_in old other

pub is_new : (old new : Numbers) (name : List ℕ) (number : ℕ) (own key : Vec ℕ) →
    number ≡ length old.names.items → own.items ≡ name → key.items ≡ name →
    new.names.items ≡ old.names.items ++ own ∷ [] →
    Updates key_eq old.places new.places key (Some number) → IsNew old new name number
is_new old new name number own key at o k names u = record {
  at = at;
  names = ap (map (λ (one : Vec ℕ). one.items)) names
      ∙ map-append (λ (one : Vec ℕ). one.items) old.names.items (own ∷ [])
      ∙ ap (λ n. map (λ (one : Vec ℕ). one.items) old.names.items ++ n ∷ []) o;
  here = ap (number_in new) (sym k) ∙ u.1;
  there = λ other n. others_find old.places new.places key (Some number) u other (λ e. n (e ∙ k));
}

module _ (old new : Numbers) (name : List ℕ) (number : ℕ) (formed : AreNumbered old)
    (h : IsNew old new name number) where
  long_names : length (map (λ (one : Vec ℕ). one.items) old.names.items) ≡ length old.names.items
  long_names = length-map old.names.items (λ (one : Vec ℕ). one.items)

  one_more : length new.names.items ≡ length old.names.items + 1
  one_more =
      sym (length-map new.names.items (λ (one : Vec ℕ). one.items)) ∙ ap length h.names
      ∙ length-append (map (λ (one : Vec ℕ). one.items) old.names.items) (name ∷ [])
      ∙ ap (λ n. n + 1) long_names

  old_name : (n : ℕ) → n < length old.names.items → name_of_number new n ≡ name_of_number old n
  old_name n l =
      let m = long_names in
      ap (λ xs. get_or xs n []) h.names
      ∙ get_or_append_left (map (λ (one : Vec ℕ). one.items) old.names.items) (name ∷ []) [] n (omega arith)

  new_name : name_of_number new number ≡ name
  new_name =
      let m = long_names in
      let a = h.at in
      ap (λ xs. get_or xs number []) h.names
      ∙ seam (map (λ (one : Vec ℕ). one.items) old.names.items) number name [] (omega arith)

  pub new_kept : KeepsNumbers old new
  new_kept other n has =
      let w = has.within in
      let m = one_more in
      record { within = omega arith; is = old_name n w ∙ has.is }

  pub new_number : HasNumber new name number
  new_number =
      let m = one_more in
      let a = h.at in
      record { within = omega arith; is = new_name }

  which : (n : ℕ) → n < length new.names.items → (n < length old.names.items) ⊎ (n ≡ number)
  which n l =
      let m = one_more in
      let a = h.at in
      elim (cases_lt n (length old.names.items)) [
        | inl k ↦ inl k
        | inr k ↦ inr (omega arith)
      ]

  pub new_formed : number_in old name ≡ None → AreNumbered new
  new_formed none = record {
    found = λ other n e.
        elim (named other name) [
          | inl same ↦
              let at : number ≡ n = some_same number n (sym h.here ∙ ap (number_in new) (sym same.1) ∙ e) in
              record {
                within = (let w = new_number.within in omega arith);
                is = ap (name_of_number new) (sym at) ∙ new_name ∙ sym same.1;
              }
          | inr apart_ ↦ new_kept other n (formed.found other n (sym (h.there other apart_.1) ∙ e))
        ];
    listed = λ n l.
        elim (which n l) [
          | inl k ↦
              ap (number_in new) (old_name n k)
              ∙ h.there (name_of_number old n)
              (λ e. some_none n (sym (formed.listed n k) ∙ ap (number_in old) e ∙ none))
              ∙ formed.listed n k
          | inr e ↦
              ap (number_in new) (ap (name_of_number new) e ∙ new_name) ∙ h.here ∙ ap Some (sym e)
        ];
  }
