-- Lookups in a store after one of its keys was set.
use Rattle.std.proofs.Common.{◌≡◌, ℕ, Bool, true, false, cond, Some, None, List, [], ◌∷◌, refl, sym, ap, ◌∙◌, inl}
use Rattle.std.proofs.Common.{inr}
use Rattle.std.specs.Prelude.{◌⊎◌}
use Rattle.std.specs.Str.{bytes_eq}
use Rattle.std.proofs.lemmas.Slice.Eq.{bytes_eq-Decides}
use Rattle.std.specs.Ordering.{is_lt, nat_cmp}
use Rattle.std.specs.Cmp.Lexicographic.{slice_cmp}
use Rattle.judge_kv.specs.Rules.{Held}
use Rattle.judge_text.specs.Many.{changed}
use Rattle.judge_text.proofs.OfOne.{named, changed_here, changed_not}
use Rattle.judge_kv.specs.Stores.{Pairs, held_at, without, among, with_held}

test : (b : Bool) → (b ≡ true) ⊎ (b ≡ false)
test true = inl refl
test false = inr refl

differs : (a b : List ℕ) → (a ≡ b → ⊥) → bytes_eq a b ≡ false
differs a b h =
    elim (named a b) [
      | inl t ↦ absurd (h t.1)
      | inr t ↦ t.0
    ]

alike : (a : List ℕ) → bytes_eq a a ≡ true
alike a = (bytes_eq-Decides a a).1 refl

-- without a key, the key has none, and the others have what they had
without_same : (key : List ℕ) (pairs : Pairs) → held_at key (without key pairs) ≡ None
without_same key [] = refl
without_same key (pair ∷ pairs) =
    elim (named pair.0 key) [
      | inl t ↦ ap (λ b. held_at key (cond b (without key pairs) (pair ∷ without key pairs))) t.0
          ∙ without_same key pairs
      | inr t ↦ ap (λ b. held_at key (cond b (without key pairs) (pair ∷ without key pairs))) t.0
          ∙ ap (λ b. cond b (Some pair.1) (held_at key (without key pairs))) t.0 ∙ without_same key pairs
    ]

without_other : (key other : List ℕ) (pairs : Pairs) → (key ≡ other → ⊥) →
    held_at other (without key pairs) ≡ held_at other pairs
without_other key other [] h = refl
without_other key other (pair ∷ pairs) h =
    elim (named pair.0 key) [
      | inl t ↦ ap (λ b. held_at other (cond b (without key pairs) (pair ∷ without key pairs))) t.0
          ∙ without_other key other pairs h
          ∙ sym (ap (λ b. cond b (Some pair.1) (held_at other pairs))
          (differs pair.0 other (λ e. h (sym t.1 ∙ e))))
      | inr t ↦ ap (λ b. held_at other (cond b (without key pairs) (pair ∷ without key pairs))) t.0
          ∙ ap (λ r. cond (bytes_eq pair.0 other) (Some pair.1) r) (without_other key other pairs h)
    ]

some_none : (v : List ℕ) → Some v ≡ None → ⊥
some_none v e = cc

-- what a key has in a list with one pair more, if the pair is of another key
behind_pair : (key : List ℕ) (pair : List ℕ × List ℕ) (pairs : Pairs) → held_at key (pair ∷ pairs) ≡ None →
    bytes_eq pair.0 key ≡ false
behind_pair key pair pairs h =
    elim (test (bytes_eq pair.0 key)) [
      | inl e ↦ absurd (some_none pair.1 (sym (ap (λ b. cond b (Some pair.1) (held_at key pairs)) e) ∙ h))
      | inr e ↦ e
    ]

pass_pair : (key : List ℕ) (pair : List ℕ × List ℕ) (pairs : Pairs) → bytes_eq pair.0 key ≡ false →
    held_at key (pair ∷ pairs) ≡ held_at key pairs
pass_pair key pair pairs e = ap (λ b. cond b (Some pair.1) (held_at key pairs)) e

-- among others, a key has its value, and the others have what they had
among_same : (key value : List ℕ) (pairs : Pairs) → held_at key pairs ≡ None →
    held_at key (among key value pairs) ≡ Some value
among_same key value [] h = ap (λ b. cond b (Some value) None) (alike key)
among_same key value (pair ∷ pairs) h =
    let rest = among key value pairs in
    let e = behind_pair key pair pairs h in
    elim (test (is_lt (slice_cmp nat_cmp pair.0 key))) [
      | inl t ↦
          ap (λ b. held_at key (cond b (pair ∷ rest) ((key, value) ∷ pair ∷ pairs))) t
          ∙ pass_pair key pair rest e
          ∙ among_same key value pairs (sym (pass_pair key pair pairs e) ∙ h)
      | inr t ↦
          ap (λ b. held_at key (cond b (pair ∷ rest) ((key, value) ∷ pair ∷ pairs))) t
          ∙ ap (λ b. cond b (Some value) (held_at key (pair ∷ pairs))) (alike key)
    ]

among_other : (key other value : List ℕ) (pairs : Pairs) → (key ≡ other → ⊥) →
    held_at other (among key value pairs) ≡ held_at other pairs
among_other key other value [] h = ap (λ b. cond b (Some value) None) (differs key other h)
among_other key other value (pair ∷ pairs) h =
    let rest = among key value pairs in
    let here = is_lt (slice_cmp nat_cmp pair.0 key) in
    elim (test here) [
      | inl t ↦
          ap (λ b. held_at other (cond b (pair ∷ rest) ((key, value) ∷ pair ∷ pairs))) t
          ∙ ap (λ r. cond (bytes_eq pair.0 other) (Some pair.1) r) (among_other key other value pairs h)
      | inr t ↦
          ap (λ b. held_at other (cond b (pair ∷ rest) ((key, value) ∷ pair ∷ pairs))) t
          ∙ ap (λ b. cond b (Some value) (held_at other (pair ∷ pairs))) (differs key other h)
    ]

-- a key has the value that was set, and the others have what they had
pub set_held : (key value : List ℕ) (pairs : Pairs) (other : List ℕ) →
    held_at other (with_held key (Some value) pairs) ≡ changed (λ k. held_at k pairs) key (Some value) other
set_held key value pairs other =
    elim (named other key) [
      | inl t ↦
          ap (λ k. held_at k (with_held key (Some value) pairs)) t.1
          ∙ among_same key value (without key pairs) (without_same key pairs)
          ∙ sym (changed_here (λ k. held_at k pairs) key other (Some value) t.1)
      | inr t ↦
          among_other key other value (without key pairs) (λ e. t.1 (sym e))
          ∙ without_other key other pairs (λ e. t.1 (sym e))
          ∙ sym (changed_not (λ k. held_at k pairs) key other (Some value) t.1)
    ]

-- and if a key was given a value or none
pub held_set : (key : List ℕ) (held : Held) (pairs : Pairs) (other : List ℕ) →
    held_at other (with_held key held pairs) ≡ changed (λ k. held_at k pairs) key held other
held_set key (Some value) pairs other = set_held key value pairs other
held_set key None pairs other =
    elim (named other key) [
      | inl t ↦
          ap (λ k. held_at k (without key pairs)) t.1 ∙ without_same key pairs
          ∙ sym (changed_here (λ k. held_at k pairs) key other None t.1)
      | inr t ↦
          without_other key other pairs (λ e. t.1 (sym e))
          ∙ sym (changed_not (λ k. held_at k pairs) key other None t.1)
    ]

pub set_value_held : (old new : Pairs) (key word value bytes : List ℕ) → new ≡ with_held word (Some bytes) old →
    word ≡ key → bytes ≡ value → (other : List ℕ) →
    held_at other new ≡ changed (λ k. held_at k old) key (Some value) other
set_value_held old new key word value bytes e same also other =
    ap (held_at other) (e ∙ ap (λ w. with_held w (Some bytes) old) same ∙ ap (λ b. with_held key (Some b) old) also)
    ∙ set_held key value old other
