-- What a word has behind accesses, and which of their reads are legal.
use Rattle.std.proofs.Common.{◌≡◌, ◌≢◌, ◌⊎◌, ℕ, cond, List, [], ◌∷◌, ◌++◌, Option, Some, None, refl, sym, ap, ◌∙◌}
use Rattle.std.proofs.Common.{subst, inl, inr}
use Rattle.judge_object.proofs.Tests.{test}
use Rattle.judge_opacity.specs.declared.attempt.Access.{Access}
use Rattle.judge_opacity.specs.declared.attempt.Access.TheVariants.{Read, Write}
use Rattle.judge_opacity.specs.declared.finding.AttemptViolation.{AttemptViolation}
use Rattle.judge_opacity.specs.declared.finding.AttemptViolation.TheVariants as violation
use Rattle.judge_opacity.specs.Words.{Image, zeros, image_with, after_access, words_after, unless_same, wrong_read}
use Rattle.judge_opacity.specs.Laws.{AllLeave, IsLastWritten, HasWord, ReadsAreLegal}

-- one after the other
pub after_both : (m : Image) (xs ys : List Access) → words_after m (xs ++ ys) ≡ words_after (words_after m xs) ys
after_both m [] ys = refl
after_both m (x ∷ xs) ys = after_both (after_access m x) xs ys

-- a word that is changed, and any other
changed_here : (m : Image) (at word value : ℕ) → at ≡ word → image_with m at value word ≡ value
changed_here m at word value e =
    elim (test at word) [
      | inl t ↦ ap (λ b. cond b value (m word)) t.0
      | inr t ↦ absurd (t.1 e)
    ]

changed_other : (m : Image) (at word value : ℕ) → at ≢ word → image_with m at value word ≡ m word
changed_other m at word value n =
    elim (test at word) [
      | inl t ↦ absurd (n t.1)
      | inr t ↦ ap (λ b. cond b value (m word)) t.0
    ]

-- where none is written, a word stays as it was
after_left : (m : Image) (xs : List Access) (word : ℕ) → AllLeave word xs → words_after m xs word ≡ m word
after_left m [] word h = refl
after_left m (Read at value ∷ xs) word h = after_left m xs word h.1
after_left m (Write at value ∷ xs) word h = after_left (image_with m at value) xs word h.1 ∙
    changed_other m at word value h.0

-- an access more in front
last_later : (x : Access) (xs : List Access) (word value : ℕ) → IsLastWritten xs word value →
    IsLastWritten (x ∷ xs) word value
last_later x xs word value h = record {
  before = x ∷ h.before;
  after = h.after;
  split = ap (λ t. x ∷ t) h.split;
  last = h.last;
}

-- a word has what was last written, or what it had
abbrev HasOn : Image → List Access → ℕ → ℕ → Type 0
HasOn m xs word value = IsLastWritten xs word value ⊎ (AllLeave word xs × (value ≡ m word))

has_after : (m : Image) (xs : List Access) (word : ℕ) → HasOn m xs word (words_after m xs word)
has_after m [] word = inr (tt, refl)
has_after m (Read at value ∷ xs) word =
    elim (has_after m xs word) [
      | inl h ↦ inl (last_later (Read at value) xs word (words_after m xs word) h)
      | inr h ↦ inr ((tt, h.0), h.1)
    ]
has_after m (Write at value ∷ xs) word =
    elim (has_after (image_with m at value) xs word) [
      | inl h ↦ inl (last_later (Write at value) xs word (words_after (image_with m at value) xs word) h)
      | inr h ↦ elim (test at word) [
        | inl t ↦
            let is : words_after (image_with m at value) xs word ≡ value = h.1 ∙ changed_here m at word value t.1 in
            inl (record {
              before = [];
              after = xs;
              split = ap (λ a. Write a value ∷ xs) t.1 ∙ ap (λ v. Write word v ∷ xs) (sym is);
              last = h.0;
            })
        | inr t ↦ inr ((t.1, h.0), h.1 ∙ changed_other m at word value t.1)
      ]
    ]

pub has_word : (xs : List Access) (word : ℕ) → HasWord xs word (words_after zeros xs word)
has_word xs word = has_after zeros xs word

pub word_is : (xs : List Access) (word value : ℕ) → HasWord xs word value → words_after zeros xs word ≡ value
word_is xs word value (inl h) =
    ap (λ t. words_after zeros t word) h.split ∙ ap (λ (f : Image). f word)
    (after_both zeros h.before (Write word value ∷ h.after))
    ∙ after_left (image_with (words_after zeros h.before) word value) h.after word h.last ∙
    changed_here (words_after zeros h.before) word word value refl
word_is xs word value (inr h) = after_left zeros xs word h.0 ∙ sym h.1

some_none : (b : AttemptViolation) → Some b ≡ None → ⊥
some_none b e = cc

-- a read that is right, and one that is not
unless_none : (word value is : ℕ) (rest : Option AttemptViolation) → unless_same word value is rest ≡ None →
    (value ≡ is) × (rest ≡ None)
unless_none word value is rest h =
    elim (test value is) [
      | inl t ↦ (t.1, sym (ap (λ b. cond b rest (Some (violation.Read word is))) t.0) ∙ h)
      | inr t ↦ absurd (some_none (violation.Read word is) (sym
          (ap (λ b. cond b rest (Some (violation.Read word is))) t.0) ∙
          h))
    ]

pub unless_right : (word value is : ℕ) (rest : Option AttemptViolation) → value ≡ is →
    unless_same word value is rest ≡ rest
unless_right word value is rest e =
    elim (test value is) [
      | inl t ↦ ap (λ b. cond b rest (Some (violation.Read word is))) t.0
      | inr t ↦ absurd (t.1 e)
    ]

pub unless_wrong : (word value is : ℕ) (rest : Option AttemptViolation) → value ≢ is →
    unless_same word value is rest ≡ Some (violation.Read word is)
unless_wrong word value is rest n =
    elim (test value is) [
      | inl t ↦ absurd (n t.1)
      | inr t ↦ ap (λ b. cond b rest (Some (violation.Read word is))) t.0
    ]

-- where no read is wrong, each gives what its word has there
right_there : (m : Image) (before later : List Access) (word value : ℕ) →
    wrong_read m (before ++ Read word value ∷ later) ≡ None → words_after m before word ≡ value
right_there m [] later word value h = sym (unless_none word value (m word) (wrong_read m later) h).0
right_there m (Read at v ∷ before) later word value h =
    right_there m before later word value (unless_none at v (m at)
    (wrong_read m (before ++ Read word value ∷ later)) h).1
right_there m (Write at v ∷ before) later word value h = right_there (image_with m at v) before later word value h

all_right : (m : Image) (xs : List Access) → ((before later : List Access) (word value : ℕ) →
    xs ≡ before ++ Read word value ∷ later → words_after m before word ≡ value) → wrong_read m xs ≡ None
all_right m [] h = refl
all_right m (Read at v ∷ xs) h =
    unless_right at v (m at) (wrong_read m xs) (sym (h [] xs at v refl))
    ∙ all_right m xs (λ before later word value e. h (Read at v ∷ before) later word value (ap (λ t. Read at v ∷ t) e))
all_right m (Write at v ∷ xs) h = all_right (image_with m at v) xs
    (λ before later word value e. h (Write at v ∷ before) later word value (ap (λ t. Write at v ∷ t) e))

pub legal_of : (xs : List Access) → wrong_read zeros xs ≡ None → ReadsAreLegal xs
legal_of xs h before later word value e =
    let is = right_there zeros before later word value (subst (λ t. wrong_read zeros t ≡ None) e h) in
    subst (HasWord before word) is (has_word before word)

pub of_legal : (xs : List Access) → ReadsAreLegal xs → wrong_read zeros xs ≡ None
of_legal xs l = all_right zeros xs (λ before later word value e. word_is before word value
    (l before later word value e))

-- of accesses one behind the other
pub wrong_both : (m : Image) (xs ys : List Access) → wrong_read m xs ≡ None →
    wrong_read m (xs ++ ys) ≡ wrong_read (words_after m xs) ys
wrong_both m [] ys h = refl
wrong_both m (Read at v ∷ xs) ys h =
    let both = unless_none at v (m at) (wrong_read m xs) h in
    unless_right at v (m at) (wrong_read m (xs ++ ys)) both.0 ∙ wrong_both m xs ys both.1
wrong_both m (Write at v ∷ xs) ys h = wrong_both (image_with m at v) xs ys h

pub first_right : (m : Image) (xs ys : List Access) → wrong_read m (xs ++ ys) ≡ None → wrong_read m xs ≡ None
first_right m [] ys h = refl
first_right m (Read at v ∷ xs) ys h =
    let both = unless_none at v (m at) (wrong_read m (xs ++ ys)) h in
    unless_right at v (m at) (wrong_read m xs) both.0 ∙ first_right m xs ys both.1
first_right m (Write at v ∷ xs) ys h = first_right (image_with m at v) xs ys h

-- the first read that is wrong
pub record WrongAt (m : Image) (xs : List Access) (found : AttemptViolation) : Type 0 where
  pub own : List Access
  pub word : ℕ
  pub value : ℕ
  pub later : List Access
  pub split : xs ≡ own ++ Read word value ∷ later
  pub first : wrong_read m own ≡ None
  pub is : found ≡ violation.Read word (words_after m own word)
  pub other : value ≢ words_after m own word

none_some : (b : AttemptViolation) → None ≡ Some b → ⊥
none_some b e = cc

same_some : (b c : AttemptViolation) → Some b ≡ Some c → c ≡ b
same_some b c e = cc

pub wrong_at : (m : Image) (xs : List Access) (found : AttemptViolation) → wrong_read m xs ≡ Some found →
    WrongAt m xs found
wrong_at m [] found h = absurd (none_some found h)
wrong_at m (Read at v ∷ xs) found h =
    elim (test v (m at)) [
      | inl t ↦
          let next = wrong_at m xs found (sym (unless_right at v (m at) (wrong_read m xs) t.1) ∙ h) in
          record {
            own = Read at v ∷ next.own;
            word = next.word;
            value = next.value;
            later = next.later;
            split = ap (λ s. Read at v ∷ s) next.split;
            first = unless_right at v (m at) (wrong_read m next.own) t.1 ∙ next.first;
            is = next.is;
            other = next.other;
          }
      | inr t ↦ record {
        own = [];
        word = at;
        value = v;
        later = xs;
        split = refl;
        first = refl;
        is = same_some (violation.Read at (m at)) found (sym (unless_wrong at v (m at) (wrong_read m xs) t.1) ∙ h);
        other = t.1;
      }
    ]
wrong_at m (Write at v ∷ xs) found h =
    let next = wrong_at (image_with m at v) xs found h in
    record {
      own = Write at v ∷ next.own;
      word = next.word;
      value = next.value;
      later = next.later;
      split = ap (λ s. Write at v ∷ s) next.split;
      first = next.first;
      is = next.is;
      other = next.other;
    }

pub at_wrong : (m : Image) (own later : List Access) (word value : ℕ) → wrong_read m own ≡ None →
    value ≢ words_after m own word
    → wrong_read m (own ++ Read word value ∷ later) ≡ Some (violation.Read word (words_after m own word))
at_wrong m own later word value h n =
    wrong_both m own (Read word value ∷ later) h ∙ unless_wrong word value (words_after m own word)
    (wrong_read (words_after m own) later) n
