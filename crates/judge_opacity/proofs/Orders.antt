-- How an order of attempts that are opaque goes on.
use Rattle.std.proofs.Common.{◌≡◌, ◌⊎◌, true, false, cond, List, [], ◌∷◌, ◌++◌, Option, Some, None, refl, sym, ap, ◌∙◌}
use Rattle.std.proofs.Common.{subst, inl, inr, append_assoc, append-nil}
use mathlib.Core.List.{reverse_aux}
use Rattle.judge_object.specs.declared.span.Misplaced.{Misplaced}
use Rattle.judge_object.specs.Order.{misplaced}
use Rattle.judge_object.specs.Laws.{TakeTurns, KeepPrecedence}
use Rattle.judge_object.proofs.Order.{goes_on, last_placed, front_turns, front_precedence, turns_none, precedence_none}
use Rattle.judge_object.proofs.Order.{cause_of, of_cause}
use Rattle.judge_opacity.specs.declared.finding.AttemptViolation.{AttemptViolation}
use Rattle.judge_opacity.specs.declared.finding.AttemptViolation.TheVariants as violation
use Rattle.judge_opacity.specs.Attempt.{Attempt, span_of_attempt}
use Rattle.judge_opacity.specs.Words.{Image, zeros, words_after, left_by, wrong_read}
use Rattle.judge_opacity.specs.Verdict.{place_first, violation_of}
use Rattle.judge_opacity.specs.Laws.{HasWord, ReadsAreLegal, committed, visible, EachIsLegal, IsOpaqueOrder}
use Rattle.judge_opacity.specs.Wrongs.{IsViolation}
use Rattle.judge_opacity.proofs.Legal.{after_both, has_word, word_is, legal_of, of_legal, wrong_both, first_right}
use Rattle.judge_opacity.proofs.Legal.{WrongAt}
use Rattle.judge_opacity.proofs.Legal.{wrong_at, at_wrong}

-- what committed attempts leave is what their accesses leave
left_on : (before earlier : List Attempt) → left_by (reverse_aux before earlier) ≡ words_after (left_by earlier)
    (committed before)
left_on [] earlier = refl
left_on (a ∷ more) earlier =
    left_on more (a ∷ earlier)
    ∙ elim a.commits as (λ b. words_after (cond b (words_after (left_by earlier) a.accesses) (left_by earlier))
    (committed more)
    ≡ words_after (left_by earlier) (cond b (a.accesses ++ committed more) (committed more))) [
      | true ↦ sym (after_both (left_by earlier) a.accesses (committed more))
      | false ↦ refl
    ]

pub left_is : (before : List Attempt) → left_by (reverse_aux before []) ≡ words_after zeros (committed before)
left_is before = left_on before []

committed_both : (xs ys : List Attempt) → committed (xs ++ ys) ≡ committed xs ++ committed ys
committed_both [] ys = refl
committed_both (a ∷ xs) ys =
    let rest = committed_both xs ys in
    elim a.commits as (λ b. cond b (a.accesses ++ committed (xs ++ ys)) (committed (xs ++ ys)) ≡ cond b
    (a.accesses ++ committed xs) (committed xs) ++ committed ys) [
      | true ↦ ap (λ t. a.accesses ++ t) rest ∙ sym (append_assoc a.accesses (committed xs) (committed ys))
      | false ↦ rest
    ]

-- the accesses of committed attempts in a legal order are legal
committed_on : (front rest : List Attempt) → wrong_read zeros (committed front) ≡ None → EachIsLegal (front ++ rest) →
    wrong_read zeros (committed (front ++ rest)) ≡ None
committed_on front [] h l = ap (λ t. wrong_read zeros (committed t)) (append-nil front) ∙ h
committed_on front (a ∷ rest) h l =
    let own : wrong_read zeros (committed front ++ a.accesses) ≡ None =
    of_legal (visible front a) (l front rest a refl) in
    let one : wrong_read zeros (committed front ++ cond a.commits (a.accesses ++ []) []) ≡ None =
    elim a.commits as (λ b. wrong_read zeros (committed front ++ cond b (a.accesses ++ []) []) ≡ None) [
      | true ↦ ap (λ t. wrong_read zeros (committed front ++ t)) (append-nil a.accesses) ∙ own
      | false ↦ ap (wrong_read zeros) (append-nil (committed front)) ∙ h
    ] in
    let more = ap (wrong_read zeros) (committed_both front (a ∷ [])) ∙ one in
    ap (λ t. wrong_read zeros (committed t)) (sym (append_assoc front (a ∷ []) rest))
    ∙ committed_on (front ++ a ∷ []) rest more (subst EachIsLegal (sym (append_assoc front (a ∷ []) rest)) l)

pub committed_right : (before : List Attempt) → EachIsLegal before → wrong_read zeros (committed before) ≡ None
committed_right before l = committed_on [] before refl l

no_split : (a : Attempt) (front later : List Attempt) → [] ≡ front ++ a ∷ later → ⊥
no_split a [] later e = cc
no_split a (x ∷ front) later e = cc

-- one of attempts with one more behind them is that, or one of them
abbrev OneOf : List Attempt → Attempt → List Attempt → Attempt → Type 0
OneOf before a front x = ((front ≡ before) × (x ≡ a)) ⊎ ((later : List Attempt) × (before ≡ front ++ x ∷ later))

heads : (a b : Attempt) (xs ys : List Attempt) → a ∷ xs ≡ b ∷ ys → (a ≡ b) × (xs ≡ ys)
heads a b xs ys e = (cc, cc)

one_of : (before front later : List Attempt) (a x : Attempt) → before ++ a ∷ [] ≡ front ++ x ∷ later →
    OneOf before a front x
one_of [] [] later a x e = inl (refl, sym (heads a x [] later e).0)
one_of [] (f ∷ front) later a x e = absurd (no_split x front later (heads a f [] (front ++ x ∷ later) e).1)
one_of (b ∷ before) [] later a x e = inr (before, ap (λ t. t ∷ before) (heads b x (before ++ a ∷ []) later e).0)
one_of (b ∷ before) (f ∷ front) later a x e =
    let both = heads b f (before ++ a ∷ []) (front ++ x ∷ later) e in
    elim (one_of before front later a x both.1) [
      | inl h ↦ inl (ap (λ t. t ∷ front) (sym both.0) ∙ ap (λ t. b ∷ t) h.0, h.1)
      | inr h ↦ inr (h.0, ap (λ t. t ∷ before) both.0 ∙ ap (λ t. f ∷ t) h.1)
    ]

more_legal : (before : List Attempt) (a : Attempt) → EachIsLegal before →
    wrong_read (left_by (reverse_aux before [])) a.accesses ≡ None → EachIsLegal (before ++ a ∷ [])
more_legal before a l h front later x e =
    elim (one_of before front later a x e) [
      | inl same ↦
          let own : wrong_read zeros (visible before a) ≡ None =
          wrong_both zeros (committed before) a.accesses (committed_right before l) ∙ ap (λ m. wrong_read m a.accesses)
          (sym (left_is before)) ∙ h in
          subst (λ t. ReadsAreLegal (visible t x)) (sym same.0)
          (subst (λ t. ReadsAreLegal (visible before t)) (sym same.1)
          (legal_of (visible before a) own))
      | inr earlier ↦ l front earlier.0 x earlier.1
    ]

last_right : (before : List Attempt) (a : Attempt) → EachIsLegal (before ++ a ∷ []) →
    wrong_read (left_by (reverse_aux before [])) a.accesses ≡ None
last_right before a l =
    let all = of_legal (visible before a) (l before [] a refl) in
    let first = first_right zeros (committed before) a.accesses all in
    ap (λ m. wrong_read m a.accesses) (left_is before) ∙ sym (wrong_both zeros (committed before) a.accesses first) ∙
    all

front_legal : (xs ys : List Attempt) → EachIsLegal (xs ++ ys) → EachIsLegal xs
front_legal xs ys l before later a e = l before (later ++ ys) a
    (ap (λ t. t ++ ys) e ∙ append_assoc before (a ∷ later) ys)

-- ---- orders of opaque attempts

place_none : (place : Option Misplaced) (rest : Option AttemptViolation) → place_first place rest ≡ None →
    (place ≡ None) × (rest ≡ None)
place_none None rest h = (refl, h)
place_none (Some wrong) rest h = absurd (some_none (violation.Place wrong) h)
  where
    some_none : (b : AttemptViolation) → Some b ≡ None → ⊥
    some_none b e = cc

pub opaque_none : IsOpaqueOrder []
opaque_none = record {
  legal = λ before later a e. absurd (no_split a before later e);
  turns = turns_none span_of_attempt;
  precedence = precedence_none span_of_attempt;
}

pub opaque_more : (xs : List Attempt) (a : Attempt) → IsOpaqueOrder xs → violation_of (reverse_aux xs []) a ≡ None →
    IsOpaqueOrder (xs ++ a ∷ [])
opaque_more xs a o h =
    let both = place_none (misplaced span_of_attempt (reverse_aux xs []) a)
    (wrong_read (left_by (reverse_aux xs [])) a.accesses) h in
    let order = goes_on span_of_attempt xs a o.turns o.precedence both.0 in
    record {
      legal = more_legal xs a o.legal both.1;
      turns = order.0;
      precedence = order.1;
    }

pub opaque_last : (xs : List Attempt) (a : Attempt) → IsOpaqueOrder (xs ++ a ∷ []) →
    violation_of (reverse_aux xs []) a ≡ None
opaque_last xs a o =
    ap (λ p. place_first p (wrong_read (left_by (reverse_aux xs [])) a.accesses))
    (last_placed span_of_attempt xs a o.turns o.precedence)
    ∙ last_right xs a o.legal

pub opaque_front : (xs ys : List Attempt) → IsOpaqueOrder (xs ++ ys) → IsOpaqueOrder xs
opaque_front xs ys o = record {
  legal = front_legal xs ys o.legal;
  turns = front_turns span_of_attempt xs ys o.turns;
  precedence = front_precedence span_of_attempt xs ys o.precedence;
}

-- ---- why an order does not go on

-- what was found, by the place and by the reads
data FoundBy (place : Option Misplaced) (rest : Option AttemptViolation) (found : AttemptViolation) : Type 0 where
  by_place : (wrong : Misplaced) → place ≡ Some wrong → found ≡ violation.Place wrong → FoundBy place rest found
  by_read : place ≡ None → rest ≡ Some found → FoundBy place rest found

same_some : (b c : AttemptViolation) → Some b ≡ Some c → c ≡ b
same_some b c e = cc

found_by : (place : Option Misplaced) (rest : Option AttemptViolation) (found : AttemptViolation) →
    place_first place rest ≡ Some found →
    FoundBy place rest found
found_by None rest found h = by_read refl h
found_by (Some wrong) rest found h = by_place wrong refl (same_some (violation.Place wrong) found h)

wrong_of : (xs : List Attempt) (a : Attempt) (found : AttemptViolation) → IsOpaqueOrder xs →
    WrongAt (left_by (reverse_aux xs [])) a.accesses found
    → TakeTurns span_of_attempt (xs ++ a ∷ []) × KeepPrecedence span_of_attempt (xs ++ a ∷ []) → IsViolation xs a found
wrong_of xs a found o w order =
    let first : wrong_read zeros (committed xs ++ w.own) ≡ None =
    wrong_both zeros (committed xs) w.own (committed_right xs o.legal) ∙ ap (λ m. wrong_read m w.own) (sym (left_is xs))
    ∙ w.first in
    let leaves : words_after zeros (committed xs ++ w.own) ≡ words_after (left_by (reverse_aux xs [])) w.own =
    after_both zeros (committed xs) w.own ∙ ap (λ m. words_after m w.own) (sym (left_is xs)) in
    let expected = words_after (left_by (reverse_aux xs [])) w.own w.word in
    let at : words_after zeros (committed xs ++ w.own) w.word ≡ expected = ap (λ (m : Image). m w.word) leaves in
    subst (IsViolation xs a) (sym w.is) (
      order.0,
      order.1,
      record {
        own = w.own;
        value = w.value;
        later = w.later;
        split = w.split;
        first = legal_of (committed xs ++ w.own) first;
        has = subst (HasWord (committed xs ++ w.own) w.word) at (has_word (committed xs ++ w.own) w.word);
        other = w.other;
      },
    )

pub breach_is : (xs : List Attempt) (a : Attempt) (found : AttemptViolation) → IsOpaqueOrder xs →
    violation_of (reverse_aux xs []) a ≡ Some found → IsViolation xs a found
breach_is xs a found o h =
    elim (found_by (misplaced span_of_attempt (reverse_aux xs []) a)
    (wrong_read (left_by (reverse_aux xs [])) a.accesses) found h) [
      | by_place wrong p e ↦ subst (IsViolation xs a) (sym e) (cause_of span_of_attempt xs a wrong o.turns p)
      | by_read p r ↦ wrong_of xs a found o (wrong_at (left_by (reverse_aux xs [])) a.accesses found r)
          (goes_on span_of_attempt xs a o.turns o.precedence p)
    ]

pub is_breach : (xs : List Attempt) (a : Attempt) (found : AttemptViolation) → IsOpaqueOrder xs →
    IsViolation xs a found →
    violation_of (reverse_aux xs []) a ≡ Some found
is_breach xs a (violation.Place wrong) o c =
    ap (λ p. place_first p (wrong_read (left_by (reverse_aux xs [])) a.accesses))
    (of_cause span_of_attempt xs a wrong o.turns o.precedence c)
is_breach xs a (violation.Read word expected) o c =
    let w = c.2 in
    let m = left_by (reverse_aux xs []) in
    let all = of_legal (committed xs ++ w.own) w.first in
    let own : wrong_read m w.own ≡ None =
    ap (λ n. wrong_read n w.own) (left_is xs) ∙ sym (wrong_both zeros (committed xs) w.own (committed_right xs o.legal))
    ∙ all in
    let at : words_after m w.own word ≡ expected =
    ap (λ (n : Image). words_after n w.own word) (left_is xs) ∙ ap (λ (n : Image). n word)
    (sym (after_both zeros (committed xs) w.own)) ∙ word_is (committed xs ++ w.own) word expected w.has in
    ap (λ p. place_first p (wrong_read m a.accesses)) (last_placed span_of_attempt xs a c.0 c.1)
    ∙ ap (wrong_read m) w.split ∙ at_wrong m w.own w.later word w.value own (λ e. w.other (e ∙ at)) ∙
    ap (λ v. Some (violation.Read word v)) at
