-- The verdict on the text of attempts is a statement on these attempts.
use Rattle.std.proofs.Common.{◌≡◌, ◌≤◌, ◌<◌, ℕ, zero, suc, List, [], ◌∷◌, map, Some, None, Result, Ok, refl, sym, ap}
use Rattle.std.proofs.Common.{subst, ◌∙◌}
use Rattle.std.specs.Option.{option_map}
use Rattle.std.proofs.lemmas.Option.{slice_get-map}
use Rattle.vac_lines.specs.declared.fault.LineFault.{LineFault}
use Rattle.judge_object.specs.Laws.{IsAt, TakeTurns, KeepPrecedence}
use Rattle.judge_opacity.specs.Attempt.{Attempt, span_of_attempt}
use Rattle.judge_opacity.specs.Laws.{IsOpaqueOrder}
use Rattle.judge_opacity.proofs.Outcomes.{opaque_is_opacity}
use Rattle.load_record.specs.Lines.{AttemptEntry, lines_text}
use Rattle.load_record.specs.Entries.{attempt_of, span_of_entry}
use Rattle.load_record.specs.Judged.{AreOpaqueEntries, TextsAreJudgedByTheirEntries, TextsAreOpaqueUpToPrecedence}
use Rattle.load_record.proofs.Reading.{texts_read}

-- ---- an entry and its attempt stand at one place

at_attempt : (entries : List AttemptEntry) (i : ℕ) (e : AttemptEntry) → IsAt entries i e →
    IsAt (map attempt_of entries) i (attempt_of e)
at_attempt entries i e h = slice_get-map attempt_of entries i ∙ ap (option_map attempt_of) h

none_some : (a : Attempt) → None ≡ Some a → ⊥
none_some a e = cc

same_some : (a b : Attempt) → Some a ≡ Some b → a ≡ b
same_some a b e = cc

abbrev EntryAt : List AttemptEntry → ℕ → Attempt → Type 0
EntryAt entries i a = (e : AttemptEntry) × IsAt entries i e × (attempt_of e ≡ a)

at_entry : (entries : List AttemptEntry) (i : ℕ) (a : Attempt) → IsAt (map attempt_of entries) i a →
    EntryAt entries i a
at_entry [] i a h = absurd (none_some a h)
at_entry (e ∷ es) zero a h = (e, refl, same_some (attempt_of e) a h)
at_entry (e ∷ es) (suc i) a h = at_entry es i a h

-- ---- their turns and their precedence

turns_of : (entries : List AttemptEntry) → TakeTurns span_of_attempt (map attempt_of entries) →
    TakeTurns span_of_entry entries
turns_of entries t = record {
  times = λ i e h. t.times i (attempt_of e) (at_attempt entries i e h);
  clients = λ i j e f h g less same.
      t.clients i j (attempt_of e) (attempt_of f) (at_attempt entries i e h) (at_attempt entries j f g) less same;
}

of_turns : (entries : List AttemptEntry) → TakeTurns span_of_entry entries →
    TakeTurns span_of_attempt (map attempt_of entries)
of_turns entries t = record {
  times = λ i a h.
      let p = at_entry entries i a h in
      subst (λ (x : Attempt). x.span.begin ≤ x.span.end) p.2 (t.times i p.0 p.1);
  clients = λ i j a b h g less same.
      let p = at_entry entries i a h in
      let q = at_entry entries j b g in
      let client = ap (λ (x : Attempt). x.span.client) p.2 ∙ same ∙ ap (λ (x : Attempt). x.span.client) (sym q.2) in
      subst (λ (x : Attempt). a.span.end ≤ x.span.begin) q.2
      (subst (λ (x : Attempt). x.span.end ≤ q.0.attempt.begin) p.2 (t.clients i j p.0 q.0 p.1 q.1 less client));
}

precedence_of : (entries : List AttemptEntry) → KeepPrecedence span_of_attempt (map attempt_of entries) →
    KeepPrecedence span_of_entry entries
precedence_of entries k i j e f h g less =
    k i j (attempt_of e) (attempt_of f) (at_attempt entries i e h) (at_attempt entries j f g) less

of_precedence : (entries : List AttemptEntry) → KeepPrecedence span_of_entry entries →
    KeepPrecedence span_of_attempt (map attempt_of entries)
of_precedence entries k i j a b h g less =
    let p = at_entry entries i a h in
    let q = at_entry entries j b g in
    k i j p.0 q.0 p.1 q.1 (subst (λ (x : Attempt). (attempt_of p.0).span.end < x.span.begin) (sym q.2)
    (subst (λ (x : Attempt). x.span.end < b.span.begin) (sym p.2) less))

order_of : (entries : List AttemptEntry) → IsOpaqueOrder (map attempt_of entries) → AreOpaqueEntries entries
order_of entries o = record {
  legal = o.legal;
  turns = turns_of entries o.turns;
  precedence = precedence_of entries o.precedence;
}

of_order : (entries : List AttemptEntry) → AreOpaqueEntries entries → IsOpaqueOrder (map attempt_of entries)
of_order entries o = record {
  legal = o.legal;
  turns = of_turns entries o.turns;
  precedence = of_precedence entries o.precedence;
}

-- ---- the verdict

-- a text has no attempts but one list
one_list : (xs ys : List Attempt) → ◌≡◌ {A = List (Result Attempt LineFault)} (map Ok xs) (map Ok ys) → xs ≡ ys
one_list [] [] e = refl
one_list [] (y ∷ ys) e = cc
one_list (x ∷ xs) [] e = cc
one_list (x ∷ xs) (y ∷ ys) e =
    let same : x ≡ y = cc in
    let rest : ◌≡◌ {A = List (Result Attempt LineFault)} (map Ok xs) (map Ok ys) = cc in
    ap (λ a. a ∷ xs) same ∙ ap (λ l. y ∷ l) (one_list xs ys rest)

pub judged_by_entries : TextsAreJudgedByTheirEntries
judged_by_entries words entries fit =
    let text = lines_text entries in
    let attempts = map attempt_of entries in
    let listed = texts_read words entries fit in (
      λ e.
          let found = (opaque_is_opacity words text).0 e in
          let same = one_list found.attempts attempts (sym found.listed ∙ listed) in
          order_of entries (subst IsOpaqueOrder same found.order),
      λ o. (opaque_is_opacity words text).1
          (record { attempts = attempts; listed = listed; order = of_order entries o }),
    )

pub up_to_precedence : TextsAreOpaqueUpToPrecedence
up_to_precedence words entries fit legal turns =
    let judged = judged_by_entries words entries fit in (
      λ e. (judged.0 e).precedence,
      λ p. judged.1 (record { legal = legal; turns = turns; precedence = p }),
    )
