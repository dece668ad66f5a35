-- What is said of words that were read.
use Rattle.std.proofs.Common.{◌≡◌, ◌⊎◌, ◌+◌, ◌≤◌, ◌%◌, ℕ, Bool, List, [], ◌++◌, length, slice_index, sym, ap, ◌∙◌}
use Rattle.std.proofs.Common.{subst, inl, inr, arith, Result, Ok, Err, IfOk, Option, Some, None}
use Rattle.std.proofs.lemmas.Bool.{cases_lt}
use Rattle.std.specs.Io.KnownBytes.{Appends}
use Rattle.vac_model.specs.State.{State}
use Rattle.vac_model.specs.declared.replies.Report.{Report}
use Rattle.vac_records.specs.Represents.{IsState}
use Rattle.vac_lines.specs.Script.{as_line}
use Rattle.vac_lines.specs.Memory.{memory_words}
use Rattle.vac_audit.specs.declared.audit.TheConstants.{MOST_HEAP_WORDS}
use Rattle.vac_audit.specs.Walk.{audit}
use Rattle.vac_audit.specs.Ran.{IsHeapSize, Audited, audit_answer}
use Rattle.vac_audit.specs.Represented.{Recognised}
use Rattle.vac_audit.specs.declared.Flaw.{Flaw}
use Rattle.vac_audit.specs.declared.audit.AuditFault.{AuditFault}
use Rattle.vac_audit.specs.declared.audit.AuditFault.TheVariants.{Size, Memory, Flaw as HasOne}
use Rattle.vac_audit.proofs.Whole.{heap_size}
use Rattle.vac_lines.specs.declared.stream_fault.StreamFault.{StreamFault}
use Rattle.cli_script.specs.declared.check.Verdict.{Verdict}
use Rattle.cli_script.specs.declared.check.Verdict.TheVariants.{Sound, Flawed, BadWords}
use Rattle.vac_lines.specs.Writing.{AppendsPrefix}
use Rattle.cli_script.specs.Reading.{NoneOrMany, ReadWords, ReadNone}
use Rattle.cli_script.specs.Check.{check_text, IsNone, HasFlaw, IsNoHeap, Judged, NoHeapOf, NoWords, IsVerdict}
use Rattle.cli_script.specs.Check.{is_sound, Checked, CheckStopped}

-- whether so many words are those of a heap
heap_or_not : (n : ℕ) → IsHeapSize n ⊎ (IsHeapSize n → ⊥)
heap_or_not n =
    elim (cases_lt 0 (n % 8)) [
      | inl h ↦ inr (λ heap. omega (arith, heap.1.0))
      | inr whole ↦ elim (cases_lt 24 n) [
        | inl low ↦ elim (cases_lt MOST_HEAP_WORDS n) [
          | inl h ↦ inr (λ heap. omega (arith, heap.1.0, heap.1.2))
          | inr high ↦ inl (heap_size n (omega arith) high (omega arith))
        ]
        | inr h ↦ elim (cases_lt 24 (n + 1)) [
          | inl low ↦ inl (heap_size n (omega arith) (omega arith) (omega arith))
          | inr few ↦ inr (λ heap. omega (arith, heap.1.0, heap.1.1))
        ]
      ]
    ]

-- an audit's answer
abbrev err : AuditFault → Result Report AuditFault
err fault = Err fault

-- the answer of an audit is never that of another size
not_size : (r : Result Report Flaw) → (err Size ≡ err Memory) ⊎ (err Size ≡ audit_answer r) → ⊥
not_size r (inl e) = let q : err Size ≡ err Memory = e in cc
not_size (Ok report) (inr e) = let q : err Size ≡ Ok report = e in cc
not_size (Err flaw) (inr e) = let q : err Size ≡ err (HasOne flaw) = e in cc

-- an answer other than a report and want of memory: the words represent no balanced state
refused_none : (words : List ℕ) (fault : AuditFault) → (fault ≡ Memory → ⊥) → Recognised words (Err fault) →
    IsNone words
refused_none words fault other r s h is =
    elim (r s h is) [
      | inl e ↦ other (let q : err fault ≡ err Memory = e in cc)
      | inr e ↦ let q : err fault ≡ Ok _ = e in cc
    ]

-- words of another size
pub no_heap : (words : List ℕ) → ((heap : IsHeapSize (length words)) → Audited (slice_index words) heap.0 (Err Size)) →
    Recognised words (Err Size) → IsNoHeap words
no_heap words a r = record {
  size = λ heap. not_size (audit (slice_index words) heap.0) (a heap);
  none = refused_none words Size (λ e. let q : Size ≡ Memory = e in cc) r;
}

first_is : (r : Result Report Flaw) (flaw : Flaw) → (err (HasOne flaw) ≡ err Memory) ⊎
    (err (HasOne flaw) ≡ audit_answer r) →
    r ≡ Err flaw
first_is r flaw (inl e) = absurd (let q : err (HasOne flaw) ≡ err Memory = e in cc)
first_is (Ok report) flaw (inr e) = absurd (let q : err (HasOne flaw) ≡ Ok report = e in cc)
first_is (Err other) flaw (inr e) = let q : err (HasOne flaw) ≡ err (HasOne other) = e in
    ap Err (let same : other ≡ flaw = cc in same)

-- words with a flaw
pub flawed : (words : List ℕ) (flaw : Flaw) → ((IsHeapSize (length words) → ⊥) → err (HasOne flaw) ≡ err Size)
    → ((heap : IsHeapSize (length words)) → Audited (slice_index words) heap.0 (Err (HasOne flaw))) →
    Recognised words (Err (HasOne flaw)) → HasFlaw words flaw
flawed words flaw size a r =
    elim (heap_or_not (length words)) [
      | inl heap ↦ record {
        heap = heap;
        first = first_is (audit (slice_index words) heap.0) flaw (a heap);
        none = refused_none words (HasOne flaw) (λ e. let q : HasOne flaw ≡ Memory = e in cc) r;
      }
      | inr other ↦ absurd (let q : err (HasOne flaw) ≡ err Size = size other in cc)
    ]

-- the words of a balanced state of one block or more are a heap's
heap_of : (words : List ℕ) (s : State) → 1 ≤ s.capacity → IsState (slice_index words) (length words) s →
    IsHeapSize (length words)
heap_of words s h is = (s.capacity, (is.represents.size, h, is.small.small))

many_words : (found : Option (List ℕ)) → NoneOrMany found → NoHeapOf found
many_words None h = tt
many_words (Some words) h =
    let size : IsHeapSize (length words) → ⊥ = λ heap. omega (arith, heap.1.0, heap.1.2, h) in
    record { size = size; none = λ s some is. size (heap_of words s some is) }

-- there are no words, or too many
pub no_words : (unread left : Option (List ℕ)) → ReadNone unread left → NoWords unread left
no_words unread left r = record {
  bytes = r.bytes;
  consumed = r.consumed;
  none = elim r.none [
    | inl end ↦ inl (end.0, many_words (memory_words r.bytes) end.1)
    | inr all ↦ inr (λ x. many_words (memory_words (r.bytes ++ x)) (all x))
  ];
}

-- the verdict of words is that of what was read
words_verdict : (unread left : Option (List ℕ)) (words : List ℕ) (verdict : Verdict) → ReadWords unread left words →
    Judged words verdict → IsVerdict unread left verdict
words_verdict unread left words (Sound report) r j = record {
  bytes = r.bytes;
  consumed = r.consumed;
  ended = r.ended;
  words = words;
  words_are = r.words_are;
  judged = j;
}
words_verdict unread left words (Flawed flaw) r j = record {
  bytes = r.bytes;
  consumed = r.consumed;
  ended = r.ended;
  words = words;
  words_are = r.words_are;
  judged = j;
}
words_verdict unread left words BadWords r j = record {
  bytes = r.bytes;
  consumed = r.consumed;
  none = inl (r.ended, subst NoHeapOf (sym r.words_are) j);
}

pub verdict_of : (unread left : Option (List ℕ)) (words given : List ℕ) (r : Result Verdict StreamFault) →
    ReadWords unread left words → given ≡ words
    → IfOk r (λ verdict. Judged given verdict) → IfOk r (λ verdict. IsVerdict unread left verdict)
verdict_of unread left words given (Err fault) read e j = tt
verdict_of unread left words given (Ok verdict) read e j = words_verdict unread left words verdict read
    (subst (λ w. Judged w verdict) e j)

-- the line of a verdict was written in part
pub checked_in_part : (unread left held holds : Option (List ℕ)) (verdict : Verdict) (line : List ℕ) →
    IsVerdict unread left verdict → line ≡ as_line (check_text verdict)
    → AppendsPrefix held holds line → CheckStopped unread left held holds
checked_in_part unread left held holds verdict line is e w =
    inr (record { verdict = verdict; is = is; written = subst (AppendsPrefix held holds) e w })

-- it was written
pub checked : (sound : Bool) (unread left held holds : Option (List ℕ)) (verdict : Verdict) (line : List ℕ) →
    IsVerdict unread left verdict → line ≡ as_line (check_text verdict)
    → Appends held holds line → sound ≡ is_sound verdict → Checked sound unread left held holds
checked sound unread left held holds verdict line is e w a =
    record { verdict = verdict; is = is; answered = a; written = subst (Appends held holds) e w }

-- the same, where the fault is known by an equation
pub flawed_as : (words : List ℕ) (fault : AuditFault) (flaw : Flaw) → fault ≡ HasOne flaw →
    ((IsHeapSize (length words) → ⊥) → err fault ≡ err Size)
    → ((heap : IsHeapSize (length words)) → Audited (slice_index words) heap.0 (Err fault)) →
    Recognised words (Err fault) → HasFlaw words flaw
flawed_as words fault flaw e size a r =
    flawed words flaw (subst (λ f. (IsHeapSize (length words) → ⊥) → err f ≡ err Size) e size)
    (subst (λ f. (heap : IsHeapSize (length words)) → Audited (slice_index words) heap.0 (Err f)) e a)
    (subst (λ f. Recognised words (Err f)) e r)

pub no_heap_as : (words : List ℕ) (fault : AuditFault) → fault ≡ Size →
    ((heap : IsHeapSize (length words)) → Audited (slice_index words) heap.0 (Err fault)) →
    Recognised words (Err fault) → IsNoHeap words
no_heap_as words fault e a r =
    no_heap words (subst (λ f. (heap : IsHeapSize (length words)) → Audited (slice_index words) heap.0 (Err f)) e a)
    (subst (λ f. Recognised words (Err f)) e r)

-- the text that is written is the line
pub line_is : (old items given line : List ℕ) → old ≡ [] → items ≡ old ++ line → given ≡ items → given ≡ line
line_is old items given line e f g = g ∙ f ∙ ap (λ t. t ++ line) e
