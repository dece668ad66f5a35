-- How a line is cut into words while it is read.
use Rattle.std.proofs.Common.{◌≡◌, ◌≢◌, ℕ, Bool, false, List, [], ◌∷◌, ◌++◌, Result, Ok, Err, refl, sym, ap, ◌∙◌}
use Rattle.std.proofs.Common.{append_assoc, ne_eqb, eqb}
use Rattle.std.specs.List.{All}
use Rattle.std.proofs.lemmas.List.Elements.{All-weaker}
use Rattle.std.proofs.lemmas.List.Splits.{slice_split_at, slice_split_none}
use Rattle.vac_lines.specs.declared.fault.LineFault.{LineFault}
use Rattle.vac_lines.specs.Lines.{words_of, HasNo}
use Rattle.vac_lines.specs.LineTable.{◌>>=◌}
use Rattle.judge_opacity.specs.declared.attempt.Access.{Access}
use Rattle.judge_object.specs.declared.span.Span.{Span}
use Rattle.judge_opacity.specs.declared.attempt.Head.{Head}
use Rattle.judge_opacity.specs.Attempt.{Attempt, at_attempt_client, at_memory_word, at_outcome, accesses_of}
use Rattle.judge_opacity.specs.Attempt.{onto_accesses}
use Rattle.judge_opacity.specs.Attempt.{words_attempt}
use Rattle.judge_opacity.specs.Parts.{read_span, with_accesses, put_before, IsAmong, AllAmong}

-- the test for a space
abbrev is_space : ℕ → Bool
is_space b = eqb b 32

no_space : (text : List ℕ) → HasNo 32 text → All (λ b. is_space b ≡ false) text
no_space text h = All-weaker (λ b. b ≢ 32) (λ b. is_space b ≡ false) (λ b n. ne_eqb b 32 n) text h

-- the first word of a text with a space, and that of one without
pub word_first : (text word behind : List ℕ) → HasNo 32 word → text ≡ word ++ 32 ∷ behind →
    words_of text ≡ word ∷ words_of behind
word_first text word behind h e = ap words_of e ∙ slice_split_at is_space word 32 behind (no_space word h) refl

pub one_word : (text : List ℕ) → HasNo 32 text → words_of text ≡ text ∷ []
one_word text h = slice_split_none is_space text (no_space text h)

-- a span and an attempt of these
abbrev span_from : ℕ → ℕ → ℕ → Span
span_from c b e = record { client = c; begin = b; end = e }

abbrev attempt_from : ℕ → ℕ → ℕ → Bool → List Access → Attempt
attempt_from c b e o a = record { span = span_from c b e; commits = o; accesses = a }

fault_ok : (fault : LineFault) (span : Span) → Err fault ≡ Ok span → ⊥
fault_ok fault span e = cc

fault_true : (fault : LineFault) (b : Bool) → Err fault ≡ Ok b → ⊥
fault_true fault b e = cc

abbrev ok_span : Span → Result Span LineFault
ok_span a = Ok a

same_ok : (a b : Span) → ok_span a ≡ ok_span b → a ≡ b
same_ok a b e = cc

abbrev ok_bool : Bool → Result Bool LineFault
ok_bool a = Ok a

same_bool : (a b : Bool) → ok_bool a ≡ ok_bool b → a ≡ b
same_bool a b e = cc

-- accesses and one more
pub put_onto : (accesses : List Access) (access : Access) (more : Result (List Access) LineFault) →
    put_before accesses (onto_accesses access more) ≡ put_before (accesses ++ access ∷ []) more
put_onto accesses access (Ok more) = ap Ok (sym (append_assoc accesses (access ∷ []) more))
put_onto accesses access (Err fault) = refl

pub put_none : (more : Result (List Access) LineFault) → put_before [] more ≡ more
put_none (Ok more) = refl
put_none (Err fault) = refl

pub among_more : (words : ℕ) (accesses : List Access) (access : Access) → AllAmong words accesses →
    IsAmong words access → AllAmong words (accesses ++ access ∷ [])
among_more words [] access h a = (a, tt)
among_more words (x ∷ xs) access h a = (h.0, among_more words xs access h.1 a)

-- a line's attempt, by what stands before its accesses
head_read : (client begin end : Result ℕ LineFault) (outcome : Result Bool LineFault)
    (accesses : Result (List Access) LineFault) (head : Head)
    → (client >>= λ c. begin >>= λ b. end >>= λ e. Ok (span_from c b e)) ≡ Ok head.span → outcome ≡ Ok head.commits
    → (client >>= λ c. begin >>= λ b. end >>= λ e. outcome >>= λ o. accesses >>=
    λ a. Ok (attempt_from c b e o a)) ≡ with_accesses head accesses
head_read (Err fault) begin end outcome accesses head s o = absurd (fault_ok fault head.span s)
head_read (Ok c) (Err fault) end outcome accesses head s o = absurd (fault_ok fault head.span s)
head_read (Ok c) (Ok b) (Err fault) outcome accesses head s o = absurd (fault_ok fault head.span s)
head_read (Ok c) (Ok b) (Ok e) (Err fault) accesses head s o = absurd (fault_true fault head.commits o)
head_read (Ok c) (Ok b) (Ok e) (Ok o) (Err fault) head s h = refl
head_read (Ok c) (Ok b) (Ok e) (Ok o) (Ok a) head s h =
    ap (λ t. Ok (record { span = t; commits = o; accesses = a })) (same_ok (span_from c b e) head.span s)
    ∙ ap (λ t. Ok (record { span = head.span; commits = t; accesses = a })) (same_bool o head.commits h)

-- the words of a line, one after the other
pub words_read : (words : ℕ) (all first second third left : List (List ℕ)) (client begin end outcome : List ℕ)
    (head : Head) → all ≡ client ∷ first → first ≡ begin ∷ second → second ≡ end ∷ third
    → third ≡ outcome ∷ left → read_span client begin end ≡ Ok head.span → at_outcome outcome ≡ Ok head.commits →
    words_attempt words all ≡ with_accesses head (accesses_of words left)
words_read words all first second third left client begin end outcome head a b c d s o =
    ap (words_attempt words) (a ∙ ap (λ t. client ∷ t) (b ∙ ap (λ t. begin ∷ t) (c ∙ ap (λ t. end ∷ t) d)))
    ∙ head_read (at_attempt_client client) (at_memory_word begin) (at_memory_word end) (at_outcome outcome)
    (accesses_of words left) head s o
