-- Reading clauses one after the other.
use Rattle.std.proofs.Common.{◌≡◌, ℕ, ◌+◌, ◌<◌, ◌≤◌, Option, Some, None, List, [], ◌∷◌, ◌++◌, length, get_or, drop}
use Rattle.std.proofs.Common.{suc, zero}
use Rattle.std.proofs.Common.{refl, ap, sym, ◌∙◌, arith, append_assoc, Bor}
use Rattle.std.proofs.lemmas.List.{append-nil, drop_all, length-drop}
use Rattle.vac_lines.specs.Lines.{texts}
use Rattle.judge_kv.specs.Requests.{Stated}
use Rattle.judge_kv.specs.StoreWords.{clause_words, clauses_words, before}

-- clauses behind others, if they were read
abbrev pub behind : List Stated → Option (List Stated) → Option (List Stated)
behind clauses None = None
behind clauses (Some more) = Some (clauses ++ more)

behind_before : (clauses : List Stated) (clause : Stated) (more : Option (List Stated)) →
    behind clauses (before (Some clause) more) ≡ behind (clauses ++ clause ∷ []) more
behind_before clauses clause None = refl
behind_before clauses clause (Some more) = ap Some (sym (append_assoc clauses (clause ∷ []) more))

-- the clauses of the words up to a place
pub record HasClauses (words : List (Bor (List ℕ))) (clauses : List Stated) (p : ℕ) : Type 0 where
  pub within : p ≤ length words
  pub are : clauses_words (texts words) ≡ behind clauses (clauses_words (texts (drop p words)))

-- three words at a place
three_there : (words : List (Bor (List ℕ))) (p : ℕ) (a b c : Bor (List ℕ)) → p + 3 ≤ length words →
    a ≡ get_or words p a → b ≡ get_or words (p + 1) b → c ≡ get_or words (p + 2) c →
    texts (drop p words) ≡ a.now ∷ b.now ∷ c.now ∷ texts (drop (p + 3) words)
three_there (x ∷ y ∷ z ∷ words) zero a b c l e f g =
    ap (λ (w : Bor (List ℕ)). w.now ∷ y.now ∷ z.now ∷ texts words) (sym e)
    ∙ ap (λ (w : Bor (List ℕ)). a.now ∷ w.now ∷ z.now ∷ texts words) (sym f)
    ∙ ap (λ (w : Bor (List ℕ)). a.now ∷ b.now ∷ w.now ∷ texts words) (sym g)
three_there (x ∷ words) (suc p) a b c l e f g =
    let one : suc p + 1 ≡ suc (p + 1) = omega arith in
    let two : suc p + 2 ≡ suc (p + 2) = omega arith in
    let three : suc (p + 3) ≡ suc p + 3 = omega arith in
    three_there words p a b c (omega arith) e (f ∙ ap (λ n. get_or (x ∷ words) n b) one)
    (g ∙ ap (λ n. get_or (x ∷ words) n c) two)
    ∙ ap (λ n. a.now ∷ b.now ∷ c.now ∷ texts (drop n (x ∷ words))) three
three_there [] zero a b c l e f g = absurd (omega arith)
three_there [] (suc p) a b c l e f g = absurd (omega arith)
three_there (x ∷ []) zero a b c l e f g = absurd (omega arith)
three_there (x ∷ y ∷ []) zero a b c l e f g = absurd (omega arith)

-- one more clause
pub clause_more : (words : List (Bor (List ℕ))) (clauses others : List Stated) (p : ℕ) (a b c : Bor (List ℕ))
    (clause : Stated) → p + 3 ≤ length words → a ≡ get_or words p a → b ≡ get_or words (p + 1) b →
    c ≡ get_or words (p + 2) c → clause_words a.now b.now c.now ≡ Some clause →
    others ≡ clauses ++ clause ∷ [] → HasClauses words clauses p → HasClauses words others (p + 3)
clause_more words clauses others p a b c clause l e f g is more h = record {
  within = l;
  are = h.are ∙ ap (λ w. behind clauses (clauses_words w)) (three_there words p a b c l e f g)
      ∙ ap (λ o. behind clauses (before o (clauses_words (texts (drop (p + 3) words))))) is
      ∙ behind_before clauses clause (clauses_words (texts (drop (p + 3) words)))
      ∙ ap (λ o. behind o (clauses_words (texts (drop (p + 3) words)))) (sym more);
}

-- three words that are no clause
pub clause_none : (words : List (Bor (List ℕ))) (clauses : List Stated) (p : ℕ) (a b c : Bor (List ℕ)) →
    p + 3 ≤ length words → a ≡ get_or words p a → b ≡ get_or words (p + 1) b → c ≡ get_or words (p + 2) c →
    clause_words a.now b.now c.now ≡ None → HasClauses words clauses p → clauses_words (texts words) ≡ None
clause_none words clauses p a b c l e f g is h =
    h.are ∙ ap (λ w. behind clauses (clauses_words w)) (three_there words p a b c l e f g)
    ∙ ap (λ o. behind clauses (before o (clauses_words (texts (drop (p + 3) words))))) is

-- no word is left
pub clauses_end : (words : List (Bor (List ℕ))) (clauses : List Stated) (p : ℕ) → length words ≤ p →
    HasClauses words clauses p → clauses_words (texts words) ≡ Some clauses
clauses_end words clauses p l h =
    h.are ∙ ap (λ w. behind clauses (clauses_words (texts w))) (drop_all p words l) ∙ ap Some (append-nil clauses)

-- one or two words are left
few_left : (words : List (Bor (List ℕ))) → 1 ≤ length words → length words < 3 → clauses_words (texts words) ≡ None
few_left [] l m = absurd (omega arith)
few_left (x ∷ []) l m = refl
few_left (x ∷ y ∷ []) l m = refl
few_left (x ∷ y ∷ z ∷ rest) l m = absurd (omega arith)

pub clauses_cut : (words : List (Bor (List ℕ))) (clauses : List Stated) (p : ℕ) → p < length words →
    length words < p + 3 → HasClauses words clauses p → clauses_words (texts words) ≡ None
clauses_cut words clauses p l m h =
    let left = length-drop p words in
    h.are ∙ ap (behind clauses) (few_left (drop p words) (omega arith) (omega arith))
