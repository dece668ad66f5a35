-- Words that are laid piece by piece.
use Rattle.std.proofs.Common.{◌≡◌, ◌∙◌, ◌+◌, ◌<◌, sym, ap, arith, ℕ, suc, List, [], ◌∷◌, ◌++◌, length, take, get_or}
use Rattle.std.proofs.Common.{append_assoc, append-nil}
use Rattle.std.proofs.lemmas.List.{take_more, length-take-le}
use Rattle.std.proofs.lemmas.Grind.{flat_map-append}
use Rattle.tx_memory.specs.declared.access.Access.{Access}
use Rattle.vac_manager.specs.declared.note.TracedAttempt.{TracedAttempt}
use Rattle.load_record.specs.Laying.{write_of, writes_from, done_by}

-- the writes of words in two parts
pub writes_both : (first n : ℕ) (xs ys : List ℕ) → first + length xs ≡ n →
    writes_from first (xs ++ ys) ≡ writes_from first xs ++ writes_from n ys
writes_both first n [] ys e = let same : first ≡ n = omega (arith, e) in ap (λ (k : ℕ). writes_from k ys) same
writes_both first n (x ∷ xs) ys e =
    ap (λ t. write_of first x ++ t) (writes_both (suc first) n xs ys (omega (arith, e)))
    ∙ sym (append_assoc (write_of first x) (writes_from (suc first) xs) (writes_from n ys))

-- one word more
pub word_laid : (first place address word : ℕ) (words : List ℕ) (items items' : List Access) → place < length words →
    word ≡ get_or words place 0 → address ≡ first + place
    → items ≡ writes_from first (take place words) → items' ≡ items ++ write_of address word →
    items' ≡ writes_from first (take (place + 1) words)
word_laid first place address word words items items' low at where_ before after =
    let long : first + length (take place words) ≡ address = let l = length-take-le place words (omega (arith, low)) in
    omega (arith, l, where_) in
    let all : take (place + 1) words ≡ take place words ++ word ∷ [] =
    take_more words place 0 low ∙ ap (λ (w : ℕ). take place words ++ w ∷ []) (sym at) in
    after ∙ ap (λ t. t ++ write_of address word) before
    ∙ sym (ap (writes_from first) all ∙ writes_both first address (take place words) (word ∷ []) long ∙
    ap (λ t. writes_from first (take place words) ++ t) (append-nil (write_of address word)))

-- one piece more
pub piece_laid : (first count : ℕ) (left piece rest : List ℕ) (whole : List Access) (laid : List TracedAttempt)
    (a : TracedAttempt) → length piece ≡ count → left ≡ piece ++ rest
    → done_by laid ++ writes_from first left ≡ whole → a.accesses.items ≡ writes_from first piece →
    done_by (laid ++ a ∷ []) ++ writes_from (first + count) rest ≡ whole
piece_laid first count left piece rest whole laid a long cut before is =
    let one : done_by (laid ++ a ∷ []) ≡ done_by laid ++ writes_from first piece =
    flat_map-append (λ b. b.accesses.items) laid (a ∷ []) ∙ ap (λ t. done_by laid ++ t)
    (append-nil a.accesses.items ∙ is) in
    ap (λ t. t ++ writes_from (first + count) rest) one
    ∙ append_assoc (done_by laid) (writes_from first piece) (writes_from (first + count) rest)
    ∙ ap (λ t. done_by laid ++ t) (sym (ap (writes_from first) cut ∙ writes_both first (first + count) piece rest
    (ap (λ (n : ℕ). first + n) long)))
    ∙ before

-- nothing is left
pub all_laid : (first : ℕ) (left : List ℕ) (whole : List Access) (laid : List TracedAttempt) → left ≡ [] →
    done_by laid ++ writes_from first left ≡ whole → done_by laid ≡ whole
all_laid first left whole laid none before = sym (append-nil (done_by laid)) ∙
    ap (λ (l : List ℕ). done_by laid ++ writes_from first l) (sym none) ∙ before
