-- Reading the parts of a line one after another.
use Rattle.std.proofs.Common.{◌≡◌, ℕ, ◌<◌, ◌≤◌, ◌+◌, ◌*◌, length-append, drop, get_or, Bool, true, false, cond, List}
use Rattle.std.proofs.Common.{[], ◌∷◌, ◌++◌, length, map, refl, ap, sym, ◌∙◌, append_assoc, append-nil, Result, Ok, Err}
use Rattle.std.proofs.Common.{Bor, arith}
use Rattle.std.specs.List.{slice_split, onto_first, list_all}
use Rattle.std.proofs.lemmas.List.Folds.{list_all-append}
use Rattle.std.specs.Bool.{MatchBool}
use Rattle.std.proofs.lemmas.List.{at_drop_more, at_drop_all, length_push}
use Rattle.vac_lines.specs.declared.fault.LineFault.{LineFault}
use Rattle.vac_lines.specs.Lines.{texts}
use Rattle.vac_lines.specs.Words.{is_separator}
use Rattle.vac_lines.specs.LineTable.{◌>>=◌, read_each, cut_parts}

-- the values read so far, and after them those still to be read
abbrev pub put_behind : {B : Type 0} → List B → Result (List B) LineFault → Result (List B) LineFault
put_behind front rest = rest >>= λ ys. Ok (front ++ ys)

-- nothing was read so far
pub none_read : {B : Type 0} (front : List B) (rest : Result (List B) LineFault) → front ≡ [] →
    rest ≡ put_behind front rest
none_read front (Ok ys) e = rw e refl
none_read front (Err fault) e = refl

put_one : {B : Type 0} (front : List B) (y : B) (rest : Result (List B) LineFault)
    → put_behind front (rest >>= λ ys. Ok (y ∷ ys)) ≡ put_behind (front ++ y ∷ []) rest
put_one front y (Ok ys) = ap Ok (sym (append_assoc front (y ∷ []) ys))
put_one front y (Err fault) = refl

-- one more value was read
pub one_read : {A B : Type 0} (read : A → Result B LineFault) (x : A) (xs : List A) (y : B) (front : List B)
    (all : Result (List B) LineFault)
    → read x ≡ Ok y → all ≡ put_behind front (read_each read (x ∷ xs)) →
    all ≡ put_behind (front ++ y ∷ []) (read_each read xs)
one_read read x xs y front all e h =
    h ∙ ap (λ r. put_behind front (r >>= λ y. read_each read xs >>= λ ys. Ok (y ∷ ys))) e ∙
    put_one front y (read_each read xs)

-- the next has a fault
pub fault_read : {A B : Type 0} (read : A → Result B LineFault) (x : A) (xs : List A) (fault : LineFault)
    (front : List B) (all : Result (List B) LineFault)
    → read x ≡ Err fault → all ≡ put_behind front (read_each read (x ∷ xs)) → all ≡ Err fault
fault_read read x xs fault front all e h =
    h ∙ ap (λ r. put_behind front (r >>= λ y. read_each read xs >>= λ ys. Ok (y ∷ ys))) e

-- all values were read
pub all_read : {B : Type 0} (front : List B) (all : Result (List B) LineFault) → all ≡ put_behind front (Ok []) →
    all ≡ Ok front
all_read front all h = h ∙ ap Ok (append-nil front)

texts_first : (w : Bor (List ℕ)) (parts : List (List (Bor (List ℕ)))) →
    onto_first w.now (map texts parts) ≡ map texts (onto_first w parts)
texts_first w [] = refl
texts_first w (p ∷ ps) = refl

-- the cut of the words of an update
abbrev pub parts : List (Bor (List ℕ)) → List (List (Bor (List ℕ)))
parts words = slice_split (λ w. is_separator w.now) words

-- the parts of the words' texts are the texts of the parts
pub parts_of_texts : (words : List (Bor (List ℕ))) → cut_parts (texts words) ≡ map texts (parts words)
parts_of_texts [] = refl
parts_of_texts (w ∷ ws) =
    let rest = parts_of_texts ws in
    elim (is_separator w.now) as (λ v. cond v ([] ∷ cut_parts (texts ws))
    (onto_first w.now (cut_parts (texts ws))) ≡ map texts (cond v ([] ∷ parts ws) (onto_first w (parts ws)))) [
      | true ↦ ap (λ t. [] ∷ t) rest
      | false ↦ ap (onto_first w.now) rest ∙ texts_first w (parts ws)
    ]

-- the part with this number is the next to be read
pub next_part : {B : Type 0} (read : List (List ℕ) → Result B LineFault) (all : List (List (Bor (List ℕ)))) (n : ℕ)
    (part : List (Bor (List ℕ)))
    → (n < length all) × (part ≡ get_or all n part)
    → read_each read (map texts (drop n all)) ≡ read_each read (texts part ∷ map texts (drop (n + 1) all))
next_part read all n part h =
    at_drop_more (λ (ps : List (List (Bor (List ℕ)))). read_each read (map texts ps)) all n part h.0
    ∙ ap (λ p. read_each read (texts p ∷ map texts (drop (n + 1) all))) (sym h.1)

-- every part was read
pub no_part_left : {B : Type 0} (read : List (List ℕ) → Result B LineFault) (all : List (List (Bor (List ℕ)))) (n : ℕ) →
    length all ≤ n
    → read_each read (map texts (drop n all)) ≡ Ok []
no_part_left read all n h = at_drop_all (λ (ps : List (List (Bor (List ℕ)))). read_each read (map texts ps)) all n h

-- one more element with the property
pub all_pushed : {X : Type 0} (p : X → Bool) (xs : List X) (y : X) → list_all p xs ≡ true → p y ≡ true →
    list_all p (xs ++ y ∷ []) ≡ true
all_pushed p xs y h g = list_all-append p xs (y ∷ []) ∙ rw (h, g) refl

-- each part has a word, and there is a word between two parts
pub short_step : {X Y : Type 0} (read : List Y) (y : Y) (words : ℕ) (done : Bool) (rest part after : List X)
    → MatchBool done (rest ≡ part) ((x : X) × (rest ≡ part ++ x ∷ after)) → 1 ≤ length part
    → 2 * length read + (length rest + 1) ≤ words + 1 → 2 * length (read ++ y ∷ []) + cond done 0
    (length after + 1) ≤ words + 1
short_step read y words true rest part after e h g = omega (arith, ap length e, length_push read y)
short_step read y words false rest part after e h g = omega (
  arith,
  ap length e.1,
  length-append part (e.0 ∷ after),
  length_push read y,
)

-- no part was read
pub short_start : {X Y : Type 0} (read : List Y) (done : Bool) (words rest : List X) → read ≡ [] → done ≡ false →
    rest ≡ words
    → 2 * length read + cond done 0 (length rest + 1) ≤ length words + 1
short_start read done words rest e d w = rw (e, d, w) (omega arith)
