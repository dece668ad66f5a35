-- Quoted words are read back.
use Rattle.std.proofs.Common.{◌≡◌, ◌≢◌, ℕ, ◌+◌, ◌-◌, ◌/◌, ◌%◌, ◌<◌, ◌≤◌, ◌&&◌, ◌==◌, suc, zero, Bool, true, false}
use Rattle.std.proofs.Common.{not, cond, Option, Some, None, List, [], ◌∷◌, ◌++◌, length, drop, get_or, refl, sym}
use Rattle.std.proofs.Common.{ap, ◌∙◌, arith, append_assoc, append-nil, inl, inr, nat_lt}
use Rattle.std.specs.Prelude.{All, flat_map, ◌⊎◌}
use Rattle.std.specs.List.{list_all}
use Rattle.std.proofs.lemmas.List.{drop_more}
use Rattle.std.proofs.lemmas.Bool.Decides.{nat_tests}
use Rattle.judge_text.specs.Quoting.{is_plain, hex_digit, hex_value, escaped, behind, behind_digits, IsPair}
use Rattle.judge_text.specs.Quoting.{IsNoPair, unescaped}

-- bytes behind bytes
pub behind_more : (a b : List ℕ) (o : Option (List ℕ)) → behind a (behind b o) ≡ behind (a ++ b) o
behind_more a b None = refl
behind_more a b (Some c) = ap Some (sym (append_assoc a b c))

third : (p q r s : Bool) → (p && q && not r && not s) ≡ true → r ≡ false
third p q false s h = refl
third true true true s h = cc
third false q true s h = cc
third true false true s h = cc

first_plain : (p q : Bool) → (p && q) ≡ true → p ≡ true
first_plain true q h = refl
first_plain false q h = h

others_plain : (p q : Bool) → (p && q) ≡ true → q ≡ true
others_plain true q h = h
others_plain false q h = cc

-- a plain byte is no quote
plain_open : (a : ℕ) → is_plain a ≡ true → (a == 34) ≡ false
plain_open a h = third (nat_lt 32 a) (nat_lt a 127) (a == 34) (a == 37) h

-- a plain byte stands for itself
pub plain_step : (a : ℕ) (rest : List ℕ) → is_plain a ≡ true → unescaped (a ∷ rest) ≡ behind (a ∷ []) (unescaped rest)
plain_step a [] h = ap (λ t. cond t (Some []) None) (plain_open a h)
plain_step a (b ∷ []) h = ap (λ t. cond t (behind (a ∷ []) (unescaped (b ∷ []))) None) h
plain_step a (b ∷ c ∷ rest) h =
    ap (λ t. cond t (behind (a ∷ []) (unescaped (b ∷ c ∷ rest)))
    (cond (a == 37) (behind_digits (hex_value b) (hex_value c) (unescaped rest)) None)) h

-- plain bytes stand for themselves
pub plain_whole : (bytes : List ℕ) → list_all is_plain bytes ≡ true → flat_map escaped bytes ≡ bytes
plain_whole [] h = refl
plain_whole (b ∷ bs) h =
    ap (λ t. cond t (b ∷ []) (37 ∷ hex_digit (b / 16) ∷ hex_digit (b % 16) ∷ []) ++ flat_map escaped bs)
    (first_plain (is_plain b) (list_all is_plain bs) h)
    ∙ ap (λ t. b ∷ t) (plain_whole bs (others_plain (is_plain b) (list_all is_plain bs) h))

-- a percent sign and two digits stand for a byte
pub pair_step : (a b c : ℕ) (rest : List ℕ) → is_plain a ≡ false → (a == 37) ≡ true →
    unescaped (a ∷ b ∷ c ∷ rest) ≡ behind_digits (hex_value b) (hex_value c) (unescaped rest)
pair_step a b c rest h e =
    ap (λ t. cond t (behind (a ∷ []) (unescaped (b ∷ c ∷ rest)))
    (cond (a == 37) (behind_digits (hex_value b) (hex_value c) (unescaped rest)) None)) h
    ∙ ap (λ t. cond t (behind_digits (hex_value b) (hex_value c) (unescaped rest)) None) e

pub pair_some : (b c byte : ℕ) (o : Option (List ℕ)) → IsPair b c byte →
    behind_digits (hex_value b) (hex_value c) o ≡ behind (byte ∷ []) o
pair_some b c byte o p =
    ap (λ x. behind_digits x (hex_value c) o) p.high_is
    ∙ ap (λ x. behind_digits (Some p.above) x o) p.low_is
    ∙ ap (λ x. behind (x ∷ []) o) (sym p.byte_is)

pub pair_none : (b c : ℕ) (o : Option (List ℕ)) → IsNoPair b c → behind_digits (hex_value b) (hex_value c) o ≡ None
pair_none b c o (inl e) = ap (λ x. behind_digits x (hex_value c) o) e
pair_none b c o (inr e) = ap (λ x. behind_digits (hex_value b) x o) e ∙ none (hex_value b)
  where
    none : (x : Option ℕ) → behind_digits x None o ≡ None
    none None = refl
    none (Some y) = refl

-- a text that begins otherwise writes nothing, but for a last quote
pub other_step : (a : ℕ) (rest : List ℕ) → is_plain a ≡ false → ((a == 37) ≡ false) ⊎ (length rest < 2) →
    ((a == 34) ≡ false) ⊎ (0 < length rest) → unescaped (a ∷ rest) ≡ None
other_step a [] h k (inl e) = ap (λ t. cond t (Some []) None) e
other_step a [] h k (inr l) = absurd (omega arith)
other_step a (b ∷ []) h k e = ap (λ t. cond t (behind (a ∷ []) (unescaped (b ∷ []))) None) h
other_step a (b ∷ c ∷ rest) h (inl n) e =
    ap (λ t. cond t (behind (a ∷ []) (unescaped (b ∷ c ∷ rest)))
    (cond (a == 37) (behind_digits (hex_value b) (hex_value c) (unescaped rest)) None)) h
    ∙ ap (λ t. cond t (behind_digits (hex_value b) (hex_value c) (unescaped rest)) None) n
other_step a (b ∷ c ∷ rest) h (inr l) e = absurd (omega arith)

-- the digit of a number is read back
digit_read : (n : ℕ) → n < 16 → hex_value (hex_digit n) ≡ Some n
digit_read zero l = refl
digit_read (suc zero) l = refl
digit_read (suc (suc zero)) l = refl
digit_read (suc (suc (suc zero))) l = refl
digit_read (suc (suc (suc (suc zero)))) l = refl
digit_read (suc (suc (suc (suc (suc zero))))) l = refl
digit_read (suc (suc (suc (suc (suc (suc zero)))))) l = refl
digit_read (suc (suc (suc (suc (suc (suc (suc zero))))))) l = refl
digit_read (suc (suc (suc (suc (suc (suc (suc (suc zero)))))))) l = refl
digit_read (suc (suc (suc (suc (suc (suc (suc (suc (suc zero))))))))) l = refl
digit_read (suc (suc (suc (suc (suc (suc (suc (suc (suc (suc zero)))))))))) l = refl
digit_read (suc (suc (suc (suc (suc (suc (suc (suc (suc (suc (suc zero))))))))))) l = refl
digit_read (suc (suc (suc (suc (suc (suc (suc (suc (suc (suc (suc (suc zero)))))))))))) l = refl
digit_read (suc (suc (suc (suc (suc (suc (suc (suc (suc (suc (suc (suc (suc zero))))))))))))) l = refl
digit_read (suc (suc (suc (suc (suc (suc (suc (suc (suc (suc (suc (suc (suc (suc zero)))))))))))))) l = refl
digit_read (suc (suc (suc (suc (suc (suc (suc (suc (suc (suc (suc (suc (suc (suc (suc zero))))))))))))))) l = refl
digit_read (suc (suc (suc (suc (suc (suc (suc (suc (suc (suc (suc (suc (suc (suc (suc (suc n)))))))))))))))) l =
    absurd (omega arith)

-- one byte is read back
byte_read : (b : ℕ) (rest : List ℕ) → b < 256 → (t : Bool) → is_plain b ≡ t →
    unescaped (cond t (b ∷ []) (37 ∷ hex_digit (b / 16) ∷ hex_digit (b % 16) ∷ []) ++ rest)
    ≡ behind (b ∷ []) (unescaped rest)
byte_read b rest small true h = plain_step b rest h
byte_read b rest small false h =
    pair_step 37 (hex_digit (b / 16)) (hex_digit (b % 16)) rest refl refl
    ∙ pair_some (hex_digit (b / 16)) (hex_digit (b % 16)) b (unescaped rest) (record {
      above = b / 16;
      below = b % 16;
      high_is = digit_read (b / 16) (omega arith);
      low_is = digit_read (b % 16) (omega arith);
      byte_is = omega arith;
    })

tail_small : (x : ℕ) (xs : List ℕ) → All (λ b. b < 256) (x ∷ xs) → All (λ b. b < 256) xs
tail_small x xs h = λ i d l. h (suc i) d (omega arith)

pub all_read : (bytes : List ℕ) → All (λ b. b < 256) bytes →
    unescaped (flat_map escaped bytes ++ 34 ∷ []) ≡ Some bytes
all_read [] h = refl
all_read (b ∷ bytes) h =
    ap unescaped (append_assoc (escaped b) (flat_map escaped bytes) (34 ∷ []))
    ∙ byte_read b (flat_map escaped bytes ++ 34 ∷ []) (h 0 0 (omega arith)) (is_plain b) refl
    ∙ ap (behind (b ∷ [])) (all_read bytes (tail_small b bytes h))

-- the byte at a place, whatever stands for none
pub own : (xs : List ℕ) (i d : ℕ) → i < length xs → get_or xs i d ≡ get_or xs i (get_or xs i d)
own xs i d l = same xs i d (get_or xs i d) l
  where
    same : (ys : List ℕ) (j e f : ℕ) → j < length ys → get_or ys j e ≡ get_or ys j f
    same [] j e f l = absurd (omega arith)
    same (y ∷ ys) zero e f l = refl
    same (y ∷ ys) (suc j) e f l = same ys j e f (omega arith)

pub is_37 : (a : ℕ) → a ≡ 37 → (a == 37) ≡ true
is_37 a e = ap (λ x. x == 37) e

-- what is read of a text so far, and what is left of it
abbrev pub IsReadTo : List ℕ → ℕ → List ℕ → Type 0
IsReadTo text at bytes = unescaped text ≡ behind bytes (unescaped (drop at text))

none_behind : (bytes : List ℕ) (o : Option (List ℕ)) → o ≡ None → behind bytes o ≡ None
none_behind bytes o e = ap (behind bytes) e

pub start : (text : List ℕ) (bytes : List ℕ) → bytes ≡ [] → IsReadTo text 0 bytes
start text bytes e = sym (ap (λ b. behind b (unescaped text)) e ∙ same (unescaped text))
  where
    same : (o : Option (List ℕ)) → behind [] o ≡ o
    same None = refl
    same (Some x) = refl

pub go_plain : (text : List ℕ) (at byte : ℕ) (bytes : List ℕ) → at < length text → byte ≡ get_or text at byte →
    is_plain byte ≡ true → IsReadTo text at bytes → IsReadTo text (at + 1) (bytes ++ byte ∷ [])
go_plain text at byte bytes l is h e =
    e ∙ ap (λ t. behind bytes (unescaped t)) (drop_more text at byte l)
    ∙ ap (λ b. behind bytes (unescaped (b ∷ drop (at + 1) text))) (sym is)
    ∙ ap (behind bytes) (plain_step byte (drop (at + 1) text) h)
    ∙ behind_more bytes (byte ∷ []) (unescaped (drop (at + 1) text))

three : (text : List ℕ) (at a b c : ℕ) → at + 2 < length text → a ≡ get_or text at a → b ≡ get_or text (at + 1) b →
    c ≡ get_or text (at + 2) c → drop at text ≡ a ∷ b ∷ c ∷ drop (at + 3) text
three text at a b c l is-a is-b is-c =
    drop_more text at a (omega arith)
    ∙ ap (λ x. x ∷ drop (at + 1) text) (sym is-a)
    ∙ ap (λ t. a ∷ t) (drop_more text (at + 1) b (omega arith))
    ∙ ap (λ x. a ∷ x ∷ drop (at + 1 + 1) text) (sym is-b)
    ∙ ap (λ i. a ∷ b ∷ drop i text) (let e : at + 1 + 1 ≡ at + 2 = omega arith in e)
    ∙ ap (λ t. a ∷ b ∷ t) (drop_more text (at + 2) c l)
    ∙ ap (λ x. a ∷ b ∷ x ∷ drop (at + 2 + 1) text) (sym is-c)
    ∙ ap (λ i. a ∷ b ∷ c ∷ drop i text) (let e : at + 2 + 1 ≡ at + 3 = omega arith in e)

pub go_pair : (text : List ℕ) (at a b c byte : ℕ) (bytes : List ℕ) → at + 2 < length text → a ≡ get_or text at a →
    b ≡ get_or text (at + 1) b → c ≡ get_or text (at + 2) c → is_plain a ≡ false → (a == 37) ≡ true → IsPair b c byte →
    IsReadTo text at bytes → IsReadTo text (at + 3) (bytes ++ byte ∷ [])
go_pair text at a b c byte bytes l is-a is-b is-c h p pair e =
    e ∙ ap (λ t. behind bytes (unescaped t)) (three text at a b c l is-a is-b is-c)
    ∙ ap (behind bytes) (pair_step a b c (drop (at + 3) text) h p
    ∙ pair_some b c byte (unescaped (drop (at + 3) text)) pair)
    ∙ behind_more bytes (byte ∷ []) (unescaped (drop (at + 3) text))

pub no_pair : (text : List ℕ) (at a b c : ℕ) (bytes : List ℕ) → at + 2 < length text → a ≡ get_or text at a →
    b ≡ get_or text (at + 1) b → c ≡ get_or text (at + 2) c → is_plain a ≡ false → (a == 37) ≡ true → IsNoPair b c →
    IsReadTo text at bytes → unescaped text ≡ None
no_pair text at a b c bytes l is-a is-b is-c h p none e =
    e ∙ ap (λ t. behind bytes (unescaped t)) (three text at a b c l is-a is-b is-c)
    ∙ ap (behind bytes) (pair_step a b c (drop (at + 3) text) h p
    ∙ pair_none b c (unescaped (drop (at + 3) text)) none)

long_drop : (i : ℕ) (xs : List ℕ) → i ≤ length xs → length (drop i xs) ≡ length xs - i
long_drop zero xs l = omega arith
long_drop (suc i) [] l = absurd (omega arith)
long_drop (suc i) (x ∷ xs) l = let e = long_drop i xs (omega arith) in omega arith

pub ends : (text : List ℕ) (at byte : ℕ) (bytes : List ℕ) → at < length text → byte ≡ get_or text at byte →
    byte ≡ 34 → at + 1 ≡ length text → IsReadTo text at bytes → unescaped text ≡ Some bytes
ends text at byte bytes l is quote last e =
    let long : length (drop (at + 1) text) ≡ length text - (at + 1) = long_drop (at + 1) text (omega arith) in
    e ∙ ap (λ t. behind bytes (unescaped t)) (drop_more text at byte l)
    ∙ ap (λ b. behind bytes (unescaped (b ∷ drop (at + 1) text))) (sym is ∙ quote)
    ∙ ap (λ t. behind bytes (unescaped (34 ∷ t))) (empty (drop (at + 1) text) (omega arith))
    ∙ ap Some (append-nil bytes)
  where
    empty : (xs : List ℕ) → length xs ≡ 0 → xs ≡ []
    empty [] e = refl
    empty (x ∷ xs) e = absurd (omega arith)

pub other : (text : List ℕ) (at byte : ℕ) (bytes : List ℕ) → at < length text → byte ≡ get_or text at byte →
    is_plain byte ≡ false → (byte ≢ 37) ⊎ (length text - at < 3) → (byte ≢ 34) ⊎ (at + 1 ≢ length text) →
    IsReadTo text at bytes → unescaped text ≡ None
other text at byte bytes l is h a b e =
    let long : length (drop (at + 1) text) ≡ length text - (at + 1) = long_drop (at + 1) text (omega arith) in
    e ∙ ap (λ t. behind bytes (unescaped t)) (drop_more text at byte l)
    ∙ ap (λ b. behind bytes (unescaped (b ∷ drop (at + 1) text))) (sym is)
    ∙ ap (behind bytes) (other_step byte (drop (at + 1) text) h
    (elim a [
      | inl n ↦ inl (no byte 37 n)
      | inr s ↦ inr (omega arith)
    ]) (elim b [
      | inl n ↦ inl (no byte 34 n)
      | inr s ↦ inr (omega arith)
    ]))
  where
    no : (x y : ℕ) → x ≢ y → (x == y) ≡ false
    no x y n = grind (arith, nat_tests)

pub at_end : (text : List ℕ) (at : ℕ) (bytes : List ℕ) → length text ≤ at → IsReadTo text at bytes →
    unescaped text ≡ None
at_end text at bytes l e = e ∙ ap (λ t. behind bytes (unescaped t)) (none at text l)
  where
    none : (i : ℕ) (xs : List ℕ) → length xs ≤ i → drop i xs ≡ []
    none zero [] l = refl
    none zero (x ∷ xs) l = absurd (omega arith)
    none (suc i) [] l = refl
    none (suc i) (x ∷ xs) l = none i xs (omega arith)
