-- Cutting texts at their first space, equals sign or colon.
use Rattle.std.proofs.Common.{◌≡◌, ◌≢◌, ℕ, ◌+◌, ◌<◌, ◌==◌, Bool, true, false, not, cond, List, [], ◌∷◌, ◌++◌, length}
use Rattle.std.proofs.Common.{refl, ap, sym, ◌∙◌, subst, arith, eqb, ne_eqb, map, take, get_or, append-nil}
use Rattle.std.proofs.Common.{append_assoc, Bor}
use Rattle.std.proofs.Common.{codes, drop}
use Rattle.std.specs.Prelude.{Option, Some, None}
use Rattle.std.specs.List.{All, before_first, after_first, position_or_len, slice_split, onto_first}
use Rattle.std.proofs.Math.Seq.{take-append_seam, drop-append-add}
use Rattle.std.proofs.lemmas.Bool.Decides.{nat_tests}
use Rattle.std.proofs.lemmas.List.{take_all, drop_all, take_more}
use Rattle.std.proofs.lemmas.List.Elements.{All-weaker, All-head, All-tail}
use Rattle.std.proofs.lemmas.List.Splits.{slice_split_at, slice_split_none}
use Rattle.vac_lines.specs.Lines.{words_of, texts, HasNo}
use Rattle.vac_model.specs.TaskText.{spaced}
use Rattle.judge_reservations.specs.Trips.{TripWords, five_words, trip_words}

-- bytes that differ from a byte
abbrev pub Fails : ℕ → List ℕ → Type 0
Fails byte xs = All (λ b. eqb b byte ≡ false) xs

fails : (byte : ℕ) (xs : List ℕ) → HasNo byte xs → Fails byte xs
fails byte xs h = All-weaker (λ b. b ≢ byte) (λ b. eqb b byte ≡ false) (λ b n. ne_eqb b byte n) xs h

own_byte : (byte : ℕ) → eqb byte byte ≡ true
own_byte byte = grind (arith, nat_tests)

reached : (byte : ℕ) (xs ys : List ℕ) → Fails byte xs → position_or_len (λ b. b == byte) (xs ++ byte ∷ ys) ≡ length xs
reached byte [] ys h = rw (own_byte byte) refl
reached byte (x ∷ xs) ys h =
    let head : eqb x byte ≡ false = All-head (λ b. eqb b byte ≡ false) x xs h in
    let rest = reached byte xs ys (All-tail (λ b. eqb b byte ≡ false) x xs h) in
    rw head (omega (arith, rest))

never : (byte : ℕ) (xs : List ℕ) → Fails byte xs → position_or_len (λ b. b == byte) xs ≡ length xs
never byte [] h = refl
never byte (x ∷ xs) h =
    let head : eqb x byte ≡ false = All-head (λ b. eqb b byte ≡ false) x xs h in
    let rest = never byte xs (All-tail (λ b. eqb b byte ≡ false) x xs h) in
    rw head (omega (arith, rest))

pub before_cut : (byte : ℕ) (bytes xs ys : List ℕ) → HasNo byte xs → bytes ≡ xs ++ byte ∷ ys →
    xs ≡ before_first (λ b. b == byte) bytes
before_cut byte bytes xs ys h e =
    sym (ap (before_first (λ b. b == byte)) e
    ∙ ap (λ n. take n (xs ++ byte ∷ ys)) (reached byte xs ys (fails byte xs h)) ∙ take-append_seam xs (byte ∷ ys))

pub after_cut : (byte : ℕ) (bytes xs ys : List ℕ) → HasNo byte xs → bytes ≡ xs ++ byte ∷ ys →
    ys ≡ after_first (λ b. b == byte) bytes
after_cut byte bytes xs ys h e =
    sym (ap (after_first (λ b. b == byte)) e
    ∙ ap (λ n. drop (n + 1) (xs ++ byte ∷ ys)) (reached byte xs ys (fails byte xs h))
    ∙ drop-append-add xs (byte ∷ ys) 1)

pub before_all : (byte : ℕ) (bytes : List ℕ) → HasNo byte bytes → bytes ≡ before_first (λ b. b == byte) bytes
before_all byte bytes h =
    let end = never byte bytes (fails byte bytes h) in
    sym (take_all (position_or_len (λ b. b == byte) bytes) bytes (omega (arith, end)))

pub after_all : (byte : ℕ) (bytes : List ℕ) → HasNo byte bytes → [] ≡ after_first (λ b. b == byte) bytes
after_all byte bytes h =
    let end = never byte bytes (fails byte bytes h) in
    sym (drop_all (position_or_len (λ b. b == byte) bytes + 1) bytes (omega (arith, end)))

-- the words of a text that was cut at a space
pub word_of : (text word rest : List ℕ) → HasNo 32 word → text ≡ word ++ 32 ∷ rest →
    words_of text ≡ word ∷ words_of rest
word_of text word rest h e =
    ap words_of e ∙ slice_split_at (λ b. eqb b 32) word 32 rest (fails 32 word h) refl

pub last_word : (word : List ℕ) → HasNo 32 word → words_of word ≡ word ∷ []
last_word word h = slice_split_none (λ b. eqb b 32) word (fails 32 word h)

-- a list that is not empty
abbrev Some_parts : List (List ℕ) → Type 0
Some_parts ws = (y : List ℕ) × (ys : List (List ℕ)) × (ws ≡ y ∷ ys)

one_more : (x : ℕ) (ws : List (List ℕ)) (b : Bool) → Some_parts ws → Some_parts (cond b ([] ∷ ws) (onto_first x ws))
one_more x ws true h = ([], ws, refl)
one_more x ws false h = (x ∷ h.0, h.1, ap (onto_first x) h.2)

some_parts : (p : ℕ → Bool) (xs : List ℕ) → Some_parts (slice_split p xs)
some_parts p [] = ([], [], refl)
some_parts p (x ∷ xs) = one_more x (slice_split p xs) (p x) (some_parts p xs)

-- the words of the reply to a trip, cut one after another
module _ (text name rest : List ℕ) (h : HasNo 32 name) (e : text ≡ name ++ 32 ∷ rest) where
  pub two_words : HasNo 32 rest → trip_words text ≡ None
  two_words none = ap five_words (word_of text name rest h e ∙ ap (λ ws. name ∷ ws) (last_word rest none))

  module _ (customer rest' : List ℕ) (h' : HasNo 32 customer) (e' : rest ≡ customer ++ 32 ∷ rest') where
    pub three_words : HasNo 32 rest' → trip_words text ≡ None
    three_words none = ap five_words (word_of text name rest h e
        ∙ ap (λ ws. name ∷ ws) (word_of rest customer rest' h' e'
        ∙ ap (λ ws. customer ∷ ws) (last_word rest' none)))

    module _ (car after : List ℕ) (hc : HasNo 32 car) (ec : rest' ≡ car ++ 32 ∷ after) where
      pub four_words : HasNo 32 after → trip_words text ≡ None
      four_words none = ap five_words (word_of text name rest h e
          ∙ ap (λ ws. name ∷ ws) (word_of rest customer rest' h' e'
          ∙ ap (λ ws. customer ∷ ws) (word_of rest' car after hc ec
          ∙ ap (λ ws. car ∷ ws) (last_word after none))))

      module _ (flight room : List ℕ) (hf : HasNo 32 flight) (ef : after ≡ flight ++ 32 ∷ room) where
        cut : words_of text ≡ name ∷ customer ∷ car ∷ flight ∷ words_of room
        cut = word_of text name rest h e ∙ ap (λ ws. name ∷ ws) (word_of rest customer rest' h' e'
            ∙ ap (λ ws. customer ∷ ws) (word_of rest' car after hc ec
            ∙ ap (λ ws. car ∷ ws) (word_of after flight room hf ef)))

        pub all_words : HasNo 32 room → trip_words text ≡ Some (customer, car, flight, room)
        all_words none = ap five_words (cut ∙ ap (λ ws. name ∷ customer ∷ car ∷ flight ∷ ws) (last_word room none))

        pub more_words : (first last : List ℕ) → HasNo 32 first → room ≡ first ++ 32 ∷ last →
            trip_words text ≡ None
        more_words first last hl el =
            let more = some_parts (λ b. eqb b 32) last in
            ap five_words (cut ∙ ap (λ ws. name ∷ customer ∷ car ∷ flight ∷ ws)
            (word_of room first last hl el ∙ ap (λ ws. first ∷ ws) more.2))

-- one more word behind a text
pub word_behind : (old out pushed new : List ℕ) (words : List (Bor (List ℕ))) (i : ℕ) (w : Bor (List ℕ)) →
    i < length words → out ≡ old ++ spaced (texts (take i words)) → pushed ≡ out ++ 32 ∷ [] →
    new ≡ pushed ++ (get_or words i w).now → new ≡ old ++ spaced (texts (take (i + 1) words))
word_behind old out pushed new words i w h e g f =
    f ∙ ap (λ t. t ++ word) g ∙ ap (λ t. (t ++ 32 ∷ []) ++ word) e
    ∙ append_assoc (old ++ spaced (texts (take i words))) (32 ∷ []) word
    ∙ append_assoc old (spaced (texts (take i words))) (32 ∷ word)
    ∙ ap (λ t. old ++ t) (more (take i words) ∙ ap (λ ws. spaced (texts ws)) (sym (take_more words i w h)))
  where
    word : List ℕ
    word = (get_or words i w).now

    more : (ws : List (Bor (List ℕ))) →
        spaced (texts ws) ++ 32 ∷ word ≡ spaced (texts (ws ++ get_or words i w ∷ []))
    more [] = ap (λ t. 32 ∷ t) (sym (append-nil word))
    more (v ∷ ws) = ap (λ t. 32 ∷ t) (append_assoc v.now (spaced (texts ws)) (32 ∷ word) ∙ ap (λ t. v.now ++ t)
        (more ws))
