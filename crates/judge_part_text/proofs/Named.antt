-- The names that were read of the first words, and those of the words that are left.
use Rattle.std.proofs.Common.{◌≡◌, ◌<◌, ◌≤◌, ◌+◌, ℕ, List, [], ◌∷◌, ◌++◌, length, map, drop, get_or, Option, Some, None}
use Rattle.std.proofs.Common.{refl, sym, ap, ◌∙◌, append_assoc, append-nil}
use Rattle.std.proofs.lemmas.List.{drop_more, drop_all}
use Rattle.std.specs.Borrow.{Bor}
use Rattle.vac_model.specs.State.{Place}
use Rattle.judge_part_text.specs.Naming.{before, id_of, ids_of, item_of, items_of}

module _ {A : Type 0} where
  -- values before those behind them, if there are all of them
  abbrev pub ahead : List A → Option (List A) → Option (List A)
  ahead values (Some rest) = Some (values ++ rest)
  ahead values None = None

  pub ahead_none : (values : List A) (o : Option (List A)) → values ≡ [] → o ≡ ahead values o
  ahead_none values (Some rest) e = ap (λ (vs : List A). Some (vs ++ rest)) (sym e)
  ahead_none values None e = refl

  ahead_one : (values : List A) (one : A) (o : Option (List A)) →
      ahead values (before (Some one) o) ≡ ahead (values ++ one ∷ []) o
  ahead_one values one (Some rest) = ap Some (sym (append_assoc values (one ∷ []) rest))
  ahead_one values one None = refl

  -- a value more
  pub ahead_more : (values after : List A) (one : A) (o : Option A) (rest : Option (List A)) → o ≡ Some one →
      after ≡ values ++ one ∷ [] → ahead values (before o rest) ≡ ahead after rest
  ahead_more values after one o rest is more =
      ap (λ x. ahead values (before x rest)) is ∙ ahead_one values one rest ∙ ap (λ vs. ahead vs rest) (sym more)

  -- a word that names nothing
  pub ahead_bad : (values : List A) (o : Option A) (rest : Option (List A)) → o ≡ None →
      ahead values (before o rest) ≡ None
  ahead_bad values o rest is = ap (λ x. ahead values (before x rest)) is

  pub ahead_all : (values : List A) → ahead values (Some []) ≡ Some values
  ahead_all values = ap Some (append-nil values)

abbrev pub Words : Type 0
Words = List (Bor (List ℕ))

abbrev pub texts_of : Words → List (List ℕ)
texts_of words = map (λ word. word.now) words

-- the word that stands for a place beyond the end
abbrev pub no_word : Bor (List ℕ)
no_word = record { ref_ptr = (0, 0); now = [] }

-- ---- ids

pub ids_more : (words : Words) (at : ℕ) (word d : Bor (List ℕ)) (ids after : List ℕ) (id : ℕ) →
    ids_of (texts_of words) ≡ ahead ids (ids_of (texts_of (drop at words))) → at < length words →
    word ≡ get_or words at d → id_of word.now ≡ Some id → after ≡ ids ++ id ∷ [] →
    ids_of (texts_of words) ≡ ahead after (ids_of (texts_of (drop (at + 1) words)))
ids_more words at word d ids after id h less here is more =
    h ∙ ap (λ r. ahead ids (ids_of (texts_of r))) (drop_more words at d less)
    ∙ ahead_more ids after id (id_of (get_or words at d).now) (ids_of (texts_of (drop (at + 1) words)))
    (ap (λ (w : Bor (List ℕ)). id_of w.now) (sym here) ∙ is) more

pub ids_bad : (words : Words) (at : ℕ) (word d : Bor (List ℕ)) (ids : List ℕ) →
    ids_of (texts_of words) ≡ ahead ids (ids_of (texts_of (drop at words))) → at < length words →
    word ≡ get_or words at d → id_of word.now ≡ None → None ≡ ids_of (texts_of words)
ids_bad words at word d ids h less here is =
    sym (h ∙ ap (λ r. ahead ids (ids_of (texts_of r))) (drop_more words at d less)
    ∙ ahead_bad ids (id_of (get_or words at d).now) (ids_of (texts_of (drop (at + 1) words)))
    (ap (λ (w : Bor (List ℕ)). id_of w.now) (sym here) ∙ is))

pub ids_all : (words : Words) (at : ℕ) (ids : List ℕ) →
    ids_of (texts_of words) ≡ ahead ids (ids_of (texts_of (drop at words))) → length words ≤ at →
    Some ids ≡ ids_of (texts_of words)
ids_all words at ids h e =
    sym (h ∙ ap (λ r. ahead ids (ids_of (texts_of r))) (drop_all at words e) ∙ ahead_all ids)

-- ---- items

-- two words are left, and more behind them
two_left : (words : Words) (at : ℕ) (kind id d e : Bor (List ℕ)) → at < length words → at + 1 < length words →
    kind ≡ get_or words at d → id ≡ get_or words (at + 1) e →
    drop at words ≡ kind ∷ id ∷ drop (at + 1 + 1) words
two_left words at kind id d e less next first second =
    drop_more words at d less
    ∙ ap (λ (w : Bor (List ℕ)). w ∷ drop (at + 1) words) (sym first)
    ∙ ap (λ (ws : Words). kind ∷ ws) (drop_more words (at + 1) e next
    ∙ ap (λ (w : Bor (List ℕ)). w ∷ drop (at + 1 + 1) words) (sym second))

pub items_more : (words : Words) (at : ℕ) (kind id d e : Bor (List ℕ)) (items after : List Place) (item : Place) →
    items_of (texts_of words) ≡ ahead items (items_of (texts_of (drop at words))) → at < length words →
    at + 1 < length words → kind ≡ get_or words at d → id ≡ get_or words (at + 1) e →
    item_of kind.now id.now ≡ Some item → after ≡ items ++ item ∷ [] →
    items_of (texts_of words) ≡ ahead after (items_of (texts_of (drop (at + 1 + 1) words)))
items_more words at kind id d e items after item h less next first second is more =
    h ∙ ap (λ r. ahead items (items_of (texts_of r))) (two_left words at kind id d e less next first second)
    ∙ ahead_more items after item (item_of kind.now id.now) (items_of (texts_of (drop (at + 1 + 1) words))) is more

pub items_bad : (words : Words) (at : ℕ) (kind id d e : Bor (List ℕ)) (items : List Place) →
    items_of (texts_of words) ≡ ahead items (items_of (texts_of (drop at words))) → at < length words →
    at + 1 < length words → kind ≡ get_or words at d → id ≡ get_or words (at + 1) e →
    item_of kind.now id.now ≡ None → None ≡ items_of (texts_of words)
items_bad words at kind id d e items h less next first second is =
    sym (h ∙ ap (λ r. ahead items (items_of (texts_of r))) (two_left words at kind id d e less next first second)
    ∙ ahead_bad items (item_of kind.now id.now) (items_of (texts_of (drop (at + 1 + 1) words))) is)

pub items_odd : (words : Words) (at : ℕ) (d : Bor (List ℕ)) (items : List Place) →
    items_of (texts_of words) ≡ ahead items (items_of (texts_of (drop at words))) → at < length words →
    length words ≤ at + 1 → None ≡ items_of (texts_of words)
items_odd words at d items h less last =
    sym (h ∙ ap (λ r. ahead items (items_of (texts_of r)))
    (drop_more words at d less ∙ ap (λ (ws : Words). get_or words at d ∷ ws) (drop_all (at + 1) words last)))

pub items_all : (words : Words) (at : ℕ) (items : List Place) →
    items_of (texts_of words) ≡ ahead items (items_of (texts_of (drop at words))) → length words ≤ at →
    Some items ≡ items_of (texts_of words)
items_all words at items h e =
    sym (h ∙ ap (λ r. ahead items (items_of (texts_of r))) (drop_all at words e) ∙ ahead_all items)
