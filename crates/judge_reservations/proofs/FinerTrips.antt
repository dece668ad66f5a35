-- The part on a scope of the part of a trip on a finer scope is the part of the trip.
use Rattle.std.proofs.Common.{◌≡◌, ℕ, ◌&&◌, ◌||◌, not, Bool, true, false, cond, List, [], ◌∷◌, length, refl, ap, sym}
use Rattle.std.proofs.Common.{◌∙◌}
use Rattle.std.proofs.Common.{arith, codes}
use Rattle.std.specs.Prelude.{Option, Some, None, filter, nat_le}
use Rattle.std.specs.Option.{option_map_or, option_and_then}
use Rattle.std.specs.Str.{bytes_eq}
use Rattle.std.proofs.lemmas.Bool.Decides.{nat_tests}
use Rattle.vac_model.specs.declared.items.Kind.{Kind}
use Rattle.vac_model.specs.declared.items.Kind.TheVariants.{Car, Flight, Room}
use Rattle.vac_model.specs.declared.commands.Command.TheVariants as command
use Rattle.vac_model.specs.declared.commands.Refusal.TheVariants.{Full, SoldOut}
use Rattle.vac_model.specs.declared.replies.Reply.TheVariants as reply
use Rattle.vac_model.specs.declared.tasks.Task.TheVariants as task
use Rattle.vac_model.specs.State.{Place}
use Rattle.vac_model.proofs.Ids.{both_true}
use Rattle.vac_lines.specs.Lines.{words_of}
use Rattle.vac_model.specs.ReplyText.{reply_text}
use Rattle.vac_lines.proofs.Spacing.{Each}
use Rattle.judge_reservations.specs.declared.scope.Scope.{Scope}
use Rattle.judge_reservations.specs.Scopes.{has_customer, has_item, is_closed, IsCoarser}
use Rattle.judge_reservations.specs.Tasks.{Answered, customer_exists}
use Rattle.judge_reservations.specs.Updates.{is_why}
use Rattle.judge_reservations.specs.Trips.{Shown, TripWords, shown_pick, keeps_pick, has_kept, is_kept, no_pick}
use Rattle.judge_reservations.specs.Trips.{kept_word}
use Rattle.judge_reservations.specs.Trips.{five_words, trip_words, word_for, has_kept_pick, kept_asks, kept_text, joins}
use Rattle.judge_reservations.specs.Trips.{joined_part, picked_part, shown_trip, trip_part}
use Rattle.judge_reservations.proofs.Larger.{same_customer, same_item, or_more}
use Rattle.judge_reservations.proofs.Spaces.{Spaceless, words_free, words_back}
use Rattle.judge_reservations.proofs.Replies.{words_joined}
use Rattle.judge_reservations.proofs.TripParts.{fewer_asks}
use Rattle.judge_reservations.proofs.FinerCommands.{again, not_then}

-- tests
and_both : (a b : Bool) → a ≡ true → b ≡ true → (a && b) ≡ true
and_both true b e f = f
and_both false b e f = absurd (let never : false ≡ true = e in cc)

same_both : {X : Type 0} (b : Bool) (x : X) → cond b x x ≡ x
same_both true x = refl
same_both false x = refl

and_twice : (h k : Bool) → (h && (h && k)) ≡ (h && k)
and_twice true k = refl
and_twice false k = refl

and_false : (h k : Bool) → k ≡ false → (h && k) ≡ false
and_false true k e = e
and_false false k e = refl

or_three : (a b c a' b' c' : Bool) → (a ≡ true → a' ≡ true) → (b ≡ true → b' ≡ true) → (c ≡ true → c' ≡ true) →
    (a || b || c) ≡ true → (a' || b' || c') ≡ true
or_three a b c true b' c' f g h e = refl
or_three a b c false true c' f g h e = refl
or_three a b c false false true f g h e = refl
or_three a b c false false false f g h e =
    let x = not_then a false f refl in
    let y = not_then b false g refl in
    let z = not_then c false h refl in
    absurd (let never : false ≡ true = sym (λ k. x k || y k || z k) ∙ e in cc)

pub none_shown : (kind : Kind) → shown_pick (no_pick kind) ≡ None
none_shown Car = refl
none_shown Flight = refl
none_shown Room = refl

no_pick_free : (kind : Kind) → Spaceless (no_pick kind)
no_pick_free Car = (refl, (refl, (refl, (refl, (refl, tt)))))
no_pick_free Flight = (refl, (refl, (refl, (refl, (refl, (refl, (refl, (refl, tt))))))))
no_pick_free Room = (refl, (refl, (refl, (refl, (refl, (refl, tt))))))

filter_same : {X : Type 0} (p q : X → Bool) → ((x : X) → p x ≡ q x) → (xs : List X) → filter p xs ≡ filter q xs
filter_same p q e xs = λ k. filter (λ x. e x k) xs

filter_twice : {X : Type 0} (p q : X → Bool) (xs : List X) → filter p (filter q xs) ≡ filter (λ x. q x && p x) xs
filter_twice p q [] = refl
filter_twice p q (x ∷ xs) = go (q x) (filter_twice p q xs)
  where
    go : (b : Bool) → filter p (filter q xs) ≡ filter (λ x. q x && p x) xs →
        filter p (cond b (x ∷ filter q xs) (filter q xs))
        ≡ cond (b && p x) (x ∷ filter (λ x. q x && p x) xs) (filter (λ x. q x && p x) xs)
    go true e = ap (λ l. cond (p x) (x ∷ l) l) e
    go false e = e

module _ (one other : Scope) (u : IsCoarser one other) where
  keeps_more : (kind : Kind) (pick : Shown) → keeps_pick one kind pick ≡ true → keeps_pick other kind pick ≡ true
  keeps_more kind pick e =
      let q : Place = (kind, pick.0) in
      let outer = both_true (has_item one q && not (is_why Full pick.1))
      (not (is_why SoldOut pick.1) || is_closed one q) e in
      and_both (has_item other q && not (is_why Full pick.1)) (not (is_why SoldOut pick.1) || is_closed other q)
      (sym (ap (λ b. b && not (is_why Full pick.1)) (same_item one other u q)) ∙ outer.0)
      (or_more (not (is_why SoldOut pick.1)) (is_closed one q) (is_closed other q) (u.closed q) outer.1)

  option_more : (kind : Kind) (none : Bool) (o : Option Shown) → option_map_or (keeps_pick one kind) o none ≡ true →
      option_map_or (keeps_pick other kind) o none ≡ true
  option_more kind none None e = e
  option_more kind none (Some pick) e = keeps_more kind pick e

  kept_more : (kind : Kind) (word : List ℕ) → is_kept one kind word ≡ true → is_kept other kind word ≡ true
  kept_more kind word e = option_more kind true (shown_pick word) e

  has_more : (kind : Kind) (word : List ℕ) → has_kept one kind word ≡ true → has_kept other kind word ≡ true
  has_more kind word e = option_more kind false (shown_pick word) e

  -- a word that has a pick that is kept is kept
  has_is : (scope : Scope) (kind : Kind) (o : Option Shown) → option_map_or (keeps_pick scope kind) o false ≡ true →
      option_map_or (keeps_pick scope kind) o true ≡ true
  has_is scope kind None e = refl
  has_is scope kind (Some pick) e = e

  -- a word of the part
  module _ (kind : Kind) (word : List ℕ) where
    unkept : is_kept other kind word ≡ false → is_kept one kind word ≡ false
    unkept e = not_then (is_kept one kind word) (is_kept other kind word) (kept_more kind word) e

    word_again : kept_word one kind (kept_word other kind word) ≡ kept_word one kind word
    word_again = go (is_kept other kind word) refl
      where
        go : (b : Bool) → is_kept other kind word ≡ b →
            kept_word one kind (cond b word (no_pick kind)) ≡ kept_word one kind word
        go true e = refl
        go false e =
            same_both (is_kept one kind (no_pick kind)) (no_pick kind)
            ∙ sym (ap (λ b. cond b word (no_pick kind)) (unkept e))

    has_again : has_kept one kind (kept_word other kind word) ≡ has_kept one kind word
    has_again = go (is_kept other kind word) refl
      where
        go : (b : Bool) → is_kept other kind word ≡ b →
            has_kept one kind (cond b word (no_pick kind)) ≡ has_kept one kind word
        go true e = refl
        go false e =
            ap (λ o. option_map_or (keeps_pick one kind) o false) (none_shown kind)
            ∙ sym (not_then (has_kept one kind word) (is_kept one kind word)
            (has_is one kind (shown_pick word)) (unkept e))

    word_free : Spaceless word → Spaceless (kept_word other kind word)
    word_free h = go (is_kept other kind word)
      where
        go : (b : Bool) → Spaceless (cond b word (no_pick kind))
        go true = h
        go false = no_pick_free kind

    -- an ask is kept in the part of the part if it is kept in the part
    ask_again : (h : Bool) →
        ((h && is_kept other kind word) && (h && is_kept one kind (kept_word other kind word)))
        ≡ (h && is_kept one kind word)
    ask_again h = go (is_kept other kind word) refl h
      where
        go : (b : Bool) → is_kept other kind word ≡ b → (h : Bool) →
            ((h && b) && (h && is_kept one kind (cond b word (no_pick kind)))) ≡ (h && is_kept one kind word)
        go true e true = refl
        go true e false = refl
        go false e true = sym (unkept e)
        go false e false = refl

  -- the words of the part
  module _ (c : ℕ) (asks : List Place) (words : TripWords) where
    abbrev kept_words : TripWords
    kept_words =
        (words.0, kept_word other Car words.1, kept_word other Flight words.2, kept_word other Room words.3)

    word_is : (kind : Kind) → word_for kept_words kind ≡ kept_word other kind (word_for words kind)
    word_is Car = refl
    word_is Flight = refl
    word_is Room = refl

    picks_again : has_kept_pick one kept_words ≡ has_kept_pick one words
    picks_again =
        let car = has_again Car words.1 in
        let flight = has_again Flight words.2 in
        let room = has_again Room words.3 in
        λ k. car k || flight k || room k

    text_again : kept_text one kept_words ≡ kept_text one words
    text_again =
        let car = word_again Car words.1 in
        let flight = word_again Flight words.2 in
        let room = word_again Room words.3 in
        λ k. words_joined words.0 (car k) (flight k) (room k)

    asks_again : kept_asks one kept_words (kept_asks other words asks) ≡ kept_asks one words asks
    asks_again =
        filter_twice (λ ask. has_item one ask && is_kept one ask.0 (word_for kept_words ask.0))
        (λ ask. has_item other ask && is_kept other ask.0 (word_for words ask.0)) asks
        ∙ filter_same
        (λ ask. (has_item other ask && is_kept other ask.0 (word_for words ask.0))
        && (has_item one ask && is_kept one ask.0 (word_for kept_words ask.0)))
        (λ ask. has_item one ask && is_kept one ask.0 (word_for words ask.0)) each asks
      where
        each : (ask : Place) → ((has_item other ask && is_kept other ask.0 (word_for words ask.0))
            && (has_item one ask && is_kept one ask.0 (word_for kept_words ask.0)))
            ≡ (has_item one ask && is_kept one ask.0 (word_for words ask.0))
        each ask =
            let word = word_for words ask.0 in
            ap (λ h. (h && is_kept other ask.0 word) && (has_item one ask
            && is_kept one ask.0 (word_for kept_words ask.0))) (sym (same_item one other u ask))
            ∙ ap (λ w. (has_item one ask && is_kept other ask.0 word) && (has_item one ask && is_kept one ask.0 w))
            (word_is ask.0)
            ∙ ask_again ask.0 word (has_item one ask)

    -- a trip has a part of picks if it has one on a scope that is coarser
    abbrev picks : Scope → Bool
    picks scope = has_kept_pick scope words && nat_le 1 (length (kept_asks scope words asks))

    picks_more : picks one ≡ true → picks other ≡ true
    picks_more e =
        let both = both_true (has_kept_pick one words) (nat_le 1 (length (kept_asks one words asks))) e in
        let fewer = fewer_asks (λ ask. has_item one ask && is_kept one ask.0 (word_for kept_words ask.0))
        (kept_asks other words asks) in
        let size : length (kept_asks one kept_words (kept_asks other words asks)) ≡ length (kept_asks one words asks) =
        ap length asks_again in
        let some : nat_le 1 (length (kept_asks other words asks)) ≡ true =
        grind (arith, nat_tests, both.1, fewer, size) in
        and_both (has_kept_pick other words) (nat_le 1 (length (kept_asks other words asks)))
        (or_three (has_kept one Car words.1) (has_kept one Flight words.2) (has_kept one Room words.3)
        (has_kept other Car words.1) (has_kept other Flight words.2) (has_kept other Room words.3)
        (has_more Car words.1) (has_more Flight words.2) (has_more Room words.3) both.0) some

    abbrev Words : Type 0
    Words = Spaceless words.0 × Spaceless words.1 × Spaceless words.2 × Spaceless words.3

    pub read_back : Words → trip_words (kept_text other words) ≡ Some kept_words
    read_back free =
        ap five_words (words_back (codes "trip") (words.0 ∷ kept_word other Car words.1
        ∷ kept_word other Flight words.2 ∷ kept_word other Room words.3 ∷ []) (refl, (refl, (refl, (refl, tt)))) (
          free.0,
          (
            word_free Car words.1 free.1,
            (
              word_free Flight words.2 free.2,
              (word_free Room words.3 free.3, tt),
            ),
          ),
        ))

    -- the part of picks, given whether there is one
    abbrev Picked : Bool → List Place → List ℕ → Option Answered
    Picked some kept text = cond some (Some (task.Trip c kept, text)) (joined_part c words.0)

    picked_again : picked_part one c (kept_asks other words asks) kept_words ≡ picked_part one c asks words
    picked_again =
        let picks = picks_again in
        let asked = asks_again in
        let text = text_again in
        λ k. Picked (picks k && nat_le 1 (length (asked k))) (asked k) (text k)

    module _ (inside : has_customer one c ≡ true) where
      abbrev added : Option Answered
      added = Some (task.One (command.NewCustomer c), reply_text reply.Done)

      joined_again : (word : List ℕ) → option_and_then (again one) (joined_part c word) ≡ joined_part c word
      joined_again word = go (bytes_eq word (codes "cust=true"))
        where
          go : (b : Bool) → option_and_then (again one) (cond b added (customer_exists c))
              ≡ cond b added (customer_exists c)
          go true = ap (λ b. cond b added None) inside
          go false = ap (λ b. cond b (customer_exists c) None) inside

      picked : Words → joins words.0 ≡ true →
          option_and_then (again one) (picked_part other c asks words) ≡ picked_part one c asks words
      picked free joined = go (picks other) refl
        where
          go : (b : Bool) → picks other ≡ b →
              option_and_then (again one) (Picked b (kept_asks other words asks) (kept_text other words))
              ≡ picked_part one c asks words
          go true e =
              ap (option_and_then (shown_trip one c (kept_asks other words asks))) (read_back free)
              ∙ ap (λ b. cond b (picked_part one c (kept_asks other words asks) kept_words) None)
              (and_both (has_customer one c) (joins words.0) inside joined)
              ∙ picked_again
          go false e =
              joined_again words.0
              ∙ sym (ap (λ b. Picked b (kept_asks one words asks) (kept_text one words))
              (not_then (picks one) (picks other) picks_more e))

    shown_again : Words → option_and_then (again one) (shown_trip other c asks words) ≡ shown_trip one c asks words
    shown_again free =
        go (has_customer other c) (joins words.0) (same_customer one other u c) refl
      where
        go : (h j : Bool) → has_customer one c ≡ h → joins words.0 ≡ j →
            option_and_then (again one) (cond (h && j) (picked_part other c asks words) None)
            ≡ cond (has_customer one c && joins words.0) (picked_part one c asks words) None
        go true true e f =
            picked e free f
            ∙ sym (ap (λ b. cond b (picked_part one c asks words) None)
            (and_both (has_customer one c) (joins words.0) e f))
        go true false e f =
            sym (ap (λ b. cond b (picked_part one c asks words) None)
            (and_false (has_customer one c) (joins words.0) f))
        go false j e f = sym (ap (λ b. cond (b && joins words.0) (picked_part one c asks words) None) e)

  module _ (c : ℕ) (asks : List Place) where
    cut_again : (ws : List (List ℕ)) → Each Spaceless ws →
        option_and_then (again one) (option_and_then (shown_trip other c asks) (five_words ws))
        ≡ option_and_then (shown_trip one c asks) (five_words ws)
    cut_again [] h = refl
    cut_again (a ∷ []) h = refl
    cut_again (a ∷ b ∷ []) h = refl
    cut_again (a ∷ b ∷ d ∷ []) h = refl
    cut_again (a ∷ b ∷ d ∷ e ∷ []) h = refl
    cut_again (a ∷ b ∷ d ∷ e ∷ f ∷ []) h =
        shown_again c asks (b, d, e, f) (h.1.0, h.1.1.0, h.1.1.1.0, h.1.1.1.1.0)
    cut_again (a ∷ b ∷ d ∷ e ∷ f ∷ g ∷ ws) h = refl

    pub trip_again : (text : List ℕ) →
        option_and_then (again one) (trip_part other c asks text) ≡ trip_part one c asks text
    trip_again text = cut_again (words_of text) (words_free text)
