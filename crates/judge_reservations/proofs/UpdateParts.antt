-- The part of an update is made from the part of the state before, and leads to the part of the state after.
use Rattle.std.proofs.Common.{◌≡◌, ℕ, ◌+◌, ◌-◌, ◌≤◌, ◌&&◌, ◌||◌, not, Bool, true, false, cond, List, [], ◌∷◌, length}
use Rattle.std.proofs.Common.{map, drop, refl, ap}
use Rattle.std.proofs.Common.{sym, subst, ◌∙◌, arith, suc}
use Rattle.std.specs.Prelude.{Option, Some, None, ⊤, ◌==◌, nat_lt, nat_le, codes}
use Rattle.std.specs.List.{list_all, cons_option, filter_map, zip}
use Rattle.std.proofs.lemmas.Bool.Decides.{nat_tests}
use Rattle.vac_model.specs.declared.limits.TheConstants.{MOST_PARTS}
use Rattle.vac_model.specs.declared.items.Kind.{Kind}
use Rattle.vac_model.specs.declared.items.Kind.TheVariants.{Flight}
use Rattle.vac_model.specs.declared.commands.Command.{Command}
use Rattle.vac_model.specs.declared.commands.Command.TheVariants as command
use Rattle.vac_model.specs.declared.commands.Refusal.{Refusal}
use Rattle.vac_model.specs.declared.commands.Refusal.TheVariants.{NeedsCountAndPrice, TotalLimit, Full, NoItem, NotFree}
use Rattle.vac_model.specs.declared.commands.Refusal.TheVariants.{InUse, Exists, NoCustomer, SoldOut, NotBooked}
use Rattle.vac_model.specs.declared.commands.Refusal.TheVariants.{UnitLimit}
use Rattle.vac_model.specs.declared.replies.Reply.{Reply}
use Rattle.vac_model.specs.declared.replies.Reply.TheVariants as reply
use Rattle.vac_model.specs.declared.tasks.Task.{Task}
use Rattle.vac_model.specs.declared.tasks.Task.TheVariants as task
use Rattle.vac_model.specs.Amounts.{is_list_length}
use Rattle.vac_model.specs.Ranges.{is_change, is_command, is_task}
use Rattle.vac_model.specs.State.{State, item_of, is_full}
use Rattle.vac_model.specs.Step.{Outcome, step, add, add_new, delete, drop_flight, total_limit}
use Rattle.vac_model.specs.Run.{steps, update, run, refusal_of}
use Rattle.vac_model.proofs.Ids.{both_true}
use Rattle.vac_model.proofs.Kept.{found_both, if_both}
use Rattle.vac_lines.specs.Lines.{words_of}
use Rattle.vac_model.specs.ReplyText.{reply_text, done_text}
use Rattle.vac_model.specs.TaskText.{words_text}
use Rattle.judge_reservations.specs.declared.scope.Scope.{Scope}
use Rattle.judge_reservations.specs.Scopes.{has_item, is_closed}
use Rattle.judge_reservations.specs.Parts.{HasPart}
use Rattle.judge_reservations.specs.Tasks.{Answered, is_reply, item_exists, command_part, command_allowed}
use Rattle.judge_reservations.specs.Updates.{Changed, is_why, change_part, changes_part, commands_of, results_of}
use Rattle.judge_reservations.specs.Updates.{shown_update, update_part}
use Rattle.judge_reservations.proofs.Effects.{Near}
use Rattle.judge_reservations.proofs.Commands.{Made, near, command_made}
use Rattle.judge_reservations.proofs.Tasks.{change_allowed}
use Rattle.judge_reservations.proofs.Ranges.{InRange, command_range, next_out, next_both}
use Rattle.judge_reservations.proofs.Replies.{IsShort, word_of, text_word, short_word, update_reads, update_words}

-- a change takes effect or is refused
add_short : (s : State) (kind : Kind) (id num : ℕ) (price : Option ℕ) → IsShort (add s kind id num price).1
add_short s kind id num price = found_both (λ o. IsShort o.1) (item_of s kind id) _ _ (λ none. new price)
    (λ i there. if_both (λ o. IsShort o.1) (nat_lt total_limit (i.total + num)) _ _ (λ _. tt) (λ _. tt))
  where
    new : (given : Option ℕ) → IsShort (add_new s kind id num given).1
    new None = tt
    new (Some n) = if_both (λ o. IsShort o.1) (num == 0) _ _ (λ _. tt)
        (λ _. if_both (λ o. IsShort o.1) (is_full s) _ _ (λ _. tt) (λ _. tt))

delete_short : (s : State) (kind : Kind) (id num : ℕ) → IsShort (delete s kind id num).1
delete_short s kind id num = found_both (λ o. IsShort o.1) (item_of s kind id) _ _ (λ none. tt)
    (λ i there. if_both (λ o. IsShort o.1) (nat_lt i.free num) _ _ (λ _. tt)
    (λ _. if_both (λ o. IsShort o.1) (i.total - num == 0) _ _ (λ _. tt) (λ _. tt)))

drop_short : (s : State) (id : ℕ) → IsShort (drop_flight s id).1
drop_short s id = found_both (λ o. IsShort o.1) (item_of s Flight id) _ _ (λ none. tt)
    (λ i there. if_both (λ o. IsShort o.1) (nat_lt 0 i.used) _ _ (λ _. tt) (λ _. tt))

no_change : {X : Type 0} → false ≡ true → X
no_change e = absurd (let never : false ≡ true = e in cc)

pub change_short : (s : State) (c : Command) → is_change c ≡ true → IsShort (step s c).1
change_short s (command.Add kind id num price) e = add_short s kind id num price
change_short s (command.Delete kind id num) e = delete_short s kind id num
change_short s (command.DropFlight id) e = drop_short s id
change_short s (command.NewCustomer id) e = no_change e
change_short s (command.DropCustomer id) e = no_change e
change_short s (command.Free kind id) e = no_change e
change_short s (command.Price kind id) e = no_change e
change_short s (command.Bill id) e = no_change e
change_short s (command.Reserve customer kind id num) e = no_change e
change_short s (command.Cancel customer kind id) e = no_change e
change_short s command.Audit e = no_change e

-- a command with a text is a change with a word
record Same (a : Answered) (x : Changed) : Type 0 where
  pub op : a.0 ≡ task.One x.0
  pub word : text_word a.1 ≡ x.1
  pub change : is_change x.0 ≡ true

abbrev Matches : Option Answered → Option Changed → Type 0
Matches None None = ⊤
Matches None (Some x) = ⊥
Matches (Some a) None = ⊥
Matches (Some a) (Some x) = Same a x

matches_if : (b : Bool) (a : Option Answered) (x : Option Changed) → Matches a x →
    Matches (cond b a None) (cond b x None)
matches_if true a x h = h
matches_if false a x h = tt

the_same : (c : Command) (text : List ℕ) → is_change c ≡ true → Same (task.One c, text) (c, text_word text)
the_same c text e = record { op = refl; word = refl; change = e }

module _ (kind : Kind) (id num : ℕ) (price : Option ℕ) where
  added_matches : (r : Reply) → IsShort r → Matches
      (cond (is_reply (reply.No Full) (reply_text r)) None (Some (
        task.One (command.Add kind id num price),
        reply_text r,
      )))
      (cond (is_why Full (word_of r)) None (Some (command.Add kind id num price, word_of r)))
  added_matches reply.Done h = record { op = refl; word = refl; change = refl }
  added_matches (reply.Number n) h = absurd h
  added_matches (reply.Report r) h = absurd h
  added_matches (reply.No NeedsCountAndPrice) h = record { op = refl; word = refl; change = refl }
  added_matches (reply.No TotalLimit) h = record { op = refl; word = refl; change = refl }
  added_matches (reply.No Full) h = tt
  added_matches (reply.No NoItem) h = record { op = refl; word = refl; change = refl }
  added_matches (reply.No NotFree) h = record { op = refl; word = refl; change = refl }
  added_matches (reply.No InUse) h = record { op = refl; word = refl; change = refl }
  added_matches (reply.No Exists) h = record { op = refl; word = refl; change = refl }
  added_matches (reply.No NoCustomer) h = record { op = refl; word = refl; change = refl }
  added_matches (reply.No SoldOut) h = record { op = refl; word = refl; change = refl }
  added_matches (reply.No NotBooked) h = record { op = refl; word = refl; change = refl }
  added_matches (reply.No UnitLimit) h = record { op = refl; word = refl; change = refl }
  added_matches (reply.Trip r) h = absurd h
  added_matches (reply.Update r) h = absurd h

-- a change of units, or the change that shows that the item exists
module _ (kind : Kind) (id : ℕ) (c : Command) (e : is_change c ≡ true) where
  units_match : (t : Bool) (r : Reply) → IsShort r → Matches
      (cond t (item_exists kind id) (Some (task.One c, reply_text r)))
      (cond t (Some (command.Add kind id 0 None, codes "true")) (Some (c, word_of r)))
  units_match true r h = record { op = refl; word = refl; change = refl }
  units_match false r h = record { op = refl; word = short_word r h; change = e }

free_test : (r : Reply) → IsShort r → is_reply (reply.No NotFree) (reply_text r) ≡ is_why NotFree (word_of r)
free_test reply.Done h = refl
free_test (reply.Number n) h = absurd h
free_test (reply.Report r) h = absurd h
free_test (reply.No NeedsCountAndPrice) h = refl
free_test (reply.No TotalLimit) h = refl
free_test (reply.No Full) h = refl
free_test (reply.No NoItem) h = refl
free_test (reply.No NotFree) h = refl
free_test (reply.No InUse) h = refl
free_test (reply.No Exists) h = refl
free_test (reply.No NoCustomer) h = refl
free_test (reply.No SoldOut) h = refl
free_test (reply.No NotBooked) h = refl
free_test (reply.No UnitLimit) h = refl
free_test (reply.Trip r) h = absurd h
free_test (reply.Update r) h = absurd h

use_test : (r : Reply) → IsShort r → is_reply (reply.No InUse) (reply_text r) ≡ is_why InUse (word_of r)
use_test reply.Done h = refl
use_test (reply.Number n) h = absurd h
use_test (reply.Report r) h = absurd h
use_test (reply.No NeedsCountAndPrice) h = refl
use_test (reply.No TotalLimit) h = refl
use_test (reply.No Full) h = refl
use_test (reply.No NoItem) h = refl
use_test (reply.No NotFree) h = refl
use_test (reply.No InUse) h = refl
use_test (reply.No Exists) h = refl
use_test (reply.No NoCustomer) h = refl
use_test (reply.No SoldOut) h = refl
use_test (reply.No NotBooked) h = refl
use_test (reply.No UnitLimit) h = refl
use_test (reply.Trip r) h = absurd h
use_test (reply.Update r) h = absurd h

module _ (scope : Scope) where
  matched : (c : Command) → is_change c ≡ true → (r : Reply) → IsShort r →
      Matches (command_part scope c (reply_text r)) (change_part scope c (word_of r))
  matched (command.Add kind id num price) e r h =
      matches_if (has_item scope (kind, id)) _ _ (added_matches kind id num price r h)
  matched (command.Delete kind id num) e r h =
      matches_if (has_item scope (kind, id)) _ _
      (subst (λ t. Matches
      (cond (is_reply (reply.No NotFree) (reply_text r) && not (is_closed scope (kind, id))) (item_exists kind id)
      (Some (task.One (command.Delete kind id num), reply_text r)))
      (cond (t && not (is_closed scope (kind, id))) (Some (command.Add kind id 0 None, codes "true"))
      (Some (command.Delete kind id num, word_of r)))) (free_test r h)
      (units_match kind id (command.Delete kind id num) e
      (is_reply (reply.No NotFree) (reply_text r) && not (is_closed scope (kind, id))) r h))
  matched (command.DropFlight id) e r h =
      matches_if (has_item scope (Flight, id)) _ _
      (subst (λ t. Matches
      (cond (is_reply (reply.No InUse) (reply_text r) && not (is_closed scope (Flight, id))) (item_exists Flight id)
      (Some (task.One (command.DropFlight id), reply_text r)))
      (cond (t && not (is_closed scope (Flight, id))) (Some (command.Add Flight id 0 None, codes "true"))
      (Some (command.DropFlight id, word_of r)))) (use_test r h)
      (units_match Flight id (command.DropFlight id) e
      (is_reply (reply.No InUse) (reply_text r) && not (is_closed scope (Flight, id))) r h))
  matched (command.NewCustomer id) e r h = no_change e
  matched (command.DropCustomer id) e r h = no_change e
  matched (command.Free kind id) e r h = no_change e
  matched (command.Price kind id) e r h = no_change e
  matched (command.Bill id) e r h = no_change e
  matched (command.Reserve customer kind id num) e r h = no_change e
  matched (command.Cancel customer kind id) e r h = no_change e
  matched command.Audit e r h = no_change e

  -- a change of an update is in its range
  abbrev is_part : Command → Bool
  is_part c = is_change c && is_command c

  -- the part of a change, made from p
  record Goes (s' p : State) (x : Changed) : Type 0 where
    pub part : HasPart scope s' (step p x.0).0
    pub word : word_of (step p x.0).1 ≡ x.1
    pub range : is_part x.0 ≡ true

  abbrev Next : State → State → Option Changed → Type 0
  Next s' p None = HasPart scope s' p
  Next s' p (Some x) = Goes s' p x

  module _ (s p : State) (h : HasPart scope s p) where
    gone : (c : Command) → is_command c ≡ true → (a : Option Answered) (x : Option Changed) → Matches a x →
        InRange a → Made scope s p h (step s c) a → Next (step s c).0 p x
    gone c e None None m range made = next_out scope s p (task.One c) h e made
    gone c e None (Some x) m range made = absurd m
    gone c e (Some a) None m range made = absurd m
    gone c e (Some a) (Some x) m range made =
        let ranged : is_command x.0 ≡ true = subst (λ t. is_task t ≡ true) m.op range in
        let replied : reply_text (step p x.0).1 ≡ a.1 = subst (λ t. reply_text (run p t).1 ≡ a.1) m.op made.0 in
        let after : Near scope (step s c).0 (step p x.0).0 =
        subst (λ t. Near scope (step s c).0 (run p t).0) m.op made.1 in
        record {
          part = next_both scope s p (task.One c) (task.One x.0) h e ranged after;
          word = sym (short_word (step p x.0).1 (change_short p x.0 m.change)) ∙ ap text_word replied ∙ m.word;
          range = rw (m.change, ranged) refl;
        }

    allowed : (c : Command) (t : Bool) → command_allowed scope c ≡ true → (not t || command_allowed scope c) ≡ true
    allowed c true e = e
    allowed c false e = refl

    stepped : (c : Command) → is_part c ≡ true → Next (step s c).0 p (change_part scope c (word_of (step s c).1))
    stepped c e =
        let both = both_true (is_change c) (is_command c) e in
        gone c both.1 (command_part scope c (reply_text (step s c).1)) (change_part scope c (word_of (step s c).1))
        (matched c both.0 (step s c).1 (change_short s c both.0))
        (command_range scope c (reply_text (step s c).1) both.1)
        (command_made scope s p h c (allowed c (is_reply reply.Done (reply_text (step s c).1))
        (change_allowed scope c both.0)))

  -- the parts of changes, made from p
  record Went (s' p : State) (xs : List Changed) : Type 0 where
    pub part : HasPart scope s' (steps p (commands_of xs)).0
    pub words : map done_text (steps p (commands_of xs)).1 ≡ results_of xs
    pub range : list_all is_part (commands_of xs) ≡ true

  went_on : (s' p : State) (t : State) (x : Option Changed) (xs : List Changed) → Next t p x →
      ((q : State) → HasPart scope t q → Went s' q xs) → Went s' p (cons_option x xs)
  went_on s' p t None xs next rest = rest p next
  went_on s' p t (Some x) xs next rest =
      let more = rest (step p x.0).0 next.part in
      record {
        part = more.part;
        words = λ k. next.word k ∷ more.words k;
        range = rw (next.range, more.range) refl;
      }

  went : (s p : State) → HasPart scope s p → (cs : List Command) → list_all is_part cs ≡ true →
      Went (steps s cs).0 p (changes_part scope cs (map done_text (steps s cs).1))
  went s p h [] e = record { part = h; words = refl; range = refl }
  went s p h (c ∷ cs) e =
      let both = both_true (is_part c) (list_all is_part cs) e in
      went_on (steps s (c ∷ cs)).0 p (step s c).0 (change_part scope c (word_of (step s c).1))
      (changes_part scope cs (map done_text (steps (step s c).0 cs).1)) (stepped s p h c both.0)
      (λ q next. went (step s c).0 q next cs both.1)

  fewer_option : (x : Option Changed) (xs : List Changed) → length (cons_option x xs) ≤ suc (length xs)
  fewer_option None xs = omega arith
  fewer_option (Some x) xs = omega arith

  pub fewer : (cs : List Command) (ws : List (List ℕ)) → length (changes_part scope cs ws) ≤ length cs
  fewer [] ws = omega arith
  fewer (c ∷ cs) [] = omega arith
  fewer (c ∷ cs) (w ∷ ws) =
      let rest = fewer cs ws in
      let more = fewer_option (change_part scope c w) (changes_part scope cs ws) in
      omega (arith, rest, more)

  pub same_length : (xs : List Changed) → length (commands_of xs) ≡ length xs
  same_length [] = refl
  same_length (x ∷ xs) = ap suc (same_length xs)

  module _ (s p : State) (h : HasPart scope s p) where
    -- the part of an update, in its range
    abbrev Updated : Outcome → Option Answered → Type 0
    Updated o a = Made scope s p h o a × InRange a

    list_in_range : (n : ℕ) → 1 ≤ n → n ≤ MOST_PARTS → is_list_length n ≡ true
    list_in_range n low high = grind (arith, nat_tests, low, high)

    updated : (o : Outcome) (xs : List Changed) → Went o.0 p xs → length xs ≤ MOST_PARTS → Updated o (shown_update xs)
    updated o [] w few = (record { part = w.part.part; confined = w.part.confined }, tt)
    updated o (x ∷ xs) w few =
        let size = same_length (x ∷ xs) in
        let cs = commands_of (x ∷ xs) in
        let ranged = list_in_range (length cs) (omega (arith, size)) (omega (arith, size, few)) in (
          (
            update_reads p cs ∙ ap (λ ws. words_text (codes "update" ∷ ws)) w.words,
            record { part = w.part.part; confined = w.part.confined },
          ),
          rw (ranged, w.range) refl,
        )

    pub update_made : (cs : List Command) → is_task (task.Update cs) ≡ true →
        Made scope s p h (update s cs) (update_part scope cs (reply_text (update s cs).1))
        × InRange (update_part scope cs (reply_text (update s cs).1))
    update_made cs e =
        let both = both_true (is_list_length (length cs)) (list_all is_part cs) e in
        let size : length cs ≤ MOST_PARTS = grind (arith, nat_tests, both.0) in
        let few = fewer cs (map done_text (steps s cs).1) in
        subst (λ ws. Updated (update s cs) (shown_update (changes_part scope cs ws))) (sym (update_words s cs))
        (updated (update s cs) (changes_part scope cs (map done_text (steps s cs).1)) (went s p h cs both.1)
        (omega (arith, few, size)))
