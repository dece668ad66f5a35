-- The part on a scope of the part of an update on a finer scope is the part of the update.
use Rattle.std.proofs.Common.{◌≡◌, ℕ, ◌&&◌, not, Bool, true, false, cond, List, [], ◌∷◌, refl, ap, sym, ◌∙◌}
use Rattle.std.proofs.Common.{codes, drop}
use Rattle.std.specs.Prelude.{Option, Some, None}
use Rattle.std.specs.List.{cons_option}
use Rattle.std.specs.Option.{option_and_then}
use Rattle.vac_model.specs.declared.items.Kind.TheVariants.{Flight}
use Rattle.vac_model.specs.declared.commands.Command.{Command}
use Rattle.vac_model.specs.declared.commands.Command.TheVariants as command
use Rattle.vac_model.specs.declared.commands.Refusal.{Refusal}
use Rattle.vac_model.specs.declared.commands.Refusal.TheVariants.{Full, NotFree, InUse}
use Rattle.vac_model.specs.State.{Place}
use Rattle.vac_lines.specs.Lines.{words_of}
use Rattle.vac_lines.proofs.Spacing.{Each}
use Rattle.judge_reservations.specs.declared.scope.Scope.{Scope}
use Rattle.judge_reservations.specs.Scopes.{has_item, is_closed, IsCoarser}
use Rattle.judge_reservations.specs.Updates.{Changed, is_why, units_change, change_part, changes_part, commands_of}
use Rattle.judge_reservations.specs.Updates.{results_of, shown_update, update_part}
use Rattle.judge_reservations.proofs.Larger.{same_item}
use Rattle.judge_reservations.proofs.Spaces.{Spaceless, words_free, words_back}
use Rattle.judge_reservations.proofs.FinerCommands.{again, not_then}

-- the part of a change with its word
abbrev again_change : Scope → Changed → Option Changed
again_change scope x = change_part scope x.0 x.1

-- the word of a change has no spaces, if there is one
abbrev Free : Option Changed → Type 0
Free None = Unit {0}
Free (Some x) = Spaceless x.1

free_if : (b : Bool) (x y : Option Changed) → Free x → Free y → Free (cond b x y)
free_if true x y f g = f
free_if false x y f g = g

module _ (scope : Scope) where
  -- the results of the part of an update are words
  units_free : (q : Place) (c : Command) (word : List ℕ) (why : Refusal) → Spaceless word →
      Free (units_change scope q c word why)
  units_free q c word why h =
      free_if (has_item scope q) _ _
      (free_if (is_why why word && not (is_closed scope q)) _ _ (refl, (refl, (refl, (refl, tt)))) h) tt

  change_free : (c : Command) (word : List ℕ) → Spaceless word → Free (change_part scope c word)
  change_free (command.Add kind id num price) word h =
      free_if (has_item scope (kind, id)) _ _ (free_if (is_why Full word) _ _ tt h) tt
  change_free (command.Delete kind id num) word h = units_free (kind, id) (command.Delete kind id num) word NotFree h
  change_free (command.DropFlight id) word h = units_free (Flight, id) (command.DropFlight id) word InUse h
  change_free (command.NewCustomer id) word h = tt
  change_free (command.DropCustomer id) word h = tt
  change_free (command.Free kind id) word h = tt
  change_free (command.Price kind id) word h = tt
  change_free (command.Bill id) word h = tt
  change_free (command.Reserve customer kind id num) word h = tt
  change_free (command.Cancel customer kind id) word h = tt
  change_free command.Audit word h = tt

  one_free : (o : Option Changed) (xs : List Changed) → Free o → Each Spaceless (results_of xs) →
      Each Spaceless (results_of (cons_option o xs))
  one_free None xs h rest = rest
  one_free (Some x) xs h rest = (h, rest)

  results_free : (cs : List Command) (ws : List (List ℕ)) → Each Spaceless ws →
      Each Spaceless (results_of (changes_part scope cs ws))
  results_free [] ws h = tt
  results_free (c ∷ cs) [] h = tt
  results_free (c ∷ cs) (w ∷ ws) h =
      one_free (change_part scope c w) (changes_part scope cs ws) (change_free c w h.0) (results_free cs ws h.1)

without_first : (ws : List (List ℕ)) → Each Spaceless ws → Each Spaceless (drop 1 ws)
without_first [] h = tt
without_first (w ∷ ws) h = h.1

module _ (one other : Scope) (u : IsCoarser one other) where
  -- a change of the units of an item
  module _ (q : Place) (c : Command) (word : List ℕ) where
    abbrev exists : Option Changed
    exists = Some (command.Add q.0 q.1 0 None, codes "true")

    abbrev as_is : Option Changed
    as_is = Some (c, word)

    units_of : (h r f : Bool) → has_item one q ≡ h → (is_closed one q ≡ true → f ≡ true) →
        change_part one c word ≡ cond (has_item one q) (cond (r && not (is_closed one q)) exists as_is) None →
        option_and_then (again_change one) (cond h (cond (r && not f) exists as_is) None)
        ≡ cond (has_item one q) (cond (r && not (is_closed one q)) exists as_is) None
    units_of false r f e m s = sym (ap (λ b. cond b (cond (r && not (is_closed one q)) exists as_is) None) e)
    units_of true true false e m s =
        ap (λ b. cond b exists None) e
        ∙ sym (ap (λ b. cond b (cond (not (is_closed one q)) exists as_is) None) e
        ∙ ap (λ b. cond (not b) exists as_is) (not_then (is_closed one q) false m refl))
    units_of true true true e m s = s
    units_of true false f e m s = s

    units_again : (why : Refusal) → change_part one c word ≡ units_change one q c word why →
        option_and_then (again_change one) (units_change other q c word why) ≡ units_change one q c word why
    units_again why s = units_of (has_item other q) (is_why why word) (is_closed other q) (same_item one other u q)
        (u.closed q) s

  add_again : (f g full : Bool) → g ≡ f → (x : Changed) → again_change one x ≡ cond g (cond full None (Some x)) None →
      option_and_then (again_change one) (cond f (cond full None (Some x)) None)
      ≡ cond g (cond full None (Some x)) None
  add_again true g true s x e = sym (ap (λ b. cond b None None) s)
  add_again true g false s x e = e
  add_again false g full s x e = sym (ap (λ b. cond b (cond full None (Some x)) None) s)

  change_again : (c : Command) (word : List ℕ) →
      option_and_then (again_change one) (change_part other c word) ≡ change_part one c word
  change_again (command.Add kind id num price) word =
      add_again (has_item other (kind, id)) (has_item one (kind, id)) (is_why Full word)
      (same_item one other u (kind, id)) (command.Add kind id num price, word) refl
  change_again (command.Delete kind id num) word =
      units_again (kind, id) (command.Delete kind id num) word NotFree refl
  change_again (command.DropFlight id) word = units_again (Flight, id) (command.DropFlight id) word InUse refl
  change_again (command.NewCustomer id) word = refl
  change_again (command.DropCustomer id) word = refl
  change_again (command.Free kind id) word = refl
  change_again (command.Price kind id) word = refl
  change_again (command.Bill id) word = refl
  change_again (command.Reserve customer kind id num) word = refl
  change_again (command.Cancel customer kind id) word = refl
  change_again command.Audit word = refl

  abbrev of_parts : List Changed → List Changed
  of_parts xs = changes_part one (commands_of xs) (results_of xs)

  one_more : (o : Option Changed) (xs : List Changed) →
      of_parts (cons_option o xs) ≡ cons_option (option_and_then (again_change one) o) (of_parts xs)
  one_more None xs = refl
  one_more (Some x) xs = refl

  changes_again : (cs : List Command) (ws : List (List ℕ)) →
      of_parts (changes_part other cs ws) ≡ changes_part one cs ws
  changes_again [] ws = refl
  changes_again (c ∷ cs) [] = refl
  changes_again (c ∷ cs) (w ∷ ws) =
      one_more (change_part other c w) (changes_part other cs ws)
      ∙ ap (λ o. cons_option o (of_parts (changes_part other cs ws))) (change_again c w)
      ∙ ap (cons_option (change_part one c w)) (changes_again cs ws)

  shown_again : (xs ys : List Changed) → Each Spaceless (results_of xs) → of_parts xs ≡ ys →
      option_and_then (again one) (shown_update xs) ≡ shown_update ys
  shown_again [] ys h e = ap shown_update e
  shown_again (x ∷ xs) ys h e =
      ap (λ ws. shown_update (changes_part one (commands_of (x ∷ xs)) (drop 1 ws)))
      (words_back (codes "update") (results_of (x ∷ xs)) (refl, (refl, (refl, (refl, (refl, (refl, tt)))))) h)
      ∙ ap shown_update e

  pub update_again : (cs : List Command) (text : List ℕ) →
      option_and_then (again one) (update_part other cs text) ≡ update_part one cs text
  update_again cs text =
      let ws = drop 1 (words_of text) in
      shown_again (changes_part other cs ws) (changes_part one cs ws)
      (results_free other cs ws (without_first (words_of text) (words_free text))) (changes_again cs ws)
