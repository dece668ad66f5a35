-- Changes one after another.
use Rattle.std.proofs.Common.{◌≡◌, ℕ, ◌+◌, ◌<◌, ◌≤◌, List, [], ◌∷◌, ◌++◌, length, map, get_or, drop, refl, ap, sym, ◌∙◌}
use Rattle.std.proofs.Common.{append_assoc, append-nil, arith, Bor, suc}
use Rattle.std.specs.Prelude.{Option, Some, None, codes}
use Rattle.std.specs.List.{cons_option, filter_map, zip}
use Rattle.std.proofs.lemmas.List.{drop_more, drop_all, get_or-map, length-map}
use Rattle.vac_model.specs.declared.commands.Command.{Command}
use Rattle.vac_model.specs.declared.tasks.Task.TheVariants as task
use Rattle.vac_lines.specs.Lines.{texts}
use Rattle.vac_model.specs.TaskText.{words_text}
use Rattle.judge_reservations.specs.declared.scope.Scope.{Scope}
use Rattle.judge_reservations.specs.Updates.{Changed, change_part, changes_part, commands_of, results_of, shown_update}

module _ (scope : Scope) (cs : List Command) (ws : List (Bor (List ℕ))) (at : ℕ) where
  -- the parts of the changes from a position on
  abbrev pub from : ℕ → List Changed
  from n = changes_part scope (drop n cs) (drop (n + 1) (texts ws))

  pub next_change : (d : Command) (w : Bor (List ℕ)) (o : Option Changed) → at < length cs → at + 1 < length ws →
      o ≡ change_part scope (get_or cs at d) (get_or ws (at + 1) w).now → from at ≡ cons_option o (from (at + 1))
  next_change d w o short few e =
      let many : at + 1 < length (texts ws) = omega (arith, few, length-map ws (λ (v : Bor (List ℕ)). v.now)) in
      ap (λ xs. changes_part scope xs (drop (at + 1) (texts ws))) (drop_more cs at d short)
      ∙ ap (λ ys. changes_part scope (get_or cs at d ∷ drop (at + 1) cs) ys) (drop_more (texts ws) (at + 1) w.now many)
      ∙ ap (λ word. cons_option (change_part scope (get_or cs at d) word) (from (at + 1)))
      (get_or-map (λ (v : Bor (List ℕ)). v.now) ws (at + 1) w w.now few)
      ∙ ap (λ x. cons_option x (from (at + 1))) (sym e)

  no_words : (xs : List Command) → changes_part scope xs [] ≡ []
  no_words [] = refl
  no_words (x ∷ xs) = refl

  pub no_change : length ws ≤ at + 1 → from at ≡ from (at + 1)
  no_change few =
      let size = length-map ws (λ (v : Bor (List ℕ)). v.now) in
      ap (changes_part scope (drop at cs)) (drop_all (at + 1) (texts ws) (omega (arith, few, size)))
      ∙ no_words (drop at cs)
      ∙ sym (no_words (drop (at + 1) cs))
      ∙ sym (ap (changes_part scope (drop (at + 1) cs)) (drop_all (at + 1 + 1) (texts ws) (omega (arith, few, size))))

  pub no_changes_left : length cs ≤ at → from at ≡ []
  no_changes_left few = ap (λ xs. changes_part scope xs (drop (at + 1) (texts ws))) (drop_all at cs few)

-- one more change, or none, behind those so far
pub taken_more : {X : Type 0} (f : Changed → X) (all pre pre' : List X) (o : Option Changed) (left rest : List Changed)
    →
    all ≡ pre ++ map f left → left ≡ cons_option o rest → pre' ≡ pre ++ map f (cons_option o []) →
    all ≡ pre' ++ map f rest
taken_more f all pre pre' None left rest e g h =
    e ∙ ap (λ xs. pre ++ map f xs) g ∙ ap (λ xs. xs ++ map f rest) (sym (h ∙ append-nil pre))
taken_more f all pre pre' (Some x) left rest e g h =
    e ∙ ap (λ xs. pre ++ map f xs) g ∙ sym (append_assoc pre (f x ∷ []) (map f rest))
    ∙ ap (λ xs. xs ++ map f rest) (sym h)

pub all_taken : {X : Type 0} (f : Changed → X) (all pre : List X) (left : List Changed) → all ≡ pre ++ map f left →
    left ≡ [] → pre ≡ all
all_taken f all pre left e g = sym (e ∙ ap (λ xs. pre ++ map f xs) g ∙ append-nil pre)

pub none_shown : (xs : List Changed) → length (commands_of xs) ≡ 0 → None ≡ shown_update xs
none_shown [] e = refl
none_shown (x ∷ xs) e = absurd (omega (arith, e))

pub some_shown : (xs : List Changed) → 0 < length (commands_of xs) →
    shown_update xs ≡ Some (task.Update (commands_of xs), words_text (codes "update" ∷ results_of xs))
some_shown [] e = absurd (omega (arith, e))
some_shown (x ∷ xs) e = refl
