-- The lines of a cut.
use Rattle.std.proofs.Common.{◌≡◌, ℕ, List, [], ◌∷◌, ◌++◌, map, length, Option, Some, None, refl, sym, ap, ◌∙◌}
use Rattle.std.proofs.Common.{append-nil, append_assoc, rules}
use Rattle.std.specs.Vec.Iter.{into_iter_items, into_iter_len}
use Rattle.std.specs.List.{filter_map, cons_option}
use Rattle.std.specs.Option.{option_map}
use Rattle.judge_object.specs.declared.line.Line.{Line}
use Rattle.judge_object.specs.Call.{Call}
use Rattle.judge_object.specs.Relaxed.{call_of}
use Rattle.judge_object.specs.Cut.{cut, cut_call, line_cut, numbered}
use Rattle.judge_object.proofs.Cuts.{filter_append}

no_more : {A : Type 0} (xs : List A) → length xs ≡ 0 → xs ≡ []
no_more [] e = refl
no_more (x ∷ xs) e = cc

nothing_left : {A Z : Type 0} (it : _) → into_iter_len {X = A} {Z = Z} it ≡ 0 → length (into_iter_items it) ≡ 0
nothing_left it e = search rules

-- a walk over all of them has gone over all
pub all_met : {A Z : Type 0} (all xs : List A) (it : _) → all ≡ xs ++ into_iter_items {X = A} {Z = Z} it →
    into_iter_len it ≡ 0 → xs ≡ all
all_met all xs it e n =
    sym (e ∙ ap (λ (r : List _). xs ++ r) (no_more (into_iter_items it) (nothing_left it n)) ∙ append-nil xs)

-- the first of what is left goes over
pub one_on : {A : Type 0} (all xs rest rest' : List A) (x : A) → all ≡ xs ++ rest → rest ≡ x ∷ rest' →
    all ≡ (xs ++ x ∷ []) ++ rest'
one_on all xs rest rest' x e f = e ∙ ap (λ (l : List _). xs ++ l) f ∙ sym (append_assoc xs (x ∷ []) rest')

module _ {O : Type 0} where
  -- one more line of the history
  pub cut_more : (moment : ℕ) (lines : List (Line O)) (line : Line O) (o : Option (ℕ × Call O))
      (old new : List (ℕ × Call O)) → old ≡ filter_map (line_cut moment) lines → o ≡ line_cut moment line →
      new ≡ old ++ cons_option o [] → new ≡ filter_map (line_cut moment) (lines ++ line ∷ [])
  cut_more moment lines line o old new e f h =
      h ∙ ap (λ xs. xs ++ cons_option o []) e
      ∙ ap (λ x. filter_map (line_cut moment) lines ++ cons_option x []) f
      ∙ sym (filter_append (line_cut moment) lines (line ∷ []))

  -- the calls of numbered lines
  abbrev calls : List (ℕ × Call O) → List (Call O)
  calls xs = map (λ x. x.1) xs

  calls_numbered : (lines : List (Line O)) → calls (map numbered lines) ≡ map call_of lines
  calls_numbered [] = refl
  calls_numbered (line ∷ lines) = ap (λ xs. call_of line ∷ xs) (calls_numbered lines)

  calls_option : (n : ℕ) (o : Option (Call O)) (xs : List (ℕ × Call O)) (ys : List (Call O)) → calls xs ≡ ys →
      calls (cons_option (option_map (λ (call : Call O). (n, call)) o) xs) ≡ cons_option o ys
  calls_option n None xs ys e = e
  calls_option n (Some call) xs ys e = ap (λ l. call ∷ l) e

  calls_cut : (moment : ℕ) (lines : List (Line O)) →
      calls (filter_map (line_cut moment) lines) ≡ cut moment (map call_of lines)
  calls_cut moment [] = refl
  calls_cut moment (line ∷ lines) =
      calls_option line.number (cut_call moment (call_of line)) (filter_map (line_cut moment) lines)
      (cut moment (map call_of lines)) (calls_cut moment lines)

  pub cut_calls : (moment : ℕ) (part lines : List (Line O)) →
      map numbered part ≡ filter_map (line_cut moment) lines → map call_of part ≡ cut moment (map call_of lines)
  cut_calls moment part lines e = sym (calls_numbered part) ∙ ap calls e ∙ calls_cut moment lines
