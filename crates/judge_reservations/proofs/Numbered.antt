-- The lines of the part of a history.
use Rattle.std.proofs.Common.{◌≡◌, ℕ, ◌+◌, ◌<◌, ◌&&◌, Bool, true, List, [], ◌∷◌, ◌++◌, length, map, take, get_or, refl}
use Rattle.std.proofs.Common.{ap}
use Rattle.std.proofs.Common.{sym, ◌∙◌, append-nil}
use Rattle.std.specs.Prelude.{Option, Some, None, ⊤}
use Rattle.std.specs.List.{filter_map, cons_option, list_all}
use Rattle.std.specs.Option.{option_map}
use Rattle.std.proofs.lemmas.List.{take_more}
use Rattle.vac_model.specs.declared.tasks.Task.{Task}
use Rattle.vac_model.proofs.Ids.{both_true}
use Rattle.judge_object.specs.declared.line.Line.{Line}
use Rattle.judge_object.specs.Call.{Call, EachCall}
use Rattle.judge_reservations.specs.declared.scope.Scope.{Scope}
use Rattle.judge_reservations.specs.Histories.{part_of_call, part_of_history, fits, is_timed}
use Rattle.judge_reservations.specs.Lines.{call_of, calls_of, numbered, line_part, has_part}
use Rattle.judge_reservations.proofs.Orders.{filter_append}

-- one more line of the history
pub line_more : (scope : Scope) (lines : List (Line Task)) (old new : List (ℕ × Call Task)) (at : ℕ) (line : Line Task)
    (o : Option (ℕ × Call Task)) → at < length lines → line ≡ get_or lines at line →
    old ≡ filter_map (line_part scope) (take at lines) → o ≡ line_part scope line → new ≡ old ++ cons_option o [] →
    new ≡ filter_map (line_part scope) (take (at + 1) lines)
line_more scope lines old new at line o short is e part f =
    f ∙ ap (λ xs. xs ++ cons_option o []) e
    ∙ ap (λ x. filter_map (line_part scope) (take at lines) ++ cons_option x []) (part ∙ ap (line_part scope) is)
    ∙ sym (filter_append (line_part scope) (take at lines) (get_or lines at line ∷ []))
    ∙ ap (filter_map (line_part scope)) (sym (take_more lines at line short))

-- the calls of numbered lines
abbrev calls : List (ℕ × Call Task) → List (Call Task)
calls xs = map (λ x. x.1) xs

calls_numbered : (lines : List (Line Task)) → calls (map numbered lines) ≡ calls_of lines
calls_numbered [] = refl
calls_numbered (line ∷ lines) = ap (λ xs. call_of line ∷ xs) (calls_numbered lines)

calls_option : (n : ℕ) (o : Option (Call Task)) (xs : List (ℕ × Call Task)) (ys : List (Call Task)) → calls xs ≡ ys →
    calls (cons_option (option_map (λ (call : Call Task). (n, call)) o) xs) ≡ cons_option o ys
calls_option n None xs ys e = e
calls_option n (Some call) xs ys e = ap (λ l. call ∷ l) e

calls_parts : (scope : Scope) (lines : List (Line Task)) →
    calls (filter_map (line_part scope) lines) ≡ part_of_history scope (calls_of lines)
calls_parts scope [] = refl
calls_parts scope (line ∷ lines) =
    calls_option line.number (part_of_call scope (call_of line)) (filter_map (line_part scope) lines)
    (part_of_history scope (calls_of lines)) (calls_parts scope lines)

pub part_calls : (scope : Scope) (part lines : List (Line Task)) →
    map numbered part ≡ filter_map (line_part scope) lines →
    calls_of part ≡ part_of_history scope (calls_of lines)
part_calls scope part lines e = sym (calls_numbered part) ∙ ap calls e ∙ calls_parts scope lines

-- all calls have parts
pub each_fits : (scope : Scope) (cs : List (Call Task)) → list_all (has_part scope) cs ≡ true →
    EachCall (λ call. fits scope call ≡ true) cs × EachCall (λ call. is_timed call ≡ true) cs
each_fits scope [] e = (tt, tt)
each_fits scope (c ∷ cs) e =
    let both = both_true (has_part scope c) (list_all (has_part scope) cs) e in
    let here = both_true (fits scope c) (is_timed c) both.0 in
    let rest = each_fits scope cs both.1 in
    ((here.0, rest.0), (here.1, rest.1))
