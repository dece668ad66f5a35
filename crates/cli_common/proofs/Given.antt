-- The values that clap finds if no step fails: an option with a default has a value that its rule
-- accepts.
use Rattle.std.proofs.Common.{◌≡◌, ◌<◌, ◌++◌, ◌||◌, ◌∙◌, Bool, cond, true, false, List, [], ◌∷◌, length, Option, Some}
use Rattle.std.proofs.Common.{None, is_some, refl, sym, ap, subst, arith, ◌⊎◌, inl, inr}
use Rattle.std.specs.Prelude.{find, fold, option_map, option_and_then}
use Rattle.std.specs.Option.{option_map_or}
use Rattle.std.proofs.lemmas.Bool.{ne_eqb}
use Rattle.std.specs.Str.{bytes_eq}
use Rattle.std.proofs.lemmas.Slice.Eq.{bytes_eq-Decides}
use Rattle.clap.specs.Kinds.{Kinds, or_else, request_kinds}
use Rattle.clap.specs.Values.{read_as}
use Rattle.clap.specs.Takes.{value_passes}
use Rattle.clap.specs.Simple.{App, Shape, argument_words, built, entered, label_of, names_of, rows_at, subcommand_of}
use Rattle.clap.specs.Walk.{Names, Row, Rule, Text, action_of, answers_to, arg_by_id, at_row, default_rows, finished}
use Rattle.clap.specs.Walk.{has_row, is_empty, more_values, nothing_held, one_of, reading_by, row_text, rows_after}
use Rattle.clap.specs.Walk.{settled, stop_after, walk, walk_from, with_default}
use Rattle.clap.specs.Faults.{check_fault, default_fault, defaults_fault, entered_fault, fault_of, given_default_fault}
use Rattle.clap.specs.Faults.{level_fault, settle_fault, values_fault, walk_fault}
use Rattle.clap.specs.declared.parser.matches.ValueSource.{ValueSource}
use Rattle.clap.specs.declared.parser.matches.ValueSource.TheVariants.{DefaultValue}
use Rattle.cli_common.proofs.FoundRows.{Each, Fits, IsFit, both_none, first_passes, no_some, put_fits, same_some}
use Rattle.cli_common.proofs.FoundRows.{found_each, found_passes}
use Rattle.cli_common.proofs.Walks.{AllFit, settled_fits, walk_fits}

-- ---- defaults

default_at : (c : List Rule) (a : Rule) (defaults : List Text) (rows : List Row) → IsFit c a →
    cond (is_empty defaults) [] (given_default_fault a defaults) ≡ [] → Each (Fits c) rows
    → Each (Fits c) (default_rows a.id (reading_by a) defaults rows)
default_at c a [] rows fit e each = each
default_at c a (v ∷ vs) rows fit e each =
    let passes : given_default_fault a (v ∷ vs) ≡ [] = subst
    (λ (b : Bool). cond b [] (given_default_fault a (v ∷ vs)) ≡ [])
    (ne_eqb (length (v ∷ vs)) 0 (λ q. omega (arith, q))) e in
    put_fits c a DefaultValue (v ∷ vs) rows fit.own (first_passes a (v ∷ vs) (omega arith)
    (both_none (request_kinds (action_of a)) (values_fault a (v ∷ vs)) passes).1) each

default_fits : (c : List Rule) (a : Rule) (rows : List Row) → IsFit c a → default_fault rows a ≡ [] →
    Each (Fits c) rows → Each (Fits c) (with_default rows a)
default_fits c a rows fit e each = go (has_row a.id rows) e
  where
    go : (b : Bool) → cond (b || is_empty a.defaults) [] (given_default_fault a a.defaults) ≡ [] →
        Each (Fits c) (cond b rows (default_rows a.id (reading_by a) a.defaults rows))
    go true e = each
    go false e = default_at c a a.defaults rows fit e each

defaults_fit : (c xs : List Rule) (rows : List Row) → Each (IsFit c) xs → defaults_fault rows xs ≡ [] →
    Each (Fits c) rows → Each (Fits c) (fold with_default rows xs)
unfolding defaults_fault
defaults_fit c [] rows fit e each = each
defaults_fit c (a ∷ xs) rows fit e each =
    let parts = both_none _ _ e in
    defaults_fit c xs (with_default rows a) fit.1 parts.1 (default_fits c a rows fit.0 parts.0 each)

-- ---- the rows

or_right : (a b : Bool) → b ≡ true → (a || b) ≡ true
or_right true b e = refl
or_right false b e = e

or_left : (a b : Bool) → a ≡ true → (a || b) ≡ true
or_left true b e = refl
or_left false b e = let bad : false ≡ true = e in cc

same_id : (id : Text) → bytes_eq id id ≡ true
same_id id = (bytes_eq-Decides id id).1 refl

as_ids : (a b : Text) → bytes_eq a b ≡ true → a ≡ b
as_ids a b e = (bytes_eq-Decides a b).0 e

row_stays : (id other : Text) (s : ValueSource) (values : List Text) (missing rows : List Row) →
    has_row id rows ≡ true → has_row id (at_row other (more_values s values) missing rows) ≡ true
row_stays id other s values missing [] e = let bad : false ≡ true = e in cc
row_stays id other s values missing (r ∷ rs) e = go (bytes_eq r.id other)
    (λ rest. row_stays id other s values missing rs rest)
  where
    here : (b : Bool) → (has_row id rs ≡ true → has_row id (at_row other (more_values s values) missing rs) ≡ true) →
        (b || has_row id rs) ≡ true
        → (b || has_row id (at_row other (more_values s values) missing rs)) ≡ true
    here true more e = refl
    here false more e = more e

    go : (b : Bool) → (has_row id rs ≡ true → has_row id (at_row other (more_values s values) missing rs) ≡ true)
        → has_row id (cond b (more_values s values r ++ rs) (r ∷ at_row other (more_values s values) missing rs)) ≡ true
    go true more = e
    go false more = here (bytes_eq r.id id) more e

row_made : (id : Text) (s : ValueSource) (values : List Text) (new : Row) (rows : List Row) → new.id ≡ id →
    has_row id (at_row id (more_values s values) (new ∷ []) rows) ≡ true
row_made id s values new [] is = or_left (bytes_eq new.id id) false (ap (λ t. bytes_eq t id) is ∙ same_id id)
row_made id s values new (r ∷ rs) is = go (bytes_eq r.id id) refl (row_made id s values new rs is)
  where
    go : (b : Bool) → bytes_eq r.id id ≡ b → has_row id (at_row id (more_values s values) (new ∷ []) rs) ≡ true
        → has_row id (cond b (more_values s values r ++ rs) (r ∷ at_row id (more_values s values) (new ∷ []) rs)) ≡ true
    go true e more = rw e refl
    go false e more = or_right (bytes_eq r.id id) _ more

default_stays : (id : Text) (a : Rule) (rows : List Row) → has_row id rows ≡ true →
    has_row id (with_default rows a) ≡ true
default_stays id a rows e = go (has_row a.id rows)
  where
    put : (defaults : List Text) → has_row id (default_rows a.id (reading_by a) defaults rows) ≡ true
    put [] = e
    put (v ∷ vs) = row_stays id a.id DefaultValue (v ∷ vs) _ rows e

    go : (b : Bool) → has_row id (cond b rows (default_rows a.id (reading_by a) a.defaults rows)) ≡ true
    go true = e
    go false = put a.defaults

default_made : (a : Rule) (rows : List Row) → 0 < length a.defaults → has_row a.id (with_default rows a) ≡ true
default_made a rows some = go (has_row a.id rows) refl
  where
    put : (defaults : List Text) → 0 < length defaults → has_row a.id
        (default_rows a.id (reading_by a) defaults rows) ≡ true
    put [] some = absurd (omega (arith, some))
    put (v ∷ vs) some = row_made a.id DefaultValue (v ∷ vs) _ rows refl

    go : (b : Bool) → has_row a.id rows ≡ b → has_row a.id (cond b rows
        (default_rows a.id (reading_by a) a.defaults rows)) ≡ true
    go true e = e
    go false e = put a.defaults some

defaults_stay : (id : Text) (xs : List Rule) (rows : List Row) → has_row id rows ≡ true →
    has_row id (fold with_default rows xs) ≡ true
defaults_stay id [] rows e = e
defaults_stay id (a ∷ xs) rows e = defaults_stay id xs (with_default rows a) (default_stays id a rows e)

option_has : (test : Rule → Bool) (xs : List Rule) (a : Rule) (rows : List Row) → find test xs ≡ Some a →
    0 < length a.defaults → has_row a.id (fold with_default rows xs) ≡ true
option_has test [] a rows found some = absurd (no_some a found)
option_has test (x ∷ xs) a rows found some = go (test x) (λ e. option_has test xs a (with_default rows x) e some) found
  where
    go : (b : Bool) → (find test xs ≡ Some a → has_row a.id (fold with_default (with_default rows x) xs) ≡ true) →
        cond b (Some x) (find test xs) ≡ Some a
        → has_row a.id (fold with_default (with_default rows x) xs) ≡ true
    go true more e = subst (λ (y : Rule). has_row y.id (fold with_default (with_default rows x) xs) ≡ true)
        (same_some x a e)
        (defaults_stay x.id xs (with_default rows x) (default_made x rows
        (subst (λ (y : Rule). 0 < length y.defaults) (sym (same_some x a e)) some)))
    go false more e = more e

-- the row of an id
record RowOf (P : Row → Type 0) (id : Text) (rows : List Row) : Type 0 where
  row : Row
  found : find (λ r. bytes_eq r.id id) rows ≡ Some row
  id_is : row.id ≡ id
  holds : P row

row_of_id : (P : Row → Type 0) (id : Text) (rows : List Row) → Each P rows → has_row id rows ≡ true → RowOf P id rows
row_of_id P id [] each e = let bad : false ≡ true = e in cc
row_of_id P id (r ∷ rs) each e = go (bytes_eq r.id id) (λ rest. row_of_id P id rs each.1 rest) refl e
  where
    more : RowOf P id rs → bytes_eq r.id id ≡ false → RowOf P id (r ∷ rs)
    more m is = record { row = m.row; found = rw is m.found; id_is = m.id_is; holds = m.holds }

    go : (b : Bool) → (has_row id rs ≡ true → RowOf P id rs) → bytes_eq r.id id ≡ b → (b || has_row id rs) ≡ true →
        RowOf P id (r ∷ rs)
    go true rest is e = record { row = r; found = rw is refl; id_is = as_ids r.id id is; holds = each.0 }
    go false rest is e = more (rest e) is

-- ---- a level of a parse

-- the text of an option is accepted by its rule
pub record IsGiven (a : Rule) (rows : List Row) : Type 0 where
  pub text : Text
  pub one : one_of a.id rows ≡ Some (read_as (reading_by a) text)
  pub passes : value_passes a text ≡ true

given_in : (c : List Rule) (a : Rule) (rows : List Row) → arg_by_id c a.id ≡ Some a → RowOf (Fits c) a.id rows →
    IsGiven a rows
given_in c a rows own row =
    let good = row.holds a (ap (arg_by_id c) row.id_is ∙ own) in
    record {
      text = good.first;
      one = ap (option_and_then row_text) row.found ∙ ap (λ v. option_map (read_as row.row.reading) v) good.at ∙
          ap (λ how. Some (read_as how good.first)) good.reads;
      passes = good.passes;
    }

-- the rows of a level that is accepted
level_fits : (s : Shape) (words : List Text) → AllFit s.rules → level_fault s [] nothing_held words false [] ≡ [] →
    Each (Fits s.rules) (rows_after s.rules [] words)
level_fits s words all e =
    let end = (walk s.rules [] nothing_held words).held in
    let parts = both_none _ _ e in
    let last = both_none _ _ parts.1 in
    let after = both_none _ _ last.1 in
    let walked = walk_fits s [] _ words all parts.0 tt in
    let settled_all = settled_fits s.rules s.args_override_self end all last.0 walked in
    defaults_fit s.rules s.rules (settled s.rules end).rows all after.0 settled_all

-- an option without a default has no value, or one that its rule accepts
pub level_may_give : (s : Shape) (words : List Text) (a : Rule) → AllFit s.rules →
    level_fault s [] nothing_held words false [] ≡ [] → arg_by_id s.rules a.id ≡ Some a
    → (one_of a.id (rows_after s.rules [] words) ≡ None) ⊎ IsGiven a (rows_after s.rules [] words)
level_may_give s words a all e own =
    go (find (λ r. bytes_eq r.id a.id) (rows_after s.rules [] words)) refl
  where
    go : (o : Option Row) → find (λ r. bytes_eq r.id a.id) (rows_after s.rules [] words) ≡ o →
        (one_of a.id (rows_after s.rules [] words) ≡ None) ⊎ IsGiven a (rows_after s.rules [] words)
    go None is = inl (ap (option_and_then row_text) is)
    go (Some row) is = inr (given_in s.rules a _ own (record {
      row = row;
      found = is;
      id_is = as_ids row.id a.id (found_passes (λ r. bytes_eq r.id a.id) (rows_after s.rules [] words) row is);
      holds = found_each (Fits s.rules) (λ r. bytes_eq r.id a.id) (rows_after s.rules [] words) row
          (level_fits s words all e) is;
    }))

pub level_gives : (s : Shape) (words : List Text) (a : Rule) → AllFit s.rules →
    level_fault s [] nothing_held words false [] ≡ [] → arg_by_id s.rules a.id ≡ Some a → 0 < length a.defaults
    → IsGiven a (rows_after s.rules [] words)
level_gives s words a all e own some =
    let end = (walk s.rules [] nothing_held words).held in
    let parts = both_none _ _ e in
    let last = both_none _ _ parts.1 in
    let after = both_none _ _ last.1 in
    let walked = walk_fits s [] _ words all parts.0 tt in
    let settled_all = settled_fits s.rules s.args_override_self end all last.0 walked in
    let rows = defaults_fit s.rules s.rules (settled s.rules end).rows all after.0 settled_all in
    given_in s.rules a _ own (row_of_id (Fits s.rules) a.id _ rows
    (option_has _ s.rules a (settled s.rules end).rows own some))

-- ---- the subcommand that the words name

-- the words after the name of a subcommand, which its level of the parse accepts without a fault
pub record IsEntered (s : Shape) (rows : List Row) : Type 0 where
  pub words : List Text
  pub passes : level_fault s [] nothing_held words false [] ≡ []
  pub rows_are : rows_after s.rules [] words ≡ rows

found_shape : (P : Shape → Type 0) (subs : List Shape) (word : Text) (words : List Text) (name : Text) (rows : List Row)
    → Each P subs
    → option_map_or (λ s. level_fault s [] nothing_held words false [])
    (find (λ s. answers_to word (label_of s)) subs) [] ≡ []
    → option_map (λ s. rows_at s words) (find (λ s. answers_to word (label_of s)) subs) ≡ Some (name, rows)
    → (s : Shape) × P s × (s.name ≡ name) × IsEntered s rows
found_shape P [] word words name rows each fault found = absurd (no_some _ found)
found_shape P (s ∷ subs) word words name rows each fault found =
    go (answers_to word (label_of s)) (λ e f. found_shape P subs word words name rows each.1 e f) fault found
  where
    go : (b : Bool) → (option_map_or (λ s. level_fault s [] nothing_held words false [])
        (find (λ s. answers_to word (label_of s)) subs) [] ≡ []
        → option_map (λ s. rows_at s words) (find (λ s. answers_to word (label_of s)) subs) ≡ Some (name, rows) →
        (s : Shape) × P s × (s.name ≡ name) × IsEntered s rows)
        → option_map_or (λ s. level_fault s [] nothing_held words false [])
        (cond b (Some s) (find (λ s. answers_to word (label_of s)) subs)) [] ≡ []
        → option_map (λ s. rows_at s words) (cond b (Some s) (find (λ s. answers_to word (label_of s)) subs)) ≡ Some
        (name, rows)
        → (s : Shape) × P s × (s.name ≡ name) × IsEntered s rows
    go true more fault found =
        let same = same_some _ _ found in
        (s, each.0, ap (λ p. p.0) same, record { words = words; passes = fault; rows_are = ap (λ p. p.1) same })
    go false more fault found = more fault found

entered_at : (P : Shape → Type 0) (a : App) (stop : Option (Text × List Text)) (name : Text) (rows : List Row) →
    Each P a.subs → entered_fault a stop ≡ [] → entered a stop ≡ Some (name, rows)
    → (s : Shape) × P s × (s.name ≡ name) × IsEntered s rows
entered_at P a None name rows each fault found = absurd (no_some _ found)
entered_at P a (Some p) name rows each fault found = found_shape P a.subs p.0 p.1 name rows each fault found

pub subcommand_entered : (P : Shape → Type 0) (a : App) (words : List Text) (name : Text) (rows : List Row) →
    Each P (built a).subs → fault_of a words ≡ [] → subcommand_of a words ≡ Some (name, rows)
    → (s : Shape) × P s × (s.name ≡ name) × IsEntered s rows
subcommand_entered P a words name rows each fault found =
    let stop = stop_after (built a).top.rules (names_of (built a)) (argument_words a words) in
    entered_at P (built a) stop name rows each (both_none _ _ (both_none _ _ fault).1).0 found

-- the parts of a command line without a fault that the top level accepts
pub record TopPasses (a : App) (words : List Text) : Type 0 where
  pub walked : walk_fault (built a).top (names_of (built a)) (walk_from nothing_held) (argument_words a words) ≡ []
  pub checked : check_fault (built a).top (finished (built a).top.rules
      (walk (built a).top.rules (names_of (built a)) nothing_held (argument_words a words)).held)
      (is_some (subcommand_of a words)) ≡ []

five_none : (a b c d e : Kinds) → or_else a (or_else b (or_else c (or_else d e))) ≡ [] → (a ≡ []) × (e ≡ [])
five_none a b c d e fault =
    let parts = both_none a _ fault in
    let below = both_none b _ parts.1 in
    let settled = both_none c _ below.1 in
    (parts.0, (both_none d e settled.1).1)

level_ends : (s : Shape) (names : Names) (words : List Text) (has : Bool) (below : Kinds) →
    level_fault s names nothing_held words has below ≡ []
    → (walk_fault s names (walk_from nothing_held) words ≡ []) ×
    (check_fault s (finished s.rules (walk s.rules names nothing_held words).held) has ≡ [])
level_ends s names words has below fault =
    let end = (walk s.rules names nothing_held words).held in
    five_none _ below (settle_fault s.rules s.args_override_self end)
    (defaults_fault (settled s.rules end).rows s.rules) _ fault

pub top_passes : (a : App) (words : List Text) → fault_of a words ≡ [] → TopPasses a words
top_passes a words fault =
    let ends = level_ends (built a).top (names_of (built a)) (argument_words a words) _ _ fault in
    record { walked = ends.0; checked = ends.1 }
