-- The rows that clap finds: if no step fails, each row has a value that its rule accepts.
use Rattle.std.proofs.Common.{◌≡◌, ◌<◌, ◌++◌, ◌||◌, ◌&&◌, ◌∙◌, ℕ, Bool, cond, true, false, List, [], ◌∷◌, length, Some}
use Rattle.std.proofs.Common.{None, Option, ◌↔◌, refl, sym, ap, ap₂, subst, nat_lt, arith}
use Rattle.std.specs.Prelude.{⊤, find, slice_get, option_map, IfSome, IsSome}
use Rattle.std.specs.Str.{bytes_eq}
use Rattle.std.proofs.lemmas.Bool.{ltb-true}
use Rattle.clap.specs.Kinds.{Kinds, or_else, range_kinds}
use Rattle.clap.specs.Facts.{parser_of_value, unwrap_or_range}
use Rattle.clap.specs.Values.{is_request}
use Rattle.clap.specs.ValueTests.{accepts}
use Rattle.clap.specs.Takes.{value_passes}
use Rattle.clap.specs.Walk.{Row, Rule, Text, action_of, arg_by_id, at_row, more_values, reading_by, used, used_as}
use Rattle.clap.specs.Walk.{values_or_missing, with_values, without}
use Rattle.clap.specs.Faults.{action_fault, use_fault, values_fault}
use Rattle.clap.specs.declared.error.kind.ErrorKind.{ErrorKind}
use Rattle.clap.specs.declared.error.kind.ErrorKind.TheVariants.{InvalidValue}
use Rattle.clap.specs.declared.builder.action.ArgAction.{ArgAction}
use Rattle.clap.specs.declared.builder.action.ArgAction.TheVariants as action
use Rattle.clap.specs.declared.parser.matches.ValueSource.{ValueSource}
use Rattle.clap.specs.declared.parser.matches.ValueSource.TheVariants.{CommandLine}

-- ---- lists

-- each element has the property
abbrev pub Each : {X : Type 0} → (X → Type 0) → List X → Type 0
Each P [] = ⊤
Each P (x ∷ xs) = P x × Each P xs

pub each_append : {X : Type 0} (P : X → Type 0) (xs ys : List X) → Each P xs → Each P ys → Each P (xs ++ ys)
each_append P [] ys a b = b
each_append P (x ∷ xs) ys a b = (a.0, each_append P xs ys a.1 b)

pub same_some : {X : Type 0} (x y : X) → Some x ≡ Some y → x ≡ y
same_some x y e = cc

pub no_some : {X : Type 0} (x : X) → None ≡ Some x → ⊥
no_some x e = cc

-- the rows of a subcommand that is looked up by its name
pub named_some : {X M : Type 0} (sub : Option X) (name_of : X → Text) (rows_of : X → List Row) (o : Option M)
    (rows : M → List Row) (name : Text) → (IsSome o ↔ (option_map name_of sub ≡ Some name)) →
    IfSome o (λ m. option_map (λ (p : Text × List Row). p.1) (option_map {U = Text × List Row}
    (λ b. (name_of b, rows_of b)) sub) ≡ Some (rows m)) →
    IfSome o (λ m. option_map {U = Text × List Row} (λ b. (name_of b, rows_of b)) sub ≡ Some (name, rows m))
named_some sub name_of rows_of None rows name h k = tt
named_some None name_of rows_of (Some m) rows name h k = absurd (no_some _ k)
named_some (Some b) name_of rows_of (Some m) rows name h k =
    ap₂ (λ (n : Text) (r : List Row). let q : Text × List Row = (n, r) in
    Some q) (same_some _ _ (h.0 refl)) (same_some _ _ k)

-- a subcommand of that name is found
pub named_found : {X M : Type 0} (sub : Option X) (name_of : X → Text) (rows_of : X → List Row) (o : Option M)
    (name : Text) (rows : List Row) → (IsSome o ↔ (option_map name_of sub ≡ Some name)) →
    option_map {U = Text × List Row} (λ b. (name_of b, rows_of b)) sub ≡ Some (name, rows) → IsSome o
named_found None name_of rows_of o name rows h e = absurd (no_some _ e)
named_found (Some b) name_of rows_of o name rows h e = h.1 (ap (λ (p : Text × List Row). Some p.0) (same_some _ _ e))

-- an element that a search finds has the property
pub found_each : {X : Type 0} (P : X → Type 0) (test : X → Bool) (xs : List X) (x : X) → Each P xs →
    find test xs ≡ Some x → P x
found_each P test [] x each found = absurd (no_some x found)
found_each P test (y ∷ ys) x each found = go (test y) (found_each P test ys x each.1) found
  where
    go : (b : Bool) → (find test ys ≡ Some x → P x) → cond b (Some y) (find test ys) ≡ Some x → P x
    go true more e = subst P (same_some y x e) each.0
    go false more e = more e

pub found_passes : {X : Type 0} (test : X → Bool) (xs : List X) (x : X) → find test xs ≡ Some x → test x ≡ true
found_passes test [] x found = absurd (no_some x found)
found_passes test (y ∷ ys) x found = go (test y) refl (found_passes test ys x) found
  where
    go : (b : Bool) → test y ≡ b → (find test ys ≡ Some x → test x ≡ true) → cond b (Some y) (find test ys) ≡ Some x →
        test x ≡ true
    go true is more e = ap test (sym (same_some y x e)) ∙ is
    go false is more e = more e

-- ---- faults

pub no_fault : (k : ErrorKind) (ks : Kinds) → k ∷ ks ≡ [] → ⊥
no_fault k ks e = cc

pub both_none : (a b : Kinds) → or_else a b ≡ [] → (a ≡ []) × (b ≡ [])
both_none [] b e = (refl, e)
both_none (k ∷ ks) b e = absurd (no_fault k ks e)

-- ---- values

-- the first value is accepted, and is read as the rule says
pub record IsGood (a : Rule) (r : Row) : Type 0 where
  pub first : Text
  pub at : slice_get r.values 0 ≡ Some first
  pub passes : value_passes a first ≡ true
  pub reads : r.reading ≡ reading_by a

-- a row is good for the rule that has its id
abbrev pub Fits : List Rule → Row → Type 0
Fits c r = (a : Rule) → arg_by_id c r.id ≡ Some a → IsGood a r

abbrev pub is_counted : ArgAction → Bool
is_counted action.Count = true
is_counted _ = false

-- a rule of the command: found by its id, no counter, and each of its uses has a value
pub record IsFit (c : List Rule) (a : Rule) : Type 0 where
  pub own : arg_by_id c a.id ≡ Some a
  pub plain : is_counted (action_of a) ≡ false
  pub valued : (is_request (action_of a) || (nat_lt 0 (unwrap_or_range a.range).start_inclusive || nat_lt 0
      (length a.missing))) ≡ true

-- the first of the values of a use is accepted
pub record FirstPasses (a : Rule) (values : List Text) : Type 0 where
  pub first : Text
  pub at : slice_get values 0 ≡ Some first
  pub passes : value_passes a first ≡ true

if_none : (b : Bool) (k : ErrorKind) → cond b [] (k ∷ []) ≡ [] → b ≡ true
if_none true k e = refl
if_none false k e = absurd (no_fault k [] e)

pub first_passes : (a : Rule) (values : List Text) → 0 < length values → values_fault a values ≡ [] →
    FirstPasses a values
first_passes a [] some e = absurd (omega (arith, some))
first_passes a (v ∷ vs) some e = record {
  first = v;
  at = refl;
  passes = if_none (accepts a.ignore_case (parser_of_value a.parser) v) _ (both_none _ _ e).0;
}

first_stays : (vs ws : List Text) (first : Text) → slice_get vs 0 ≡ Some first → slice_get (vs ++ ws) 0 ≡ Some first
first_stays [] ws first e = absurd (no_some first e)
first_stays (v ∷ vs) ws first e = e

-- ---- rows that are changed

row_each : (P : Row → Type 0) (id : Text) (change : Row → List Row) (missing : List Row) (rows : List Row) →
    ((r : Row) → P r → Each P (change r)) → Each P missing
    → Each P rows → Each P (at_row id change missing rows)
row_each P id change missing [] changed added each = added
row_each P id change missing (r ∷ rs) changed added each = go (bytes_eq r.id id)
    (row_each P id change missing rs changed added each.1)
  where
    go : (b : Bool) → Each P (at_row id change missing rs) →
        Each P (cond b (change r ++ rs) (r ∷ at_row id change missing rs))
    go true more = each_append P (change r) rs (changed r each.0) each.1
    go false more = (each.0, more)

pub put_fits : (c : List Rule) (a : Rule) (s : ValueSource) (values : List Text) (rows : List Row) →
    arg_by_id c a.id ≡ Some a → FirstPasses a values → Each (Fits c) rows
    → Each (Fits c) (with_values a.id (reading_by a) s values rows)
put_fits c a s values rows own f each = row_each (Fits c) a.id (more_values s values) _ rows changed (made, tt) each
  where
    changed : (r : Row) → Fits c r → Each (Fits c) (more_values s values r)
    changed r fits = (
      λ b found. let g = fits b found in record {
        first = g.first;
        at = first_stays r.values values g.first g.at;
        passes = g.passes;
        reads = g.reads;
      },
      tt,
    )

    made : Fits c (record { id = a.id; values = values; count = None; source = Some s; reading = reading_by a })
    made b found = subst (λ (x : Rule). IsGood x (record {
      id = a.id;
      values = values;
      count = None;
      source = Some s;
      reading = reading_by a;
    })) (same_some a b (sym own ∙ found))
        (record { first = f.first; at = f.at; passes = f.passes; reads = refl })

without_fits : (c : List Rule) (id : Text) (rows : List Row) → Each (Fits c) rows → Each (Fits c) (without id rows)
without_fits c id rows each = row_each (Fits c) id (λ r. []) [] rows (λ r fits. tt) tt each

-- ---- one use of an argument

used_as_fits : (x : ArgAction) (again : Bool) (c : List Rule) (a : Rule) (values : List Text) (rows : List Row) →
    is_counted x ≡ false → arg_by_id c a.id ≡ Some a
    → (is_request x ≡ false → 0 < length values) → action_fault x again a values rows ≡ [] → Each (Fits c) rows →
    Each (Fits c) (used_as x a.id (reading_by a) values rows)
used_as_fits action.Set again c a values rows plain own some e each =
    put_fits c a CommandLine values _ own (first_passes a values (some refl) (both_none _ _ e).1)
    (without_fits c a.id rows each)
used_as_fits action.SetTrue again c a values rows plain own some e each =
    put_fits c a CommandLine values _ own (first_passes a values (some refl) (both_none _ _ e).1)
    (without_fits c a.id rows each)
used_as_fits action.SetFalse again c a values rows plain own some e each =
    put_fits c a CommandLine values _ own (first_passes a values (some refl) (both_none _ _ e).1)
    (without_fits c a.id rows each)
used_as_fits action.Append again c a values rows plain own some e each =
    put_fits c a CommandLine values rows own (first_passes a values (some refl) e) each
used_as_fits action.Count again c a values rows plain own some e each = let bad : true ≡ false = plain in cc
used_as_fits action.Help again c a values rows plain own some e each = each
used_as_fits action.HelpShort again c a values rows plain own some e each = each
used_as_fits action.HelpLong again c a values rows plain own some e each = each
used_as_fits action.Version again c a values rows plain own some e each = each

value_there : (a : Rule) (values : List Text) (least most : ℕ) →
    (nat_lt 0 least || nat_lt 0 (length a.missing)) ≡ true → range_kinds least most (length values) ≡ []
    → 0 < length (values_or_missing a values)
value_there a (v ∷ vs) least most some e = omega arith
value_there a [] least most some e = go (nat_lt 0 least) _ some e
  where
    go : (b : Bool) (others : Kinds) → (b || nat_lt 0 (length a.missing)) ≡ true →
        cond (b && true) (InvalidValue ∷ []) others ≡ [] → 0 < length a.missing
    go true others some e = absurd (no_fault InvalidValue [] e)
    go false others some e = ltb-true 0 (length a.missing) some

pub used_fits : (again : Bool) (c : List Rule) (a : Rule) (values : List Text) (rows : List Row) → IsFit c a →
    use_fault again a values rows ≡ [] → Each (Fits c) rows
    → Each (Fits c) (used a values rows)
used_fits again c a values rows fit e each =
    let parts = both_none _ _ e in
    used_as_fits (action_of a) again c a (values_or_missing a values) rows fit.plain fit.own
    (λ plain. value_there a values _ _ (rw plain at fit.valued) parts.0) parts.1 each
