-- The subcommand that the words of a command line name.
use Rattle.std.proofs.Common.{◌≡◌, ◌||◌, ◌∙◌, Bool, true, false, List, [], Option, Some, None, is_some, refl}
use Rattle.std.proofs.Common.{sym, ap, subst, codes}
use Rattle.std.specs.Prelude.{find, option_map, IsSome}
use Rattle.std.specs.List.{list_any}
use Rattle.std.specs.Str.{bytes_eq}
use Rattle.std.proofs.lemmas.Slice.Eq.{bytes_eq-Decides}
use Rattle.clap.specs.Words.{fault_of, subcommand_of}
use Rattle.clap.specs.Simple.{App, Shape, argument_words, built, entered, label_of, names_of, rows_at}
use Rattle.clap.specs.Walk.{Row, Text, answers_to, finished, nothing_held, walk, walk_from}
use Rattle.clap.specs.Faults.{check_fault}
use Rattle.clap.specs.declared.error.kind.ErrorKind.TheVariants.{MissingSubcommand}
use Rattle.cli_common.proofs.FoundRows.{Each, found_each, found_passes, no_fault, no_some, same_some}
use Rattle.cli_common.proofs.Given.{subcommand_entered, top_passes}
use Rattle.cli_common.proofs.Stops.{IsNoHelp, walk_on}

some_entered : (o : Option (Text × List Row)) → is_some o ≡ true → (p : Text × List Row) × (o ≡ Some p)
some_entered None e = let bad : false ≡ true = e in cc
some_entered (Some p) e = (p, refl)

named_so : (word : Text) (s : Shape) → s.aliases ≡ [] → answers_to word (label_of s) ≡ true → s.name ≡ word
named_so word s none answers =
    (bytes_eq-Decides s.name word).0 (only_left (bytes_eq s.name word)
    (subst (λ (names : List Text). (bytes_eq s.name word || list_any (λ alias. bytes_eq alias word) names) ≡ true)
    none answers))
  where
    only_left : (b : Bool) → (b || false) ≡ true → b ≡ true
    only_left true e = refl
    only_left false e = e

-- a subcommand was entered whose name is that at which the walk stopped
stopped_at : (a : App) (stop : Option (Text × List Text)) (name : Text) (rows : List Row) →
    Each (λ s. s.aliases ≡ []) a.subs → IsNoHelp stop → entered a stop ≡ Some (name, rows)
    → bytes_eq name (codes "help") ≡ false
stopped_at a None name rows each other found = absurd (no_some _ found)
stopped_at a (Some p) name rows each other found = go (find (λ s. answers_to p.0 (label_of s)) a.subs) refl found
  where
    go : (o : Option Shape) → find (λ s. answers_to p.0 (label_of s)) a.subs ≡ o →
        option_map (λ s. rows_at s p.1) o ≡ Some (name, rows) → bytes_eq name (codes "help") ≡ false
    go None is e = absurd (no_some _ e)
    go (Some s) is e =
        let name_is : s.name ≡ name = ap (λ q. q.0) (same_some _ _ e) in
        let word_is : s.name ≡ p.0 = named_so p.0 s (found_each (λ t. t.aliases ≡ []) _ a.subs s each is)
        (found_passes (λ t. answers_to p.0 (label_of t)) a.subs s is) in
        subst (λ (t : Text). bytes_eq t (codes "help") ≡ false) (sym word_is ∙ name_is) other

-- words that clap accepts enter a subcommand other than `help`, if the command needs one
pub record NamesOne (P : Shape → Type 0) (app : App) (words : List Text) : Type 0 where
  pub sub : Shape
  pub rows : List Row
  pub has : P sub
  pub names : subcommand_of app words ≡ Some (sub.name, rows)
  pub other : bytes_eq sub.name (codes "help") ≡ false

pub names_one : (P : Shape → Type 0) (app : App) (words : List Text) → Each P (built app).subs →
    Each (λ s. s.aliases ≡ []) (built app).subs → (built app).top.disable_help_subcommand ≡ false →
    ((rows : List Row) (has : Bool) → check_fault (built app).top rows has ≡ [] → has ≡ true) →
    fault_of app words ≡ [] → NamesOne P app words
names_one P app words each plain helps needs fault =
    let top = top_passes app words fault in
    let rows = finished (built app).top.rules (walk (built app).top.rules
    (names_of (built app)) nothing_held (argument_words app words)).held in
    let p = some_entered (subcommand_of app words) (needs rows _ top.checked) in
    let stopped = walk_on (built app).top (names_of (built app)) (walk_from nothing_held)
    (argument_words app words) helps top.walked tt in
    let other = stopped_at (built app) _ p.0.0 p.0.1 plain stopped p.1 in
    let found = subcommand_entered P app words p.0.0 p.0.1 each fault p.1 in
    record {
      sub = found.0;
      rows = p.0.1;
      has = found.1;
      names = p.1 ∙ ap (λ (n : Text). Some (n, p.0.1)) (sym found.2);
      other = subst (λ (n : Text). bytes_eq n (codes "help") ≡ false) (sym found.2) other;
    }

pub not_some : {X : Type 0} (o : Option X) → o ≡ None → IsSome o → ⊥
not_some None e some = let bad : false ≡ true = some in cc
not_some (Some x) e some = no_some x (sym e)

pub is_none : {X : Type 0} (o : Option X) → false ≡ is_some o → o ≡ None
is_none None e = refl
is_none (Some x) e = absurd (let bad : false ≡ true = e in cc)
