-- The subcommand that the words of a command line name.
use Rattle.std.proofs.Common.{◌≡◌, ◌⊎◌, ◌∙◌, Bool, true, false, List, [], Option, Some, None, is_some, refl, sym, ap}
use Rattle.std.proofs.Common.{subst, codes, inl, inr}
use Rattle.std.specs.Prelude.{IsSome}
use Rattle.std.specs.Str.{bytes_eq}
use Rattle.clap.specs.Words.{fault_of, subcommand_of}
use Rattle.clap.specs.Simple.{Shape, built}
use Rattle.clap.specs.Walk.{Row, Text}
use Rattle.clap.specs.Faults.{check_fault}
use Rattle.clap.specs.declared.error.kind.ErrorKind.TheVariants.{MissingSubcommand}
use Rattle.cli_common.proofs.FoundRows.{Each, no_fault}
use Rattle.cli_common.proofs.Naming.{NamesOne, names_one, not_some, is_none}
use Rattle.cli_options.specs.CommandLine.{vacation, Names}
use Rattle.cli_options.proofs.Subcommands.{shape_at}

has_subcommand : (rows : List Row) (has : Bool) → check_fault (built vacation).top rows has ≡ [] → has ≡ true
has_subcommand rows true e = refl
has_subcommand rows false e = absurd (no_fault MissingSubcommand [] e)

IsOneOf : Shape → Type 0
IsOneOf s =
    (s ≡ shape_at 0) ⊎ ((s ≡ shape_at 1) ⊎ ((s ≡ shape_at 2) ⊎
    ((s ≡ shape_at 3) ⊎ ((s ≡ shape_at 4) ⊎ (s ≡ shape_at 5)))))

each_one : Each IsOneOf (built vacation).subs
unfolding shape_at IsOneOf
each_one = (
  inl refl,
  (
    inr (inl refl),
    (
      inr (inr (inl refl)),
      (
        inr (inr (inr (inl refl))),
        (
          inr (inr (inr (inr (inl refl)))),
          (inr (inr (inr (inr (inr refl)))), tt),
        ),
      ),
    ),
  ),
)

-- words that clap accepts name one of the subcommands
abbrev pub IsNamed : List Text → List Row → Type 0
IsNamed words rows =
    Names words (codes "run") rows ⊎ (Names words (codes "dump") rows ⊎
    (Names words (codes "check") rows ⊎ (Names words (codes "load") rows ⊎ (Names words (codes "tasks") rows))))

which : (words : List Text) (rows : List Row) (s : Shape) → IsOneOf s →
    subcommand_of vacation words ≡ Some (s.name, rows) → bytes_eq s.name (codes "help") ≡ false → IsNamed words rows
unfolding shape_at IsOneOf
which words rows s (inl is) names other = inl (names ∙ ap (λ (t : Shape). Some (t.name, rows)) is)
which words rows s (inr (inl is)) names other = inr (inl (names ∙ ap (λ (t : Shape). Some (t.name, rows)) is))
which words rows s (inr (inr (inl is))) names other =
    inr (inr (inl (names ∙ ap (λ (t : Shape). Some (t.name, rows)) is)))
which words rows s (inr (inr (inr (inl is)))) names other =
    inr (inr (inr (inl (names ∙ ap (λ (t : Shape). Some (t.name, rows)) is))))
which words rows s (inr (inr (inr (inr (inl is))))) names other =
    inr (inr (inr (inr (names ∙ ap (λ (t : Shape). Some (t.name, rows)) is))))
which words rows s (inr (inr (inr (inr (inr is))))) names other =
    absurd (let bad : true ≡ false = subst (λ (t : Shape). bytes_eq t.name (codes "help") ≡ false) is other in cc)

pub one_is_named : (words : List Text) → fault_of vacation words ≡ [] → (rows : List Row) × IsNamed words rows
unfolding shape_at IsOneOf
one_is_named words fault =
    let one = names_one IsOneOf vacation words each_one (refl, (refl, (refl, (refl, (refl, (refl, tt)))))) refl
    has_subcommand fault in
    (one.rows, which words one.rows one.sub one.has one.names one.other)

-- no subcommand is named if a search for each of them found none
pub none_is_named : {X : Type 0} (words : List Text) (rows : List Row) (found : Option (Text × List Row))
    (run dump check tasks load : Option X) → found ≡ subcommand_of vacation words
    → ((r : List Row) → found ≡ Some (codes "run", r) → IsSome run)
    → ((r : List Row) → found ≡ Some (codes "dump", r) → IsSome dump)
    → ((r : List Row) → found ≡ Some (codes "check", r) → IsSome check)
    → ((r : List Row) → found ≡ Some (codes "tasks", r) → IsSome tasks)
    → ((r : List Row) → found ≡ Some (codes "load", r) → IsSome load)
    → run ≡ None → dump ≡ None → false ≡ is_some check → tasks ≡ None → load ≡ None
    → IsNamed words rows → ⊥
none_is_named words rows found run dump check tasks load is
    find_run find_dump find_check find_tasks find_load no_run no_dump no_check no_tasks no_load
    (inl n) = not_some run no_run (find_run rows (is ∙ n))
none_is_named words rows found run dump check tasks load is
    find_run find_dump find_check find_tasks find_load no_run no_dump no_check no_tasks no_load
    (inr (inl n)) = not_some dump no_dump (find_dump rows (is ∙ n))
none_is_named words rows found run dump check tasks load is
    find_run find_dump find_check find_tasks find_load no_run no_dump no_check no_tasks no_load
    (inr (inr (inl n))) = not_some check (is_none check no_check) (find_check rows (is ∙ n))
none_is_named words rows found run dump check tasks load is
    find_run find_dump find_check find_tasks find_load no_run no_dump no_check no_tasks no_load
    (inr (inr (inr (inl n)))) = not_some load no_load (find_load rows (is ∙ n))
none_is_named words rows found run dump check tasks load is
    find_run find_dump find_check find_tasks find_load no_run no_dump no_check no_tasks no_load
    (inr (inr (inr (inr n)))) = not_some tasks no_tasks (find_tasks rows (is ∙ n))
