-- By which words an option got its value.
use Rattle.std.proofs.Common.{◌≡◌, ◌∙◌, Option, Some, None, refl, sym, ap}
use Rattle.std.specs.Prelude.{find, option_map, option_and_then}
use Rattle.std.specs.Str.{bytes_eq}
use Rattle.clap.specs.Facts.{Entry}
use Rattle.clap.specs.Matches.{matched_of}
use Rattle.clap.specs.Words.{rows_of}
use Rattle.clap.specs.Walk.{Row, Text, row_of}
use Rattle.clap.specs.declared.parser.matches.Found.{Found}
use Rattle.clap.specs.declared.parser.matches.MatchedArg.{MatchedArg}
use Rattle.clap.proofs.WalkLemmas.{find_row}

-- the source of an option's value, as the getter of the matches returns it and by the rows
pub source_in_rows : (f : Found) (id : Text) → option_and_then (λ (a : MatchedArg). a.source) (matched_of f id) ≡
    option_and_then (λ (row : Row). row.source) (find (λ row. bytes_eq row.id id) (rows_of f))
source_in_rows f id =
    go (find (λ e. bytes_eq e.0.now id) f.entries.items)
    ∙ ap (option_and_then (λ (row : Row). row.source)) (sym (find_row f.entries.items id))
  where
    go : (o : Option Entry) → option_and_then (λ (a : MatchedArg). a.source) (option_map (λ e. e.1) o) ≡
        option_and_then (λ (row : Row). row.source) (option_map row_of o)
    go None = refl
    go (Some e) = refl
