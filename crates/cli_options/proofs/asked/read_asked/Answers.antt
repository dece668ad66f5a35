use Rattle.std.proofs.Common.{map, string_bytes}
use Rattle.cli_options.proofs.asked.read_asked.Goals as goal

pub asked_of-requires : goal.asked_of-requires
asked_of-requires c = (
  map string_bytes c.args.words.now,
  record { taken = c.in_ok-matches.ensures.fails; found = c.in_ok-matches.ensures.found },
)

pub returns-clause-fails : goal.returns-clause-fails
returns-clause-fails c = c.in_ok-matches.ensures.fails

pub returns-clause-asked : goal.returns-clause-asked
returns-clause-asked c = c.asked_of.ensures (map string_bytes c.args.words.now)
    (record { taken = c.in_ok-matches.ensures.fails; found = c.in_ok-matches.ensures.found })
