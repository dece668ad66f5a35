use Rattle.cli_common.proofs.Making.{parser_is, parser_set, default_set}
use Rattle.cli_common.proofs.options.number_option.Goals as goal

pub returns : goal.returns
returns c =
    let given = c.value_parser.ensures.given in
    let read = parser_set _ _ _ _ c.value_parser.ensures.others
    (parser_is _ _ _ given.1 given.2 c.number_parser.ensures) c.valued_option.ensures in
    default_set _ _ _ _ c.default_value.ensures read
