use Rattle.std.proofs.Common.{◌∙◌, sym, subst, arith}
use Rattle.std.specs.Str.Parse.{ParsesUnsigned, ExplainsUnsignedError, HasUnsignedDigitsIfOk}
use Rattle.clap.specs.Words.{found_of, rows_of}
use Rattle.cli_common.specs.Values.{Gives}
use Rattle.cli_common.proofs.FoundRows.{no_some, same_some}
use Rattle.cli_common.proofs.Getters.{number_read}
use Rattle.cli_common.proofs.values.any_number_of.Goals as goal

pub unreachable-requires : goal.unreachable-requires
unreachable-requires c =
    let read = number_read _ (λ bs r. ParsesUnsigned 64 10 bs r × ExplainsUnsignedError 10 bs r ×
    HasUnsignedDigitsIfOk bs r) 64 (found_of c.args.matches.now) c.args.option.now
    _ _ c.get_one.result (λ u x g. g.0) c.get_one.ensures.value c.requires (omega arith) in
    no_some read.0 (sym c.in-None.is ∙ read.1)

pub returns : goal.returns
returns c =
    let read = number_read _ (λ bs r. ParsesUnsigned 64 10 bs r × ExplainsUnsignedError 10 bs r ×
    HasUnsignedDigitsIfOk bs r) 64 (found_of c.args.matches.now) c.args.option.now
    _ _ c.get_one.result (λ u x g. g.0) c.get_one.ensures.value c.requires (omega arith) in
    subst (Gives (rows_of (found_of c.args.matches.now)) c.args.option.now)
    (same_some _ _ (sym read.1 ∙ c.in-Some.is)) read.2
