use Rattle.std.proofs.Common.{codes, arith}
use Rattle.std.specs.Str.Parse.{ParsesUnsigned, ExplainsUnsignedError, HasUnsignedDigitsIfOk}
use Rattle.clap.specs.Words.{found_of}
use Rattle.cli_common.proofs.Getters.{line_read}
use Rattle.judge_options.proofs.asked.until_of.Goals as goal

pub returns : goal.returns
returns c = line_read _ (λ bs r. ParsesUnsigned 64 10 bs r × ExplainsUnsignedError 10 bs r ×
    HasUnsignedDigitsIfOk bs r) 64 (found_of c.args.matches.now) (codes "until")
    _ c.get_one.result (λ u x g. g.0) c.get_one.ensures.none c.get_one.ensures.value c.requires (omega arith)
