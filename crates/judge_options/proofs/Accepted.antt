-- The words of a command line that clap accepts.
use Rattle.std.proofs.Common.{◌≡◌, true, refl}
use Rattle.clap.specs.Words.{is_simple, is_simple_and_free}
use Rattle.clap.proofs.OnLiterals.{clap_on_literals}
use Rattle.judge_options.specs.CommandLine.{judge}

-- clap's own statement of the words that it accepts and of its findings
pub simple_and_free : is_simple_and_free judge ≡ true
unfolding clap_on_literals
simple_and_free = refl

pub simple : is_simple judge ≡ true
unfolding clap_on_literals
simple = refl
