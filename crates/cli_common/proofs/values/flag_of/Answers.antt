use Rattle.clap.specs.Words.{found_of}
use Rattle.cli_common.proofs.Getters.{flag_read}
use Rattle.cli_common.proofs.values.flag_of.Goals as goal

pub returns : goal.returns
returns c = flag_read (found_of c.args.matches.now) c.args.name.now c.get_flag.result c.get_flag.ensures.value
    c.get_flag.ensures.other c.requires
