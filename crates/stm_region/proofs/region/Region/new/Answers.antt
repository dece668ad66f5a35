use Rattle.std.proofs.Common.{arith}
use Rattle.stm_region.proofs.Ending.{opens_on}
use Rattle.stm_region.proofs.region.Region.new.Goals as goal

pub of_words-requires : goal.of_words-requires
of_words-requires g c =
    rw (c.as_slice.ensures.value, c.of.ensures) (opens_on g.L.Law.fits g.L.Law.lawful c.args.image.now
    c.in_ok-words.words.items c.args.last c.args.stripes c.requires (omega arith)
    (omega arith) c.in_ok-words.ensures)
