use Rattle.judge_text.proofs.WordPlaces.{between}
use Rattle.judge_text.proofs.line.operation_words.Goals as goal

pub returns : goal.returns
returns c = between c.args.words.now
