use Rattle.judge_text.proofs.Quotes.{all_read}
use Rattle.judge_text.proofs.laws.quotes_are_read.Goals as goal

pub returns : goal.returns
returns c = all_read
