use Rattle.tx_tree.proofs.TableFrame.{table_height}
use Rattle.tx_tree.proofs.laws.height_is_logarithmic.Goals as goal

pub returns : goal.returns
returns c = table_height
