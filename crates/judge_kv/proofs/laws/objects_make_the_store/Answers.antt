use Rattle.judge_kv.proofs.Product.{objects_make_store}
use Rattle.judge_kv.proofs.laws.objects_make_the_store.Goals as goal

pub returns : goal.returns
returns c = objects_make_store
