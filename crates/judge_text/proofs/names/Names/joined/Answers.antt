use Rattle.judge_text.proofs.Classing.{names_classes}
use Rattle.judge_text.proofs.names.Names.joined.Goals as goal

pub returns : goal.returns
returns c =
    names_classes c.flatten.new.self c.flatten.ensures.formed c.flatten.ensures.flat c.args.classes
    c.flatten.ensures.same
