use Rattle.judge_text.proofs.Beginnings.{set_updates}
use Rattle.judge_text.proofs.starts.Starts.set.Goals as goal

pub returns : goal.returns
returns g c = λ other.
    set_updates c.args.self.now.own c.insert.new.self c.args.name c.args.state c.args.self.now.others other
    c.in_ok-insert.ensures.updates
