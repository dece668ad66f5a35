use Rattle.std.proofs.Common.{◌<◌, length, rules}
use Rattle.vac_lines.proofs.Telling.{ended_line}
use Rattle.vac_lines.proofs.lines.Lines.finish.Goals as goal

pub returns : goal.returns
returns g c =
    let some : 0 < length c.args.self.now.line.items = search rules in
    ended_line g.S.Sink.hears c.args.self.now.longest c.args.self.now.line.items c.end_line.result _ _ _ _
    c.requires.begun.0 some c.end_line.ensures.heard
