use Rattle.std.proofs.Common.{◌≡◌, ◌∙◌, ◌++◌, ap, codes, decimal}
use Rattle.vac_lines.specs.Script.{as_line}
use Rattle.cli_judge.specs.Keys.{start_fault_text}
use Rattle.cli_judge.proofs.Stores.{names_line}
use Rattle.cli_judge.proofs.keys.name_fault.Goals as goal

pub returns-in-Ok : goal.returns-in-Ok
returns-in-Ok g c =
    let line = as_line (codes " " ++ decimal c.args.number) in
    let text : c.as_slice.result.now ≡ start_fault_text c.args.number c.args.fault =
    c.as_slice.ensures.value ∙ c.in-Ok.ensures.ok
    ∙ ap (λ before. before ++ (codes "fault " ++ c.name.result.now ++ line)) c.new-text.ensures.items
    ∙ ap (λ name. codes "fault " ++ name ++ line) c.name.ensures in
    names_line c.end_with.result (g.W.Write.contents c.args.output.now) (g.W.Write.contents c.end_with.new.output)
    c.args.number c.args.fault c.as_slice.result.now text c.end_with.ensures
