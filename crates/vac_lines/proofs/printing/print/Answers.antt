use Rattle.std.proofs.Common.{rules}
use Rattle.vac_lines.specs.declared.printing.ShortText.{ShortText}
use Rattle.vac_lines.proofs.Formatting.{text_written, text_appended}
use Rattle.vac_lines.proofs.printing.print.Goals as goal

pub returns-in-Ok-clause-ok : goal.returns-in-Ok-clause-ok
returns-in-Ok-clause-ok g c =
    text_appended c.extend_from_slice.result (g.T.Display.output c.args.value) c.args.out.now.items _
    c.write.new.self.bytes.items c.new.result.items c.new.ensures.items
    (text_written _ (λ (b : ShortText). b.bytes.items) (λ w bs v t. t) _ _ (g.T.Display.output c.args.value)
    c.in-Ok.ensures.writes)
    (search rules)
