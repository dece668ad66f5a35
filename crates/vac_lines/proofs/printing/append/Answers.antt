use Rattle.std.proofs.Common.{◌≡◌, ◌++◌, ℕ, List, IfSome, ap, subst}
use Rattle.vac_lines.specs.declared.printing.Buffer.{Buffer}
use Rattle.vac_lines.proofs.Formatting.{text_written}
use Rattle.vac_lines.proofs.printing.append.Goals as goal

pub returns-in-Ok : goal.returns-in-Ok
returns-in-Ok g c =
    subst (λ (front : List ℕ). IfSome (g.T.Display.output c.args.value)
    (λ text. c.write-written.new.self.bytes.items ≡ front ++ text))
    (ap (λ b. b.items) c.replace.ensures.value)
    (text_written _ (λ (b : Buffer). b.bytes.items) (λ w bs v t. t) _ _ (g.T.Display.output c.args.value)
    c.in-Ok.ensures.writes)
