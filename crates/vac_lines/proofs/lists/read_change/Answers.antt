use Rattle.std.proofs.Common.{◌≡◌, ℕ, List, ◌∷◌, Option, Some, Bor, ap, sym, ◌∙◌}
use Rattle.vac_lines.specs.declared.names.LineName.{LineName}
use Rattle.vac_lines.specs.declared.names.LineName.TheVariants.{Add, Del}
use Rattle.vac_lines.specs.Lines.{texts}
use Rattle.vac_lines.specs.Names.{line_name}
use Rattle.vac_lines.specs.LineTable.{named_change, change_line}
use Rattle.vac_lines.proofs.lists.read_change.Goals as goal

-- a change is the command that its first word names
named : (words : List (Bor (List ℕ))) (word : Bor (List ℕ)) (rest : List (Bor (List ℕ))) (name : Option LineName) →
    words ≡ word ∷ rest → name ≡ line_name word.now → named_change name (texts rest) ≡ change_line (texts words)
named words word rest name e f =
    ap (λ n. named_change n (texts rest)) f ∙ sym (ap (λ (ws : List (Bor (List ℕ))). change_line (texts ws)) e)

pub returns-in-Some-Add-clause-change : goal.returns-in-Some-Add-clause-change
returns-in-Some-Add-clause-change c =
    c.read_add.ensures.command ∙ named c.args.words.now c.in-Some.name.now c.in-Some.rest.now (Some Add)
    c.in-Some.ensures.cases.0 (rw c.in-Some-Add.field-0-is at c.in-Some-Add.ensures)

pub returns-in-Some-Del-clause-change : goal.returns-in-Some-Del-clause-change
returns-in-Some-Del-clause-change c =
    c.read_del.ensures.command ∙ named c.args.words.now c.in-Some.name.now c.in-Some.rest.now (Some Del)
    c.in-Some.ensures.cases.0 (rw c.in-Some-Del.field-0-is at c.in-Some-Del.ensures)
