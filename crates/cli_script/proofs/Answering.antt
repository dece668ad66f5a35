-- A script that ends at a line.
use Rattle.std.proofs.Common.{◌≡◌, ℕ, List, ◌++◌, Option, Result, Ok, Err, IsErr, take, drop, sym, ap, ◌∙◌, false, true}
use Rattle.std.proofs.Common.{append_assoc, take-append-drop}
use Rattle.vac_model.specs.declared.tasks.Task.{Task}
use Rattle.vac_lines.specs.declared.fault.LineFault.{LineFault}
use Rattle.vac_lines.specs.Script.{answer}
use Rattle.vac_lines.specs.Writing.{AppendsPrefix}
use Rattle.vac_lines.proofs.Extends.{extends_more}
use Rattle.vac_manager.specs.Called.{CallerShown}
use Rattle.vac_lines.specs.declared.stream_fault.StreamFault.{StreamFault}
use Rattle.vac_lines.specs.declared.next.Next.{Next}
use Rattle.cli_script.specs.Hearing.{HearsLine}

ends : false ≡ true → ⊥
ends e = cc

-- a prefix of the buffered text was written, and the script ended
pub halted : (y y' : CallerShown) (out : List ℕ) (held : Option (List ℕ)) (line : Result Task LineFault)
    (end : Result Next StreamFault) (out' : List ℕ) (holds : Option (List ℕ)) → IsErr end →
    AppendsPrefix held holds out → HearsLine y out held line end y' out' holds
halted y y' out held line (Ok next) out' holds e w = absurd (ends e)
halted y y' out held line (Err fault) out' holds e w = record {
  text = take w.0 out;
  written = w.1;
  on = λ s st. (
      let text = (answer s line).1 in
      extends_more (take w.0 out) (out ++ text) (drop w.0 out ++ text)
      (ap (λ t. t ++ text) (sym (take-append-drop w.0 out)) ∙ append_assoc (take w.0 out) (drop w.0 out) text)
      );
}
