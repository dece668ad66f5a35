use Rattle.std.proofs.Common.{ℕ, List}
use Rattle.cli_script.specs.declared.memory.MemoryText.{MemoryText}
use Rattle.cli_script.proofs.WordLines.{words_heard, none_heard}
use Rattle.cli_script.proofs.memory.read_memory.Goals as goal

pub returns-in-GoOn : goal.returns-in-GoOn
returns-in-GoOn g c =
    let words : MemoryText → List ℕ = λ x. x.words.items in
    words_heard words _ _ _ _ _ _ _ c.in-GoOn.is c.new.ensures.items c.in_ok-read_lines.ensures

pub returns-in-Stop : goal.returns-in-Stop
returns-in-Stop g c =
    let words : MemoryText → List ℕ = λ x. x.words.items in
    none_heard words _ _ _ _ _ _ _ c.in-Stop.is c.new.ensures.items c.in_ok-read_lines.ensures
