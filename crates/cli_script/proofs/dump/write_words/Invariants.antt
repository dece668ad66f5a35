use Rattle.std.proofs.Common.{[], take}
use Rattle.vac_lines.specs.Memory.{dump_text}
use Rattle.vac_lines.specs.Sent.{Sent}
use Rattle.cli_script.proofs.dump.write_words.Given as goal

-- the words so far are written or at hand
abbrev pub invariant-loop-word : goal.invariant-loop-word
invariant-loop-word g l = Sent (g.W.Write.contents l.fn.output) (g.W.Write.contents l.output) [] l.text.items
    (dump_text (take l.word-index l.words))
