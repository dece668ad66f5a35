-- The cut of a call's line at its first arrow, and the values of its parts.
use Rattle.std.specs.Prelude.{◌≡◌, ℕ, false, Option, None, List, ◌∷◌, ◌++◌, codes, unwrap_or}
use Rattle.std.specs.Option.{option_copied}
use Rattle.std.specs.List.{list_any}
use Rattle.vac_lines.specs.Lines.{words_of}
use Rattle.judge_calls.specs.declared.arrow.CallParts.{CallParts}
use Rattle.judge_calls.specs.declared.call_line.CallLine.{CallLine}
use Rattle.judge_object.specs.declared.span.TheConstants.{NEVER}
use Rattle.judge_calls.specs.Call.{Call, CallTexts, is_arrow, call_parts}

-- the texts stand before and after the first word that is an arrow
pub record IsCutAtArrow (line before behind : List ℕ) : Type 0 where
  pub words : words_of line ≡ words_of before ++ codes "->" ∷ words_of behind
  pub first : list_any is_arrow (words_of before) ≡ false

-- the line has no parts of a call
abbrev pub NoParts : List ℕ → Type 0
NoParts line = call_parts line ≡ None

-- the parts of the code as abstract texts
abbrev pub shown_parts : CallParts → CallTexts
shown_parts parts = record {
  client = parts.client.now;
  begin = parts.begin.now;
  end = parts.end.now;
  line = parts.line.now;
  reply = parts.reply.now;
}

-- END of a call: NEVER for a pending call
abbrev pub shown_end : Option ℕ → ℕ
shown_end end = unwrap_or end NEVER

-- the abstract call of a line that was read
abbrev pub shown_call : CallLine → Call
shown_call line = record {
  client = line.client;
  begin = line.begin;
  end = shown_end line.end;
  op = line.task;
  reply = option_copied line.reply;
}
