use Rattle.std.proofs.Common.{◌≡◌, ◌∷◌, ◌∙◌, ◌-◌, ◌^◌, [], Some, ap, sym, subst, cond, false, rules, arith, ◌/◌, ◌%◌}
use Rattle.std.specs.Fmt.{DisplaysOnOk, styled_digits_output, format_spec, padded_integral, ◌++?◌}
use Rattle.std.specs.Option.{option_map}
use Rattle.std.proofs.Output.{has_written_of_eq}
use Rattle.std.proofs.lemmas.Fmt.{hex_byte}
use Rattle.judge_text.specs.Quoting.{hex_digit}
use Rattle.judge_text.proofs.quoting.EscapedByteDisplay.fmt.Goals as goal

pub returns-else-is_plain-clause-writes : goal.returns-else-is_plain-clause-writes
returns-else-is_plain-clause-writes g c plain ok =
    let byte = c.args.self.now.byte in
    let form = format_spec 32 0 4 2 (2 ^ 64 - 1) in
    let two = hex_digit (byte / 16) ∷ hex_digit (byte % 16) ∷ [] in
    let laid : c.laid_out.result ≡ form = c.laid_out.ensures in
    let shown : styled_digits_output c.in_radix.result c.laid_out.result ≡ Some two =
    ap (styled_digits_output c.in_radix.result) laid
    ∙ ap (option_map (padded_integral form false [])) c.in_radix.ensures
    ∙ ap Some (hex_byte false byte (omega arith)) in
    let written = subst (λ text. DisplaysOnOk g.W.Write.write_str_gives c.args.f.now c.write-else-is_plain.result
    (Some (37 ∷ []) ++? text) c.write-else-is_plain.new.self) shown c.write-else-is_plain.ensures.writes in
    has_written_of_eq _ _ _ _ _
    (ap (λ own. cond own (byte ∷ []) (37 ∷ two)) (sym c.if-is_plain.false ∙ c.is_plain.ensures))
    (written plain (search rules))
