-- The texts of options: a number in its range, and a flag.
use Rattle.std.proofs.Common.{◌≡◌, ◌≤◌, ◌||◌, ◌==◌, ◌∙◌, ℕ, Bool, cond, true, false, List, [], ◌∷◌, drop, Option}
use Rattle.std.proofs.Common.{Some, None, refl, sym, ap, subst, codes, inl, inr, arith}
use Rattle.std.specs.Prelude.{unwrap_or, pos}
use Rattle.std.specs.Str.{bytes_eq}
use Rattle.std.specs.Str.Parse.{IsNumeral, digits_value, starts_with_minus, without_leading_plus}
use Rattle.std.proofs.lemmas.Bool.{ne_eqb}
use Rattle.std.proofs.lemmas.Int.{ints}
use Rattle.std.proofs.lemmas.Slice.Eq.{bytes_eq-Decides}
use Rattle.std.proofs.lemmas.Str.Parse.{digit_from_value}
use Rattle.clap.specs.Lexer.{without_minus}
use Rattle.clap.specs.Values.{IsSignedIn, read_as, reading_of}
use Rattle.clap.specs.Walk.{Row, Rule, Text, one_of}
use Rattle.clap.proofs.ValueTestLemmas.{accepts-Accepts}
use Rattle.clap.specs.ValueTests.{accepts}
use Rattle.clap.specs.Facts.{parser_of_value}
use Rattle.clap.specs.Simple.{filled}
use Rattle.clap.specs.declared.builder.value_parser.ValueParser.{ValueParser}
use Rattle.clap.specs.declared.builder.value_parser.ValueParser.TheVariants as vp
use Rattle.cli_common.specs.Options.{flag}
use Rattle.cli_common.specs.Values.{GivesIn, IsFlag}
use Rattle.cli_common.proofs.Given.{IsGiven}

without_minus-cond : (t : List ℕ) → without_minus t ≡ cond (starts_with_minus t) (drop 1 t) t
without_minus-cond [] = refl
without_minus-cond (x ∷ xs) = go (x == 45)
  where
    go : (b : Bool) → unwrap_or (cond b (Some xs) None) (x ∷ xs) ≡ cond b xs (x ∷ xs)
    go true = refl
    go false = refl

no_plus : (ds : List ℕ) → IsNumeral 10 ds → without_leading_plus ds ≡ ds
no_plus [] h = refl
no_plus (d ∷ ds) h =
    let plus : (d == 43) ≡ false = ne_eqb _ _ (λ e. omega (arith, digit_from_value d h.1.0)) in
    ap (λ (b : Bool). drop (cond b 1 0) (d ∷ ds)) plus

-- a text without its minus writes a number from low to high
pub record Writes (low high : ℕ) (text : Text) : Type 0 where
  pub numeral : IsNumeral 10 (without_leading_plus text)
  pub least : low ≤ digits_value 10 (without_leading_plus text)
  pub most : digits_value 10 (without_leading_plus text) ≤ high

pub signed_writes : (low high : ℕ) (t : Text) → IsSignedIn (pos low) (pos high) t → Writes low high (without_minus t)
signed_writes low high t passed = subst (Writes low high) (sym (without_minus-cond t)) (go (starts_with_minus t) refl)
  where
    go : (b : Bool) → starts_with_minus t ≡ b → Writes low high (cond b (drop 1 t) t)
    go true minus =
        let bounds = rw minus at passed.2 in
        let numeral : IsNumeral 10 (drop 1 t) = rw minus at passed.0 in
        let same = no_plus (drop 1 t) numeral in
        record {
          numeral = rw same numeral;
          least = rw same (omega (arith, ints));
          most = rw same (omega (arith, ints));
        }
    go false minus =
        let low_ok = rw minus at passed.2 in
        let high_ok = rw minus at passed.3 in
        let numeral = rw minus at passed.0 in
        record { numeral = numeral; least = omega (arith, ints); most = omega (arith, ints) }

-- an option for a number gives a number in its range
pub number_given : (rows : List Row) (a : Rule) (least most : ℕ) → a.parser ≡ Some (vp.Signed (pos least) (pos most)) →
    IsGiven a rows → GivesIn rows a.id least most
number_given rows a least most parser g =
    let accepted = accepts-Accepts a.ignore_case (vp.Signed (pos least) (pos most)) g.text
    (subst (λ (p : Option ValueParser). accepts a.ignore_case (parser_of_value p) g.text ≡ true) parser g.passes) in
    let writes = signed_writes least most g.text accepted in
    record {
      number = digits_value 10 (without_leading_plus (without_minus g.text));
      given = record {
        text = without_minus g.text;
        one = subst (λ (p : Option ValueParser). one_of a.id rows ≡ Some
            (read_as (reading_of (parser_of_value p)) g.text)) parser g.one;
        numeral = writes.numeral;
        value = refl;
      };
      low = writes.least;
      high = writes.most;
    }

-- as `number_given`, for a number that is read as it is written
pub unsigned_given : (rows : List Row) (a : Rule) (least most : ℕ) → a.parser ≡ Some (vp.Unsigned least most) →
    IsGiven a rows → GivesIn rows a.id least most
unsigned_given rows a least most parser g =
    let accepted = accepts-Accepts a.ignore_case (vp.Unsigned least most) g.text
    (subst (λ (p : Option ValueParser). accepts a.ignore_case (parser_of_value p) g.text ≡ true) parser g.passes) in
    record {
      number = digits_value 10 (without_leading_plus g.text);
      given = record {
        text = g.text;
        one = subst (λ (p : Option ValueParser). one_of a.id rows ≡ Some
            (read_as (reading_of (parser_of_value p)) g.text)) parser g.one;
        numeral = accepted.0;
        value = refl;
      };
      low = accepted.2;
      high = accepted.3;
    }

pub seed_given : (rows : List Row) (a : Rule) (most : ℕ) → a.parser ≡ Some (vp.Unsigned 0 most) → IsGiven a rows →
    GivesIn rows a.id 0 most
seed_given rows a most parser g = unsigned_given rows a 0 most parser g

-- a flag is set or not
pub flag_given : (rows : List Row) (name : Text) → IsGiven (filled (flag name)) rows → IsFlag rows name
flag_given rows name g = go (bytes_eq g.text (codes "true")) refl g.passes
  where
    go : (b : Bool) → bytes_eq g.text (codes "true") ≡ b → (b || bytes_eq g.text (codes "false")) ≡ true →
        IsFlag rows name
    go true is e = inl (g.one ∙ ap (λ (t : Text). Some t) ((bytes_eq-Decides g.text (codes "true")).0 is))
    go false is e = inr (g.one ∙ ap (λ (t : Text). Some t) ((bytes_eq-Decides g.text (codes "false")).0 e))
