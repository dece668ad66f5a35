-- The values that clap's getters return.
use Rattle.std.proofs.Common.{◌≡◌, ◌<◌, ◌≤◌, ◌&&◌, ◌^◌, ◌∙◌, ℕ, Bool, true, false, List, Option, Some, None, refl, sym}
use Rattle.std.proofs.Common.{ap}
use Rattle.std.proofs.Common.{subst, codes, inl, inr, arith}
use Rattle.std.specs.Str.Parse.{digits_value, without_leading_plus, ParsesUnsigned}
use Rattle.clap.specs.Walk.{Row, Text}
use Rattle.clap.proofs.WalkLemmas.{one_text-rows}
use Rattle.clap.specs.Matches.{ReadsOne, one_text}
use Rattle.clap.specs.Words.{rows_of}
use Rattle.clap.specs.declared.parser.matches.Found.{Found}
use Rattle.std.specs.Prelude.{Result, Ok, Err}
use Rattle.std.proofs.lemmas.Bool.{le-leb}
use Rattle.vac_model.specs.Ranges.{is_block_count}
use Rattle.vac_model.specs.declared.limits.TheConstants.{MOST_BLOCKS}
use Rattle.cli_common.specs.Values.{Gives, GivesIn, MayGiveIn, GivesLine, Says, IsFlag}
use Rattle.cli_common.proofs.FoundRows.{same_some}

pub number_read : (E : Type 0) (G : List ℕ → Result ℕ E → Type 0) (k : ℕ) (f : Found) (option : Text) (least most : ℕ)
    (r : Option ℕ)
    → ((u : List ℕ) (x : Result ℕ E) → G u x → ParsesUnsigned k 10 u x) →
    ((t : List ℕ) → one_text f option ≡ Some t → ReadsOne G t r) → GivesIn (rows_of f) option least most →
    most < 2 ^ k
    → (n : ℕ) × (r ≡ Some n) × Gives (rows_of f) option n
number_read E G k f option least most r only reads g lt = go r
    (reads g.given.text (one_text-rows f option ∙ g.given.one))
  where
    go : (o : Option ℕ) → ReadsOne G g.given.text o → (n : ℕ) × (o ≡ Some n) × Gives (rows_of f) option n
    go (Some n) h = (
      n,
      refl,
      record {
        text = g.given.text;
        one = g.given.one;
        numeral = g.given.numeral;
        value = sym (only g.given.text (Ok n) h).1;
      },
    )
    go None h =
        let small : digits_value 10 (without_leading_plus g.given.text) < 2 ^ k =
        rw g.given.value (omega (arith, g.high, lt)) in
        absurd (only g.given.text (Err h.0) h.1 (g.given.numeral, small))

pub one_number : (rows : List Row) (option : Text) (m n : ℕ) → Gives rows option m → Gives rows option n → m ≡ n
one_number rows option m n a b =
    sym a.value ∙ ap (λ (t : Text). digits_value 10 (without_leading_plus t)) (same_some _ _ (sym a.one ∙ b.one)) ∙
    b.value

-- the number of a line, if an option gives one
pub line_read : (E : Type 0) (G : List ℕ → Result ℕ E → Type 0) (k : ℕ) (f : Found) (option : Text) (most : ℕ)
    (r : Option ℕ)
    → ((u : List ℕ) (x : Result ℕ E) → G u x → ParsesUnsigned k 10 u x) →
    (one_text f option ≡ None → r ≡ None) → ((t : List ℕ) → one_text f option ≡ Some t → ReadsOne G t r) →
    MayGiveIn (rows_of f) option 1 most → most < 2 ^ k → GivesLine (rows_of f) option r
line_read E G k f option most r only none reads (inl absent) lt =
    subst (GivesLine (rows_of f) option) (sym (none (one_text-rows f option ∙ absent))) absent
line_read E G k f option most r only none reads (inr g) lt =
    let read = number_read E G k f option 1 most r only reads g lt in
    let same : g.number ≡ read.0 = one_number (rows_of f) option g.number read.0 g.given read.2 in
    subst (GivesLine (rows_of f) option) (sym read.1) (read.2, subst (λ n. 1 ≤ n) same g.low)

-- a number of blocks
pub block_count : (rows : List Row) (n : ℕ) → GivesIn rows (codes "blocks") 1 MOST_BLOCKS →
    Gives rows (codes "blocks") n → is_block_count n ≡ true
block_count rows n g is =
    let same : g.number ≡ n = one_number rows (codes "blocks") g.number n g.given is in
    subst (λ (k : ℕ). is_block_count k ≡ true) same (and_true _ _ (le-leb 1 g.number g.low)
    (le-leb g.number MOST_BLOCKS g.high))
  where
    and_true : (a b : Bool) → a ≡ true → b ≡ true → (a && b) ≡ true
    and_true true b e f = f
    and_true false b e f = e

pub flag_read : (f : Found) (name : Text) (b : Bool) → (one_text f name ≡ Some (codes "true") → b ≡ true) →
    (one_text f name ≡ Some (codes "false") → b ≡ false)
    → IsFlag (rows_of f) name → Says (rows_of f) name b
flag_read f name b set unset (inl is) = subst (Says (rows_of f) name) (sym (set (one_text-rows f name ∙ is))) is
flag_read f name b set unset (inr is) = subst (Says (rows_of f) name) (sym (unset (one_text-rows f name ∙ is))) is
