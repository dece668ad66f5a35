-- Lines of attempts that are sent one after the other.
use Rattle.std.proofs.Common.{◌≡◌, ◌∙◌, ◌+◌, ◌<◌, inl, inr, sym, ap, subst, ℕ, true, List, []}
use Rattle.std.proofs.Common.{◌∷◌, ◌++◌, Option, length, take, drop, get_or, map, append-nil, take-append-drop}
use Rattle.std.proofs.lemmas.Grind.{flat_map-append}
use Rattle.std.proofs.lemmas.List.{map-append, take_more}
use Rattle.std.proofs.lemmas.List.Sorted.{IsPermutation-map}
use Rattle.std.specs.List.Sorted.{IsPermutation}
use Rattle.std.specs.Io.KnownBytes.{Appends}
use Rattle.std.proofs.KnownBytes.{Appends-nil}
use Rattle.vac_lines.specs.Writing.{AppendsPrefix}
use Rattle.vac_lines.specs.Sent.{Sent}
use Rattle.vac_lines.proofs.Texts.{sent_both, part_second, prefix_longer, prefix_is, none_written}
use Rattle.load_record.specs.declared.lines.Line.{Line}
use Rattle.vac_manager.specs.declared.note.TracedAttempt.{TracedAttempt}
use Rattle.load_record.specs.Laying.{Lays}
use Rattle.load_record.specs.Lines.{AttemptEntry, line_entry, line_text, lines_text}
use Rattle.load_record.specs.AttemptOrder.{EntriesAreOrdered}
use Rattle.tx_alloc.specs.Pool.{heap_words}
use Rattle.load_record.specs.Entries.{AllFit}
use Rattle.load_record.specs.Pages.{Page, attempt_entries_of, attempt_entries_from, are_told}
use Rattle.load_record.specs.Text.{AreAttempts, WroteAttempts, WroteAttemptsPrefix}
use Rattle.load_record.proofs.First.{AreStable, laid_first}
use Rattle.load_record.proofs.Reading.{texts_read}

-- the text of lines
abbrev text_of : List Line → List ℕ
text_of lines = lines_text (map line_entry lines)

text_both : (xs ys : List Line) → text_of (xs ++ ys) ≡ text_of xs ++ text_of ys
text_both xs ys = ap lines_text (map-append line_entry xs ys) ∙ flat_map-append line_text (map line_entry xs)
    (map line_entry ys)

text_more : (lines : List Line) (place : ℕ) (line : Line) → place < length lines → line ≡ get_or lines place line
    → text_of (take (place + 1) lines) ≡ text_of (take place lines) ++ line_text (line_entry line)
text_more lines place line low at =
    ap text_of (take_more lines place line low) ∙ ap (λ (l : Line). text_of (take place lines ++ l ∷ [])) (sym at)
    ∙ text_both (take place lines) (line ∷ []) ∙ ap (λ t. text_of (take place lines) ++ t)
    (append-nil (line_text (line_entry line)))

-- nothing was sent yet
pub none_sent : (held : Option (List ℕ)) (hand : List ℕ) → hand ≡ [] → Sent held held [] hand []
none_sent held hand e = record { front = []; written = Appends-nil held; all = sym e }

-- one line more
pub line_sent : (lines : List Line) (place : ℕ) (line : Line) → place < length lines → line ≡ get_or lines place line →
    (held holds grown : Option (List ℕ)) (hand hand' : List ℕ)
    → Sent held holds [] hand (text_of (take place lines)) → Sent holds grown hand hand' (line_text (line_entry line)) →
    Sent held grown [] hand' (text_of (take (place + 1) lines))
line_sent lines place line low at held holds grown hand hand' p q =
    subst (λ (t : List ℕ). Sent held grown [] hand' t) (sym (text_more lines place line low at))
    (sent_both held holds grown [] hand hand' (text_of (take place lines)) (line_text (line_entry line)) p q)

-- a line was sent in part
pub line_in_part : (lines : List Line) (place : ℕ) (line : Line) → place < length lines →
    line ≡ get_or lines place line → (held holds grown : Option (List ℕ)) (hand : List ℕ)
    → Sent held holds [] hand (text_of (take place lines)) →
    AppendsPrefix holds grown (hand ++ line_text (line_entry line)) → AppendsPrefix held grown (text_of lines)
line_in_part lines place line low at held holds grown hand p q =
    let front = text_of (take place lines) ++ line_text (line_entry line) in
    let part = part_second held holds grown [] hand (text_of (take place lines)) (line_text (line_entry line)) p q in
    prefix_is held grown (front ++ text_of (drop (place + 1) lines)) (text_of lines)
    (ap (λ t. t ++ text_of (drop (place + 1) lines)) (sym (text_more lines place line low at)) ∙
    sym (text_both (take (place + 1) lines) (drop (place + 1) lines))
    ∙ ap text_of (take-append-drop (place + 1) lines))
    (prefix_longer held grown front (text_of (drop (place + 1) lines)) part)

-- ---- all attempts

module _ (blocks : ℕ) (pages : List Page) where
  -- the attempts that were laid, and then those of the clients, and all of them put in order
  pub attempts : (laid : List TracedAttempt) (first all sorted : List Line) → Lays blocks laid →
      map line_entry first ≡ attempt_entries_of 0 laid
      → map line_entry all ≡ map line_entry first ++ attempt_entries_from 0 pages → are_told pages ≡ true →
      IsPermutation all sorted → AreStable all sorted → EntriesAreOrdered (map line_entry sorted) →
      AreAttempts blocks pages (map line_entry sorted)
  attempts laid first all sorted lays own more told moved stable order =
      let parts : map line_entry all ≡ attempt_entries_of 0 laid ++ attempt_entries_from 0 pages =
      more ∙ ap (λ t. t ++ attempt_entries_from 0 pages) own in
      let begins = laid_first laid (attempt_entries_from 0 pages) all sorted lays.before_all parts stable order in
      record {
        laid = laid;
        lays = lays;
        told = told;
        rest = begins.0;
        first = begins.1;
        each_once = subst (λ (l : List AttemptEntry). IsPermutation l (map line_entry sorted)) parts
            (IsPermutation-map line_entry all sorted moved);
        ordered = order;
      }

  module _ (lines : List Line) (are : AreAttempts blocks pages (map line_entry lines))
      (fit : AllFit (heap_words blocks) (map line_entry lines)) (held grown : Option (List ℕ)) where
    pub wrote_all : Appends held grown (text_of lines) → WroteAttempts blocks pages held grown
    wrote_all w = record {
      all = map line_entry lines;
      attempts = are;
      fits = fit;
      read = texts_read (heap_words blocks) (map line_entry lines) fit;
      written = w;
    }

    pub wrote_part : AppendsPrefix held grown (text_of lines) → WroteAttemptsPrefix blocks pages held grown
    wrote_part w = inr (record { all = map line_entry lines; attempts = are; fits = fit; written = w })

  -- nothing was written
  pub wrote_nothing : (held : Option (List ℕ)) → WroteAttemptsPrefix blocks pages held held
  wrote_nothing held = inl (none_written held [])
