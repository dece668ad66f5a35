-- The lines that a collector takes, chunk by chunk.
use Rattle.std.proofs.Common.{◌≡◌, ℕ, ◌+◌, ◌<◌, Option, List, [], ◌∷◌, ◌++◌, length, take, ap, sym, ◌∙◌, subst}
use Rattle.std.proofs.Common.{append-nil, append_assoc, cond, Result, Ok, Err, is_ok, OnOk}
use Rattle.std.specs.List.{filter_map}
use Rattle.std.proofs.lemmas.List.Elements.{filter_map-append}
use Rattle.vac_lines.specs.Lines.{HasNo}
use Rattle.vac_lines.specs.Told.{Message, message_of, line_messages}
use Rattle.vac_lines.proofs.LineCuts.{told_prefix, told_cut, told_moved, told_last, told_none}
use Rattle.vac_lines.proofs.LineCuts.{has_begun, nothing_begun}
use Rattle.judge_coverage.specs.declared.collector.Collector.{Collector}
use Rattle.judge_coverage.specs.Entries.{told_interval, told_outcome}
use Rattle.judge_coverage.specs.Passing.{AddsLine, TakesLine, HasTaken, AreEntriesOf}

-- the lines that ended in a chunk before its rest were taken, after the lines of the bytes before the chunk
pub record HasTakenTo (longest : ℕ) (bytes chunk rest : List ℕ) (collector : Collector) : Type 0 where
  pub longest_is : collector.longest ≡ longest
  pub begun : HasNo 10 collector.line.items
  pub told : List Message
  pub same : (more : List ℕ) → line_messages longest (bytes ++ (chunk ++ more))
      ≡ told ++ line_messages longest (collector.line.items ++ (rest ++ more))
  pub intervals : collector.entries.intervals.items ≡ filter_map told_interval told
  pub outcomes : collector.entries.outcomes.items ≡ filter_map told_outcome told

-- the entries of one more line
entries_more : {X : Type 0} (f : Message → Option X) (told : List Message) (line : Message) (before after : List X) →
    before ≡ filter_map f told → after ≡ before ++ filter_map f (line ∷ []) →
    after ≡ filter_map f (told ++ line ∷ [])
entries_more f told line before after e g =
    g ∙ ap (λ xs. xs ++ filter_map f (line ∷ [])) e ∙ sym (filter_map-append f told (line ∷ []))

-- one more line of the chunk was taken
pub taken_line : (longest : ℕ) (bytes chunk rest line behind : List ℕ) (before after : Collector) →
    HasTakenTo longest bytes chunk rest before → HasNo 10 line → rest ≡ line ++ 10 ∷ behind →
    TakesLine before after (message_of before.longest (before.line.items ++ line)) →
    HasTakenTo longest bytes chunk behind after
taken_line longest bytes chunk rest line behind before after t h e k =
    let start = before.line.items in
    let new = message_of longest (start ++ line) in
    let takes : TakesLine before after new =
    subst (λ m. TakesLine before after (message_of m (start ++ line))) t.longest_is k in
    record {
      longest_is = takes.longest ∙ t.longest_is;
      begun = (nothing_begun longest after.line.items takes.line).0;
      told = t.told ++ new ∷ [];
      same = λ more. t.same more
          ∙ ap (λ ls. t.told ++ ls) (told_cut longest start line behind rest more t.begun h e)
          ∙ sym (append_assoc t.told (new ∷ []) (line_messages longest (behind ++ more)))
          ∙ ap (λ l. (t.told ++ new ∷ []) ++ line_messages longest (l ++ (behind ++ more))) (sym takes.line);
      intervals = entries_more told_interval t.told new before.entries.intervals.items after.entries.intervals.items
          t.intervals takes.entries.intervals;
      outcomes = entries_more told_outcome t.told new before.entries.outcomes.items after.entries.outcomes.items
          t.outcomes takes.entries.outcomes;
    }

-- the rest of the chunk was kept
pub taken_rest : (longest : ℕ) (bytes chunk rest : List ℕ) (before after : Collector) →
    HasTakenTo longest bytes chunk rest before → HasNo 10 rest → after.longest ≡ before.longest →
    after.entries ≡ before.entries →
    after.line.items ≡ take (before.longest + 1) (before.line.items ++ rest) →
    HasTaken longest after (bytes ++ chunk)
taken_rest longest bytes chunk rest before after t h same_longest same_entries kept =
    let start = before.line.items in
    let line : after.line.items ≡ take (longest + 1) (start ++ rest) =
    kept ∙ ap (λ m. take (m + 1) (start ++ rest)) t.longest_is in
    record {
      longest_is = same_longest ∙ t.longest_is;
      begun = subst (HasNo 10) (sym line) (has_begun longest start rest t.begun h).0;
      told = t.told;
      same = λ more. ap (line_messages longest) (append_assoc bytes chunk more)
          ∙ t.same more
          ∙ ap (λ ls. t.told ++ ls)
          (told_moved longest start rest after.line.items more t.begun h line);
      intervals = ap (λ es. es.intervals.items) same_entries ∙ t.intervals;
      outcomes = ap (λ es. es.outcomes.items) same_entries ∙ t.outcomes;
    }

-- a line that had begun, and of which enough was kept
pub takes_kept : (before kept after : Collector) (rest : List ℕ) → kept.longest ≡ before.longest →
    kept.entries ≡ before.entries → kept.line.items ≡ take (before.longest + 1) (before.line.items ++ rest) →
    AddsLine kept.entries after.entries (message_of kept.longest kept.line.items) → after.longest ≡ kept.longest →
    after.line.items ≡ [] → TakesLine before after (message_of before.longest (before.line.items ++ rest))
takes_kept before kept after rest l e k a m n =
    let told : message_of kept.longest kept.line.items ≡ message_of before.longest (before.line.items ++ rest) =
    ap (λ i. message_of i kept.line.items) l
    ∙ ap (message_of before.longest) k ∙ told_prefix before.longest (before.line.items ++ rest) in
    record {
      longest = m ∙ l;
      line = n;
      entries = subst (λ es. AddsLine es after.entries (message_of before.longest (before.line.items ++ rest))) e
          (subst (AddsLine kept.entries after.entries) told a);
    }

-- all lines of the bytes, with the last one
all_lines : (longest : ℕ) (bytes : List ℕ) (collector : Collector) (h : HasTaken longest collector bytes) →
    line_messages longest bytes ≡ h.told ++ line_messages longest collector.line.items
all_lines longest bytes collector h =
    ap (line_messages longest) (sym (append-nil bytes)) ∙ h.same []
    ∙ ap (λ l. h.told ++ line_messages longest l) (append-nil collector.line.items)

-- no last line has begun, so all entries were taken
pub taken_all : (longest : ℕ) (bytes : List ℕ) (collector : Collector) → HasTaken longest collector bytes →
    collector.line.items ≡ [] → AreEntriesOf longest bytes collector.entries
taken_all longest bytes collector h e =
    let all : h.told ≡ line_messages longest bytes =
    sym (all_lines longest bytes collector h ∙ ap (λ ls. h.told ++ ls)
    (told_none longest collector.line.items e) ∙ append-nil h.told) in
    record {
      intervals = h.intervals ∙ ap (filter_map told_interval) all;
      outcomes = h.outcomes ∙ ap (filter_map told_outcome) all;
    }

-- the last line was taken
pub taken_last : (longest : ℕ) (bytes : List ℕ) (before after : Collector) → HasTaken longest before bytes →
    TakesLine before after (message_of before.longest (before.line.items ++ [])) → 0 < length before.line.items →
    AreEntriesOf longest bytes after.entries
taken_last longest bytes before after h k n =
    let last = message_of longest before.line.items in
    let all : h.told ++ last ∷ [] ≡ line_messages longest bytes =
    sym (all_lines longest bytes before h ∙ ap (λ ls. h.told ++ ls)
    (told_last longest before.line.items h.begun n)) in
    let takes : AddsLine before.entries after.entries last =
    subst (AddsLine before.entries after.entries)
    (ap (λ m. message_of m (before.line.items ++ [])) h.longest_is
    ∙ ap (message_of longest) (append-nil before.line.items)) k.entries in
    record {
      intervals = entries_more told_interval h.told last _ _ h.intervals takes.intervals
          ∙ ap (filter_map told_interval) all;
      outcomes = entries_more told_outcome h.told last _ _ h.outcomes takes.outcomes
          ∙ ap (filter_map told_outcome) all;
    }

-- the bytes that were kept of a line
pub kept_text : {A E : Type 0} (r : Result A E) (new old more whole : List ℕ) → new ≡ cond (is_ok r) (old ++ more) old →
    old ++ more ≡ whole → OnOk r (new ≡ whole)
kept_text (Ok x) new old more whole e f = e ∙ f
kept_text (Err x) new old more whole e f = tt
