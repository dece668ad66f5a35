-- What is left before the first call is written.
use Rattle.std.proofs.Common.{◌≡◌, ◌∙◌, ◌+◌, ◌<◌, sym, ap, arith, ℕ, suc, List, [], ◌∷◌, ◌++◌, get_or, take, length}
use Rattle.std.proofs.Common.{map}
use Rattle.std.proofs.lemmas.List.{map-append, take_more, length-map, length-take-le, take_all}
use Rattle.vac_manager.specs.declared.note.CompletedCall.{CompletedCall}
use Rattle.load_record.specs.declared.journal.CallRecorder.{CallRecorder}
use Rattle.load_record.specs.declared.merging.RemainingCalls.{RemainingCalls}
use Rattle.load_record.specs.Order.{Entry, entries_of, entries_from}
use Rattle.load_record.specs.Rests.{left_of}
use Rattle.load_record.specs.History.{notes_of, kept_by}

entries_more : (first n : ℕ) (kept : List (List CompletedCall)) (notes : List CompletedCall) → first + length kept ≡ n →
    entries_from first (kept ++ notes ∷ []) ≡ entries_from first kept ++ entries_of n notes ∷ []
entries_more first n [] notes e = let same : first ≡ n = omega (arith, e) in
    ap (λ (k : ℕ). entries_of k notes ∷ []) same
entries_more first n (own ∷ kept) notes e = ap (λ (l : List (List Entry)). entries_of first own ∷ l)
    (entries_more (suc first) n kept notes (omega (arith, e)))

module _ {C : Type 0} (opening : CallRecorder C) (clients : List (CallRecorder C)) where
  pub starts_more : (rests : List RemainingCalls) (r : RemainingCalls) (place : ℕ) (journal : CallRecorder C) →
      left_of rests ≡ entries_from 0 (kept_by opening (take place clients))
      → place < length clients → journal ≡ get_or clients place journal → r.client ≡ place + 1 →
      r.notes.now ≡ notes_of journal
      → left_of (rests ++ r ∷ []) ≡ entries_from 0 (kept_by opening (take (place + 1) clients))
  starts_more rests r place journal is low at client notes =
      let before = take place clients in
      let number : 0 + suc (length (map notes_of before)) ≡ place + 1 = let a = length-map before notes_of in let b =
      length-take-le place clients (omega (arith, low)) in omega (arith, a, b) in
      let own : entries_of r.client r.notes.now ≡ entries_of (place + 1) (notes_of journal) =
      ap (λ (n : ℕ). entries_of n r.notes.now) client ∙ ap (entries_of (place + 1)) notes in
      let all : take (place + 1) clients ≡ before ++ journal ∷ [] =
      take_more clients place journal low ∙ ap (λ (j : CallRecorder C). before ++ j ∷ []) (sym at) in
      let kept : kept_by opening (take (place + 1) clients) ≡ kept_by opening before ++ notes_of journal ∷ [] =
      ap (kept_by opening) all ∙ ap (λ (l : List (List CompletedCall)). notes_of opening ∷ l)
      (map-append notes_of before (journal ∷ [])) in
      map-append (λ x. entries_of x.client x.notes.now) rests (r ∷ []) ∙
      ap (λ (l : List (List Entry)). l ++ entries_of r.client r.notes.now ∷ []) is
      ∙ ap (λ (l : List Entry). entries_from 0 (kept_by opening before) ++ l ∷ []) own
      ∙ sym (ap (entries_from 0) kept ∙ entries_more 0 (place + 1) (kept_by opening before) (notes_of journal) number)

  pub starts_all : (rests : List RemainingCalls) (place : ℕ) → left_of rests ≡ entries_from 0
      (kept_by opening (take place clients)) → place ≡ length clients
      → left_of rests ≡ entries_from 0 (kept_by opening clients)
  starts_all rests place is e = is ∙ ap (λ (l : List (CallRecorder C)). entries_from 0 (kept_by opening l))
      (take_all place clients (omega (arith, e)))
