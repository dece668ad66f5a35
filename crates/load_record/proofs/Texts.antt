-- The lines of calls that are picked and sent.
use Rattle.std.proofs.Common.{◌≡◌, ◌∙◌, ◌⊎◌, inr, Result, Ok, Err, refl, sym, ap, subst, ℕ, List, [], ◌∷◌, ◌++◌, Option}
use Rattle.std.proofs.Common.{map, append-nil}
use Rattle.std.proofs.lemmas.Grind.{flat_map-append}
use Rattle.std.proofs.lemmas.List.{map-append}
use Rattle.std.specs.Prelude.{IfErr}
use Rattle.std.specs.Io.KnownBytes.{Appends}
use Rattle.std.proofs.KnownBytes.{Appends-nil}
use Rattle.vac_lines.specs.Script.{as_line}
use Rattle.judge_calls.specs.CallText.{call_text, history_text, IsTheirHistory}
use Rattle.vac_lines.specs.Writing.{AppendsPrefix}
use Rattle.vac_lines.specs.declared.stream_fault.StreamFault.{StreamFault}
use Rattle.vac_lines.specs.declared.stream_fault.StreamFault.TheVariants.{Memory, Write}
use Rattle.vac_lines.specs.Sent.{Sent}
use Rattle.vac_lines.proofs.Texts.{sent_both, part_second, prefix_longer, prefix_is, none_written, sent_end}
use Rattle.vac_lines.proofs.Texts.{sent_end_in_part}
use Rattle.vac_manager.specs.declared.note.CompletedCall.{CompletedCall}
use Rattle.load_record.specs.Order.{Entry, entries_from, IsMerged}
use Rattle.load_record.specs.Numbers.{EachHasLines}
use Rattle.load_record.specs.Picking.{Picks, IsEmpty, Merges}
use Rattle.load_record.specs.History.{call_of_entry, calls_text, WroteHistory, WroteHistoryPrefix}
use Rattle.load_record.specs.Sending.{SentPicked, SentMerged, MergedPrefix}
use Rattle.load_record.proofs.Merges.{picks_both, picks_one, merging, is_merged}

-- a fault of a write is one of the two that can come
pub write_fault : {T : Type 0} (r : Result T StreamFault) → IfErr r (λ fault. fault ≡ Write) →
    IfErr r (λ fault. (fault ≡ Memory) ⊎ (fault ≡ Write))
write_fault (Ok t) h = tt
write_fault (Err e) h = inr h

-- the line of a call
abbrev line_of : Entry → List ℕ
line_of e = as_line (call_text (call_of_entry e))

text_both : (xs ys : List Entry) → calls_text (xs ++ ys) ≡ calls_text xs ++ calls_text ys
text_both xs ys = ap history_text (map-append call_of_entry xs ys) ∙ flat_map-append (λ call. as_line (call_text call))
    (map call_of_entry xs) (map call_of_entry ys)

text_more : (xs : List Entry) (e : Entry) → calls_text (xs ++ e ∷ []) ≡ calls_text xs ++ line_of e
text_more xs e = text_both xs (e ∷ []) ∙ ap (λ t. calls_text xs ++ t) (append-nil (line_of e))

-- nothing was sent yet
pub sent_none : (lists : List (List Entry)) (held : Option (List ℕ)) (hand : List ℕ) → hand ≡ [] →
    SentPicked lists lists held held hand
sent_none lists held hand e = record {
  all = [];
  picked = refl;
  sent = record { front = []; written = Appends-nil held; all = sym e };
}

-- one line more
pub sent_one : (lists mid left : List (List Entry)) (e : Entry) (held holds grown : Option (List ℕ))
    (hand hand' : List ℕ)
    → SentPicked lists mid held holds hand → Picks e mid left → Sent holds grown hand hand' (line_of e) →
    SentPicked lists left held grown hand'
sent_one lists mid left e held holds grown hand hand' p q s = record {
  all = p.all ++ e ∷ [];
  picked = picks_one lists p.all e mid left p.picked q;
  sent = subst (λ (t : List ℕ). Sent held grown [] hand' t) (sym (text_more p.all e))
      (sent_both held holds grown [] hand hand' (calls_text p.all) (line_of e) p.sent s);
}

-- a line was sent in part
pub one_in_part : (lists mid left : List (List Entry)) (e : Entry) (held holds grown : Option (List ℕ)) (hand : List ℕ)
    → SentPicked lists mid held holds hand → Picks e mid left → AppendsPrefix holds grown (hand ++ line_of e) →
    MergedPrefix lists held grown
one_in_part lists mid left e held holds grown hand p q w =
    let more = merging left in
    let before = p.all ++ e ∷ [] in
    let part = part_second held holds grown [] hand (calls_text p.all) (line_of e) p.sent w in
    record {
      all = before ++ more.0;
      merges = record {
        left = more.1.left;
        picked = picks_both lists before more.0 left more.1.left
            (picks_one lists p.all e mid left p.picked q) more.1.picked;
        empty = more.1.empty;
      };
      written = prefix_is held grown ((calls_text p.all ++ line_of e) ++ calls_text more.0)
          (calls_text (before ++ more.0))
          (sym (text_both before more.0 ∙ ap (λ t. t ++ calls_text more.0) (text_more p.all e)))
          (prefix_longer held grown (calls_text p.all ++ line_of e) (calls_text more.0) part);
    }

-- nothing is left
pub sent_all : (lists left : List (List Entry)) (held holds : Option (List ℕ)) (hand : List ℕ) →
    SentPicked lists left held holds hand → IsEmpty left → SentMerged lists held holds hand
sent_all lists left held holds hand p empty = record {
  all = p.all;
  merges = record { left = left; picked = p.picked; empty = empty };
  sent = p.sent;
}

-- ---- the whole history

module _ (kept : List (List CompletedCall)) (held : Option (List ℕ))
    (read : (all : List Entry) → IsMerged kept all → EachHasLines kept → IsTheirHistory (map call_of_entry all)) where
  pub nothing_of_it : WroteHistoryPrefix kept held held
  nothing_of_it =
      let m = merging (entries_from 0 kept) in
      let merged = is_merged kept m.0 m.1 in
      record {
        all = m.0;
        merged = merged;
        written = none_written held (calls_text m.0);
        read = read m.0 merged;
      }

  module _ (holds : Option (List ℕ)) (lists : List (List Entry)) (is : lists ≡ entries_from 0 kept) where
    are_merged : (all : List Entry) → Merges lists all → IsMerged kept all
    are_merged all m = is_merged kept all (subst (λ (l : List (List Entry)). Merges l all) is m)

    pub prefix_of_it : MergedPrefix lists held holds → WroteHistoryPrefix kept held holds
    prefix_of_it p =
        let merged = are_merged p.all p.merges in
        record { all = p.all; merged = merged; written = p.written; read = read p.all merged }

    pub rest_of_it : (grown : Option (List ℕ)) (hand : List ℕ) → SentMerged lists held holds hand →
        Appends holds grown hand → WroteHistory kept held grown
    rest_of_it grown hand p w =
        let merged = are_merged p.all p.merges in
        record {
          all = p.all;
          merged = merged;
          written = sent_end held holds grown hand (calls_text p.all) p.sent w;
          read = read p.all merged;
        }

    pub rest_in_part : (grown : Option (List ℕ)) (hand : List ℕ) → SentMerged lists held holds hand →
        AppendsPrefix holds grown hand → WroteHistoryPrefix kept held grown
    rest_in_part grown hand p w =
        let merged = are_merged p.all p.merges in
        record {
          all = p.all;
          merged = merged;
          written = sent_end_in_part held holds grown hand (calls_text p.all) p.sent w;
          read = read p.all merged;
        }
