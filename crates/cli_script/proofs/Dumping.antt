-- A text that is written in pieces.
use Rattle.std.proofs.Common.{◌≡◌, ◌<◌, ◌+◌, ℕ, List, [], ◌∷◌, ◌++◌, get_or, length, take, drop, sym, ap, ◌∙◌, subst}
use Rattle.std.proofs.Common.{append-nil, take-append-drop, Option, inr}
use Rattle.std.proofs.lemmas.List.{take_more}
use Rattle.std.proofs.lemmas.Grind.{flat_map-append}
use Rattle.std.specs.Io.KnownBytes.{Appends}
use Rattle.vac_lines.specs.Memory.{word_line, dump_text}
use Rattle.vac_model.specs.State.{State}
use Rattle.vac_manager.specs.Law.{Shows}
use Rattle.vac_lines.specs.Writing.{AppendsPrefix}
use Rattle.vac_manager.specs.Called.{CallerShown}
use Rattle.cli_script.specs.System.{StandsInState, RanScript}
use Rattle.cli_script.specs.Dump.{Dumped, DumpStopped}
use Rattle.vac_lines.specs.Sent.{Sent}
use Rattle.vac_lines.proofs.Texts.{sent_both, sent_text, sent_end_in_part, prefix_is, prefix_longer, part_second}
use Rattle.vac_lines.proofs.Texts.{none_written}

-- the text of words, cut between two of them
dump_cut : (i : ℕ) (words : List ℕ) → dump_text (take i words) ++ dump_text (drop i words) ≡ dump_text words
dump_cut i words = sym (flat_map-append word_line (take i words) (drop i words))
    ∙ ap dump_text (take-append-drop i words)

-- the text of one more word
pub word_more : (words : List ℕ) (i : ℕ) → i < length words
    → dump_text (take (i + 1) words) ≡ dump_text (take i words) ++ word_line (get_or words i 0)
word_more words i h =
    ap dump_text (take_more words i 0 h) ∙ flat_map-append word_line (take i words) (get_or words i 0 ∷ [])
    ∙ ap (λ t. dump_text (take i words) ++ t) (append-nil (word_line (get_or words i 0)))

-- the first words were sent, and no more of the others than a part
pub words_in_part : (held holds grown : Option (List ℕ)) (hand words more : List ℕ) (i : ℕ)
    → Sent held holds [] hand (dump_text (take i words)) → AppendsPrefix holds grown (hand ++ more)
    → dump_text (take i words) ++ more ≡ dump_text (take (i + 1) words) → AppendsPrefix held grown (dump_text words)
words_in_part held holds grown hand words more i s w e =
    let front = dump_text (take i words) in
    prefix_is held grown (dump_text (take (i + 1) words) ++ dump_text (drop (i + 1) words)) (dump_text words)
    (dump_cut (i + 1) words)
    (prefix_longer held grown (dump_text (take (i + 1) words)) (dump_text (drop (i + 1) words))
    (prefix_is held grown (front ++ more) (dump_text (take (i + 1) words)) e
    (part_second held holds grown [] hand front more s w)))

-- the words were sent, and the rest at hand was written in part
pub rest_in_part : (held holds grown : Option (List ℕ)) (hand words : List ℕ) (i : ℕ)
    → Sent held holds [] hand (dump_text (take i words)) → AppendsPrefix holds grown hand
    → AppendsPrefix held grown (dump_text words)
rest_in_part held holds grown hand words i s w =
    prefix_is held grown (dump_text (take i words) ++ dump_text (drop i words)) (dump_text words) (dump_cut i words)
    (prefix_longer held grown (dump_text (take i words)) (dump_text (drop i words))
    (sent_end_in_part held holds grown hand (dump_text (take i words)) s w))

-- nothing of the hand was written
pub hand_in_part : (held holds : Option (List ℕ)) (hand words : List ℕ) (i : ℕ)
    → Sent held holds [] hand (dump_text (take i words)) → AppendsPrefix held holds (dump_text words)
hand_in_part held holds hand words i s = rest_in_part held holds holds hand words i s (none_written holds hand)

-- one more word came to hand, and what was at hand was sent
pub word_sent : (held holds grown : Option (List ℕ)) (hand new after words : List ℕ) (word i : ℕ)
    → Sent held holds [] hand (dump_text (take i words)) → new ≡ hand ++ word_line word
    → dump_text (take (i + 1) words) ≡ dump_text (take i words) ++ word_line word → Sent holds grown new after []
    → Sent held grown [] after (dump_text (take (i + 1) words))
word_sent held holds grown hand new after words word i s e f t =
    subst (λ z. Sent held grown [] after z) (sym f)
    (sent_both held holds grown [] hand after (dump_text (take i words)) (word_line word) s
    (sent_text holds grown hand new after (word_line word) e t))

-- a dump that was written
pub dumped : (n : ℕ) (y : CallerShown) (unread left said says held holds : Option (List ℕ)) (words given : List ℕ)
    → RanScript n y unread left said says
    → ((s : State) → StandsInState y s → Shows words s) → given ≡ words → Appends held holds (dump_text given)
    → Dumped n unread left held holds
dumped n y unread left said says held holds words given r shown e w = record {
  bytes = r.bytes;
  consumed = r.consumed;
  ended = r.ended;
  words = words;
  shown = shown _ r.stands;
  written = subst (λ t. Appends held holds (dump_text t)) e w;
}

-- a dump that stopped while it wrote
pub dumped_prefix : (n : ℕ) (y : CallerShown) (unread left said says held holds : Option (List ℕ))
    (words given : List ℕ) → RanScript n y unread left said says
    → ((s : State) → StandsInState y s → Shows words s) → given ≡ words → AppendsPrefix held holds (dump_text given)
    → DumpStopped n unread left held holds
dumped_prefix n y unread left said says held holds words given r shown e w = inr (record {
  bytes = r.bytes;
  consumed = r.consumed;
  ended = r.ended;
  words = words;
  shown = shown _ r.stands;
  written = subst (λ t. AppendsPrefix held holds (dump_text t)) e w;
})
