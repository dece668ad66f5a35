-- Texts that are gathered and sent.
use Rattle.std.proofs.Common.{◌≡◌, ◌∙◌, sym, ap, subst, ℕ, List, [], ◌++◌, Option, length, take, drop, append_assoc}
use Rattle.std.proofs.Common.{append-nil, take-append-drop, Result, Ok, Err, OnOk, OnErr}
use Rattle.std.proofs.Math.Seq.{take-append_seam}
use Rattle.std.specs.Io.KnownBytes.{Appends, Keeps}
use Rattle.std.proofs.KnownBytes.{Appends-nil, Appends-trans, Appends-kept}
use Rattle.vac_lines.specs.Writing.{AppendsPrefix}
use Rattle.vac_lines.specs.Sent.{Sent}

-- consequences of a fact that holds if a call succeeded, or if it failed
pub on_ok_map : {T E P Q : Type 0} (r : Result T E) → (P → Q) → OnOk r P → OnOk r Q
on_ok_map (Ok t) f p = f p
on_ok_map (Err e) f p = tt

pub on_err_map : {T E P Q : Type 0} (r : Result T E) → (P → Q) → OnErr r P → OnErr r Q
on_err_map (Ok t) f p = tt
on_err_map (Err e) f p = f p

pub prefix_of : (held holds : Option (List ℕ)) (front more whole : List ℕ) → Appends held holds front
    → front ++ more ≡ whole → AppendsPrefix held holds whole
prefix_of held holds front more whole w e =
    (length front, subst (Appends held holds) (sym (take-append_seam front more) ∙ ap (take (length front)) e) w)

-- nothing was written
pub none_written : (held : Option (List ℕ)) (text : List ℕ) → AppendsPrefix held held text
none_written held text = (0, Appends-nil held)

-- a prefix of a text is one of a longer text
pub prefix_longer : (held holds : Option (List ℕ)) (text more : List ℕ) → AppendsPrefix held holds text
    → AppendsPrefix held holds (text ++ more)
prefix_longer held holds text more p =
    prefix_of held holds (take p.0 text) (drop p.0 text ++ more) (text ++ more) p.1
    (sym (append_assoc (take p.0 text) (drop p.0 text) more) ∙ ap (λ t. t ++ more) (take-append-drop p.0 text))

pub prefix_is : (held holds : Option (List ℕ)) (text other : List ℕ) → text ≡ other → AppendsPrefix held holds text
    → AppendsPrefix held holds other
prefix_is held holds text other e p = subst (AppendsPrefix held holds) e p

-- nothing more was sent
pub sent_nothing : (held : Option (List ℕ)) (hand : List ℕ) → Sent held held hand hand []
sent_nothing held hand = record { front = []; written = Appends-nil held; all = append-nil hand }

-- the buffered text was written
pub sent_hand : (held holds : Option (List ℕ)) (hand hand' : List ℕ) → Appends held holds hand → hand' ≡ []
    → Sent held holds hand hand' []
sent_hand held holds hand hand' w e = record { front = hand; written = w; all = ap (λ t. hand ++ t) (sym e) }

-- a text came to hand, and then nothing more was sent
pub sent_text : (held holds : Option (List ℕ)) (hand grown hand' text : List ℕ) → grown ≡ hand ++ text
    → Sent held holds grown hand' [] → Sent held holds hand hand' text
sent_text held holds hand grown hand' text e s = record {
  front = s.front;
  written = s.written;
  all = sym e
      ∙ sym (append-nil grown) ∙ s.all;
}

-- two texts, one after the other
pub sent_both : (held holds grown : Option (List ℕ)) (hand hand' hand'' x y : List ℕ) → Sent held holds hand hand' x
    → Sent holds grown hand' hand'' y → Sent held grown hand hand'' (x ++ y)
sent_both held holds grown hand hand' hand'' x y p q = record {
  front = p.front ++ q.front;
  written = Appends-trans held holds grown p.front q.front p.written q.written;
  all = sym (append_assoc hand x y) ∙ ap (λ t. t ++ y) p.all ∙ append_assoc p.front hand' y
      ∙ ap (λ t. p.front ++ t) q.all ∙ sym (append_assoc p.front q.front hand'');
}

-- the first of two texts was sent, and the second in part
pub part_second : (held holds grown : Option (List ℕ)) (hand hand' x y : List ℕ) → Sent held holds hand hand' x
    → AppendsPrefix holds grown (hand' ++ y) → AppendsPrefix held grown (hand ++ (x ++ y))
part_second held holds grown hand hand' x y p q =
    prefix_of held grown (p.front ++ take q.0 (hand' ++ y)) (drop q.0 (hand' ++ y)) (hand ++ (x ++ y))
    (Appends-trans held holds grown p.front (take q.0 (hand' ++ y)) p.written q.1)
    (append_assoc p.front (take q.0 (hand' ++ y)) (drop q.0 (hand' ++ y))
    ∙ ap (λ t. p.front ++ t) (take-append-drop q.0 (hand' ++ y))
    ∙ sym (append_assoc p.front hand' y) ∙ ap (λ t. t ++ y) (sym p.all) ∙ append_assoc hand x y)

-- the first of two texts was sent in part
pub part_first : (held holds : Option (List ℕ)) (hand x y : List ℕ) → AppendsPrefix held holds (hand ++ x)
    → AppendsPrefix held holds (hand ++ (x ++ y))
part_first held holds hand x y p = prefix_is held holds ((hand ++ x) ++ y) (hand ++ (x ++ y)) (append_assoc hand x y)
    (prefix_longer held holds (hand ++ x) y p)

-- the whole text was written, and then the output stayed as it was
pub whole_kept : (held holds now : Option (List ℕ)) (text : List ℕ) → Appends held holds text → Keeps holds now
    → AppendsPrefix held now text
whole_kept held holds now text w k = prefix_of held now text [] text (Appends-kept held holds now text w k)
    (append-nil text)

-- the text that was in the buffer at the end was written too
pub sent_end : (held holds grown : Option (List ℕ)) (hand text : List ℕ) → Sent held holds [] hand text
    → Appends holds grown hand → Appends held grown text
sent_end held holds grown hand text s w = subst (Appends held grown) (sym s.all)
    (Appends-trans held holds grown s.front hand s.written w)

pub sent_end_in_part : (held holds grown : Option (List ℕ)) (hand text : List ℕ) → Sent held holds [] hand text
    → AppendsPrefix holds grown hand → AppendsPrefix held grown text
sent_end_in_part held holds grown hand text s w =
    prefix_of held grown (s.front ++ take w.0 hand) (drop w.0 hand) text
    (Appends-trans held holds grown s.front (take w.0 hand) s.written w.1)
    (append_assoc s.front (take w.0 hand) (drop w.0 hand) ∙ ap (λ t. s.front ++ t) (take-append-drop w.0 hand)
    ∙ sym s.all)
