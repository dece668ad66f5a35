-- A load has exactly one text of its tasks.
use Rattle.std.proofs.Common.{◌≡◌, ◌∙◌, ◌⊎◌, inl, inr, refl, sym, ap, subst, ℕ, zero, suc, ◌*◌, List, [], ◌∷◌, ◌++◌}
use Rattle.std.proofs.Common.{Option, Some, append-nil, flat_map}
use Rattle.rand_pcg.specs.Lcg.{Lcg}
use Rattle.load_tasks.specs.declared.settings.Settings.{Settings}
use Rattle.load_tasks.specs.Draws.{Reader, Drew, Drawn, Reads, times_over}
use Rattle.load_tasks.specs.Streams.{gives, stream_of}
use Rattle.load_tasks.specs.Tasks.{task_of, opening}
use Rattle.load_tasks.specs.Worklist.{DrawnLines, IsTextOf, opening_line, task_line}
use Rattle.load_tasks.specs.Laws.{HasOneText}
use Rattle.load_tasks.proofs.Totals.{opening_total, times_total, task_total}

-- some more words
abbrev IsFrontOf : List ℕ → List ℕ → Type 0
IsFrontOf xs ys = (more : List ℕ) × (ys ≡ xs ++ more)

further : (w u : ℕ) (ws us : List ℕ) → w ≡ u → IsFrontOf ws us → IsFrontOf (w ∷ ws) (u ∷ us)
further w u ws us e p = (p.0, ap (λ (x : ℕ). x ∷ us) (sym e) ∙ ap (λ (l : List ℕ). w ∷ l) p.1)

-- of two runs of words from one state, one continues the other
one_run : (a : Lcg) (ws : List ℕ) (b : Lcg) (us : List ℕ) (c : Lcg) → Drew gives a ws b → Drew gives a us c →
    IsFrontOf ws us ⊎ IsFrontOf us ws
one_run a [] b us c p q = inl (us, refl)
one_run a (w ∷ ws) b [] c p q = inr (w ∷ ws, refl)
one_run a (w ∷ ws) b (u ∷ us) c p q =
    let e : ◌≡◌ {A = ℕ × Lcg} (w, p.0) (u, q.0) = p.1 ∙ sym q.1 in
    let word : w ≡ u = ap (λ (x : ℕ × Lcg). x.0) e in
    let next : p.0 ≡ q.0 = ap (λ (x : ℕ × Lcg). x.1) e in
    elim (one_run q.0 ws b us c (subst (λ (s : Lcg). Drew gives s ws b) next p.2) q.2) [
      | inl h ↦ inl (further w u ws us word h)
      | inr h ↦ inr (further u w us ws (sym word) h)
    ]

pub some_read : {X : Type 0} (x y : X) (us ws : List ℕ) → ◌≡◌ {A = Option (X × List ℕ)} (Some (x, us)) (Some (y, ws)) →
    x ≡ y
some_read {X} x y us ws e =
    let f : ◌≡◌ {A = X × List ℕ} (x, us) (y, ws) = cc in
    ap (λ (p : X × List ℕ). p.0) f

-- words and words that continue them are read as the same value
same_read : {X : Type 0} (reader : Reader X) (ws us : List ℕ) (x y : X) → IsFrontOf ws us → Reads reader ws x →
    Reads reader us y → x ≡ y
same_read reader ws us x y p q r =
    some_read x y p.0 [] (sym (q p.0) ∙ ap reader (sym p.1 ∙ sym (append-nil us)) ∙ r [])

one_reading : {X : Type 0} (reader : Reader X) (a b c : Lcg) (x y : X) → Drawn gives reader a x b →
    Drawn gives reader a y c → x ≡ y
one_reading reader a b c x y p q = elim (one_run a p.words b q.words c p.drew q.drew) [
  | inl h ↦ same_read reader p.words q.words x y h p.reads q.reads
  | inr h ↦ sym (same_read reader q.words p.words y x h q.reads p.reads)
]

one_lines : {X : Type 0} (reader : Reader (List X)) (line : X → List ℕ) (a b c : Lcg) (x y : List ℕ) →
    DrawnLines reader line a b x → DrawnLines reader line a c y → x ≡ y
one_lines reader line a b c x y p q = p.text_is ∙ ap (flat_map line)
    (one_reading reader a b c p.items q.items p.drawn q.drawn) ∙ sym q.text_is

both_are : (a b c d : List ℕ) → a ≡ b → c ≡ d → a ++ c ≡ b ++ d
both_are a b c d e f = ap (λ (t : List ℕ). t ++ c) e ∙ ap (λ (t : List ℕ). b ++ t) f

one_text_of : (s : Settings) (n : ℕ) (x y : List ℕ) → IsTextOf s n x → IsTextOf s n y → x ≡ y
one_text_of s zero x y p q = one_lines (opening s) opening_line (stream_of s.seed 0) p.0 q.0 x y p.1 q.1
one_text_of s (suc n) x y p q =
    p.4 ∙ both_are p.0 q.0 p.1 q.1 (one_text_of s n p.0 q.0 p.2 q.2)
    (one_lines (times_over (s.rounds * s.tasks) (task_of s)) (task_line (suc n))
    (stream_of s.seed (suc n)) p.3.0 q.3.0 p.1 q.1 p.3.1 q.3.1) ∙ sym q.4

-- there is a text
text_of : (s : Settings) (n : ℕ) → (x : List ℕ) × IsTextOf s n x
text_of s zero =
    let first = opening_total s (stream_of s.seed 0) in
    (flat_map opening_line first.0, (first.1, record { items = first.0; drawn = first.2; text_is = refl }))
text_of s (suc n) =
    let before = text_of s n in
    let more = times_total (s.rounds * s.tasks) (task_of s) (task_total s) (stream_of s.seed (suc n)) in
    let own = flat_map (task_line (suc n)) more.0 in (
      before.0 ++ own,
      (
        before.0,
        own,
        before.1,
        (more.1, record { items = more.0; drawn = more.2; text_is = refl }),
        refl,
      ),
    )

pub one_text : (s : Settings) → HasOneText s
one_text s = let found = text_of s s.clients in record {
  text = found.0;
  is = found.1;
  only = λ other p. one_text_of s s.clients other found.0 p found.1;
}
