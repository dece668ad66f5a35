-- Transactions whose calls a map gives, and calls that give their replies.
use Rattle.std.proofs.Common.{◌≡◌, ℕ, false, List, [], ◌∷◌, map, Option, Some, None, refl, sym, ap, ◌∙◌}
use Rattle.judge_object.specs.Rules.{Rules, IsAnswerOf}
use Rattle.judge_object.specs.Call.{Call, EachCall, is_completed}
use Rattle.judge_object.specs.Linear.{GiveReplies}
use Rattle.judge_object.proofs.Times.{IsUntimed}
use Rattle.judge_snapshot.specs.Snapshots.{Transaction, calls_of}

-- ---- any calls give their replies, one after the other, if the state is the list of these

module _ {O : Type 0} (none : O) where
  abbrev replied : List (Call O) → List (Call O) × Option (List ℕ)
  replied [] = ([], None)
  replied (c ∷ cs) = (cs, c.reply)

  abbrev text_of : Option (List ℕ) → List ℕ
  text_of None = []
  text_of (Some text) = text

  abbrev pub echo : Rules (List (Call O)) O (Option (List ℕ))
  echo = record { run = λ s op. replied s; text = text_of; none = none }

  pub echoes : (cs : List (Call O)) → GiveReplies echo cs cs
  echoes [] = tt
  echoes (c ∷ cs) = (go c.reply, echoes cs)
    where
      go : (r : Option (List ℕ)) → IsAnswerOf echo r r
      go None = tt
      go (Some text) = refl

-- ---- facts of each call

module _ {O P : Type 0} where
  pub each_untimed : (f : P → Call O) → ((p : P) → IsUntimed (f p)) → (ps : List P) → EachCall IsUntimed (map f ps)
  each_untimed f h [] = tt
  each_untimed f h (p ∷ ps) = (h p, each_untimed f h ps)

  pub never_map : (f g : P → Call O) → ((p : P) → is_completed (f p) ≡ is_completed (g p)) → (ps : List P) →
      EachCall (λ c. is_completed c ≡ false) (map f ps) → EachCall (λ c. is_completed c ≡ false) (map g ps)
  never_map f g same [] h = tt
  never_map f g same (p ∷ ps) h = (sym (same p) ∙ h.0, never_map f g same ps h.1)

  -- transactions whose calls a map gives
  pub record Zipped (f : P → Call O) (ps : List P) (ts : List (Transaction O)) : Type 0 where
    pub pairs : List (P × ℕ)
    pub firsts : map (λ q. q.0) pairs ≡ ps
    pub are : map (λ q. record { call = f q.0; missed = q.1 }) pairs ≡ ts

  pub zipped : (f : P → Call O) (ps : List P) (ts : List (Transaction O)) → map f ps ≡ calls_of ts → Zipped f ps ts
  zipped f [] [] e = record { pairs = []; firsts = refl; are = refl }
  zipped f [] (t ∷ ts) e = cc
  zipped f (p ∷ ps) [] e = cc
  zipped f (p ∷ ps) (t ∷ ts) e =
      let more = zipped f ps ts (rest_same (f p) t.call (map f ps) (calls_of ts) e) in
      record {
        pairs = (p, t.missed) ∷ more.pairs;
        firsts = ap (λ l. p ∷ l) more.firsts;
        are = ap (λ (c : Call O). record { call = c; missed = t.missed }
            ∷ map (λ q. record { call = f q.0; missed = q.1 }) more.pairs)
            (first_same (f p) t.call (map f ps) (calls_of ts) e)
            ∙ ap (λ l. t ∷ l) more.are;
      }
    where
      first_same : (x y : Call O) (xs ys : List (Call O)) → x ∷ xs ≡ y ∷ ys → x ≡ y
      first_same x y xs ys e = cc

      rest_same : (x y : Call O) (xs ys : List (Call O)) → x ∷ xs ≡ y ∷ ys → xs ≡ ys
      rest_same x y xs ys e = cc

  pub calls_pairs : (f : P → Call O) (qs : List (P × ℕ)) →
      calls_of (map (λ q. record { call = f q.0; missed = q.1 }) qs) ≡ map f (map (λ q. q.0) qs)
  calls_pairs f [] = refl
  calls_pairs f (q ∷ qs) = ap (λ l. f q.0 ∷ l) (calls_pairs f qs)
