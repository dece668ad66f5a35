-- The calls that are stuck, one after the other.
use Rattle.std.proofs.Common.{◌≡◌, ℕ, ◌+◌, Bool, true, false, cond, List, [], ◌∷◌, ◌++◌, length, map, filter, refl, sym}
use Rattle.std.proofs.Common.{ap, ◌∙◌, subst, append_assoc}
use Rattle.judge_object.specs.Call.{Call}
use Rattle.judge_search.specs.declared.stuck.Stuck.{Stuck}
use Rattle.judge_object.specs.Call.{is_completed}
use Rattle.judge_search.specs.Calls.{can_come, tries_from, IsTry}
use Rattle.judge_search.specs.Stuck.{told, with_reply, expected_from, AreStuck}
use Rattle.std.specs.Prelude.{All, ◌<◌}
use Rattle.std.proofs.lemmas.List.Elements.{All-append, All-cons, All-nil}
use Rattle.judge_search.proofs.Tries.{at}
use Rattle.judge_object.specs.Rules.{Rules}

module _ {S O R : Type 0} (X : Rules S O R) where
  -- these were found, and those from a place on are left
  pub record AreFound (s : S) (made : ℕ → Bool) (cs : List (Call O)) (found : List (Stuck R)) (from : ℕ) : Type 0 where
    pub told_are : map (told X cs) found ++ (expected_from X) s made cs from ≡ (expected_from X) s made cs 0
    pub can : All (λ stuck. (can_come X) made cs stuck.place ≡ true) found
    pub within : All (λ stuck. stuck.place < length cs) found

  pub found_none : (s : S) (made : ℕ → Bool) (cs : List (Call O)) → AreFound s made cs [] 0
  found_none s made cs = record {
    told_are = refl;
    can = All-nil (λ (x : Stuck R). (can_come X) made cs x.place ≡ true);
    within = All-nil (λ (x : Stuck R). x.place < length cs);
  }

  told_more : (cs : List (Call O)) (found : List (Stuck R)) (x : Stuck R) →
      map (told X cs) (found ++ x ∷ []) ≡ map (told X cs) found ++ (told X) cs x ∷ []
  told_more cs [] x = refl
  told_more cs (y ∷ ys) x = ap (λ l. (told X) cs y ∷ l) (told_more cs ys x)

  pub none_more : (l : List ((Call O) × R)) → l ++ [] ≡ l
  none_more [] = refl
  none_more (x ∷ xs) = ap (λ l. x ∷ l) (none_more xs)

  next_some : (made : ℕ → Bool) (cs : List (Call O)) (from p : ℕ) → (IsTry X) made cs from p → (b : Bool) →
      is_completed (at X cs p) ≡ b
      → filter is_completed (tries_from made cs from) ≡ cond b
      (at X cs p ∷ filter is_completed (tries_from made cs (p + 1)))
      (filter is_completed (tries_from made cs (p + 1)))
  next_some made cs from p t b e =
      ap (filter is_completed) t.is
      ∙ ap (λ x. cond x (at X cs p ∷ filter is_completed (tries_from made cs (p + 1)))
      (filter is_completed (tries_from made cs (p + 1)))) e

  -- a completed call more
  pub found_more : (s : S) (made : ℕ → Bool) (cs : List (Call O)) (found : List (Stuck R)) (from p : ℕ) (x : Stuck R) →
      (IsTry X) made cs from p → is_completed (at X cs p) ≡ true
      → x.place ≡ p → x.expected ≡ (X.run s (at X cs p).op).1 → AreFound s made cs found from →
      AreFound s made cs (found ++ x ∷ []) (p + 1)
  found_more s made cs found from p x t some e r h = record {
    told_are = ap (λ l. l ++ (expected_from X) s made cs (p + 1)) (told_more cs found x)
        ∙ append_assoc (map (told X cs) found) (told X cs x ∷ []) (expected_from X s made cs (p + 1))
        ∙ ap (λ c. map (told X cs) found ++ (c, x.expected) ∷ (expected_from X) s made cs (p + 1)) (ap (at X cs) e)
        ∙ ap (λ y. map (told X cs) found ++ (at X cs p, y) ∷ (expected_from X) s made cs (p + 1)) r
        ∙ ap (λ l. map (told X cs) found ++ map (with_reply X s) l) (sym (next_some made cs from p t true some))
        ∙ h.told_are;
    can = All-append (λ (y : Stuck R). (can_come X) made cs y.place ≡ true) found (x ∷ []) h.can
        (All-cons (λ (y : Stuck R). (can_come X) made cs y.place ≡ true) x [] (ap (can_come X made cs) e ∙ t.can)
        (All-nil (λ (y : Stuck R). (can_come X) made cs y.place ≡ true)));
    within = All-append (λ (y : Stuck R). y.place < length cs) found (x ∷ []) h.within
        (All-cons (λ (y : Stuck R). y.place < length cs) x [] (subst (λ q. q < length cs) (sym e) t.within)
        (All-nil (λ (y : Stuck R). y.place < length cs)));
  }

  -- or a pending one
  pub found_less : (s : S) (made : ℕ → Bool) (cs : List (Call O)) (found : List (Stuck R)) (from p : ℕ) →
      (IsTry X) made cs from p → is_completed (at X cs p) ≡ false
      → AreFound s made cs found from → AreFound s made cs found (p + 1)
  found_less s made cs found from p t none h = record {
    told_are = ap (λ l. map (told X cs) found ++ map (with_reply X s) l) (sym (next_some made cs from p t false none)) ∙
        h.told_are;
    can = h.can;
    within = h.within;
  }

  -- and none is left
  pub found_all : (s : S) (made : ℕ → Bool) (cs : List (Call O)) (found : List (Stuck R)) (from : ℕ) →
      tries_from made cs from ≡ [] → AreFound s made cs found from
      → (AreStuck X) s made cs found
  found_all s made cs found from e h = record {
    told_are = sym (none_more (map (told X cs) found))
        ∙ ap (λ l. map (told X cs) found ++ map (with_reply X s) (filter is_completed l)) (sym e)
        ∙ h.told_are;
    can = h.can;
    within = h.within;
  }
