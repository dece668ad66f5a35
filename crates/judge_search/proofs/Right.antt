-- The test of a reply says that it may have been given.
use Rattle.std.proofs.Common.{◌≡◌, ℕ, true, Option, Some, None, List, refl, sym}
use Rattle.std.proofs.lemmas.Slice.Eq.{bytes_eq-Decides}
use Rattle.judge_object.specs.Rules.{Rules, is_right, IsAnswerOf}

module _ {S O R : Type 0} (X : Rules S O R) where
  pub answer_of : (r : R) (given : Option (List ℕ)) → is_right X given r ≡ true → IsAnswerOf X r given
  answer_of r None h = tt
  answer_of r (Some text) h = sym ((bytes_eq-Decides text (X.text r)).0 h)

  pub of_answer : (r : R) (given : Option (List ℕ)) → IsAnswerOf X r given → is_right X given r ≡ true
  of_answer r None h = refl
  of_answer r (Some text) h = (bytes_eq-Decides text (X.text r)).1 (sym h)
