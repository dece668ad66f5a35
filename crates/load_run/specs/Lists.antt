-- A relation between two lists, position by position.
use Rattle.std.specs.Prelude.{List, [], ◌∷◌}

-- the lists are equally long, and the relation holds between the two elements at each position
pub data Paired {A B : Type 0} (related : A → B → Type 0) : List A → List B → Type 0 where
  none : Paired related [] []
  both : {x : A} {y : B} {xs : List A} {ys : List B} → related x y → Paired related xs ys →
      Paired related (x ∷ xs) (y ∷ ys)
