-- The objects that the names of operations stand for.
use Rattle.std.specs.Prelude.{◌≡◌, ℕ, List, []}
use Rattle.judge_text.specs.declared.names.Names.{Names}
use Rattle.judge_text.specs.declared.names.Names.TheVariants.{Alone, Together, Joined}
use Rattle.judge_text.specs.Classes.{class_of, IsOneForEach}
use Rattle.judge_text.specs.declared.classes.Classes.{Classes}

-- the name of the object that a name stands for
abbrev pub object_of : Names → List ℕ → List ℕ
object_of Alone name = name
object_of Together name = []
object_of (Joined classes) name = class_of classes name

-- the name of the object that an operation is for, if names stand for objects in this way
abbrev pub for_object : {O : Type 0} → (List ℕ → List ℕ) → (O → List ℕ) → O → List ℕ
for_object objects name op = objects (name op)

-- each name is that of an object of its own
abbrev pub AreOwn : (List ℕ → List ℕ) → Type 0
AreOwn objects = (name : List ℕ) → objects name ≡ name

-- all names stand for one object, whose name is empty
abbrev pub AreTogether : (List ℕ → List ℕ) → Type 0
AreTogether objects = (name : List ℕ) → objects name ≡ []

-- names stand for one object if they are in one class, which has one of them as its name
pub record NamesClasses (classes : Classes) (objects : List ℕ → List ℕ) : Type 0 where
  pub joins : IsOneForEach objects classes
  pub parts : (g : List ℕ → List ℕ) → IsOneForEach g classes → (name : List ℕ) →
      g (objects name) ≡ g name
