-- Numbers of names.
use Rattle.std.specs.Prelude.{◌≡◌, ◌<◌, ℕ, Option, Some, List, [], length, map, get_or}
use Rattle.std.specs.Global.{Vec}
use Rattle.std.specs.Str.{bytes_eq}
use Rattle.std.specs.HashMap.{get_by}
use Rattle.judge_text.specs.declared.numbers.Numbers.{Numbers}

-- the number of a name, if it has one
abbrev pub number_in : Numbers → List ℕ → Option ℕ
number_in numbers name = get_by (λ key. bytes_eq name key.items) numbers.places

-- the name at a place of a list of names
abbrev pub name_in : List (Vec ℕ) → ℕ → List ℕ
name_in names place = get_or (map (λ name. name.items) names) place []

-- the name of a number
abbrev pub name_of_number : Numbers → ℕ → List ℕ
name_of_number numbers number = name_in numbers.names.items number

-- a name has this number
pub record HasNumber (numbers : Numbers) (name : List ℕ) (number : ℕ) : Type 0 where
  pub within : number < length numbers.names.items
  pub is : name_of_number numbers number ≡ name

-- each number is that of its name, and of no other
pub record AreNumbered (numbers : Numbers) : Type 0 where
  pub found : (name : List ℕ) (number : ℕ) → number_in numbers name ≡ Some number →
      HasNumber numbers name number
  pub listed : (number : ℕ) → number < length numbers.names.items →
      number_in numbers (name_of_number numbers number) ≡ Some number

-- names keep the numbers that they have
abbrev pub KeepsNumbers : Numbers → Numbers → Type 0
KeepsNumbers old new = (name : List ℕ) (number : ℕ) → HasNumber old name number →
    HasNumber new name number
