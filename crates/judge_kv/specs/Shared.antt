-- Values that share their place in memory.
use Rattle.std.specs.Prelude.{ℕ, Option, Some, None, List}
use Rattle.std.specs.declared.rc.Rc.{Rc}
use Rattle.std.specs.declared.alloc.Global.{Global}

-- the bytes in a place
abbrev pub value_in : Option (Rc (List ℕ) Global) → Option (List ℕ)
value_in None = None
value_in (Some rc) = Some rc.value
