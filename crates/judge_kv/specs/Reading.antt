-- Values that are kept by the words that wrote them.
use Rattle.std.specs.Prelude.{◌≡◌, ℕ, Some, List}
use Rattle.std.specs.Global.{Vec}
use Rattle.std.specs.Str.{bytes_eq}
use Rattle.std.specs.HashMap.{HashMap, get_by}
use Rattle.std.specs.declared.rc.Rc.{Rc}
use Rattle.std.specs.declared.alloc.Global.{Global}
use Rattle.judge_text.specs.Quoting.{unquoted}

-- each value is that which its word writes
abbrev pub AreRead : {S : Type 0} → HashMap (Vec ℕ) (Rc (List ℕ) Global) S → Type 0
AreRead values = (word : List ℕ) (value : Rc (List ℕ) Global) →
    get_by (λ key. bytes_eq word key.items) values ≡ Some value →
    unquoted word ≡ Some value.value
