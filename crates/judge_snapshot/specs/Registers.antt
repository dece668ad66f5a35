-- Two registers that hold numbers: the object of the worked examples.
use Rattle.std.specs.Prelude.{◌==◌, ℕ, Bool, true, false, Option, Some, None, List, codes, if◌then◌else◌}
use Rattle.judge_object.specs.Rules.{Rules}
use Rattle.judge_snapshot.specs.WriteSets.{WriteSets}

-- a transaction over the registers x and y: the values that it claims to have read, the values
-- that it writes, and whether it rolls back
pub record Registers : Type 0 where
  pub read_x : Option ℕ
  pub read_y : Option ℕ
  pub write_x : Option ℕ
  pub write_y : Option ℕ
  pub rolls_back : Bool

-- the value of a register after a write, if there is one
abbrev pub after : Option ℕ → ℕ → ℕ
after None value = value
after (Some other) value = other

-- tests whether a register has the value that a transaction claims to have read
abbrev pub agrees : Option ℕ → ℕ → Bool
agrees None value = true
agrees (Some read) value = read == value

-- the writes of a transaction: it has none if it rolls back
abbrev pub writes_of : Registers → Option ℕ × Option ℕ
writes_of op = if op.rolls_back then (None, None) else (op.write_x, op.write_y)

-- the registers after writes
abbrev pub installed : Option ℕ × Option ℕ → ℕ × ℕ → ℕ × ℕ
installed w s = (after w.0 s.0, after w.1 s.1)

-- the registers after a transaction, and whether it reads what it claims
abbrev pub run : ℕ × ℕ → Registers → (ℕ × ℕ) × Bool
run s op = (
  installed (writes_of op) s,
  if agrees op.read_x s.0 then agrees op.read_y s.1 else false,
)

-- the text of a reply
abbrev pub told : Bool → List ℕ
told true = codes "y"
told false = codes "n"

abbrev pub registers : Rules (ℕ × ℕ) Registers Bool
registers = record {
  run = run;
  text = told;
  none = record {
    read_x = None;
    read_y = None;
    write_x = None;
    write_y = None;
    rolls_back = false;
  };
}

-- tests whether two transactions both write a register
abbrev pub meet : Option ℕ → Option ℕ → Bool
meet None other = false
meet (Some value) None = false
meet (Some value) (Some other) = true

-- the write sets of transactions
abbrev pub register_writes : WriteSets (ℕ × ℕ) Registers (Option ℕ × Option ℕ)
register_writes = record {
  writes = λ s op. writes_of op;
  install = installed;
  conflicts = λ v w. if meet v.0 w.0 then true else meet v.1 w.1;
  same = λ v w. false;
  starts = λ s. true;
}
