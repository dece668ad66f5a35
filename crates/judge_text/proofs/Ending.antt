-- The end of an input, and the last line of a program.
use Rattle.std.proofs.Common.{ℕ, List, [], Option, subst, append-nil}
use Rattle.std.specs.Prelude.{Result, Ok, Err, OnOk, OnErr}
use Rattle.std.specs.Io.KnownBytes.{Appends, Consumes, IsAtEnd}
use Rattle.std.proofs.KnownBytes.{Consumes-trans}
use Rattle.vac_lines.specs.Writing.{AppendsPrefix}
use Rattle.vac_lines.proofs.Written.{whole}
use Rattle.judge_text.specs.Program.{HasRead}

-- a text was written or a prefix of it was
pub either_way : {T E : Type 0} (r : Result T E) (held holds : Option (List ℕ)) (text : List ℕ) →
    OnOk r (Appends held holds text) → OnErr r (AppendsPrefix held holds text) → AppendsPrefix held holds text
either_way (Ok x) held holds text ok err = whole held holds text ok
either_way (Err e) held holds text ok err = err

-- the last read gave no byte
pub read_end : (unread left now : Option (List ℕ)) (bytes : List ℕ) → Consumes unread left bytes →
    Consumes left now [] → IsAtEnd now → HasRead unread now bytes
read_end unread left now bytes h k e = record {
  consumed = subst (Consumes unread now) (append-nil bytes) (Consumes-trans unread left now bytes [] h k);
  ended = e;
}
