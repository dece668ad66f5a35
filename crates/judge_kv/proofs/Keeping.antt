-- Values that are kept by their words, after one more was kept.
use Rattle.std.proofs.Common.{◌≡◌, ℕ, Some, List, sym, ap, ◌∙◌, inl, inr}
use Rattle.std.specs.Global.{Vec}
use Rattle.std.specs.HashMap.{HashMap, Updates, get_by}
use Rattle.std.specs.Str.{bytes_eq}
use Rattle.std.specs.declared.rc.Rc.{Rc}
use Rattle.std.specs.declared.alloc.Global.{Global}
use Rattle.judge_text.specs.Quoting.{unquoted}
use Rattle.judge_text.proofs.OfOne.{named}
use Rattle.judge_text.proofs.Numbering.{key_eq, others_find}
use Rattle.judge_kv.specs.Reading.{AreRead}

same_value : (a b : Rc (List ℕ) Global) → Some a ≡ Some b → a ≡ b
same_value a b e = cc

pub one_kept : {S : Type 0} (old new : HashMap (Vec ℕ) (Rc (List ℕ) Global) S) (key : Vec ℕ)
    (value : Rc (List ℕ) Global) → AreRead old → unquoted key.items ≡ Some value.value →
    Updates key_eq old new key (Some value) → AreRead new
one_kept {S} old new key value read is u word found e =
    elim (named word key.items) [
      | inl same ↦
          let at : get_by (λ (k : Vec ℕ). bytes_eq word k.items) new ≡ Some value =
          ap (λ w. get_by (λ (k : Vec ℕ). bytes_eq w k.items) new) same.1 ∙ u.1 in
          ap unquoted same.1 ∙ is
          ∙ ap (λ (v : Rc (List ℕ) Global). Some v.value) (same_value value found (sym at ∙ e))
      | inr apart ↦ read word found (sym (others_find old new key (Some value) u word apart.1) ∙ e)
    ]
