-- The first values of keys, line by line.
use Rattle.std.proofs.Common.{◌≡◌, ℕ, ◌+◌, ◌<◌, ◌≤◌, true, false, cond, is_some, Some, Ok, Err, List}
use Rattle.std.proofs.Common.{◌∷◌}
use Rattle.std.proofs.Common.{length, sym, ap, ◌∙◌, inl, inr, arith}
use Rattle.vac_lines.specs.Lines.{lines_of, words_of}
use Rattle.judge_text.specs.Many.{changed}
use Rattle.judge_text.proofs.OfOne.{named, changed_here, changed_not}
use Rattle.judge_kv.specs.declared.starting.StartFault.{StartFault}
use Rattle.judge_kv.specs.declared.starting.StartFault.TheVariants.{KeyTwice}
use Rattle.judge_kv.specs.Rules.{Held}
use Rattle.judge_kv.specs.Starting.{First, value_at_first, words_first, once, line_first, then_firsts}
use Rattle.judge_kv.specs.Starting.{lines_firsts, text_firsts, BeginWith}

-- the first values of the lines so far, and what is left of a text
pub record HasFirsts (text : List ℕ) (s : List ℕ → Held) (number : ℕ) (rest : List ℕ) : Type 0 where
  pub firsts : List First
  pub are : text_firsts text ≡ lines_firsts firsts (number + 1) (lines_of rest)
  pub begin : BeginWith firsts s
  pub fits : number + length rest ≤ length text

-- one key more begins with its value
begin_more : (firsts : List First) (s t : List ℕ → Held) (first : First) → BeginWith firsts s →
    ((key : List ℕ) → t key ≡ changed s first.0 (Some first.1) key) → BeginWith (first ∷ firsts) t
begin_more firsts s t first h new key =
    elim (named key first.0) [
      | inl e ↦ new key ∙ changed_here s first.0 key (Some first.1) e.1
          ∙ sym (ap (λ b. cond b (Some first.1) (value_at_first firsts key)) e.0)
      | inr e ↦ new key ∙ changed_not s first.0 key (Some first.1) e.1 ∙ h key
          ∙ sym (ap (λ b. cond b (Some first.1) (value_at_first firsts key)) e.0)
    ]

after_line : (text : List ℕ) (s : List ℕ → Held) (number : ℕ) (rest line behind : List ℕ)
    (h : HasFirsts text s number rest) → lines_of rest ≡ line ∷ lines_of behind →
    text_firsts text ≡ then_firsts (number + 1) (line_first h.firsts line)
    (λ first. lines_firsts (first ∷ h.firsts) (number + 1 + 1) (lines_of behind))
after_line text s number rest line behind h cut = h.are ∙ ap (lines_firsts h.firsts (number + 1)) cut

pub first_more : (text : List ℕ) (s t : List ℕ → Held) (number : ℕ) (rest line behind : List ℕ) (first : First) →
    (h : HasFirsts text s number rest) → lines_of rest ≡ line ∷ lines_of behind → length behind < length rest →
    line_first h.firsts line ≡ Ok first → ((key : List ℕ) → t key ≡ changed s first.0 (Some first.1) key) →
    HasFirsts text t (number + 1) behind
first_more text s t number rest line behind first h cut less is new = record {
  firsts = first ∷ h.firsts;
  are = after_line text s number rest line behind h cut
      ∙ ap (λ r. then_firsts (number + 1) r
      (λ (x : First). lines_firsts (x ∷ h.firsts) (number + 1 + 1) (lines_of behind))) is;
  begin = begin_more h.firsts s t first h.begin new;
  fits = (let l = h.fits in omega arith);
}

pub first_fault : (text : List ℕ) (s : List ℕ → Held) (number : ℕ) (rest line behind : List ℕ) (fault : StartFault) →
    (h : HasFirsts text s number rest) → lines_of rest ≡ line ∷ lines_of behind →
    line_first h.firsts line ≡ Err fault → text_firsts text ≡ Err (number + 1, fault)
first_fault text s number rest line behind fault h cut is =
    after_line text s number rest line behind h cut
    ∙ ap (λ r. then_firsts (number + 1) r
    (λ (x : First). lines_firsts (x ∷ h.firsts) (number + 1 + 1) (lines_of behind))) is

-- a line whose key has a value already, and one whose key has none
pub key_twice : (before : List First) (s : List ℕ → Held) (line : List ℕ) (first : First) → BeginWith before s →
    words_first (words_of line) ≡ Ok first → is_some (s first.0) ≡ true → line_first before line ≡ Err KeyTwice
key_twice before s line first h is some =
    ap (once before) is
    ∙ ap (λ b. cond b (Err KeyTwice) (Ok first)) (ap is_some (sym (h first.0)) ∙ some)

pub key_once : (before : List First) (s : List ℕ → Held) (line : List ℕ) (first : First) → BeginWith before s →
    words_first (words_of line) ≡ Ok first → is_some (s first.0) ≡ false → line_first before line ≡ Ok first
key_once before s line first h is none =
    ap (once before) is
    ∙ ap (λ b. cond b (Err KeyTwice) (Ok first)) (ap is_some (sym (h first.0)) ∙ none)

pub line_fault : (before : List First) (line : List ℕ) (fault : StartFault) →
    words_first (words_of line) ≡ Err fault → line_first before line ≡ Err fault
line_fault before line fault is = ap (once before) is
