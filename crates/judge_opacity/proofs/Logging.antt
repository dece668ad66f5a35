-- The attempts that the lines read so far make.
use Rattle.std.proofs.Common.{◌≡◌, ℕ, ◌+◌, ◌<◌, false, cond, Ok, Err, List, [], ◌∷◌, ◌++◌, length, map}
use Rattle.std.proofs.Common.{refl, sym, ap, ◌∙◌}
use Rattle.std.proofs.Common.{subst, arith, append_assoc, append-nil, eqb, ne_eqb}
use Rattle.std.proofs.lemmas.List.{map-append, length-map}
use Rattle.std.proofs.lemmas.List.Elements.{All-push}
use Rattle.vac_lines.specs.declared.fault.LineFault.{LineFault}
use Rattle.vac_lines.specs.Lines.{lines_of}
use Rattle.vac_lines.proofs.LineCuts.{HasNoEnd, lines_cut, lines_last}
use Rattle.judge_opacity.specs.declared.logged.Logged.{Logged}
use Rattle.judge_opacity.specs.Attempt.{line_attempt}
use Rattle.judge_opacity.specs.Parts.{AllAmong}
use Rattle.judge_opacity.specs.Laws.{ListsAttempts}
use Rattle.judge_opacity.specs.Logs.{logged_attempt, attempts_in, AreAmong, HasFirstFault}

pub first_line : (text line behind : List ℕ) → HasNoEnd line → text ≡ line ++ 10 ∷ behind →
    lines_of text ≡ line ∷ lines_of behind
first_line text line behind h e = ap lines_of e ∙ lines_cut line behind h

pub only_line : (text : List ℕ) → HasNoEnd text → 0 < length text → lines_of text ≡ text ∷ []
only_line text h some =
    let full : eqb (length text) 0 ≡ false = ne_eqb (length text) 0 (λ z. omega arith) in
    lines_last text h ∙ ap (λ b. cond b [] (text ∷ [])) full

-- these attempts were read, and this rest of the text is left
pub record HasReadTo (words : ℕ) (text : List ℕ) (attempts : List Logged) (rest : List ℕ) : Type 0 where
  pub read : map (line_attempt words) (lines_of text)
      ≡ map Ok (attempts_in attempts) ++ map (line_attempt words) (lines_of rest)
  pub among : AreAmong words attempts

pub read_none : (words : ℕ) (text : List ℕ) (attempts : List Logged) → attempts ≡ [] →
    HasReadTo words text attempts text
read_none words text attempts e = subst (λ t. HasReadTo words text t text) (sym e) (record {
  read = refl;
  among = λ k d l. absurd (omega arith);
})

pub read_more : (words : ℕ) (text line rest behind : List ℕ) (attempts : List Logged) (l : Logged) →
    HasReadTo words text attempts rest → lines_of rest ≡ line ∷ lines_of behind →
    line_attempt words line ≡ Ok (logged_attempt l) → AllAmong words l.accesses.items →
    HasReadTo words text (attempts ++ l ∷ []) behind
read_more words text line rest behind attempts l h cut is among = record {
  read =
      h.read
      ∙ ap (λ ls. map Ok (attempts_in attempts) ++ map (line_attempt words) ls) cut
      ∙ ap (λ r. map Ok (attempts_in attempts) ++ r ∷ map (line_attempt words) (lines_of behind)) is
      ∙ sym (append_assoc (map Ok (attempts_in attempts)) (Ok (logged_attempt l) ∷ []) (map (line_attempt words)
      (lines_of behind)))
      ∙ ap (λ t. t ++ map (line_attempt words) (lines_of behind))
      (sym (ap (map Ok) (map-append logged_attempt attempts (l ∷ []))
      ∙ map-append Ok (attempts_in attempts) (logged_attempt l ∷ [])));
  among = All-push (λ logged. AllAmong words logged.accesses.items) attempts l h.among among;
}

pub read_fault : (words : ℕ) (text line rest : List ℕ) (behind : List (List ℕ)) (attempts : List Logged) (number : ℕ)
    (fault : LineFault) → HasReadTo words text attempts rest → lines_of rest ≡ line ∷ behind →
    line_attempt words line ≡ Err fault → number ≡ length attempts + 1 → HasFirstFault words text number fault
read_fault words text line rest behind attempts number fault h cut is n = record {
  before = attempts_in attempts;
  rest = map (line_attempt words) behind;
  listed =
      h.read
      ∙ ap (λ ls. map Ok (attempts_in attempts) ++ map (line_attempt words) ls) cut
      ∙ ap (λ r. map Ok (attempts_in attempts) ++ r ∷ map (line_attempt words) behind) is;
  number = n ∙ ap (λ k. k + 1) (sym (length-map attempts logged_attempt));
}

pub read_all : (words : ℕ) (text rest : List ℕ) (attempts : List Logged) → HasReadTo words text attempts rest →
    lines_of rest ≡ [] → ListsAttempts words text (attempts_in attempts)
read_all words text rest attempts h e =
    h.read
    ∙ ap (λ ls. map Ok (attempts_in attempts) ++ map (line_attempt words) ls) e
    ∙ append-nil (map Ok (attempts_in attempts))
