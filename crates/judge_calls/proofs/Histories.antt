-- The history that is written of calls has these calls.
use Rattle.std.proofs.Common.{◌≡◌, ◌≢◌, ◌||◌, ℕ, Bool, true, false, Result, Ok, List, [], ◌∷◌, map, refl, sym, ap}
use Rattle.std.proofs.Common.{subst, ◌∙◌, append_assoc}
use Rattle.std.specs.List.{list_any}
use Rattle.std.proofs.lemmas.List.Elements.{All-head, All-tail, All-nil, All-cons}
use Rattle.vac_lines.specs.Lines.{lines_of, HasNo}
use Rattle.vac_lines.specs.LineTable.{is_bad_byte}
use Rattle.vac_lines.proofs.LineCuts.{lines_cut}
use Rattle.judge_calls.specs.declared.fault.CallFault.{CallFault}
use Rattle.judge_calls.specs.Call.{Call, line_call}
use Rattle.judge_calls.specs.Laws.{Lists, IsLinearization, LegalIsLinearization}
use Rattle.judge_calls.specs.CallText.{call_text, history_text, IsWritten, AreWritten, HistoriesAreRead}
use Rattle.judge_calls.specs.CallText.{CallTextsAreRead}
use Rattle.judge_calls.proofs.CallText.{call_clean}

false_both : (a b : Bool) → (a || b) ≡ false → (a ≡ false) × (b ≡ false)
false_both true b h = cc
false_both false b h = (refl, h)

no_end : (b : ℕ) → is_bad_byte b ≡ false → b ≢ 10
no_end b h e = let f : true ≡ false = ap is_bad_byte (sym e) ∙ h in cc

-- a text without bad bytes has no line end
no_ends : (text : List ℕ) → list_any is_bad_byte text ≡ false → HasNo 10 text
no_ends [] h = All-nil (λ b. b ≢ 10)
no_ends (b ∷ bs) h =
    let both = false_both (is_bad_byte b) (list_any is_bad_byte bs) h in
    All-cons (λ b. b ≢ 10) b bs (no_end b both.0) (no_ends bs both.1)

all_listed : CallTextsAreRead → (calls : List Call) → AreWritten calls → Lists (history_text calls) calls
all_listed read [] h = refl
all_listed read (c ∷ cs) h =
    let own = All-head IsWritten c cs h in
    ap (λ t. map line_call (lines_of t)) (append_assoc (call_text c) (10 ∷ []) (history_text cs))
    ∙ ap (map line_call) (lines_cut (call_text c) (history_text cs) (no_ends (call_text c) (call_clean c own)))
    ∙ ap (λ r. r ∷ map line_call (lines_of (history_text cs))) (read c own).read
    ∙ ap (λ rs. Ok c ∷ rs) (all_listed read cs (All-tail IsWritten c cs h))

-- a text has no calls but one list
one_list : (xs ys : List Call) → ◌≡◌ {A = List (Result Call CallFault)} (map Ok xs) (map Ok ys) → xs ≡ ys
one_list [] [] e = refl
one_list [] (y ∷ ys) e = cc
one_list (x ∷ xs) [] e = cc
one_list (x ∷ xs) (y ∷ ys) e =
    let first : ◌≡◌ {A = Result Call CallFault} (Ok x) (Ok y) = cc in
    let same : x ≡ y = cc in
    let rest : ◌≡◌ {A = List (Result Call CallFault)} (map Ok xs) (map Ok ys) = cc in
    ap (λ c. c ∷ xs) same ∙ ap (λ cs. y ∷ cs) (one_list xs ys rest)

pub histories_read : LegalIsLinearization → CallTextsAreRead → HistoriesAreRead
histories_read legal read = λ calls h.
    let listed = all_listed read calls h in
    record {
      listed = listed;
      judged = λ n. (
        λ e. let found = (legal n (history_text calls)).0 e in
            subst (IsLinearization n) (one_list found.calls calls (sym found.listed ∙ listed)) found.linearization,
        λ l. (legal n (history_text calls)).1 (record { calls = calls; listed = listed; linearization = l }),
      );
    }
