-- The calls of a history as they are kept, in the order in which they ended.
use Rattle.std.specs.Prelude.{◌≡◌, ◌<◌, ◌≤◌, ◌+◌, ◌-◌, ◌^◌, ◌==◌, ◌&&◌, ◌||◌, ℕ, suc, Bool, true, Option, Some, None, List, [], ◌∷◌, ◌++◌}
use Rattle.std.specs.Prelude.{map, not, take, drop, get_or, length, nat_lt, nat_le, if◌then◌else◌, false}
use Rattle.std.specs.List.{list_any}
use Rattle.judge_object.specs.declared.line.Line.{Line}
use Rattle.judge_object.specs.Rules.{Rules, given_text}
use Rattle.judge_object.specs.Call.{Call, is_completed}

module _ {O : Type 0} where
  -- the call that a line is
  abbrev pub call_of : Line O → Call O
  call_of line = record {
    client = line.client;
    begin = line.begin;
    end = line.end;
    op = line.op;
    reply = given_text line.reply;
  }

  abbrev pub calls_of : List (Line O) → List (Call O)
  calls_of lines = map call_of lines

  -- the call of a line is completed
  abbrev pub has_ended : Line O → Bool
  has_ended line = is_completed (call_of line)

  -- a line may come after another: it does not end before that one, and a completed call does not
  -- come after a pending one. Where both are completed, or both pending, it names no earlier begin
  abbrev pub follows : Line O → Line O → Bool
  follows line next =
      nat_le line.end next.end
      && (has_ended line || not (has_ended next))
      && (nat_le line.soonest next.soonest || has_ended line && not (has_ended next))

  -- the lines are in the order in which they ended, and each names no later begin than there is
  abbrev pub are_sorted : List (Line O) → Bool
  are_sorted [] = true
  are_sorted (line ∷ []) = nat_le line.soonest line.begin
  are_sorted (line ∷ (next ∷ lines)) =
      nat_le line.soonest line.begin && follows line next && are_sorted (next ∷ lines)

  -- a line is that of a completed call, or that of a pending one
  abbrev pub is_kind : Bool → Line O → Bool
  is_kind completed line = if completed then has_ended line else not (has_ended line)

  -- the least moment at which one of these begins that is completed, or one that is pending; or the
  -- greatest moment
  abbrev pub least_begin : Bool → List (Line O) → ℕ
  least_begin completed [] = 2 ^ 64 - 1
  least_begin completed (line ∷ lines) =
      if is_kind completed line && nat_lt line.begin (least_begin completed lines) then line.begin
      else least_begin completed lines

  -- each line names the moment from which on it and those after it begin that are completed as it
  -- is, or pending as it is
  abbrev pub soonest_of : List (Line O) → List (Line O)
  soonest_of [] = []
  soonest_of (line ∷ lines) =
      record line { soonest = least_begin (has_ended line) (line ∷ lines) } ∷ soonest_of lines

  -- of these calls, the first of which is at a place, those that have no place in the order
  abbrev pub rest_of : (ℕ → Bool) → ℕ → List (Call O) → List (Call O)
  rest_of made place [] = []
  rest_of made place (call ∷ calls) =
      if made place then rest_of made (suc place) calls
      else call ∷ rest_of made (suc place) calls

  -- none that is left had ended when the call began, and none of its client comes before it
  abbrev pub may_next : List (Call O) → List (Call O) → Call O → Bool
  may_next rest before call =
      not (list_any (λ other. nat_lt other.end call.begin) rest)
      && not (list_any (λ other. other.client == call.client) before)

  -- the calls from a place on that may come next, those before it being given
  abbrev pub tries_of : (ℕ → Bool) → List (Call O) → List (Call O) → ℕ → List (Call O)
      → List (Call O)
  tries_of made rest before place [] = []
  tries_of made rest before place (call ∷ calls) =
      if made place then tries_of made rest before (suc place) calls
      else if may_next rest before call
      then call ∷ tries_of made rest (before ++ call ∷ []) (suc place) calls
      else tries_of made rest (before ++ call ∷ []) (suc place) calls

  -- the calls that may come next, from a place on
  abbrev pub tries_from : (ℕ → Bool) → List (Call O) → ℕ → List (Call O)
  tries_from made calls from =
      tries_of made (rest_of made 0 calls) (rest_of made 0 (take from calls)) from (drop from calls)

  -- lines between two places are all those of completed calls, or all those of pending ones
  abbrev pub AreAlike : List (Line O) → ℕ → ℕ → Type 0
  AreAlike lines from to = (i j : ℕ) (d : Line O) → from ≤ i → i ≤ j → j < to →
      has_ended (get_or lines i d) ≡ has_ended (get_or lines j d)

-- the first of `count` calls that has no place in the order is there
pub record IsFirstOf (made : ℕ → Bool) (count first : ℕ) : Type 0 where
  pub within : first < count
  pub below : (place : ℕ) → place < first → made place ≡ true
  pub left : made first ≡ false

module _ {S O R : Type 0} (X : Rules S O R) where
  -- the call that is taken where there is none
  abbrev pub no_call : Call O
  no_call = record {
    client = 0;
    begin = 0;
    end = 0;
    op = X.none;
    reply = None;
  }

  -- the call at a place may come next
  abbrev pub can_come : (ℕ → Bool) → List (Call O) → ℕ → Bool
  can_come made calls place =
      not (made place)
      && may_next (rest_of made 0 calls) (rest_of made 0 (take place calls))
      (get_or calls place no_call)

  -- the first call from a place on that may come next is there
  pub record IsTry (made : ℕ → Bool) (calls : List (Call O)) (from place : ℕ) : Type 0 where
    pub is : tries_from made calls from ≡
        get_or calls place no_call ∷ tries_from made calls (place + 1)
    pub can : can_come made calls place ≡ true
    pub within : place < length calls

  -- where it is, if there is one
  abbrev pub TellsTry : (ℕ → Bool) → List (Call O) → ℕ → Option ℕ → Type 0
  TellsTry made calls from None = tries_from made calls from ≡ []
  TellsTry made calls from (Some place) = IsTry made calls from place

  -- where the first call from a place on that may come next is, if it is before another place
  abbrev pub TellsTryBefore : (ℕ → Bool) → List (Call O) → ℕ → ℕ → Option ℕ → Type 0
  TellsTryBefore made calls from to None =
      from ≤ to → tries_from made calls from ≡ tries_from made calls to
  TellsTryBefore made calls from to (Some place) = IsTry made calls from place
