-- The lines of objects by their names, and what is found of the calls of each object.
use Rattle.std.proofs.Common.{◌≡◌, ◌≢◌, ℕ, ◌+◌, ◌-◌, ◌<◌, ◌≤◌, suc, Bool, true, false, cond, List, []}
use Rattle.std.proofs.Common.{◌∷◌, ◌++◌, length, refl, sym, ap, ◌∙◌, subst, inl, inr, arith}
use Rattle.std.specs.Prelude.{◌⊎◌, ⊤, Option, Some, None, IsSome}
use Rattle.std.specs.Global.{Vec}
use Rattle.std.specs.Map.{lookup}
use Rattle.std.specs.BTreeMap.{BTreeMap, Updates, IsLowerBound, get, is_at}
use Rattle.std.specs.Str.{bytes_eq}
use Rattle.std.specs.Ordering.{is_lt, is_gt, nat_cmp, ordering_reverse}
use Rattle.std.specs.declared.cmp.Ordering.{Ordering}
use Rattle.std.specs.declared.cmp.Ordering.TheVariants.{Less, Equal, Greater}
use Rattle.std.specs.Cmp.Lexicographic.{slice_cmp, nat_list_cmp_total}
use Rattle.std.proofs.lemmas.Map.Text.{is_eq-slice_cmp}
use Rattle.std.proofs.lemmas.Slice.Eq.{bytes_eq-Decides}
use Rattle.judge_object.specs.Rules.{Rules}
use Rattle.judge_object.specs.declared.line.Line.{Line}
use Rattle.judge_object.specs.Orders.{IsLinearizable}
use Rattle.judge_search.specs.Calls.{call_of, calls_of}
use Rattle.judge_search.specs.Walk.{IsWhole, IsTimed}
use Rattle.judge_text.specs.Many.{part}
use Rattle.judge_text.specs.Runs.{name_at, lines_for, run_in, IsRunFor, AreRunsByName}
use Rattle.judge_text.specs.ByObject.{HasSearched, HasSearchedOne, HaveSearched, IsNoneOf, steps_of}
use Rattle.judge_text.specs.ByObject.{IsNameBefore, IsBlocked, IsOpen, AreDoneBefore, IsFirstBlocked, IsFirstOpen}
use Rattle.judge_text.specs.declared.parts.Blocked.{Blocked}
use Rattle.judge_text.specs.declared.parts.Undecided.{Undecided}
use Rattle.judge_search.proofs.Places.{times_of, turns_of, precedence_of}
use Rattle.judge_text.proofs.OfOne.{named, turn_part, each_part}
use Rattle.judge_text.proofs.Beginnings.{vec_cmp, set_finds}

module _ {O : Type 0} (name : O → List ℕ) where
  -- the calls for an object are those of its lines
  pub part_lines : (k : List ℕ) (ls : List (Line O)) → part name k (calls_of ls) ≡ calls_of (lines_for name k ls)
  part_lines k [] = refl
  part_lines k (l ∷ ls) = go (bytes_eq (name l.op) k) (part_lines k ls)
    where
      go : (b : Bool) → part name k (calls_of ls) ≡ calls_of (lines_for name k ls) →
          cond b (call_of l ∷ part name k (calls_of ls)) (part name k (calls_of ls)) ≡
          calls_of (cond b (l ∷ lines_for name k ls) (lines_for name k ls))
      go true h = ap (λ x. call_of l ∷ x) h
      go false h = h

  pub for_append : (k : List ℕ) (a b : List (Line O)) →
      lines_for name k (a ++ b) ≡ lines_for name k a ++ lines_for name k b
  for_append k [] b = refl
  for_append k (l ∷ a) b = go (bytes_eq (name l.op) k) (for_append k a b)
    where
      go : (c : Bool) → lines_for name k (a ++ b) ≡ lines_for name k a ++ lines_for name k b →
          cond c (l ∷ lines_for name k (a ++ b)) (lines_for name k (a ++ b)) ≡
          cond c (l ∷ lines_for name k a) (lines_for name k a) ++ lines_for name k b
      go true h = ap (λ x. l ∷ x) h
      go false h = h

  -- if no line is for an object it has none
  pub for_none : (k : List ℕ) (ls : List (Line O)) → ((j : ℕ) (d : Line O) → j < length ls → name_at name ls j d ≢ k) →
      lines_for name k ls ≡ []
  for_none k [] h = refl
  for_none k (l ∷ ls) h =
      elim (named (name l.op) k) [
        | inl n ↦ absurd (h 0 l (omega arith) n.1)
        | inr n ↦ rw n.0 (for_none k ls (λ j d x. h (suc j) d (omega arith)))
      ]

false_true : false ≡ true → ⊥
false_true e = cc

-- a name that finds a run has a key
record HasKey {K V : Type 0} (test : K → Bool) (entries : List (K × V)) : Type 0 where
  key : K
  passes : test key ≡ true

has_key : {K V : Type 0} (test : K → Bool) (entries : List (K × V)) (value : V) →
    lookup test entries ≡ Some value → HasKey test entries
has_key test [] value e = cc
has_key {K} {V} test (entry ∷ entries) value e = go (test entry.0) refl (has_key test entries value)
  where
    go : (b : Bool) → test entry.0 ≡ b → (lookup test entries ≡ Some value → HasKey test entries) →
        HasKey test (entry ∷ entries)
    go true t later = record { key = entry.0; passes = t }
    go false t later =
        let h = later (rw t at e) in
        record { key = h.key; passes = h.passes }

-- the run of the first name was taken out
pub record IsTaken {O : Type 0} (left rest : BTreeMap (Vec ℕ) (Vec (Line O))) (for : List ℕ) (run : Vec (Line O)) :
    Type 0 where
  pub own : run_in left for ≡ Some run
  pub gone : run_in rest for ≡ None
  pub others : (k : List ℕ) → k ≢ for → run_in rest k ≡ run_in left k
  pub least : (k : List ℕ) → IsNameBefore k for → run_in left k ≡ None

module _ {O : Type 0} (left rest : BTreeMap (Vec ℕ) (Vec (Line O))) where
  turned : (r t : Ordering) → t ≡ ordering_reverse r → is_lt r ≡ true → is_gt t ≡ false → ⊥
  turned Less t e f g = false_true (sym g ∙ ap is_gt e)
  turned Equal t e f g = false_true f
  turned Greater t e f g = false_true f

  first : (key : Vec ℕ) → IsLowerBound vec_cmp left key → (k : List ℕ) → IsNameBefore k key.items →
      (found : Option (Vec (Line O))) → run_in left k ≡ found → run_in left k ≡ None
  first key low k before None e = e
  first key low k before (Some run) e =
      let at = has_key (is_at (λ (other : Vec ℕ). slice_cmp nat_cmp k other.items)) left.entries run e in
      let same : k ≡ at.key.items = (bytes_eq-Decides k at.key.items).0
      (sym (is_eq-slice_cmp k at.key.items) ∙ at.passes) in
      let here : run_in left at.key.items ≡ Some run = subst (λ j. run_in left j ≡ Some run) same e in
      let bound : is_gt (slice_cmp nat_cmp key.items at.key.items) ≡ false =
      low at.key (subst IsSome (sym here) refl) in
      absurd (turned (slice_cmp nat_cmp k key.items) (slice_cmp nat_cmp key.items k)
      (nat_list_cmp_total.antisymm key.items k) before
      (subst (λ j. is_gt (slice_cmp nat_cmp key.items j) ≡ false) (sym same) bound))

  pub is_taken : (key : Vec ℕ) (run : Vec (Line O)) → get vec_cmp left key ≡ Some run →
      IsLowerBound vec_cmp left key → Updates vec_cmp left rest key None → IsTaken left rest key.items run
  is_taken key run own low u = record {
    own = own;
    gone = u.1;
    others = λ k n. set_finds left rest key None u k n;
    least = λ k before. first key low k before (run_in left k) refl;
  }

-- an object's lines are all left, or none is and its calls have a linearization
abbrev pub AreJudged : {T O R : Type 0} → Rules T O R → (O → List ℕ) → (List ℕ → T) → List (Line O) →
    BTreeMap (Vec ℕ) (Vec (Line O)) → Type 0
AreJudged {T} {O} Y name s lines left = (k : List ℕ) →
    ((run : Vec (Line O)) × (run_in left k ≡ Some run) × (run.items ≡ lines_for name k lines))
    ⊎ ((run_in left k ≡ None) × IsLinearizable Y (s k) (part name k (calls_of lines)))

module _ {T O R : Type 0} (Y : Rules T O R) (name : O → List ℕ) where
  -- none of the lines for these objects is left
  abbrev pub Gone : BTreeMap (Vec ℕ) (Vec (Line O)) → List (List ℕ × ℕ) → Type 0
  Gone left [] = ⊤
  Gone left (one ∷ others) = (run_in left one.0 ≡ None) × Gone left others

  no_calls : (s : T) → IsLinearizable Y s []
  no_calls s = record {
    order = [];
    orders = record { left = []; merges = λ k. refl; never = tt };
    linearization = record {
      replies = tt;
      times = times_of [] tt;
      clients = turns_of [] tt;
      precedence = precedence_of [] tt tt;
    };
  }

  -- no object has been judged
  pub judged_none : (s : List ℕ → T) (lines : List (Line O)) (runs : BTreeMap (Vec ℕ) (Vec (Line O))) →
      AreRunsByName name lines runs → AreJudged Y name s lines runs
  judged_none s lines runs h k = go (run_in runs k) refl (h k)
    where
      go : (found : Option (Vec (Line O))) → run_in runs k ≡ found → IsRunFor found (lines_for name k lines) →
          ((run : Vec (Line O)) × (run_in runs k ≡ Some run) × (run.items ≡ lines_for name k lines))
          ⊎ ((run_in runs k ≡ None) × IsLinearizable Y (s k) (part name k (calls_of lines)))
      go None e none =
          inr (e, subst (IsLinearizable Y (s k)) (sym (part_lines name k lines ∙ ap calls_of none)) (no_calls (s k)))
      go (Some run) e has = inl (run, e, has)

  some_same : (a b : Vec (Line O)) → Some a ≡ Some b → a ≡ b
  some_same a b e = cc

  some_none : (a : Vec (Line O)) → Some a ≡ None → ⊥
  some_none a e = cc

  -- the run that was taken out has all lines for its object
  pub run_lines : (s : List ℕ → T) (all : List (Line O)) (left rest : BTreeMap (Vec ℕ) (Vec (Line O)))
      (for : List ℕ) (run : Vec (Line O)) → IsTaken left rest for run → AreJudged Y name s all left →
      lines_for name for all ≡ run.items
  run_lines s all left rest for run h j =
      elim (j for) [
        | inl found ↦ sym found.2 ∙ ap (λ (r : Vec (Line O)). r.items)
            (some_same found.0 run (sym found.1 ∙ h.own))
        | inr none ↦ absurd (some_none run (sym h.own ∙ none.0))
      ]

  run_calls : (s : List ℕ → T) (all : List (Line O)) (left rest : BTreeMap (Vec ℕ) (Vec (Line O)))
      (for : List ℕ) (run : Vec (Line O)) → IsTaken left rest for run → AreJudged Y name s all left →
      part name for (calls_of all) ≡ calls_of run.items
  run_calls s all left rest for run h j =
      part_lines name for all ∙ ap calls_of (run_lines s all left rest for run h j)

  -- whose calls are in turn
  pub run_whole : (s : List ℕ → T) (all : List (Line O)) (left rest : BTreeMap (Vec ℕ) (Vec (Line O)))
      (for : List ℕ) (run : Vec (Line O)) → IsWhole (calls_of all) → IsTaken left rest for run →
      AreJudged Y name s all left → IsWhole (calls_of run.items)
  run_whole s all left rest for run w h j =
      subst IsWhole (run_calls s all left rest for run h j) (record {
        turn = turn_part name for (calls_of all) w.turn;
        last = w.last;
        timed = each_part name (IsTimed w.last) for (calls_of all) w.timed;
      })

  -- one more object has been judged
  pub judged_more : (s : List ℕ → T) (all : List (Line O)) (left rest : BTreeMap (Vec ℕ) (Vec (Line O)))
      (for : List ℕ) (run : Vec (Line O)) → IsTaken left rest for run → AreJudged Y name s all left →
      IsLinearizable Y (s for) (calls_of run.items) → AreJudged Y name s all rest
  judged_more s all left rest for run h j good k =
      elim (named k for) [
        | inl n ↦
            inr (
              ap (run_in rest) n.1 ∙ h.gone,
              subst (λ i. IsLinearizable Y (s i) (part name i (calls_of all))) (sym n.1)
                  (subst (IsLinearizable Y (s for)) (sym (run_calls s all left rest for run h j)) good),
            )
        | inr n ↦
            elim (j k) [
              | inl found ↦ inl (found.0, h.others k n.1 ∙ found.1, found.2)
              | inr none ↦ inr (h.others k n.1 ∙ none.0, none.1)
            ]
      ]

  -- an object of which no line is left has a linearization
  judged_one : (s : List ℕ → T) (all : List (Line O)) (left : BTreeMap (Vec ℕ) (Vec (Line O))) (k : List ℕ) →
      run_in left k ≡ None → AreJudged Y name s all left → IsLinearizable Y (s k) (part name k (calls_of all))
  judged_one s all left k none j =
      elim (j k) [
        | inl found ↦ absurd (some_none found.0 (sym found.1 ∙ none))
        | inr good ↦ good.1
      ]

  -- all with an earlier name have been judged
  pub done_before : (s : List ℕ → T) (all : List (Line O)) (left rest : BTreeMap (Vec ℕ) (Vec (Line O)))
      (for : List ℕ) (run : Vec (Line O)) → IsTaken left rest for run → AreJudged Y name s all left →
      AreDoneBefore Y name s all for
  done_before s all left rest for run h j k before = judged_one s all left k (h.least k before) j

  -- the object of the run is the first that has no linearization
  pub judged_bad : (s : List ℕ → T) (all : List (Line O)) (left rest : BTreeMap (Vec ℕ) (Vec (Line O)))
      (for : List ℕ) (run : Vec (Line O)) (b : Blocked O T) → IsTaken left rest for run →
      AreJudged Y name s all left → IsBlocked Y (s for) run.items b → IsFirstBlocked Y name s all b
  judged_bad s all left rest for run b h j bad = record {
    for = for;
    before = done_before s all left rest for run h j;
    is = subst (λ ls. IsBlocked Y (s for) ls b) (sym (run_lines s all left rest for run h j)) bad;
  }

  -- the searches so far: of other objects than are left, and with the steps that they left
  pub record IsSpent (s : List ℕ → T) (steps : ℕ) (all : List (Line O)) (left : BTreeMap (Vec ℕ) (Vec (Line O)))
      (rest : ℕ) : Type 0 where
    pub others : List (List ℕ × ℕ)
    pub searched : HaveSearched Y name s all others
    pub gone : Gone left others
    pub sum : rest + steps_of others ≡ steps

  pub spent_none : (s : List ℕ → T) (steps : ℕ) (all : List (Line O)) (left : BTreeMap (Vec ℕ) (Vec (Line O))) →
      IsSpent s steps all left steps
  spent_none s steps all left = record {
    others = [];
    searched = tt;
    gone = tt;
    sum = omega arith;
  }

  none_left : (for : List ℕ) (left : BTreeMap (Vec ℕ) (Vec (Line O))) (run : Vec (Line O))
      (others : List (List ℕ × ℕ)) → run_in left for ≡ Some run → Gone left others → IsNoneOf for others
  none_left for left run [] own h = tt
  none_left for left run (one ∷ others) own h = (
    (λ e. some_none run (sym own ∙ ap (run_in left) (sym e) ∙ h.0)),
    none_left for left run others own h.1,
  )

  gone_further : (left rest : BTreeMap (Vec ℕ) (Vec (Line O))) (for : List ℕ) (run : Vec (Line O)) →
      IsTaken left rest for run → (others : List (List ℕ × ℕ)) → IsNoneOf for others → Gone left others →
      Gone rest others
  gone_further left rest for run h [] n g = tt
  gone_further left rest for run h (one ∷ others) n g = (
    h.others one.0 n.0 ∙ g.0,
    gone_further left rest for run h others n.1 g.1,
  )

  searched_run : (s : List ℕ → T) (all : List (Line O)) (left rest : BTreeMap (Vec ℕ) (Vec (Line O)))
      (for : List ℕ) (run : Vec (Line O)) (made : ℕ) → IsTaken left rest for run → AreJudged Y name s all left →
      HasSearched Y (s for) run.items made → HasSearchedOne Y name s all (for, made)
  searched_run s all left rest for run made h j searched =
      subst (λ ls. HasSearched Y (s for) ls made) (sym (run_lines s all left rest for run h j)) searched

  -- one search more
  pub spent_more : (s : List ℕ → T) (steps : ℕ) (all : List (Line O)) (left rest : BTreeMap (Vec ℕ) (Vec (Line O)))
      (for : List ℕ) (run : Vec (Line O)) (more made : ℕ) → IsTaken left rest for run →
      AreJudged Y name s all left → IsSpent s steps all left more → made ≤ more →
      HasSearched Y (s for) run.items made → IsSpent s steps all rest (more - made)
  spent_more s steps all left rest for run more made h j spent within searched =
      let none = none_left for left run spent.others h.own spent.gone in
      record {
        others = (for, made) ∷ spent.others;
        searched = (searched_run s all left rest for run made h j searched, none, spent.searched);
        gone = (h.gone, gone_further left rest for run h spent.others none spent.gone);
        sum = let e = spent.sum in omega arith;
      }

  -- or the first that is undecided
  pub judged_open : (s : List ℕ → T) (steps : ℕ) (all : List (Line O)) (left rest : BTreeMap (Vec ℕ) (Vec (Line O)))
      (for : List ℕ) (run : Vec (Line O)) (more : ℕ) (u : Undecided O) → IsTaken left rest for run →
      AreJudged Y name s all left → IsSpent s steps all left more → IsOpen Y (s for) more run.items u →
      IsFirstOpen Y name s steps all u
  judged_open s steps all left rest for run more u h j spent is_open = record {
    for = for;
    before = done_before s all left rest for run h j;
    others = spent.others;
    searched = spent.searched;
    apart = none_left for left run spent.others h.own spent.gone;
    own = more;
    spent = spent.sum;
    is = subst (λ ls. IsOpen Y (s for) more ls u) (sym (run_lines s all left rest for run h j)) is_open;
  }

  -- all have been judged
  pub judged_all : (s : List ℕ → T) (all : List (Line O)) (left : BTreeMap (Vec ℕ) (Vec (Line O))) →
      left.entries ≡ [] → AreJudged Y name s all left → (k : List ℕ) →
      IsLinearizable Y (s k) (part name k (calls_of all))
  judged_all s all left e j k =
      judged_one s all left k
      (ap (lookup (is_at (λ (key : Vec ℕ). slice_cmp nat_cmp k key.items))) e) j
