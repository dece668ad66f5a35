-- A script that runs over a manager, line by line.
use Rattle.std.proofs.Common.{◌≡◌, ℕ, false, List, [], ◌∷◌, ◌++◌, length, map, take, drop, refl, ap, sym, ◌∙◌, subst}
use Rattle.std.proofs.Common.{append-nil, append_assoc, take-append-drop, Option, Some, None, IfSome, Result, Ok, Err}
use Rattle.std.proofs.Common.{arith, lt-ltb, nat_lt, inl, inr}
use Rattle.std.proofs.lemmas.Bool.{cases_lt}
use Rattle.std.specs.Io.KnownBytes.{Appends, Consumes}
use Rattle.std.proofs.KnownBytes.{Consumes-nil, Appends-nil, Appends-trans}
use Rattle.stm_region.specs.Shown.{RegionShown}
use Rattle.vac_model.specs.State.{State, empty_state}
use Rattle.vac_model.specs.declared.tasks.Task.{Task}
use Rattle.vac_lines.specs.declared.fault.LineFault.{LineFault}
use Rattle.vac_lines.specs.Lines.{lines_of}
use Rattle.vac_lines.specs.LineTable.{line_task}
use Rattle.vac_lines.specs.Script.{answer, script, script_out, script_state}
use Rattle.vac_lines.specs.Text.{Extends}
use Rattle.vac_lines.specs.Writing.{AppendsPrefix}
use Rattle.vac_lines.proofs.Extends.{extends_more, extends_longer}
use Rattle.vac_manager.specs.Legal.{capacity_of}
use Rattle.vac_manager.specs.Called.{ClientShown}
use Rattle.vac_manager.specs.Called.{CallerShown}
use Rattle.vac_lines.specs.declared.stream_fault.StreamFault.{StreamFault}
use Rattle.vac_lines.specs.declared.next.Next.{Next}
use Rattle.vac_lines.specs.declared.next.Next.TheVariants.{GoOn, Stop}
use Rattle.vac_lines.specs.Told.{Message, Line, LongLine, Pause, message_of, line_messages, lines_in}
use Rattle.vac_lines.specs.Heard.{ReceivedAll, ReceivedLast, AreFirst, AreFirstOf, HeardAll, Heard}
use Rattle.vac_lines.specs.Sent.{Sent}
use Rattle.vac_lines.proofs.Telling.{lines_both, first_of_read, first_of_input}
use Rattle.vac_lines.proofs.Texts.{sent_nothing, sent_hand, sent_text, sent_both, sent_end}
use Rattle.cli_script.specs.Script.{WroteAll, WrotePrefix}
use Rattle.cli_script.specs.System.{StandsInState, RanScript, IsNew}
use Rattle.cli_script.specs.Hearing.{told_task, AnsweredCut, HearsLine, HearsPause, Hears}

-- the tasks of what was told
abbrev pub tasks : List Message → List (Result Task LineFault)
tasks told = map told_task told

-- the output lines of what was told, from a state on, and the state that it leaves
abbrev pub answers : State → List Message → List ℕ
answers s told = (script s (tasks told)).1

abbrev pub leaves : State → List Message → State
leaves s told = (script s (tasks told)).0

-- a line that is not too long is told
short_told : (line : List ℕ) → nat_lt 1024 (length line) ≡ false → message_of 1024 line ≡ Line line
short_told line e = rw e refl

-- a line that is told asks for the task of the line
one_task : (line : List ℕ) → told_task (message_of 1024 line) ≡ line_task line
one_task line =
    elim (cases_lt 1024 (length line)) [
      | inl h ↦ rw (lt-ltb 1024 (length line) h) refl
      | inr h ↦ let short : nat_lt 1024 (length line) ≡ false = grind (arith) in ap told_task (short_told line short)
    ]

all_tasks : (lines : List (List ℕ)) → map told_task (map (message_of 1024) lines) ≡ map line_task lines
all_tasks [] = refl
all_tasks (line ∷ more) = ap (λ t. t ∷ map told_task (map (message_of 1024) more)) (one_task line)
    ∙ ap (λ t. line_task line ∷ t) (all_tasks more)

-- what a script writes and leaves is that of the lines that are told of it
out_told : (n : ℕ) (text : List ℕ) → script_out n text ≡ answers (empty_state n) (line_messages 1024 text)
out_told n text = ap (λ t. (script (empty_state n) t).1) (sym (all_tasks (lines_of text)))

state_told : (n : ℕ) (text : List ℕ) → script_state n text ≡ leaves (empty_state n) (line_messages 1024 text)
state_told n text = ap (λ t. (script (empty_state n) t).0) (sym (all_tasks (lines_of text)))

-- lines behind others
answers_both : (s : State) (a b : List Message) → answers s (a ++ b) ≡ answers s a ++ answers (leaves s a) b
answers_both s [] b = refl
answers_both s (x ∷ a) b =
    let first = answer s (told_task x) in
    ap (λ t. first.1 ++ t) (answers_both first.0 a b)
    ∙ sym (append_assoc first.1 (answers first.0 a) (answers (leaves first.0 a) b))

-- a prefix of what the first lines of a text answer is one of the script's output
of_first : (n : ℕ) (lines : List Message) (text written : List ℕ) → AreFirst 1024 lines text
    → Extends written (answers (empty_state n) lines) → Extends written (script_out n text)
of_first n lines text written f e =
    subst (Extends written) (sym (out_told n text ∙ ap (answers (empty_state n)) f.1
    ∙ answers_both (empty_state n) lines f.0))
    (extends_longer written (answers (empty_state n) lines) (answers (leaves (empty_state n) lines) f.0) e)

of_input : (n : ℕ) (lines : List Message) (written : List ℕ) (unread : Option (List ℕ))
    → IfSome unread (λ input. AreFirst 1024 lines input) → Extends written (answers (empty_state n) lines)
    → IfSome unread (λ input. Extends written (script_out n input))
of_input n lines written None f e = tt
of_input n lines written (Some input) f e = of_first n lines input written f e

-- what was written is a prefix of what the lines so far answer
pub wrote_prefix : (n : ℕ) (unread left held holds : Option (List ℕ)) (bytes text : List ℕ) (lines : List Message)
    → Consumes unread left bytes → AreFirstOf 1024 lines bytes left
    → Appends held holds text → Extends text (answers (empty_state n) lines) → WrotePrefix n unread left held holds
wrote_prefix n unread left held holds bytes text lines c f w e = record {
  bytes = bytes;
  consumed = c;
  text = text;
  written = w;
  of_read = of_first n lines bytes text (first_of_read 1024 lines bytes left f) e;
  of_input = of_input n lines text unread (first_of_input 1024 lines bytes unread left c f) e;
}

extends_nil : (text : List ℕ) → Extends [] text
extends_nil text = refl

-- nothing was read and nothing was written
pub wrote_nothing : (n : ℕ) (unread held : Option (List ℕ)) → WrotePrefix n unread unread held held
wrote_nothing n unread held =
    wrote_prefix n unread unread held held [] [] [] (Consumes-nil unread) (inr (λ x. (line_messages 1024 x, refl)))
    (Appends-nil held) refl

extends_behind : (prefix xs ys : List ℕ) → Extends xs ys → Extends (prefix ++ xs) (prefix ++ ys)
extends_behind [] xs ys h = h
extends_behind (x ∷ prefix) xs ys h = ap (λ t. x ∷ t) (extends_behind prefix xs ys h)

module _ {S O : Type 0} (system : S → CallerShown) (out : S → List ℕ) (contents : O → Option (List ℕ)) where
  -- what being told something makes of a script and its output
  abbrev hears : S → O → Message → Result Next StreamFault → S → O → Type 0
  hears x o told answer y p = Hears (system x) (out x) (contents o) told answer (system y) (out y) (contents p)

  -- the script ran these lines
  record RanLines (x : S) (o : O) (lines : List Message) (y : S) (p : O) : Type 0 where
    pub same : (system y).shared ≡ (system x).shared
    pub stands : (s : State) → StandsInState (system x) s → StandsInState (system y) (leaves s lines)
    pub sent : (s : State) → StandsInState (system x) s → Sent (contents o) (contents p) (out x) (out y)
        (answers s lines)

  ran_nothing : (x : S) (o : O) → RanLines x o [] x o
  ran_nothing x o = record { same = refl; stands = λ s h. h; sent = λ s h. sent_nothing (contents o) (out x) }

  -- a line first
  ran_line : (x : S) (o : O) (line : Message) (lines : List Message) (u : S) (q : O) (y : S) (p : O)
      → HearsLine (system x) (out x) (contents o) (told_task line) (Ok GoOn) (system u) (out u) (contents q)
      → RanLines u q lines y p → RanLines x o (line ∷ lines) y p
  ran_line x o line lines u q y p h r = record {
    same = r.same ∙ h.1.goes.same;
    stands = λ s st. r.stands (answer s (told_task line)).0 (h.1.state s st);
    sent = λ s st. (
        let first = answer s (told_task line) in
        let one = subst (λ z. Sent (contents o) z (out x) (out u) first.1) (sym h.2)
        (sent_text (contents o) (contents o) (out x) (out u) (out u) first.1 (h.1.text s st)
        (sent_nothing (contents o) (out u))) in
        sent_both (contents o) (contents q) (contents p) (out x) (out u) (out y) first.1 (answers first.0 lines) one
        (r.sent first.0 (h.1.state s st))
        );
  }

  -- a pause first
  ran_pause : (x : S) (o : O) (lines : List Message) (u : S) (q : O) (y : S) (p : O)
      → HearsPause (system x) (out x) (contents o) (Ok GoOn) (system u) (out u) (contents q)
      → RanLines u q lines y p → RanLines x o lines y p
  ran_pause x o lines u q y p h r = record {
    same = r.same ∙ ap (λ z. z.shared) h.1;
    stands = λ s st. r.stands s (subst (λ z. StandsInState z s) (sym h.1) st);
    sent = λ s st. sent_both (contents o) (contents q) (contents p) (out x) (out u) (out y) [] (answers s lines)
        (sent_hand (contents o) (contents q) (out x) (out u) h.3 h.2)
        (r.sent s (subst (λ z. StandsInState z s) (sym h.1) st));
  }

  -- all that was told
  ran_told : (x : S) (o : O) (told : List Message) (y : S) (p : O) → ReceivedAll hears x o told y p
      → RanLines x o (lines_in told) y p
  ran_told x o [] y p h = subst (λ z. RanLines x o [] z p) (sym h.0)
      (subst (λ z. RanLines x o [] x z) (sym h.1) (ran_nothing x o))
  ran_told x o (Line text ∷ told) y p h = ran_line x o (Line text) (lines_in told) h.0 h.1 y p h.2
      (ran_told h.0 h.1 told y p h.3)
  ran_told x o (LongLine ∷ told) y p h = ran_line x o LongLine (lines_in told) h.0 h.1 y p h.2
      (ran_told h.0 h.1 told y p h.3)
  ran_told x o (Pause ∷ told) y p h = ran_pause x o (lines_in told) h.0 h.1 y p h.2 (ran_told h.0 h.1 told y p h.3)

  -- what was written is a prefix of what these lines answer
  record CutLines (x : S) (o : O) (lines : List Message) (p : O) (s : State) : Type 0 where
    pub text : List ℕ
    pub written : Appends (contents o) (contents p) text
    pub prefix : Extends text (out x ++ answers s lines)

  cut_sent : (x : S) (o : O) (lines : List Message) (y : S) (p : O) (s : State)
      → Sent (contents o) (contents p) (out x) (out y) (answers s lines) → CutLines x o lines p s
  cut_sent x o lines y p s h = record {
    text = h.front;
    written = h.written;
    prefix = extends_more h.front
        (out x ++ answers s lines) (out y) h.all;
  }

  -- a line of which no more than a part was written
  cut_line : (x : S) (o : O) (lines : List Message) (line : Message) (u : S) (q : O) (p : O) (s : State)
      → RanLines x o lines u q → AnsweredCut (system u) (out u) (contents q) (contents p) (told_task line)
      → StandsInState (system x) s → CutLines x o (lines ++ line ∷ []) p s
  cut_line x o lines line u q p s r h st =
      let sent = r.sent s st in
      let last = (answer (leaves s lines) (told_task line)).1 in
      let whole : out x ++ answers s (lines ++ line ∷ []) ≡ sent.front ++ (out u ++ last) =
      ap (λ t. out x ++ t) (answers_both s lines (line ∷ []) ∙ ap (λ t. answers s lines ++ t) (append-nil last))
      ∙ sym (append_assoc (out x) (answers s lines) last)
      ∙ ap (λ t. t ++ last) sent.all ∙ append_assoc sent.front (out u) last in
      record {
        text = sent.front ++ h.text;
        written = Appends-trans (contents o) (contents q) (contents p) sent.front h.text sent.written h.written;
        prefix = subst (Extends (sent.front ++ h.text)) (sym whole)
            (extends_behind sent.front h.text (out u ++ last) (h.on (leaves s lines) (r.stands s st)));
      }

  -- what was at hand was written in part
  cut_pause : (x : S) (o : O) (lines : List Message) (u : S) (q : O) (p : O) (s : State) → RanLines x o lines u q
      → AppendsPrefix (contents q) (contents p) (out u) → StandsInState (system x) s → CutLines x o lines p s
  cut_pause x o lines u q p s r h st =
      let sent = r.sent s st in
      record {
        text = sent.front ++ take h.0 (out u);
        written = Appends-trans (contents o) (contents q) (contents p) sent.front (take h.0 (out u)) sent.written h.1;
        prefix = extends_more (sent.front ++ take h.0 (out u)) (out x ++ answers s lines) (drop h.0 (out u))
            (sent.all ∙ ap (λ t. sent.front ++ t) (sym (take-append-drop h.0 (out u)))
            ∙ sym (append_assoc sent.front (take h.0 (out u)) (drop h.0 (out u))));
      }

  -- the script ended by a fault at what was told last
  cut_last : (x : S) (o : O) (before : List Message) (last : Message) (fault : StreamFault) (u : S) (q : O) (y : S)
      (p : O)
      (s : State) → ReceivedAll hears x o before u q → hears u q last (Err fault) y p → StandsInState (system x) s
      → CutLines x o (lines_in (before ++ last ∷ [])) p s
  cut_last x o before (Line text) fault u q y p s h k st =
      subst (λ l. CutLines x o l p s) (sym (lines_both before (Line text ∷ [])))
      (cut_line x o (lines_in before) (Line text) u q p s (ran_told x o before u q h) k st)
  cut_last x o before LongLine fault u q y p s h k st =
      subst (λ l. CutLines x o l p s) (sym (lines_both before (LongLine ∷ [])))
      (cut_line x o (lines_in before) LongLine u q p s (ran_told x o before u q h) k st)
  cut_last x o before Pause fault u q y p s h k st =
      subst (λ l. CutLines x o l p s) (sym (lines_both before (Pause ∷ []) ∙ append-nil (lines_in before)))
      (cut_pause x o (lines_in before) u q p s (ran_told x o before u q h) k st)

  cut_told : (x : S) (o : O) (told : List Message) (fault : StreamFault) (y : S) (p : O) (s : State)
      → ReceivedLast hears x o told (Err fault) y p → StandsInState (system x) s → CutLines x o (lines_in told) p s
  cut_told x o told fault y p s h st =
      subst (λ l. CutLines x o (lines_in l) p s) (sym h.all)
      (cut_last x o h.before h.last fault h.sink h.output y p s h.first h.then st)

  -- no line makes a script stop
  never_stops : (u : S) (q : O) (last : Message) (y : S) (p : O) → hears u q last (Ok Stop) y p → ⊥
  never_stops u q (Line text) y p h = let e : Stop ≡ GoOn = h.0 in cc
  never_stops u q LongLine y p h = let e : Stop ≡ GoOn = h.0 in cc
  never_stops u q Pause y p h = let e : Stop ≡ GoOn = h.0 in cc

  -- the input was read to its end
  heard_all : (next : Next) (unread left : Option (List ℕ)) (x : S) (o : O) (y : S) (p : O)
      → Heard hears 1024 (Ok next) unread left x o y p → HeardAll hears 1024 unread left x o y p
  heard_all GoOn unread left x o y p h = h
  heard_all Stop unread left x o y p h = absurd (never_stops h.heard.sink h.heard.output h.heard.last y p h.heard.then)

  -- it is the same manager
  pub same_manager : (y0 : CallerShown) (next : Next) (unread left : Option (List ℕ)) (x : S) (o : O) (y : S) (p : O)
      → system x ≡ y0 → Heard hears 1024 (Ok next) unread left x o y p
      → (system y).shared ≡ y0.shared
  same_manager y0 next unread left x o y p e k =
      let h = heard_all next unread left x o y p k in
      (ran_told x o h.told y p h.heard).same ∙ ap (λ z. z.shared) e

  -- a new script, with nothing at hand
  record IsFirst (n : ℕ) (x : S) : Type 0 where
    pub stands : StandsInState (system x) (empty_state n)
    pub empty : out x ≡ []

  is_first : (y : CallerShown) (x : S) → IsNew y → system x ≡ y → out x ≡ [] → IsFirst (capacity_of y.shared) x
  is_first y x new e f = record {
    stands = subst (λ z. StandsInState z (empty_state (capacity_of y.shared)))
        (sym e) new.stands;
    empty = f;
  }

  prefix_first : (n : ℕ) (x : S) (o : O) (lines : List Message) (p : O) (unread left : Option (List ℕ)) (bytes : List ℕ)
      → IsFirst n x → Consumes unread left bytes → AreFirstOf 1024 lines bytes left
      → CutLines x o lines p (empty_state n) → WrotePrefix n unread left (contents o) (contents p)
  prefix_first n x o lines p unread left bytes i c f h =
      wrote_prefix n unread left (contents o) (contents p) bytes h.text lines c f h.written
      (subst (λ t. Extends h.text (t ++ answers (empty_state n) lines)) i.empty h.prefix)

  -- the reading ended by a fault
  pub heard_in_part : (y0 : CallerShown) (fault : StreamFault) (unread left : Option (List ℕ)) (x : S) (o : O)
      (y : S) (p : O) → IsNew y0 → system x ≡ y0 → out x ≡ []
      → Heard hears 1024 (Err fault) unread left x o y p
      → WrotePrefix (capacity_of y0.shared) unread left (contents o) (contents p)
  heard_in_part y0 fault unread left x o y p new e f (inl h) =
      let i = is_first y0 x new e f in
      prefix_first (capacity_of y0.shared) x o (lines_in h.told) p unread left h.bytes i h.consumed h.first
      (cut_told x o h.told fault y p (empty_state (capacity_of y0.shared)) h.heard i.stands)
  heard_in_part y0 fault unread left x o y p new e f (inr h) =
      let i = is_first y0 x new e f in
      let r = ran_told x o h.1.told y p h.1.heard in
      prefix_first (capacity_of y0.shared) x o (lines_in h.1.told) p unread left h.1.bytes i h.1.consumed
      (inr h.1.first)
      (cut_sent x o (lines_in h.1.told) y p (empty_state (capacity_of y0.shared))
      (r.sent (empty_state (capacity_of y0.shared)) i.stands))

  -- all was run, and the rest was written in part
  pub rest_in_part : (y0 : CallerShown) (next : Next) (unread left holds : Option (List ℕ)) (hand : List ℕ) (x : S)
      (o : O) (y : S) (p : O) → IsNew y0 → system x ≡ y0 → out x ≡ []
      → Heard hears 1024 (Ok next) unread left x o y p → hand ≡ out y → AppendsPrefix (contents p) holds hand
      → WrotePrefix (capacity_of y0.shared) unread left (contents o) holds
  rest_in_part y0 next unread left holds hand x o y p new e f k g w =
      let h = heard_all next unread left x o y p k in
      let n = capacity_of y0.shared in
      let i = is_first y0 x new e f in
      let sent = (ran_told x o h.told y p h.heard).sent (empty_state n) i.stands in
      let w' = subst (AppendsPrefix (contents p) holds) g w in
      let text = sent.front ++ take w'.0 (out y) in
      let whole : answers (empty_state n) (lines_in h.told) ≡ text ++ drop w'.0 (out y) =
      ap (λ t. t ++ answers (empty_state n) (lines_in h.told)) (sym i.empty) ∙ sent.all
      ∙ ap (λ t. sent.front ++ t) (sym (take-append-drop w'.0 (out y)))
      ∙ sym (append_assoc sent.front (take w'.0 (out y)) (drop w'.0 (out y))) in
      wrote_prefix n unread left (contents o) holds h.bytes text (lines_in h.told) h.consumed
      (inl (h.ended, ([], sym h.lines ∙ sym (append-nil (lines_in h.told)))))
      (Appends-trans (contents o) (contents p) holds sent.front (take w'.0 (out y)) sent.written w'.1)
      (extends_more text (answers (empty_state n) (lines_in h.told)) (drop w'.0 (out y)) whole)

  -- all was run, and the rest was written
  pub ran_all : (y0 : CallerShown) (next : Next) (client : ClientShown) (unread left holds : Option (List ℕ))
      (hand : List ℕ) (x : S) (o : O) (y : S) (p : O) → IsNew y0 → system x ≡ y0 → out x ≡ []
      → Heard hears 1024 (Ok next) unread left x o y p → hand ≡ out y → Appends (contents p) holds hand
      → client ≡ (system y).user
      → RanScript (capacity_of y0.shared) (record { shared = y0.shared; user = client }) unread left (contents o)
      holds
  ran_all y0 next client unread left holds hand x o y p new e f k g w c =
      let h = heard_all next unread left x o y p k in
      let n = capacity_of y0.shared in
      let i = is_first y0 x new e f in
      let r = ran_told x o h.told y p h.heard in
      let sent = subst (λ t. Sent (contents o) (contents p) t (out y) (answers (empty_state n) (lines_in h.told)))
      i.empty (r.sent (empty_state n) i.stands) in
      let stands : StandsInState (system y) (script_state n h.bytes) =
      subst (StandsInState (system y)) (ap (leaves (empty_state n)) h.lines ∙ sym (state_told n h.bytes))
      (r.stands (empty_state n) i.stands) in
      let session : system y ≡ record { shared = y0.shared; user = client } =
      ap (λ m. record { shared = m; user = (system y).user }) (r.same ∙ ap (λ z. z.shared) e)
      ∙ ap (λ d. record { shared = y0.shared; user = d }) (sym c) in
      record {
        bytes = h.bytes;
        consumed = h.consumed;
        ended = h.ended;
        written = subst (Appends (contents o) holds) (ap (answers (empty_state n)) h.lines ∙ sym (out_told n h.bytes))
            (sent_end (contents o) (contents p) holds (out y) (answers (empty_state n) (lines_in h.told)) sent
            (subst (Appends (contents p) holds) g w));
        stands = subst (λ z. StandsInState z (script_state n h.bytes)) session stands;
      }

pub ran_on : (n : ℕ) (shown region : RegionShown) (client : ClientShown) (unread left held holds : Option (List ℕ))
    → shown ≡ region → capacity_of region ≡ n
    → RanScript (capacity_of shown) (record { shared = shown; user = client }) unread left held holds
    → RanScript n (record { shared = region; user = client }) unread left held holds
ran_on n shown region client unread left held holds e k r =
    subst (λ i. RanScript i (record { shared = region; user = client }) unread left held holds) k
    (subst (λ x. RanScript (capacity_of x) (record { shared = x; user = client }) unread left held holds) e r)

pub wrote_all : (n m : ℕ) (y : CallerShown) (unread left held holds : Option (List ℕ)) → m ≡ n
    → RanScript m y unread left held holds → WroteAll n unread left held holds
wrote_all n m y unread left held holds e r = subst (λ k. WroteAll k unread left held holds) e
    (record { bytes = r.bytes; consumed = r.consumed; ended = r.ended; written = r.written })
