-- Lemmas on judging histories of keys and of queues: the states at first, the start file, its end by a fault.
use Rattle.std.proofs.Common.{◌≡◌, ◌∙◌, ℕ, Bool, true, false, List, [], Option, Some, None, ap, sym, subst, refl, inl}
use Rattle.std.proofs.Common.{inr}
use Rattle.std.specs.Prelude.{IsSome, option_map}
use Rattle.std.specs.Borrow.{Bor}
use Rattle.vac_lines.specs.Writing.{AppendsPrefix}
use Rattle.vac_lines.specs.declared.stream_fault.StreamFault.{StreamFault}
use Rattle.vac_lines.specs.declared.stream_fault.StreamFault.TheVariants.{Memory}
use Rattle.judge_text.specs.Program.{HasRead, HasEnded}
use Rattle.judge_text.specs.declared.settings.Settings.{Settings}
use Rattle.judge_text.specs.Starts.{start_of}
use Rattle.judge_text.specs.declared.starts.Starts.{Starts}
use Rattle.judge_text.specs.Classing.{AreOwn}
use Rattle.judge_kv.specs.declared.starting.FirstValues.{FirstValues}
use Rattle.judge_kv.specs.declared.starting.FirstValues.TheVariants.{Given, Fault}
use Rattle.judge_kv.specs.declared.starting.StartFault.{StartFault}
use Rattle.judge_kv.specs.Rules.{Held}
use Rattle.judge_kv.specs.Starting.{value_at_first, IsStartOf, AreFirstValues}
use Rattle.judge_kv.specs.Stores.{Pairs, held_at}
use Rattle.judge_kv.specs.StoreRules.{whole}
use Rattle.judge_kv.specs.StoreWords.{whole_language}
use Rattle.judge_kv.specs.Classes.{name_of, AreStoreObjects}
use Rattle.judge_queue.specs.Rules.{queue}
use Rattle.judge_queue.specs.Words.{queue_language}
use Rattle.judge_options.specs.declared.asked.KeysSettings.{KeysSettings}
use Rattle.cli_common.specs.Ending.{fault_line}
use Rattle.cli_judge.specs.declared.status.TheConstants.{FAULT}
use Rattle.cli_judge.specs.Ending.{EndsWith}
use Rattle.cli_judge.specs.Judging.{NotOpened}
use Rattle.cli_judge.specs.Keys.{JudgesKeys, JudgesStore, JudgesFromFile, ReadsStart, NamesStartFault}
use Rattle.cli_judge.specs.Keys.{JudgesUnstarted, JudgesKeysOf, JudgesKeysUnless, JudgesKeysAsked, start_fault_text}
use Rattle.cli_judge.specs.Keys.{lacks_whole}
use Rattle.cli_judge.specs.Objects.{JudgesQueue, settings_of}
use Rattle.cli_judge.specs.Reporting.{ReportsBeside, ReportsKeysUnless}
use Rattle.cli_judge.proofs.Judgement.{work_in}

-- functions that give the same at each place are the same
same_at_each : {A B : Type 0} (f g : A → B) → ((x : A) → f x ≡ g x) → f ≡ g
same_at_each f g h i x = h x i

-- a start file that was read as this; `of` is what each key has
abbrev pub WasRead : {F : Type 0} → (F → List ℕ → Held) → Option (List ℕ) → Option (List ℕ) → FirstValues F → Type 0
WasRead of file rest read = (text : List ℕ) × HasRead file rest text × AreFirstValues of text read

module _ {how : Settings} {status : ℕ} {unread left held holds : Option (List ℕ)} where
  -- states in which each key begins with what another function has for it
  judges_alike : (s t : List ℕ → Held) → ((key : List ℕ) → s key ≡ t key) →
      JudgesKeys s how status unread left held holds → JudgesKeys t how status unread left held holds
  judges_alike s t same h = subst (λ r. JudgesKeys r how status unread left held holds) (same_at_each s t same) h

  pub judges_without : (starts : Starts Held) (others : Held) → ((key : List ℕ) → start_of starts key ≡ others) →
      others ≡ None → JudgesKeys (start_of starts) how status unread left held holds →
      JudgesKeys (λ key. None) how status unread left held holds
  judges_without starts others same none h =
      judges_alike (start_of starts) (λ key. None) (λ key. same key ∙ none) h

  pub judges_store : (starts : Starts Pairs) (pairs : Pairs) → ((name : List ℕ) → start_of starts name ≡ pairs) →
      HasEnded whole name_of AreStoreObjects whole_language (start_of starts) how status unread left held holds →
      JudgesStore pairs how status unread left held holds
  judges_store starts pairs same h =
      subst (λ r. HasEnded whole name_of AreStoreObjects whole_language r how status unread left held holds)
      (same_at_each (start_of starts) (λ name. pairs) same) h

  pub judges_queue : (starts : Starts (List ℕ)) (numbers : List ℕ) →
      ((name : List ℕ) → start_of starts name ≡ numbers) → numbers ≡ [] →
      HasEnded queue (λ op. []) (λ calls objects. AreOwn objects) queue_language (start_of starts) how
      status unread left held holds → JudgesQueue how status unread left held holds
  judges_queue starts numbers same none h =
      subst (λ r. HasEnded queue (λ op. []) (λ calls objects. AreOwn objects) queue_language r how
      status unread left held holds) (same_at_each (start_of starts) (λ name. []) (λ name. same name ∙ none)) h

  -- the ends of a start file's reading
  keys_from : (starts : Starts Held) (file rest : Option (List ℕ)) (text : List ℕ) → HasRead file rest text →
      IsStartOf text (start_of starts) → JudgesKeys (start_of starts) how status unread left held holds →
      JudgesFromFile false how status file unread left held holds
  keys_from starts file rest text read is h = record {
    rest = rest;
    text = text;
    read = read;
    firsts = is.firsts;
    are = is.are;
    judges = judges_alike (start_of starts) (value_at_first is.firsts) is.begin h;
  }

  store_from : (pairs : Pairs) (file rest : Option (List ℕ)) (text : List ℕ) → HasRead file rest text →
      IsStartOf text (λ key. held_at key pairs) → JudgesStore pairs how status unread left held holds →
      JudgesFromFile true how status file unread left held holds
  store_from pairs file rest text read is h = record {
    rest = rest;
    text = text;
    read = read;
    firsts = is.firsts;
    are = is.are;
    judges = record { pairs = pairs; begin = is.begin; judges = h };
  }

  pub keys_given : (read : FirstValues (Starts Held)) (starts : Starts Held) (file rest : Option (List ℕ)) →
      read ≡ Given starts → WasRead (λ s. start_of s) file rest read →
      JudgesKeys (start_of starts) how status unread left held holds →
      ReadsStart false how status file unread left held holds
  keys_given read starts file rest e was h =
      inl (keys_from starts file rest was.0 was.1 (subst (AreFirstValues (λ s. start_of s) was.0) e was.2) h)

  pub store_given : (read : FirstValues Pairs) (pairs : Pairs) (file rest : Option (List ℕ)) →
      read ≡ Given pairs → WasRead (λ s key. held_at key s) file rest read →
      JudgesStore pairs how status unread left held holds →
      ReadsStart true how status file unread left held holds
  store_given read pairs file rest e was h =
      inl (store_from pairs file rest was.0 was.1 (subst (AreFirstValues (λ s key. held_at key s) was.0) e was.2) h)

  pub file_stopped : (is_whole : Bool) (file : Option (List ℕ)) (fault : StreamFault) → left ≡ unread →
      status ≡ FAULT → AppendsPrefix held holds (fault_line fault) →
      ReadsStart is_whole how status file unread left held holds
  file_stopped is_whole file fault same is h =
      inr (inr (record { fault = fault; input = same; status_is = is; line = h }))

  pub file_fault : (is_whole : Bool) {F : Type 0} (of : F → List ℕ → Held) (read : FirstValues F) (number : ℕ)
      (fault : StartFault) (file rest : Option (List ℕ)) → read ≡ Fault number fault → WasRead of file rest read →
      left ≡ unread → NamesStartFault number fault status held holds →
      ReadsStart is_whole how status file unread left held holds
  file_fault is_whole of read number fault file rest e was same ends =
      elim ends [
        | inl h ↦ inr (inl (record {
          rest = rest;
          text = was.0;
          read = was.1;
          number = number;
          fault = fault;
          is = subst (AreFirstValues of was.0) e was.2;
          input = same;
          ends = h;
        }))
        | inr h ↦ file_stopped is_whole file Memory same h.0 h.1
      ]

-- the fault of a line was named by its text
pub names_line : (status : ℕ) (held holds : Option (List ℕ)) (number : ℕ) (fault : StartFault) (text : List ℕ) →
    text ≡ start_fault_text number fault → EndsWith 1 text status held holds →
    NamesStartFault number fault status held holds
names_line status held holds number fault text is h = inl (subst (λ t. EndsWith 1 t status held holds) is h)

-- ---- with and without a start file

none_some : {A : Type 0} (a : A) → None ≡ Some a → ⊥
none_some a e = cc

some_same : {A : Type 0} (a b : A) → Some a ≡ Some b → a ≡ b
some_same a b e = cc

module _ (files : List ℕ → Option (List ℕ)) (is_whole : Bool) (how : Settings) (status : ℕ)
    (unread left held middle holds : Option (List ℕ)) where
  no_file : (name : Option (Bor (List ℕ))) → None ≡ work_in files name → middle ≡ held →
      JudgesUnstarted is_whole how status unread left middle holds →
      JudgesKeysOf files name is_whole how status unread left held holds
  no_file None is same h = subst (λ m. JudgesUnstarted is_whole how status unread left m holds) same h
  no_file (Some name) is same h = absurd (none_some (files name.now) is)

  one_file : (name : Option (Bor (List ℕ))) (file : Option (List ℕ)) → Some file ≡ work_in files name →
      middle ≡ held → ReadsStart is_whole how status file unread left middle holds →
      JudgesKeysOf files name is_whole how status unread left held holds
  one_file None file is same h = absurd (none_some file (sym is))
  one_file (Some name) file is same h =
      inl (subst (λ m. ReadsStart is_whole how status (files name.now) unread left m holds) same
      (subst (λ f. ReadsStart is_whole how status f unread left middle holds) (some_same file (files name.now) is) h))

  -- no file was named, or the one that was named was opened; `of` is what a file has
  pub of_no_file : {X : Type 0} (of : X → Option (List ℕ)) (file : Option X) (name : Option (Bor (List ℕ))) →
      file ≡ None → option_map of file ≡ work_in files name → middle ≡ held →
      JudgesUnstarted is_whole how status unread left middle holds →
      JudgesKeysOf files name is_whole how status unread left held holds
  of_no_file {X} of file name none is same h = no_file name (sym (ap (option_map of) none) ∙ is) same h

  pub of_file : {X : Type 0} (of : X → Option (List ℕ)) (file : Option X) (x : X) (name : Option (Bor (List ℕ))) →
      file ≡ Some x → option_map of file ≡ work_in files name → middle ≡ held →
      ReadsStart is_whole how status (of x) unread left middle holds →
      JudgesKeysOf files name is_whole how status unread left held holds
  of_file {X} of file x name some is same h = one_file name (of x) (sym (ap (option_map of) some) ∙ is) same h

-- the file that was named was not opened
pub of_unopened : (files : List ℕ → Option (List ℕ)) (is_whole : Bool) (how : Settings) (status : ℕ)
    (unread held holds : Option (List ℕ)) (name : Option (Bor (List ℕ))) → IsSome name → NotOpened status held holds →
    JudgesKeysOf files name is_whole how status unread unread held holds
of_unopened files is_whole how status unread held holds None some not =
    absurd (let k : false ≡ true = some in cc)
of_unopened files is_whole how status unread held holds (Some name) some not = inr (refl, not)

-- ---- a command line that is refused, or is not

pub keys_refused : (files : List ℕ → Option (List ℕ)) (how : KeysSettings) (status : ℕ)
    (unread held : Option (List ℕ)) → lacks_whole how ≡ true → status ≡ 2 →
    JudgesKeysAsked files how status unread unread held held
keys_refused files how status unread held is refused =
    subst (λ b. JudgesKeysUnless b files how status unread unread held held) (sym is) (refused, refl, refl)

pub keys_asked : (files : List ℕ → Option (List ℕ)) (how : KeysSettings) (status : ℕ)
    (unread left held holds : Option (List ℕ)) → lacks_whole how ≡ false →
    JudgesKeysOf files how.start how.whole (settings_of how.search) status unread left held holds →
    JudgesKeysAsked files how status unread left held holds
keys_asked files how status unread left held holds is h =
    subst (λ b. JudgesKeysUnless b files how status unread left held holds) (sym is) h

pub report_refused : (how : KeysSettings) (status : ℕ) (told tells : Option (List ℕ)) →
    lacks_whole how ≡ true → ReportsKeysUnless (lacks_whole how) how.search status told tells
report_refused how status told tells is =
    subst (λ b. ReportsKeysUnless b how.search status told tells) (sym is) tt

pub report_asked : (how : KeysSettings) (status : ℕ) (told tells : Option (List ℕ)) → lacks_whole how ≡ false →
    ReportsBeside how.search.progress how.search.stats false status told tells →
    ReportsKeysUnless (lacks_whole how) how.search status told tells
report_asked how status told tells is report =
    subst (λ b. ReportsKeysUnless b how.search status told tells) (sym is) report
