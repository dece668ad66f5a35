-- The judgement of a history of a key-value store: status, input and output.
use Rattle.std.specs.Prelude.{◌≡◌, ◌⊎◌, ℕ, Bool, true, false, not, Option, Some, None, Ok, Err}
use Rattle.std.specs.Prelude.{List, [], ◌++◌, codes, decimal}
use Rattle.std.specs.Borrow.{Bor}
use Rattle.vac_lines.specs.Script.{as_line}
use Rattle.vac_lines.specs.Writing.{AppendsPrefix}
use Rattle.vac_lines.specs.declared.stream_fault.StreamFault.{StreamFault}
use Rattle.vac_lines.specs.declared.stream_fault.StreamFault.TheVariants.{Memory}
use Rattle.judge_text.specs.Classing.{AreOwn}
use Rattle.judge_text.specs.Program.{HasRead, HasEnded}
use Rattle.judge_text.specs.declared.settings.Settings.{Settings}
use Rattle.judge_object.specs.declared.level.Level.{Level}
use Rattle.judge_object.specs.declared.level.Level.TheVariants as level
use Rattle.judge_kv.specs.declared.starting.StartFault.{StartFault}
use Rattle.judge_kv.specs.Rules.{Held, cell}
use Rattle.judge_kv.specs.Starting.{First, BeginWith, fault_name, value_at_first, text_firsts}
use Rattle.judge_kv.specs.Words.{store_language}
use Rattle.judge_kv.specs.Stores.{Pairs, held_at}
use Rattle.judge_kv.specs.StoreRules.{whole}
use Rattle.judge_kv.specs.StoreWords.{whole_language}
use Rattle.judge_kv.specs.Classes.{name_of, AreStoreObjects}
use Rattle.judge_options.specs.declared.asked.KeysSettings.{KeysSettings}
use Rattle.cli_common.specs.Ending.{fault_line}
use Rattle.cli_judge.specs.declared.status.TheConstants.{FAULT}
use Rattle.cli_judge.specs.Asking.{Refuses}
use Rattle.cli_judge.specs.Ending.{EndsWith}
use Rattle.cli_judge.specs.Judging.{NotOpened}
use Rattle.cli_judge.specs.Objects.{settings_of}

-- the program judges a history of a key-value store key by key; s has what each key has at first
abbrev pub JudgesKeys : (List ℕ → Held) → Settings → ℕ → Option (List ℕ) → Option (List ℕ)
    → Option (List ℕ) → Option (List ℕ) → Type 0
JudgesKeys s how status unread left held holds =
    HasEnded cell (λ op. op.key) (λ calls objects. AreOwn objects) store_language s how
    status unread left held holds

-- the program judges a history of a whole store, which begins with these keys and values: classes
-- of its keys are judged by themselves
abbrev pub JudgesStore : Pairs → Settings → ℕ → Option (List ℕ) → Option (List ℕ) → Option (List ℕ)
    → Option (List ℕ) → Type 0
JudgesStore pairs how status unread left held holds =
    HasEnded whole name_of AreStoreObjects whole_language (λ name. pairs) how
    status unread left held holds

-- the whole store begins with keys and values: each key has its value at first, and the others none
pub record JudgesStoreFrom (firsts : List First) (how : Settings) (status : ℕ)
    (unread left held holds : Option (List ℕ)) : Type 0
  where
    pub pairs : Pairs
    pub begin : BeginWith firsts (λ key. held_at key pairs)
    pub judges : JudgesStore pairs how status unread left held holds

-- the program judges a history in which keys have these values at first: each key by itself, or the
-- whole store
abbrev pub JudgesFrom : Bool → List First → Settings → ℕ → Option (List ℕ) → Option (List ℕ)
    → Option (List ℕ) → Option (List ℕ) → Type 0
JudgesFrom false firsts how status unread left held holds =
    JudgesKeys (value_at_first firsts) how status unread left held holds
JudgesFrom true firsts how status unread left held holds =
    JudgesStoreFrom firsts how status unread left held holds

-- the start file has these bytes and was read to its end. No line has a fault, and the history is
-- judged where each key has its value in the file at first, and all other keys have none
pub record JudgesFromFile (is_whole : Bool) (how : Settings) (status : ℕ)
    (file unread left held holds : Option (List ℕ)) : Type 0
  where
    pub rest : Option (List ℕ)
    pub text : List ℕ
    pub read : HasRead file rest text
    pub firsts : List First
    pub are : text_firsts text ≡ Ok firsts
    pub judges : JudgesFrom is_whole firsts how status unread left held holds

-- the text of the verdict that a line of a start file has a fault: its name and the number of the
-- line
abbrev pub start_fault_text : ℕ → StartFault → List ℕ
start_fault_text number fault =
    codes "fault " ++ fault_name fault ++ as_line (codes " " ++ decimal number)

-- the fault of a line of a start file was named, and the status is 1; or a prefix of its text was
-- written and the status is 4; or memory for the text was refused, and a prefix of the line that
-- says so was written
abbrev pub NamesStartFault : ℕ → StartFault → ℕ → Option (List ℕ) → Option (List ℕ) → Type 0
NamesStartFault number fault status held holds =
    EndsWith 1 (start_fault_text number fault) status held holds
    ⊎ ((status ≡ FAULT) × AppendsPrefix held holds (fault_line Memory))

-- the start file was read to its end, and the first of its lines that has a fault was named. The
-- history was not read
pub record NamesFault (status : ℕ) (file unread left held holds : Option (List ℕ)) : Type 0 where
  pub rest : Option (List ℕ)
  pub text : List ℕ
  pub read : HasRead file rest text
  pub number : ℕ
  pub fault : StartFault
  pub is : text_firsts text ≡ Err (number, fault)
  pub input : left ≡ unread
  pub ends : EndsWith 1 (start_fault_text number fault) status held holds

-- the reading of the start file was stopped by a fault, of which a prefix of the line was written.
-- The history was not read
pub record StopsAtFile (status : ℕ) (unread left held holds : Option (List ℕ)) : Type 0 where
  pub fault : StreamFault
  pub input : left ≡ unread
  pub status_is : status ≡ FAULT
  pub line : AppendsPrefix held holds (fault_line fault)

-- the start file was opened, and read
abbrev pub ReadsStart : Bool → Settings → ℕ → Option (List ℕ) → Option (List ℕ) → Option (List ℕ)
    → Option (List ℕ) → Option (List ℕ) → Type 0
ReadsStart is_whole how status file unread left held holds =
    JudgesFromFile is_whole how status file unread left held holds
    ⊎ NamesFault status file unread left held holds
    ⊎ StopsAtFile status unread left held holds

-- the program judges a history in which no key has a value at first: each key by itself, or the
-- whole store
abbrev pub JudgesUnstarted : Bool → Settings → ℕ → Option (List ℕ) → Option (List ℕ)
    → Option (List ℕ) → Option (List ℕ) → Type 0
JudgesUnstarted false how status unread left held holds =
    JudgesKeys (λ key. None) how status unread left held holds
JudgesUnstarted true how status unread left held holds =
    JudgesStore [] how status unread left held holds

-- the program judges a history in which keys have the values of a start file at first, if one is
-- named; if the file was not opened, no input is read
-- Not said: which files can be opened.
abbrev pub JudgesKeysOf : (List ℕ → Option (List ℕ)) → Option (Bor (List ℕ)) → Bool → Settings
    → ℕ → Option (List ℕ) → Option (List ℕ) → Option (List ℕ) → Option (List ℕ) → Type 0
JudgesKeysOf files None is_whole how status unread left held holds =
    JudgesUnstarted is_whole how status unread left held holds
JudgesKeysOf files (Some name) is_whole how status unread left held holds =
    ReadsStart is_whole how status (files name.now) unread left held holds
    ⊎ ((left ≡ unread) × NotOpened status held holds)

-- sequential consistency is asked for where keys are judged by themselves
abbrev pub is_split : Level → Bool → Bool
is_split level.Linearizable is_whole = false
is_split level.Sequential is_whole = not is_whole
is_split level.Serializable is_whole = false

-- true if the words ask for sequential consistency, and for keys that are judged by themselves
abbrev pub lacks_whole : KeysSettings → Bool
lacks_whole how = is_split how.search.level how.whole

-- the program refuses the command line, or judges a history as the command line asks
abbrev pub JudgesKeysUnless : Bool → (List ℕ → Option (List ℕ)) → KeysSettings → ℕ
    → Option (List ℕ) → Option (List ℕ) → Option (List ℕ) → Option (List ℕ) → Type 0
JudgesKeysUnless true files how status unread left held holds =
    Refuses status unread left held holds
JudgesKeysUnless false files how status unread left held holds =
    JudgesKeysOf files how.start how.whole (settings_of how.search) status unread left held holds

-- the program judges a history of a key-value store as the command line asks, unless the command
-- line is refused
abbrev pub JudgesKeysAsked : (List ℕ → Option (List ℕ)) → KeysSettings → ℕ → Option (List ℕ)
    → Option (List ℕ) → Option (List ℕ) → Option (List ℕ) → Type 0
JudgesKeysAsked files how status unread left held holds =
    JudgesKeysUnless (lacks_whole how) files how status unread left held holds
