-- The word at which clap's walk stops: if no step fails, it is a subcommand other than `help`.
use Rattle.std.proofs.Common.{◌≡◌, ◌&&◌, ℕ, Bool, cond, true, false, List, [], ◌∷◌, Option, Some, None, is_some, refl}
use Rattle.std.proofs.Common.{sym, subst, codes}
use Rattle.std.specs.Prelude.{⊤, fold}
use Rattle.std.specs.Str.{bytes_eq}
use Rattle.clap.specs.Kinds.{Kinds, or_else}
use Rattle.clap.specs.Lexer.{long_of, short_of}
use Rattle.clap.specs.Simple.{Shape}
use Rattle.clap.specs.Walk.{Held, Names, Outcome, Rule, Step, Text, Waiting, Walk, after_flag, after_step, arg_by_index}
use Rattle.clap.specs.Walk.{bundle, done, idle, long_or_other, next, option, plain, plain_word, positional, refused}
use Rattle.clap.specs.Walk.{short_or_plain, subcommand, subcommand_met, subcommand_or_other, to_positional, trailing}
use Rattle.clap.specs.Walk.{value, waits, walked, walked_from, word_met}
use Rattle.clap.specs.Faults.{other_fault, step_fault, walk_fault, word_fault}
use Rattle.clap.specs.declared.error.kind.ErrorKind.TheVariants.{DisplayHelp}
use Rattle.cli_common.proofs.FoundRows.{both_none, no_fault}

-- the walk goes on, or stopped at another subcommand than `help`
abbrev pub IsNoHelp : Option (Text × List Text) → Type 0
IsNoHelp None = ⊤
IsNoHelp (Some p) = bytes_eq p.0 (codes "help") ≡ false

-- a word that is no subcommand
abbrev IsOther : Step → Type 0
IsOther (next waiting) = ⊤
IsOther (trailing position) = ⊤
IsOther (subcommand name) = ⊥
IsOther value = ⊤

-- the word is no subcommand, or another one than `help`
abbrev StepsOn : Step → Type 0
StepsOn (next waiting) = ⊤
StepsOn (trailing position) = ⊤
StepsOn (subcommand name) = bytes_eq name (codes "help") ≡ false
StepsOn value = ⊤

other_on : (step : Step) → IsOther step → StepsOn step
other_on (next waiting) o = tt
other_on (trailing position) o = tt
other_on (subcommand name) o = absurd o
other_on value o = tt

plain_other : (c : List Rule) (waiting : Waiting) (word : Text) (h : Held) → IsOther (plain_word c waiting word h).1
plain_other c idle word h = tt
plain_other c (option id) word h = tt
plain_other c positional word h = tt

flag_other : (c : List Rule) (waiting : Waiting) (word : Text) (h : Held) (o : Outcome) →
    IsOther (after_flag c waiting word h o).1
flag_other c waiting word h done = tt
flag_other c waiting word h (waits id) = tt
flag_other c waiting word h plain = plain_other c waiting word h
flag_other c waiting word h refused = plain_other c waiting word h

short_other : (c : List Rule) (waiting : Waiting) (word : Text) (flags : Option Text) (h : Held) →
    IsOther (short_or_plain c waiting word flags h).1
short_other c waiting word None h = plain_other c waiting word h
short_other c waiting word (Some flags) h = flag_other c waiting word (bundle c flags h).0 (bundle c flags h).1

long_other : (c : List Rule) (waiting : Waiting) (word : Text) (long : Option (Text × Option Text)) (h : Held) →
    IsOther (long_or_other c waiting word long h).1
long_other c waiting word None h = short_other c waiting word (short_of word) h
long_other c waiting word (Some p) h = flag_other c waiting word _ _

if_not_help : (b : Bool) (ks : Kinds) → cond (b && true) (DisplayHelp ∷ ks) [] ≡ [] → b ≡ false
if_not_help true ks e = absurd (no_fault DisplayHelp ks e)
if_not_help false ks e = refl

met_on : (s : Shape) (met : Option Text) (waiting : Waiting) (position : ℕ) (word : Text) (h : Held) →
    s.disable_help_subcommand ≡ false → other_fault s met word h ≡ []
    → StepsOn (subcommand_or_other s.rules met waiting position word h).1
met_on s (Some name) waiting position word h helps e = if_not_help (bytes_eq name (codes "help")) _ (rw helps at e)
met_on s None waiting position word h helps e = go (bytes_eq word (45 ∷ 45 ∷ []))
  where
    go : (b : Bool) → StepsOn (cond b (h, trailing position) (long_or_other s.rules waiting word (long_of word) h)).1
    go true = tt
    go false = other_on _ (long_other s.rules waiting word (long_of word) h)

word_on : (s : Shape) (names : Names) (is_trailing : Bool) (waiting : Waiting) (position : ℕ) (word : Text) (h : Held) →
    s.disable_help_subcommand ≡ false
    → word_fault s names is_trailing waiting word h ≡ [] → StepsOn
    (word_met s.rules names is_trailing waiting position word h).1
word_on s names true waiting position word h helps e = tt
word_on s names false waiting position word h helps e = met_on s
    (subcommand_met names waiting word) waiting position word h helps e

positional_on : (c : List Rule) (found : Option Rule) (word : Text) (w : Walk) (h : Held) → IsNoHelp w.stopped →
    IsNoHelp (to_positional c found word w h).stopped
positional_on c None word w h rest = rest
positional_on c (Some a) word w h rest = tt

step_on : (c : List Rule) (word : Text) (w : Walk) (h : Held) (step : Step) → StepsOn step → IsNoHelp w.stopped →
    IsNoHelp (after_step c word w h step).stopped
step_on c word w h (next waiting) on rest = rest
step_on c word w h (trailing position) on rest = rest
step_on c word w h (subcommand name) on rest = on
step_on c word w h value on rest = positional_on c (arg_by_index c w.position) word w h rest

turn_on : (s : Shape) (names : Names) (w : Walk) (stopped : Option (Text × List Text)) (word : Text) →
    s.disable_help_subcommand ≡ false
    → (let met = word_met s.rules names w.is_trailing w.waiting w.position word w.held in
    cond (is_some stopped) [] (or_else (word_fault s names w.is_trailing w.waiting word w.held)
    (step_fault s w.position met.0 met.1))) ≡ []
    → w.stopped ≡ stopped → IsNoHelp stopped → IsNoHelp (walked_from s.rules names stopped w word).stopped
turn_on s names w (Some p) word helps e is rest = rest
turn_on s names w None word helps e is rest =
    step_on s.rules word w _ _ (word_on s names w.is_trailing w.waiting w.position word w.held helps
    (both_none _ _ e).0) (subst IsNoHelp (sym is) tt)

pub walk_on : (s : Shape) (names : Names) (w : Walk) (words : List Text) → s.disable_help_subcommand ≡ false →
    walk_fault s names w words ≡ [] → IsNoHelp w.stopped
    → IsNoHelp (fold (walked s.rules names) w words).stopped
unfolding walked walk_fault
walk_on s names w [] helps e rest = rest
walk_on s names w (word ∷ words) helps e rest =
    let parts = both_none _ _ e in
    walk_on s names (walked s.rules names w word) words helps parts.1
    (turn_on s names w w.stopped word helps parts.0 refl rest)
