-- Commands with options added.
use Rattle.std.proofs.Common.{◌≡◌, ◌∙◌, ◌++◌, ℕ, List, [], ◌∷◌, length, Bool, Some, true, false, refl, sym, ap, ap₂}
use Rattle.std.specs.Prelude.{◌||◌, Option, Result, Ok, Err, IfOk, IsOkAnd}
use Rattle.std.specs.declared.alloc.AllocError.{AllocError}
use Rattle.std.specs.Borrow.{Bor}
use Rattle.clap.specs.Simple.{app_of_fields, new_app, new_shape}
use Rattle.clap.specs.Words.{App, Shape, Rule, Text, AddsArg, AddsSubcommand, app_of, rule_of, with_rule}
use Rattle.clap.specs.Words.{with_subcommand}
use Rattle.clap.specs.declared.builder.command.Command.TheViews.{out-Command}
use Rattle.clap.specs.declared.builder.command.Command.{Command}
use Rattle.clap.specs.declared.builder.arg.Arg.{Arg}
use Rattle.clap.specs.declared.builder.value_parser.ValueParser.{ValueParser}
use Rattle.clap.specs.declared.builder.texts.Texts.TheVariants.{One, Many}
use Rattle.clap.specs.declared.builder.action.ArgAction.{ArgAction}
use Rattle.cli_common.specs.Options.{short_option, IsOption, IsCommand, AddsOptions, AddsCommands, with_commands}
use Rattle.cli_common.specs.Options.{with_rules, with_options, GetsOptions, GetsCommands}

-- ---- options

-- a parser was given
pub parser_is : (o : Option ValueParser) (q p : ValueParser) {r : ValueParser} → o ≡ Some q → q ≡ p → p ≡ r → o ≡ Some r
parser_is o q p e f g = e ∙ ap (λ (x : ValueParser). Some x) (f ∙ g)

-- an option with this parser
pub parser_set : (a b : Arg) (p : ValueParser) (r : Rule) → b ≡ record a { value_parser = b.value_parser } →
    b.value_parser ≡ Some p → IsOption a r → IsOption b (record r { parser = Some p })
parser_set a b p r e given is = record {
  rule = ap rule_of e ∙ ap₂ (λ (s : Rule) (o : Option ValueParser). record s { parser = o }) is.rule given;
  own = ap (λ (x : Arg). x.global) e ∙ is.own;
}

-- an option with this short name
pub short_set : (a b : Arg) (letter : ℕ) (r : Rule) → b ≡ record a { short = Some letter } → IsOption a r →
    IsOption b (short_option letter r)
short_set a b letter r e is = record {
  rule = ap rule_of e ∙ ap (λ (s : Rule). record s { short = Some letter }) is.rule;
  own = ap (λ (x : Arg). x.global) e ∙ is.own;
}

-- an option with this help
pub help_set : (a b : Arg) (text : _) (r : Rule) → b ≡ record a { help = Some text } → IsOption a r → IsOption b r
help_set a b text r e is = record {
  rule = ap rule_of e ∙ is.rule;
  own = ap (λ (x : Arg). x.global) e ∙ is.own;
}

-- an option with this default
pub default_set : (a b : Arg) (text : _) (r : Rule) → b ≡ record a { default_vals = One text } → IsOption a r →
    IsOption b (record r { defaults = text.now ∷ [] })
default_set a b text r e is = record {
  rule = ap rule_of e ∙ ap (λ (s : Rule). record s { defaults = text.now ∷ [] }) is.rule;
  own = ap (λ (x : Arg). x.global) e ∙ is.own;
}

-- an option with this action
pub action_set : (a b : Arg) (action : ArgAction) (r : Rule) → b ≡ record a { action = Some action } → IsOption a r →
    IsOption b (record r { action = Some action })
action_set a b action r e is = record {
  rule = ap rule_of e ∙ ap (λ (s : Rule). record s { action = Some action }) is.rule;
  own = ap (λ (x : Arg). x.global) e ∙ is.own;
}

-- an option with names for this number of values
pub names_set : (a b : Arg) (names : _) (n : ℕ) (r : Rule) → b ≡ record a { val_names = Many names } →
    length names.now ≡ n → IsOption a r → IsOption b (record r { value_names = n })
names_set a b names n r e long is = record {
  rule = ap rule_of e ∙ ap₂ (λ (s : Rule) (m : ℕ). record s { value_names = m }) is.rule long;
  own = ap (λ (x : Arg). x.global) e ∙ is.own;
}

with_one_more : (a : App) (options : List Rule) (option : Rule) →
    with_rules a (options ++ option ∷ []) ≡ with_rule (with_rules a options) option
with_one_more a [] option = refl
with_one_more a (o ∷ options) option = with_one_more (with_rule a o) options option

or_false : (a b : Bool) → b ≡ false → (a || b) ≡ a
or_false Bool.true b e = refl
or_false Bool.false b e = e

one_more : (first before after : Command) (a : Arg) (options : List Rule) (option : Rule) →
    AddsOptions first options before → AddsArg before a after → IsOption a option
    → AddsOptions first (options ++ option ∷ []) after
one_more first before after a options option s h is = record {
  app = h.shape is.own ∙ ap₂ with_rule s.app is.rule ∙ sym (with_one_more (app_of first) options option);
  own = h.globals ∙ or_false _ a.global is.own ∙ s.own;
}

-- no option was added
pub no_option : (given : Result Command AllocError) → GetsOptions given [] given
no_option (Ok c) = record { app = refl; own = refl }
no_option (Err e) = tt

-- an option was added after others
pub option_more : (given middle result : Result Command AllocError) (a : Arg) (options : List Rule) (option : Rule) →
    GetsOptions given options middle
    → IfOk result (λ after. IsOkAnd middle (λ before. AddsArg before a after)) → IsOption a option →
    GetsOptions given (options ++ option ∷ []) result
option_more given middle (Err e) a options option s h is = tt
option_more given (Err e) (Ok after) a options option s h is = absurd h
option_more (Err e) (Ok before) (Ok after) a options option s h is = absurd s
option_more (Ok first) (Ok before) (Ok after) a options option s h is =
    one_more first before after a options option s h is

-- a command with one more option
pub command_and : (given result : Result Command AllocError) (a : Arg) (name : Text) (options : List Rule)
    (option : Rule)
    → IfOk given (λ c. IsCommand c (with_options name options)) →
    IfOk result (λ after. IsOkAnd given (λ before. AddsArg before a after)) → IsOption a option
    → IfOk result (λ c. IsCommand c (with_options name (options ++ option ∷ [])))
command_and given (Err e) a name options option c h is = tt
command_and (Err e) (Ok after) a name options option c h is = absurd h
command_and (Ok before) (Ok after) a name options option c h is = record {
  app = h.shape is.own ∙ ap₂ with_rule c.app is.rule;
  own = h.globals ∙ or_false _ a.global is.own ∙ c.own;
}

-- a command that got options, with all its options
pub command_gets : (given result : Result Command AllocError) (first s : Shape) (more : List Rule) →
    with_rules (record { top = first; subs = [] }) more ≡ record { top = s; subs = [] }
    → IfOk given (λ c. IsCommand c first) → GetsOptions given more result → IfOk result (λ c. IsCommand c s)
command_gets given (Err e) first s more same is gets = tt
command_gets (Err e) (Ok after) first s more same is gets = absurd gets
command_gets (Ok before) (Ok after) first s more same is gets = record {
  app = gets.app ∙ ap (λ (w : App). with_rules w more) is.app ∙ same;
  own = gets.own ∙ is.own;
}

with_all_rules : (a : App) (first second : List Rule) →
    with_rules a (first ++ second) ≡ with_rules (with_rules a first) second
with_all_rules a [] second = refl
with_all_rules a (option ∷ first) second = with_all_rules (with_rule a option) first second

-- a command that got options in two steps
pub gets_both : (given middle result : Result Command AllocError) (first second : List Rule) →
    GetsOptions given first middle → GetsOptions middle second result → GetsOptions given (first ++ second) result
gets_both given middle (Err e) first second a b = tt
gets_both given (Err e) (Ok after) first second a b = absurd b
gets_both (Err e) (Ok before) (Ok after) first second a b = absurd a
gets_both (Ok start) (Ok before) (Ok after) first second a b = record {
  app = b.app ∙ ap (λ (w : App). with_rules w second) a.app ∙ sym (with_all_rules (app_of start) first second);
  own = b.own ∙ a.own;
}

-- a command with these texts of its help
pub new_command : (first told result : Command) (name : Text) (about example : _) → app_of first ≡ new_app name →
    (out-Command first).has_globals ≡ false → out-Command told ≡ record (out-Command first) { about = Some about } →
    out-Command result ≡ record (out-Command told) { after_help = Some example } →
    IsCommand result (with_options name [])
new_command first told result name about example app own e f = record {
  app = ap app_of_fields f ∙ ap app_of_fields e ∙ app;
  own = ap (λ w. w.has_globals) f ∙ ap (λ w. w.has_globals) e ∙ own;
}

-- a command with these texts, of whose subcommands one must be named
pub top_made : (first versioned told result : Command) (name : Text) (version about : Bor Text) →
    app_of first ≡ new_app name →
    out-Command versioned ≡ record (out-Command first) { version = Some version } →
    out-Command told ≡ record (out-Command versioned) { about = Some about } →
    out-Command result ≡ record (out-Command told) { subcommand_required = true } →
    app_of result ≡ record {
      top = record (new_shape name) { has_version = true; subcommand_required = true };
      subs = [];
    }
top_made first versioned told result name version about app e f g =
    ap app_of_fields g ∙ ap (λ w. app_of_fields (record w { subcommand_required = true })) f ∙
    ap (λ w. app_of_fields (record w { subcommand_required = true })) e ∙
    ap (λ (a : App). record a { top = record a.top { has_version = true; subcommand_required = true } }) app

-- a command with these texts, which needs no subcommand
pub top_free : (first versioned told result : Command) (name : Text) (version about example : Bor Text) →
    app_of first ≡ new_app name →
    out-Command versioned ≡ record (out-Command first) { version = Some version } →
    out-Command told ≡ record (out-Command versioned) { about = Some about } →
    out-Command result ≡ record (out-Command told) { after_help = Some example } →
    app_of result ≡ record { top = record (new_shape name) { has_version = true }; subs = [] }
top_free first versioned told result name version about example app e f g =
    ap app_of_fields g ∙ ap app_of_fields f ∙ ap app_of_fields e ∙
    ap (λ (a : App). record a { top = record a.top { has_version = true } }) app

-- ---- subcommands

commands_one_more : (a : App) (subs : List Shape) (s : Shape) →
    with_commands a (subs ++ s ∷ []) ≡ with_subcommand (with_commands a subs) s
commands_one_more a [] s = refl
commands_one_more a (t ∷ subs) s = commands_one_more (with_subcommand a t) subs s

one_command_more : (first before sub after : Command) (subs : List Shape) (s : Shape) → AddsCommands first subs before →
    AddsSubcommand before sub after → IsCommand sub s
    → AddsCommands first (subs ++ s ∷ []) after
one_command_more first before sub after subs s e h is = record {
  app = h.shape is.own ∙ ap₂ with_subcommand e.app (ap (λ (b : App). b.top) is.app) ∙
      sym (commands_one_more (app_of first) subs s);
}

-- no subcommand was added
pub no_command : (given : Result Command AllocError) → GetsCommands given [] given
no_command (Ok c) = record { app = refl }
no_command (Err e) = tt

-- a subcommand was added after others
pub command_more : (given middle sub result : Result Command AllocError) (subs : List Shape) (s : Shape) →
    GetsCommands given subs middle
    → IfOk result (λ after. IsOkAnd middle (λ before. IsOkAnd sub (λ added. AddsSubcommand before added after))) →
    IfOk sub (λ c. IsCommand c s)
    → GetsCommands given (subs ++ s ∷ []) result
command_more given middle sub (Err e) subs s c h is = tt
command_more given (Err e) sub (Ok after) subs s c h is = absurd h
command_more given (Ok before) (Err e) (Ok after) subs s c h is = absurd h
command_more (Err e) (Ok before) (Ok added) (Ok after) subs s c h is = absurd c
command_more (Ok first) (Ok before) (Ok added) (Ok after) subs s c h is =
    one_command_more first before added after subs s c h is

-- the app of a command to which subcommands were added
pub commands_of : (top : Command) (first : Result Command AllocError) (a : App) (x : List Shape) →
    app_of top ≡ a → GetsCommands (Ok top) x first → IfOk first (λ c. app_of c ≡ with_commands a x)
commands_of top (Err e) a x is f = tt
commands_of top (Ok d) a x is f = f.app ∙ ap (λ (w : App). with_commands w x) is

-- the app of a command to which subcommands were added in two steps
pub all_commands : (top : Command) (first second : Result Command AllocError) (a : App) (x y : List Shape) →
    app_of top ≡ a → GetsCommands (Ok top) x first → GetsCommands first y second
    → IfOk second (λ c. app_of c ≡ with_commands (with_commands a x) y)
all_commands top first (Err e) a x y is f g = tt
all_commands top (Err e) (Ok c) a x y is f g = absurd g
all_commands top (Ok d) (Ok c) a x y is f g =
    g.app ∙ ap (λ (w : App). with_commands w y) (f.app ∙ ap (λ (w : App). with_commands w x) is)
