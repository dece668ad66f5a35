-- Clap's walk over the words of a command line: if no step fails, the values that it holds fit.
use Rattle.std.proofs.Common.{◌≡◌, ◌&&◌, ℕ, zero, suc, Bool, cond, true, false, List, [], ◌∷◌, length, Option, Some}
use Rattle.std.proofs.Common.{None, is_some, refl}
use Rattle.std.specs.Prelude.{slice_get, drop, encode_utf8, fold}
use Rattle.std.specs.Option.{option_map_or}
use Rattle.std.specs.Str.{bytes_eq, chars}
use Rattle.clap.specs.Kinds.{Kinds, or_else}
use Rattle.clap.specs.Lexer.{long_of, short_of}
use Rattle.clap.specs.Simple.{Shape}
use Rattle.clap.specs.Walk.{Held, Names, Outcome, Row, Rule, Step, Text, Waiting, Walk, after_flag, after_step}
use Rattle.clap.specs.Walk.{arg_by_id, arg_by_index, arg_by_long, arg_by_short, attached_value, bundle_met, bundle_step}
use Rattle.clap.specs.Walk.{done, flag_met, idle, is_pending, long_met, long_or_other, next, option, option_met}
use Rattle.clap.specs.Walk.{option_word, plain, plain_word, positional, reacted, refused, settled, settled_rows}
use Rattle.clap.specs.Walk.{short_met, short_or_plain, subcommand, subcommand_met, subcommand_or_other, takes_several}
use Rattle.clap.specs.Walk.{takes_values, to_positional, trailing, used_by_id, value, waits, walked, walked_from}
use Rattle.clap.specs.Walk.{word_met}
use Rattle.clap.specs.Faults.{bundle_step_fault, flag_word_fault, flags_fault, long_fault, option_fault, other_fault}
use Rattle.clap.specs.Faults.{positional_fault, react_fault, settle_fault, short_fault, step_fault, use_fault}
use Rattle.clap.specs.Faults.{walk_fault, word_fault}
use Rattle.cli_common.proofs.FoundRows.{Each, Fits, IsFit, both_none, found_each, used_fits}

abbrev HeldFits : List Rule → Held → Type 0
HeldFits c h = Each (Fits c) h.rows

abbrev pub AllFit : List Rule → Type 0
AllFit c = Each (IsFit c) c

-- the rule that was found is one of the command's
abbrev FoundFit : List Rule → Option Rule → Type 0
FoundFit c found = (a : Rule) → found ≡ Some a → IsFit c a

by_id_fits : (c : List Rule) (again : Bool) (found : Option Rule) (values : List Text) (rows : List Row) →
    FoundFit c found → option_map_or (λ a. use_fault again a values rows) found [] ≡ []
    → Each (Fits c) rows → Each (Fits c) (used_by_id found values rows)
by_id_fits c again None values rows fit e each = each
by_id_fits c again (Some a) values rows fit e each = used_fits again c a values rows (fit a refl) e each

pending_fits : (c : List Rule) (again : Bool) (pending : Option (Text × List Text)) (rows : List Row) → AllFit c
    → option_map_or (λ p. option_map_or (λ a. use_fault again a p.1 rows) (arg_by_id c p.0) []) pending [] ≡ [] →
    Each (Fits c) rows → Each (Fits c) (settled_rows c pending rows)
pending_fits c again None rows all e each = each
pending_fits c again (Some p) rows all e each = by_id_fits c again (arg_by_id c p.0) p.1 rows
    (λ a found. found_each (IsFit c) _ c a all found) e each

pub settled_fits : (c : List Rule) (again : Bool) (h : Held) → AllFit c → settle_fault c again h ≡ [] → HeldFits c h →
    HeldFits c (settled c h)
settled_fits c again h all e each = pending_fits c again h.pending h.rows all e each

reacted_fits : (c : List Rule) (again : Bool) (a : Rule) (values : List Text) (h : Held) → AllFit c → IsFit c a →
    react_fault c again a values h ≡ [] → HeldFits c h
    → HeldFits c (reacted c a values h)
reacted_fits c again a values h all fit e each =
    let parts = both_none _ _ e in
    used_fits again c a values (settled c h).rows fit parts.1 (settled_fits c again h all parts.0 each)

option_met_fits : (c : List Rule) (again : Bool) (a : Rule) (v : Option Text) (h : Held) → AllFit c → IsFit c a →
    option_fault c again a v h ≡ [] → HeldFits c h
    → HeldFits c (option_met c a v h).0
option_met_fits c again a (Some v) h all fit e each = reacted_fits c again a (v ∷ []) h all fit e each
option_met_fits c again a None h all fit e each = settled_fits c again h all e each

flag_met_fits : (c : List Rule) (again : Bool) (a : Rule) (v : Option Text) (h : Held) (k : Kinds) → AllFit c →
    IsFit c a → cond (is_some v) k (react_fault c again a [] h) ≡ [] → HeldFits c h
    → HeldFits c (flag_met c a v h).0
flag_met_fits c again a (Some v) h k all fit e each = each
flag_met_fits c again a None h k all fit e each = reacted_fits c again a [] h all fit e each

long_met_fits : (c : List Rule) (again : Bool) (found : Option Rule) (v : Option Text) (h : Held) → AllFit c →
    FoundFit c found → long_fault c again found v h ≡ [] → HeldFits c h
    → HeldFits c (long_met c found v h).0
long_met_fits c again None v h all fit e each = each
long_met_fits c again (Some a) v h all fit e each = go (takes_values a) _ e
  where
    go : (b : Bool) (k : Kinds) → cond b (option_fault c again a v h)
        (cond (is_some v) k (react_fault c again a [] h)) ≡ [] →
        HeldFits c (cond b (option_met c a v h) (flag_met c a v h)).0
    go true k e = option_met_fits c again a v h all (fit a refl) e each
    go false k e = flag_met_fits c again a v h k all (fit a refl) e each

short_met_fits : (c : List Rule) (again : Bool) (found : Option Rule) (rest : Text) (h : Held) (then : Held →
    Held × Outcome) (fault : Held → Kinds) → AllFit c → FoundFit c found
    → ((g : Held) → fault g ≡ [] → HeldFits c g → HeldFits c (then g).0) → short_fault c again found rest h fault ≡ [] →
    HeldFits c h → HeldFits c (short_met c found rest h then).0
short_met_fits c again None rest h then fault all fit more e each = each
short_met_fits c again (Some a) rest h then fault all fit more e each = go (takes_values a) e
  where
    go : (b : Bool) → cond b (option_fault c again a (attached_value rest) h)
        (or_else (react_fault c again a [] h) (fault (reacted c a [] h))) ≡ []
        → HeldFits c (cond b (option_met c a (attached_value rest) h) (then (reacted c a [] h))).0
    go true e = option_met_fits c again a (attached_value rest) h all (fit a refl) e each
    go false e =
        let parts = both_none _ _ e in
        more (reacted c a [] h) parts.1 (reacted_fits c again a [] h all (fit a refl) parts.0 each)

bundle_step_fits : (c : List Rule) (again : Bool) (x : Option ℕ) (flags : Text) (skip : ℕ) (so_far : Outcome) (h : Held)
    (then : Text → ℕ → Outcome → Held → Held × Outcome) (fault : Text → ℕ → Held → Kinds)
    → AllFit c → ((rest : Text) (k : ℕ) (o : Outcome) (g : Held) → fault rest k g ≡ [] → HeldFits c g →
    HeldFits c (then rest k o g).0)
    → bundle_step_fault c again x flags skip h fault ≡ [] → HeldFits c h →
    HeldFits c (bundle_step c x flags skip so_far h then).0
bundle_step_fits c again None flags skip so_far h then fault all more e each = each
bundle_step_fits c again (Some x) flags zero so_far h then fault all more e each =
    let rest = drop (length (encode_utf8 x)) flags in
    short_met_fits c again (arg_by_short c x) rest h (then rest 0 done) (fault rest 0) all
    (λ a found. found_each (IsFit c) _ c a all found) (λ g e each. more rest 0 done g e each) e each
bundle_step_fits c again (Some x) flags (suc skip) so_far h then fault all more e each = more _ skip so_far h e each

bundle_fits : (c : List Rule) (again : Bool) (k : ℕ) (flags : Text) (skip : ℕ) (so_far : Outcome) (h : Held) →
    AllFit c → flags_fault c again k flags skip h ≡ [] → HeldFits c h
    → HeldFits c (bundle_met c k flags skip so_far h).0
unfolding bundle_met flags_fault
bundle_fits c again zero flags skip so_far h all e each = each
bundle_fits c again (suc k) flags skip so_far h all e each =
    bundle_step_fits c again (slice_get (chars flags) 0) flags skip so_far h (bundle_met c k)
    (flags_fault c again k) all (λ rest n o g e each. bundle_fits c again k rest n o g all e each) e each

option_word_fits : (c : List Rule) (found : Option Rule) (id word : Text) (h : Held) → HeldFits c h →
    HeldFits c (option_word found id word h).0
option_word_fits c None id word h each = each
option_word_fits c (Some a) id word h each = each

plain_fits : (c : List Rule) (waiting : Waiting) (word : Text) (h : Held) → HeldFits c h →
    HeldFits c (plain_word c waiting word h).0
plain_fits c idle word h each = each
plain_fits c (option id) word h each = option_word_fits c (arg_by_id c id) id word h each
plain_fits c positional word h each = each

after_flag_fits : (c : List Rule) (waiting : Waiting) (word : Text) (h : Held) (o : Outcome) → HeldFits c h →
    HeldFits c (after_flag c waiting word h o).0
after_flag_fits c waiting word h done each = each
after_flag_fits c waiting word h (waits id) each = each
after_flag_fits c waiting word h plain each = plain_fits c waiting word h each
after_flag_fits c waiting word h refused each = plain_fits c waiting word h each

short_word_fits : (c : List Rule) (again : Bool) (waiting : Waiting) (word : Text) (flags : Option Text) (h : Held) →
    AllFit c
    → option_map_or (λ fs. flags_fault c again (length fs) fs h.skip (record h { skip = 0 })) flags [] ≡ [] →
    HeldFits c h → HeldFits c (short_or_plain c waiting word flags h).0
short_word_fits c again waiting word None h all e each = plain_fits c waiting word h each
short_word_fits c again waiting word (Some flags) h all e each =
    after_flag_fits c waiting word _ _ (bundle_fits c again (length flags) flags h.skip plain
    (record h { skip = 0 }) all e each)

flag_word_fits : (c : List Rule) (again : Bool) (waiting : Waiting) (word : Text) (long : Option (Text × Option Text))
    (h : Held) → AllFit c → flag_word_fault c again long word h ≡ []
    → HeldFits c h → HeldFits c (long_or_other c waiting word long h).0
flag_word_fits c again waiting word None h all e each = short_word_fits c again waiting word
    (short_of word) h all e each
flag_word_fits c again waiting word (Some p) h all e each =
    after_flag_fits c waiting word _ _ (long_met_fits c again (arg_by_long c p.0) p.1 h all
    (λ a found. found_each (IsFit c) _ c a all found) e each)

other_fits : (s : Shape) (met : Option Text) (waiting : Waiting) (position : ℕ) (word : Text) (h : Held) →
    AllFit s.rules → other_fault s met word h ≡ [] → HeldFits s.rules h
    → HeldFits s.rules (subcommand_or_other s.rules met waiting position word h).0
other_fits s (Some name) waiting position word h all e each = each
other_fits s None waiting position word h all e each = go (bytes_eq word (45 ∷ 45 ∷ [])) e
  where
    go : (b : Bool) → cond b [] (flag_word_fault s.rules s.args_override_self (long_of word) word h) ≡ []
        → HeldFits s.rules (cond b (h, trailing position) (long_or_other s.rules waiting word (long_of word) h)).0
    go true e = each
    go false e = flag_word_fits s.rules s.args_override_self waiting word (long_of word) h all e each

word_fits : (s : Shape) (names : Names) (is_trailing : Bool) (waiting : Waiting) (position : ℕ) (word : Text) (h : Held)
    → AllFit s.rules → word_fault s names is_trailing waiting word h ≡ []
    → HeldFits s.rules h → HeldFits s.rules (word_met s.rules names is_trailing waiting position word h).0
word_fits s names true waiting position word h all e each = each
word_fits s names false waiting position word h all e each =
    other_fits s (subcommand_met names waiting word) waiting position word h all e each

to_positional_fits : (s : Shape) (again : Bool) (found : Option Rule) (word : Text) (w : Walk) (h : Held)
    (stray : Kinds) → AllFit s.rules
    → option_map_or (λ a. positional_fault s.rules again a h) found stray ≡ [] → HeldFits s.rules h →
    HeldFits s.rules (to_positional s.rules found word w h).held
to_positional_fits s again None word w h stray all e each = each
to_positional_fits s again (Some a) word w h stray all e each = go (is_pending a h.pending && takes_several a) e
  where
    go : (b : Bool) → cond b [] (settle_fault s.rules again h) ≡ [] → HeldFits s.rules (cond b h (settled s.rules h))
    go true e = each
    go false e = settled_fits s.rules again h all e each

after_step_fits : (s : Shape) (word : Text) (w : Walk) (h : Held) (step : Step) → AllFit s.rules →
    step_fault s w.position h step ≡ [] → HeldFits s.rules h
    → HeldFits s.rules (after_step s.rules word w h step).held
after_step_fits s word w h (next waiting) all e each = each
after_step_fits s word w h (trailing position) all e each = each
after_step_fits s word w h (subcommand name) all e each = each
after_step_fits s word w h value all e each = to_positional_fits s s.args_override_self
    (arg_by_index s.rules w.position) word w h _ all e each

turn_at : (s : Shape) (names : Names) (w : Walk) (stopped : Option (Text × List Text)) (word : Text) → AllFit s.rules
    → (let met = word_met s.rules names w.is_trailing w.waiting w.position word w.held in
    cond (is_some stopped) [] (or_else (word_fault s names w.is_trailing w.waiting word w.held)
    (step_fault s w.position met.0 met.1))) ≡ []
    → HeldFits s.rules w.held → HeldFits s.rules (walked_from s.rules names stopped w word).held
turn_at s names w (Some p) word all e each = each
turn_at s names w None word all e each =
    let parts = both_none _ _ e in
    after_step_fits s word w _ _ all parts.1 (word_fits s names w.is_trailing w.waiting w.position word w.held all
    parts.0 each)

pub walk_fits : (s : Shape) (names : Names) (w : Walk) (words : List Text) → AllFit s.rules →
    walk_fault s names w words ≡ [] → HeldFits s.rules w.held
    → HeldFits s.rules (fold (walked s.rules names) w words).held
unfolding walked walk_fault
walk_fits s names w [] all e each = each
walk_fits s names w (word ∷ rest) all e each =
    let parts = both_none _ _ e in
    walk_fits s names (walked s.rules names w word) rest all parts.1 (turn_at s names w w.stopped word all parts.0 each)
