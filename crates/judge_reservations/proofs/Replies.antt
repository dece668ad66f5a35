-- Words of the replies to commands, updates and trips.
use Rattle.std.proofs.Common.{◌≡◌, ◌≢◌, ℕ, ◌≤◌, ◌<◌, ◌^◌, ◌==◌, ◌&&◌, ◌||◌, not, Bool, true, false, cond, List, [], ◌∷◌}
use Rattle.std.proofs.Common.{◌++◌, length, map, take, drop, refl, ap, sym, ◌∙◌, subst, arith, decimal, codes, Ok}
use Rattle.std.proofs.Common.{append_assoc}
use Rattle.std.specs.Prelude.{Option, Some, None, IfSome, ⊤, Result, if◌then◌else◌, replicate, ◌-◌}
use Rattle.std.specs.List.{All, list_all, flat_map, before_first, after_first}
use Rattle.std.specs.Option.{option_map, option_map_or, ok_or}
use Rattle.std.specs.Str.{bytes_eq}
use Rattle.std.specs.Char.{is_ascii_digit}
use Rattle.std.proofs.Math.Seq.{take-append_seam}
use Rattle.std.proofs.lemmas.Bool.Decides.{nat_tests}
use Rattle.std.proofs.lemmas.List.Elements.{All-nil, All-cons}
use Rattle.std.proofs.lemmas.List.Folds.{list_all-append}
use Rattle.vac_model.specs.declared.limits.TheConstants.{MOST_PARTS}
use Rattle.vac_model.specs.declared.items.Kind.{Kind}
use Rattle.vac_model.specs.declared.items.Kind.TheVariants.{Car, Flight, Room}
use Rattle.vac_model.specs.declared.commands.Command.{Command}
use Rattle.vac_model.specs.declared.commands.Refusal.{Refusal}
use Rattle.vac_model.specs.declared.commands.Refusal.TheVariants.{NeedsCountAndPrice, TotalLimit, Full, NoItem, NotFree}
use Rattle.vac_model.specs.declared.commands.Refusal.TheVariants.{InUse, Exists, NoCustomer, SoldOut, NotBooked}
use Rattle.vac_model.specs.declared.commands.Refusal.TheVariants.{UnitLimit}
use Rattle.vac_model.specs.declared.replies.Reply.{Reply}
use Rattle.vac_model.specs.declared.replies.Reply.TheVariants as reply
use Rattle.vac_model.specs.declared.replies.CustomerOutcome.{CustomerOutcome}
use Rattle.vac_model.specs.declared.replies.CustomerOutcome.TheVariants as joined
use Rattle.vac_model.specs.declared.replies.Pick.{Pick}
use Rattle.vac_model.specs.State.{State}
use Rattle.vac_model.specs.Amounts.{is_id}
use Rattle.vac_model.specs.Run.{refusal_of, joined_of, steps, update}
use Rattle.vac_model.proofs.Noted.{length-steps}
use Rattle.vac_model.proofs.Ids.{both_true}
use Rattle.vac_lines.specs.declared.fault.LineFault.{LineFault}
use Rattle.vac_lines.specs.declared.fault.LineFault.TheVariants.{BadNumber}
use Rattle.vac_lines.specs.Lines.{words_of, HasNo}
use Rattle.vac_lines.specs.LineTable.{at_number}
use Rattle.vac_model.specs.ReplyText.{why_name, done_text, joined_text, pick_text, change_text, reply_text}
use Rattle.vac_model.specs.TaskText.{spaced, words_text}
use Rattle.vac_lines.proofs.Decimals.{all_digits, number_read, number_in_word, is_word_byte}
use Rattle.vac_lines.proofs.Spacing.{Each, IsPlain, words_cut}
use Rattle.judge_reservations.specs.Tasks.{is_reply}
use Rattle.judge_reservations.specs.Updates.{is_why}
use Rattle.judge_reservations.specs.Trips.{Shown, TripWords, id_of, value_of, shown_pick, no_pick, joins, trip_words}
use Rattle.judge_reservations.specs.Trips.{five_words}
use Rattle.judge_reservations.proofs.Cuts.{before_cut, after_cut}

-- a reply to a command that took effect, or was refused
abbrev pub IsShort : Reply → Type 0
IsShort reply.Done = ⊤
IsShort (reply.Number n) = ⊥
IsShort (reply.Report r) = ⊥
IsShort (reply.No why) = ⊤
IsShort (reply.Trip r) = ⊥
IsShort (reply.Update r) = ⊥

-- the word of a reply among the results of an update, or of a trip
abbrev pub word_of : Reply → List ℕ
word_of r = done_text (refusal_of r)

-- the word that stands for a text
abbrev pub text_word : List ℕ → List ℕ
text_word text = if bytes_eq text (codes "true") then codes "true" else drop 6 text

pub short_word : (r : Reply) → IsShort r → text_word (reply_text r) ≡ word_of r
short_word reply.Done h = refl
short_word (reply.Number n) h = absurd h
short_word (reply.Report r) h = absurd h
short_word (reply.No NeedsCountAndPrice) h = refl
short_word (reply.No TotalLimit) h = refl
short_word (reply.No Full) h = refl
short_word (reply.No NoItem) h = refl
short_word (reply.No NotFree) h = refl
short_word (reply.No InUse) h = refl
short_word (reply.No Exists) h = refl
short_word (reply.No NoCustomer) h = refl
short_word (reply.No SoldOut) h = refl
short_word (reply.No NotBooked) h = refl
short_word (reply.No UnitLimit) h = refl
short_word (reply.Trip r) h = absurd h
short_word (reply.Update r) h = absurd h

-- replies of the same text have the same word
pub same_word : (r q : Reply) → IsShort r → IsShort q → reply_text r ≡ reply_text q → word_of r ≡ word_of q
same_word r q h g e = sym (short_word r h) ∙ ap text_word e ∙ short_word q g

-- what a text shows, a word shows
pub record Tests (r : Reply) : Type 0 where
  pub done : is_reply reply.Done (reply_text r) ≡ bytes_eq (word_of r) (codes "true")
  pub full : is_reply (reply.No Full) (reply_text r) ≡ is_why Full (word_of r)
  pub sold : is_reply (reply.No SoldOut) (reply_text r) ≡ is_why SoldOut (word_of r)
  pub known : joined_text (joined_of r) ≡ word_of r

pub tests : (r : Reply) → IsShort r → Tests r
tests reply.Done h = record { done = refl; full = refl; sold = refl; known = refl }
tests (reply.Number n) h = absurd h
tests (reply.Report r) h = absurd h
tests (reply.No NeedsCountAndPrice) h = record { done = refl; full = refl; sold = refl; known = refl }
tests (reply.No TotalLimit) h = record { done = refl; full = refl; sold = refl; known = refl }
tests (reply.No Full) h = record { done = refl; full = refl; sold = refl; known = refl }
tests (reply.No NoItem) h = record { done = refl; full = refl; sold = refl; known = refl }
tests (reply.No NotFree) h = record { done = refl; full = refl; sold = refl; known = refl }
tests (reply.No InUse) h = record { done = refl; full = refl; sold = refl; known = refl }
tests (reply.No Exists) h = record { done = refl; full = refl; sold = refl; known = refl }
tests (reply.No NoCustomer) h = record { done = refl; full = refl; sold = refl; known = refl }
tests (reply.No SoldOut) h = record { done = refl; full = refl; sold = refl; known = refl }
tests (reply.No NotBooked) h = record { done = refl; full = refl; sold = refl; known = refl }
tests (reply.No UnitLimit) h = record { done = refl; full = refl; sold = refl; known = refl }
tests (reply.Trip r) h = absurd h
tests (reply.Update r) h = absurd h

-- plain words
pub plain_both : (xs ys : List ℕ) → IsPlain xs → IsPlain ys → IsPlain (xs ++ ys)
plain_both xs ys p q = list_all-append is_word_byte xs ys ∙ rw (p, q) refl

why_plain : (why : Refusal) → IsPlain (why_name why)
why_plain NeedsCountAndPrice = refl
why_plain TotalLimit = refl
why_plain Full = refl
why_plain NoItem = refl
why_plain NotFree = refl
why_plain InUse = refl
why_plain Exists = refl
why_plain NoCustomer = refl
why_plain SoldOut = refl
why_plain NotBooked = refl
why_plain UnitLimit = refl

pub done_plain : (o : Option Refusal) → IsPlain (done_text o)
done_plain None = refl
done_plain (Some why) = why_plain why

pub joined_plain : (j : CustomerOutcome) → IsPlain (joined_text j)
joined_plain joined.NotAsked = refl
joined_plain joined.Added = refl
joined_plain (joined.Refused why) = why_plain why

-- updates
all_plain : (whys : List (Option Refusal)) → Each IsPlain (map done_text whys)
all_plain [] = tt
all_plain (w ∷ ws) = (done_plain w, all_plain ws)

spaced_changes : (whys : List (Option Refusal)) → flat_map change_text whys ≡ spaced (map done_text whys)
spaced_changes [] = refl
spaced_changes (w ∷ ws) = ap (λ t. (codes " " ++ done_text w) ++ t) (spaced_changes ws)

-- the text of the reply to an update
pub update_reads : (s : State) (cs : List Command) →
    reply_text (update s cs).1 ≡ words_text (codes "update" ∷ map done_text (steps s cs).1)
update_reads s cs =
    ap (λ ws. codes "update" ++ flat_map change_text ws)
    (ap (λ n. take n ((steps s cs).1 ++ replicate (MOST_PARTS - length cs) None)) (sym (length-steps s cs))
    ∙ take-append_seam (steps s cs).1 (replicate (MOST_PARTS - length cs) None))
    ∙ ap (λ t. codes "update" ++ t) (spaced_changes (steps s cs).1)

pub update_words : (s : State) (cs : List Command) →
    drop 1 (words_of (reply_text (update s cs).1)) ≡ map done_text (steps s cs).1
update_words s cs =
    ap (λ t. drop 1 (words_of t)) (update_reads s cs)
    ∙ ap (drop 1) (words_cut (codes "update" ∷ map done_text (steps s cs).1) (omega arith)
    (refl, all_plain (steps s cs).1))

-- the word for a kind in the reply to a trip
abbrev pub prefix : Kind → List ℕ
prefix Car = codes "car="
prefix Flight = codes "flight="
prefix Room = codes "room="

abbrev pub pick_word : Kind → Option Pick → List ℕ
pick_word kind pick = prefix kind ++ pick_text pick

-- the word for the customer
abbrev pub joined_word : CustomerOutcome → List ℕ
joined_word j = codes "cust=" ++ joined_text j

pub no_pick_word : (kind : Kind) → pick_word kind None ≡ no_pick kind
no_pick_word Car = refl
no_pick_word Flight = refl
no_pick_word Room = refl

-- the text of the reply to a trip
abbrev pub words_joined : List ℕ → List ℕ → List ℕ → List ℕ → List ℕ
words_joined customer car flight room = words_text (codes "trip" ∷ customer ∷ car ∷ flight ∷ room ∷ [])

pub trip_reads : (j : CustomerOutcome) (a b d : Option Pick) →
    reply_text (reply.Trip (record { joined = j; picks = a ∷ b ∷ d ∷ [] }))
    ≡ words_joined (joined_word j) (pick_word Car a) (pick_word Flight b) (pick_word Room d)
trip_reads j a b d = refl

-- picks of items whose ids are in their range
abbrev pub HasId : Option Pick → Type 0
HasId o = IfSome o (λ pick. is_id pick.id ≡ true)

pub id_small : (n : ℕ) → is_id n ≡ true → (1 ≤ n) × (n < 2 ^ 32)
id_small n h = (grind (arith, nat_tests, h), grind (arith, nat_tests, h))

pick_plain : (o : Option Pick) → HasId o → IsPlain (pick_text o)
pick_plain None h = refl
pick_plain (Some pick) h =
    let small = id_small pick.id h in
    plain_both (decimal pick.id ++ codes ":") (done_text pick.refused)
    (plain_both (decimal pick.id) (codes ":") (number_in_word pick.id (omega (arith, small.1))) refl)
    (done_plain pick.refused)

prefix_plain : (kind : Kind) → IsPlain (prefix kind)
prefix_plain Car = refl
prefix_plain Flight = refl
prefix_plain Room = refl

word_plain : (kind : Kind) (o : Option Pick) → HasId o → IsPlain (pick_word kind o)
word_plain kind o h = plain_both (prefix kind) (pick_text o) (prefix_plain kind) (pick_plain o h)

pub reply_words : (j : CustomerOutcome) (a b d : Option Pick) → HasId a → HasId b → HasId d →
    trip_words (reply_text (reply.Trip (record { joined = j; picks = a ∷ b ∷ d ∷ [] })))
    ≡ Some (joined_word j, pick_word Car a, pick_word Flight b, pick_word Room d)
reply_words j a b d ha hb hd =
    ap (λ t. five_words (words_of t)) (trip_reads j a b d)
    ∙ ap five_words (words_cut (codes "trip" ∷ joined_word j ∷ pick_word Car a ∷ pick_word Flight b
    ∷ pick_word Room d ∷ []) (omega arith) (
      refl,
      (
        plain_both (codes "cust=") (joined_text j) refl (joined_plain j),
        (word_plain Car a ha, (word_plain Flight b hb, (word_plain Room d hd, tt))),
      ),
    ))

-- the pick that a word shows
pub none_seen : (kind : Kind) → shown_pick (pick_word kind None) ≡ None
none_seen Car = refl
none_seen Flight = refl
none_seen Room = refl

no_colons : (digits : List ℕ) → list_all is_ascii_digit digits ≡ true → HasNo 58 digits
no_colons [] h = All-nil (λ b. b ≢ 58)
no_colons (d ∷ ds) h =
    let both = both_true (is_ascii_digit d) (list_all is_ascii_digit ds) h in
    All-cons (λ b. b ≢ 58) d ds
    (λ e. let never : false ≡ true = sym (ap is_ascii_digit e) ∙ both.0 in cc) (no_colons ds both.1)

known_value : {X : Type 0} (o : Option X) (x : X) → ok_or o BadNumber ≡ Ok x → o ≡ Some x
known_value None x e = absurd (let never : ok_or None BadNumber ≡ Ok x = e in cc)
known_value (Some y) x e = cc

pub id_read : (n : ℕ) → is_id n ≡ true → id_of (decimal n) ≡ Some n
id_read n h =
    let small = id_small n h in
    known_value (id_of (decimal n)) n (number_read 1 4294967295 n small.0 (omega (arith, small.1)) small.1)

value_seen : (kind : Kind) (text : List ℕ) → value_of (prefix kind ++ text) ≡ text
value_seen Car text = refl
value_seen Flight text = refl
value_seen Room text = refl

abbrev with_result : List ℕ → ℕ → Shown
with_result text id = (id, after_first (λ b. b == 58) text)

abbrev shown_value : List ℕ → Option Shown
shown_value text = option_map (with_result text) (id_of (before_first (λ b. b == 58) text))

abbrev shows : ℕ → List ℕ → Option Shown
shows id result = Some (id, result)

pub pick_seen : (kind : Kind) (pick : Pick) → is_id pick.id ≡ true →
    shown_pick (pick_word kind (Some pick)) ≡ Some (pick.id, done_text pick.refused)
pick_seen kind pick h =
    let small = id_small pick.id h in
    let digits = no_colons (decimal pick.id) (all_digits pick.id (omega (arith, small.1))) in
    let text = decimal pick.id ++ 58 ∷ done_text pick.refused in
    ap (λ t. shown_pick (prefix kind ++ t)) (append_assoc (decimal pick.id) (codes ":") (done_text pick.refused))
    ∙ ap shown_value (value_seen kind text)
    ∙ ap (λ w. option_map (with_result text) (id_of w))
    (sym (before_cut 58 text (decimal pick.id) (done_text pick.refused) digits refl))
    ∙ ap (option_map (with_result text)) (id_read pick.id h)
    ∙ ap (shows pick.id) (sym (after_cut 58 text (decimal pick.id) (done_text pick.refused) digits refl))
