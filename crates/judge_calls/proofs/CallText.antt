-- The line that is written of a call is read as that call.
use Rattle.std.proofs.Common.{◌≡◌, ◌≤◌, ◌<◌, ◌+◌, ◌*◌, ◌-◌, ◌/◌, ◌%◌, ◌^◌, ◌&&◌, ◌||◌, Bool, true, false, cond, not}
use Rattle.std.proofs.Common.{inl, inr, Option, Some, None, Ok, ℕ, List, [], ◌∷◌, ◌++◌, length, take, decimal, codes}
use Rattle.std.proofs.Common.{refl, sym, ap, subst, ◌∙◌, arith, append_assoc, append-nil, length-append, length-take}
use Rattle.std.proofs.Common.{slice_index, ◌==◌, All, nat_lt}
use Rattle.std.specs.List.{list_all, list_any, flat_map, zip}
use Rattle.std.specs.Char.{is_ascii_digit}
use Rattle.std.proofs.lemmas.Bool.{le-leb, le-ltb}
use Rattle.std.proofs.lemmas.Bool.Decides.{nat_tests}
use Rattle.std.proofs.lemmas.Fmt.{decimal_by_steps, decimal_nonempty, length-decimal-le}
use Rattle.std.proofs.lemmas.List.Elements.{All-head, All-tail}
use Rattle.std.proofs.lemmas.List.Folds.{list_any-append}
use Rattle.std.proofs.lemmas.List.Sums.{fold-append}
use Rattle.vac_model.specs.declared.items.Kind.{Kind}
use Rattle.vac_model.specs.declared.items.Kind.TheVariants.{Car, Flight, Room}
use Rattle.vac_model.specs.declared.commands.Command.{Command}
use Rattle.vac_model.specs.declared.commands.Command.TheVariants as command
use Rattle.vac_model.specs.declared.commands.Refusal.{Refusal}
use Rattle.vac_model.specs.declared.commands.Refusal.TheVariants as why
use Rattle.vac_model.specs.declared.tasks.Task.{Task}
use Rattle.vac_model.specs.declared.tasks.Task.TheVariants as task
use Rattle.vac_model.specs.declared.replies.Reply.{Reply}
use Rattle.vac_model.specs.declared.replies.Reply.TheVariants as reply
use Rattle.vac_model.specs.declared.replies.Report.{Report}
use Rattle.vac_model.specs.declared.replies.CustomerOutcome.{CustomerOutcome}
use Rattle.vac_model.specs.declared.replies.CustomerOutcome.TheVariants.{NotAsked, Added, Refused}
use Rattle.vac_model.specs.declared.replies.Pick.{Pick}
use Rattle.vac_model.specs.Amounts.{is_id, is_amount, is_optional_amount, is_unit_count, is_list_length}
use Rattle.vac_model.specs.Amounts.{has_deletable_units}
use Rattle.vac_model.specs.Ranges.{is_change, is_command, is_task}
use Rattle.vac_lines.specs.Lines.{words_of}
use Rattle.vac_lines.specs.Words.{decimal_value}
use Rattle.vac_lines.specs.LineTable.{is_bad_byte}
use Rattle.vac_model.specs.ReplyText.{why_name, done_text, field_text, entries_text, booked_text, sums_text}
use Rattle.vac_model.specs.ReplyText.{report_text}
use Rattle.vac_model.specs.ReplyText.{joined_text, pick_text, change_text, picks_text, trip_text, reply_text}
use Rattle.vac_lines.specs.TaskText.{TaskTextsAreRead}
use Rattle.vac_model.specs.TaskText.{kind_word, price_word, units_words, command_words, further_words}
use Rattle.vac_model.specs.TaskText.{changes_words, task_words, task_text, spaced, words_text}
use Rattle.vac_lines.proofs.Decimals.{all_digits, number_in_word}
use Rattle.vac_lines.proofs.Spacing.{Each, IsPlain, each_both, words_cut, words_clean}
use Rattle.vac_lines.proofs.TaskReading.{both, small_id, small_amount, small_units, ask_words, has_id, is_good_change}
use Rattle.vac_lines.proofs.TaskReading.{words_plain, task_some}
use Rattle.judge_calls.specs.Call.{Call, CallTexts, is_arrow, parts_of, call_parts, parts_call, at_client, at_time}
use Rattle.judge_calls.specs.Call.{at_end}
use Rattle.judge_calls.specs.Call.{reply_at, is_no_end, is_no_reply, lacks_reply, line_call}
use Rattle.vac_lines.specs.declared.client.TheConstants.{MOST_CLIENT}
use Rattle.judge_object.specs.declared.span.TheConstants.{NEVER}
use Rattle.vac_lines.specs.declared.line.TheConstants.{LINE_BYTES}
use Rattle.judge_calls.specs.Parts.{IsCutAtArrow}
use Rattle.judge_calls.specs.CallText.{call_text, end_text, answer_text, IsPick, IsReply, IsUnanswered, IsWritten}
use Rattle.judge_calls.specs.CallText.{IsAnsweredCall, IsUndetermined}
use Rattle.judge_calls.specs.CallText.{CallTextsAreRead}
use Rattle.judge_calls.proofs.Arrows.{words_between, cut_gives, all_parts}

-- numbers

value_one : (n : ℕ) → n < 10 → decimal_value ((48 + n) ∷ []) ≡ n
value_one n h = omega arith

value_more : (n : ℕ) (digits : List ℕ) → 10 ≤ n → decimal_value digits ≡ n / 10 →
    decimal_value (digits ++ ((48 + n % 10) ∷ [])) ≡ n
value_more n digits h e =
    let last = fold-append (λ (m d : ℕ). 10 * m + (d - 48)) 0 digits ((48 + n % 10) ∷ []) in
    omega (arith, last, e)

-- a number in decimal is read as itself
value_is : (n : ℕ) → n < 2 ^ 64 → decimal_value (decimal n) ≡ n
value_is n small = decimal_by_steps (λ m digits. decimal_value digits ≡ m) value_one value_more n small

client_read : (n : ℕ) → n ≤ 4294967295 → at_client (decimal n) ≡ Ok n
client_read n low =
    let some = decimal_nonempty n (omega (arith, low)) in
    let few = length-decimal-le 10 n (omega arith) (omega (arith, low)) (omega (arith, low)) in
    rw (
      le-leb 1 (length (decimal n)) some,
      le-leb (length (decimal n)) 10 few,
      all_digits n (omega (arith, low)),
      value_is n (omega (arith, low)),
      le-leb 0 n (omega arith),
      le-leb n 4294967295 low,
    ) refl

time_read : (n : ℕ) → n < 2 ^ 64 → at_time (decimal n) ≡ Ok n
time_read n small =
    let some = decimal_nonempty n small in
    let few = length-decimal-le 20 n (omega arith) (omega (arith, small)) small in
    rw (
      le-leb 1 (length (decimal n)) some,
      le-leb (length (decimal n)) 20 few,
      all_digits n small,
      value_is n small,
      le-leb 0 n (omega arith),
      le-leb n (2 ^ 64 - 1) (omega (arith, small)),
    ) refl

-- a word that is no arrow
abbrev IsOther : List ℕ → Type 0
IsOther word = is_arrow word ≡ false

and_left : (a b : Bool) → (a && b) ≡ true → a ≡ true
and_left true b e = refl
and_left false b e = e

digits_other : (digits : List ℕ) → list_all is_ascii_digit digits ≡ true → IsOther digits
digits_other [] e = refl
digits_other (d ∷ ds) e = let h = and_left (is_ascii_digit d) (list_all is_ascii_digit ds) e in
    grind (arith, nat_tests, h)

number_other : (n : ℕ) → n < 2 ^ 64 → IsOther (decimal n)
number_other n small = digits_other (decimal n) (all_digits n small)

id_other : (n : ℕ) → is_id n ≡ true → IsOther (decimal n)
id_other n h = number_other n (let s = small_id n h in omega (arith, s.1))

amount_other : (n : ℕ) → is_amount n ≡ true → IsOther (decimal n)
amount_other n h = number_other n (let s = small_amount n h in omega (arith, s))

kind_other : (k : Kind) → IsOther (kind_word k)
kind_other Car = refl
kind_other Flight = refl
kind_other Room = refl

price_other : (p : Option ℕ) → is_optional_amount p ≡ true → IsOther (price_word p)
price_other None h = refl
price_other (Some n) h = amount_other n h

units_case : (n : ℕ) (b : Bool) → is_unit_count n ≡ true → Each IsOther (cond b [] (decimal n ∷ []))
units_case n true h = tt
units_case n false h = (number_other n (let s = small_units n h in omega (arith, s.1)), tt)

units_other : (n : ℕ) → is_unit_count n ≡ true → Each IsOther (units_words n)
units_other n h = units_case n (n == 1) h

-- no word of a command is an arrow
command_other : (c : Command) → is_command c ≡ true → Each IsOther (command_words c)
command_other (command.Add kind id num price) h =
    let p = both (is_id id && is_amount num) (is_optional_amount price) h in
    let q = both (is_id id) (is_amount num) p.left in
    (refl, (kind_other kind, (id_other id q.left, (amount_other num q.right, (price_other price p.right, tt)))))
command_other (command.Delete kind id num) h =
    let p = both (has_deletable_units kind && is_id id) (is_amount num) h in
    let q = both (has_deletable_units kind) (is_id id) p.left in
    (refl, (kind_other kind, (id_other id q.right, (amount_other num p.right, tt))))
command_other (command.DropFlight id) h = (refl, (refl, (id_other id h, tt)))
command_other (command.NewCustomer id) h = (refl, (id_other id h, tt))
command_other (command.DropCustomer id) h = (refl, (id_other id h, tt))
command_other (command.Free kind id) h = (refl, (kind_other kind, (id_other id h, tt)))
command_other (command.Price kind id) h = (refl, (kind_other kind, (id_other id h, tt)))
command_other (command.Bill id) h = (refl, (id_other id h, tt))
command_other (command.Reserve customer kind id units) h =
    let p = both (is_id customer && is_id id) (is_unit_count units) h in
    let q = both (is_id customer) (is_id id) p.left in
    (refl, (id_other customer q.left, (kind_other kind, (id_other id q.right, units_other units p.right))))
command_other (command.Cancel customer kind id) h =
    let q = both (is_id customer) (is_id id) h in
    (refl, (id_other customer q.left, (kind_other kind, (id_other id q.right, tt))))
command_other command.Audit h = (refl, tt)

asks_other : (asks : List (Kind × ℕ)) → list_all has_id asks ≡ true → Each IsOther (flat_map ask_words asks)
asks_other [] h = tt
asks_other (ask ∷ asks) h =
    let p = both (has_id ask) (list_all has_id asks) h in
    (kind_other ask.0, (id_other ask.1 p.left, asks_other asks p.right))

further_other : (cs : List Command) → list_all is_good_change cs ≡ true → Each IsOther (flat_map further_words cs)
further_other [] h = tt
further_other (c ∷ cs) h =
    let p = both (is_good_change c) (list_all is_good_change cs) h in
    let q = both (is_change c) (is_command c) p.left in (
      refl,
      each_both IsOther (command_words c) (flat_map further_words cs) (command_other c q.right)
          (further_other cs p.right),
    )

changes_other : (cs : List Command) → list_all is_good_change cs ≡ true → Each IsOther (changes_words cs)
changes_other [] h = tt
changes_other (c ∷ cs) h =
    let p = both (is_good_change c) (list_all is_good_change cs) h in
    let q = both (is_change c) (is_command c) p.left in
    each_both IsOther (command_words c) (flat_map further_words cs) (command_other c q.right) (further_other cs p.right)

-- no word of a task is an arrow
task_other : (t : Task) → is_task t ≡ true → Each IsOther (task_words t)
task_other (task.One c) h = command_other c h
task_other (task.Trip customer asks) h =
    let p = both (is_id customer && is_list_length (length asks)) (list_all has_id asks) h in
    let q = both (is_id customer) (is_list_length (length asks)) p.left in
    (refl, (id_other customer q.left, asks_other asks p.right))
task_other (task.Leave customer) h = (refl, (id_other customer h, tt))
task_other (task.Update changes) h =
    (refl, changes_other changes (both (is_list_length (length changes)) (list_all is_good_change changes) h).right)

no_arrow : (words : List (List ℕ)) → Each IsOther words → list_any is_arrow words ≡ false
no_arrow [] h = refl
no_arrow (w ∷ ws) h = ap (λ b. b || list_any is_arrow ws) h.0 ∙ no_arrow ws h.1

-- a text without bad bytes that is no longer than this
record Fits (most : ℕ) (text : List ℕ) : Type 0 where
  pub clean : list_any is_bad_byte text ≡ false
  pub size : length text ≤ most

fits_both : (a b : ℕ) (xs ys : List ℕ) → Fits a xs → Fits b ys → Fits (a + b) (xs ++ ys)
fits_both a b xs ys p q = record {
  clean = list_any-append is_bad_byte xs ys ∙ rw (p.clean, q.clean) refl;
  size = omega (arith, length-append xs ys, p.size, q.size);
}

fits_more : (a b : ℕ) (xs : List ℕ) → a ≤ b → Fits a xs → Fits b xs
fits_more a b xs h p = record { clean = p.clean; size = omega (arith, h, p.size) }

number_fits : (n : ℕ) → n < 2 ^ 64 → Fits 20 (decimal n)
number_fits n small = record {
  clean = ap (list_any is_bad_byte) (sym (append-nil (decimal n))) ∙ words_clean (decimal n ∷ [])
      (number_in_word n small, tt);
  size = length-decimal-le 20 n (omega arith) (omega (arith, small)) small;
}

-- the name of a refusal
why_fits : (w : Refusal) → Fits 21 (why_name w)
why_fits why.NeedsCountAndPrice = record { clean = refl; size = omega arith }
why_fits why.TotalLimit = record { clean = refl; size = omega arith }
why_fits why.Full = record { clean = refl; size = omega arith }
why_fits why.NoItem = record { clean = refl; size = omega arith }
why_fits why.NotFree = record { clean = refl; size = omega arith }
why_fits why.InUse = record { clean = refl; size = omega arith }
why_fits why.Exists = record { clean = refl; size = omega arith }
why_fits why.NoCustomer = record { clean = refl; size = omega arith }
why_fits why.SoldOut = record { clean = refl; size = omega arith }
why_fits why.NotBooked = record { clean = refl; size = omega arith }
why_fits why.UnitLimit = record { clean = refl; size = omega arith }

done_fits : (w : Option Refusal) → Fits 21 (done_text w)
done_fits None = record { clean = refl; size = omega arith }
done_fits (Some w) = why_fits w

field_fits : (name : List ℕ) (n : ℕ) → Fits 11 name → n < 2 ^ 64 → Fits 31 (field_text name n)
field_fits name n p small = fits_both 11 20 name (decimal n) p (number_fits n small)

joined_fits : (j : CustomerOutcome) → Fits 21 (joined_text j)
joined_fits NotAsked = record { clean = refl; size = omega arith }
joined_fits Added = record { clean = refl; size = omega arith }
joined_fits (Refused w) = why_fits w

pick_fits : (p : Option Pick) → IsPick p → Fits 42 (pick_text p)
pick_fits None h = record { clean = refl; size = omega arith }
pick_fits (Some pick) h =
    fits_both 21 21 (decimal pick.id ++ codes ":") (done_text pick.refused)
    (fits_both 20 1 (decimal pick.id) (codes ":") (number_fits pick.id (omega (arith, h)))
    (record { clean = refl; size = omega arith })) (done_fits pick.refused)

picks_fit : (names : List (List ℕ)) (picks : List (Option Pick)) → Each (Fits 8) names → All IsPick picks
    → Fits (50 * length names) (flat_map (λ p. p.0 ++ pick_text p.1) (zip names picks))
picks_fit [] picks h g = record { clean = refl; size = omega arith }
picks_fit (name ∷ names) [] h g = record { clean = refl; size = omega arith }
picks_fit (name ∷ names) (p ∷ ps) h g =
    let own = fits_both 8 42 name (pick_text p) h.0 (pick_fits p (All-head IsPick p ps g)) in
    let more = picks_fit names ps h.1 (All-tail IsPick p ps g) in
    fits_more (50 + 50 * length names) (50 * length (name ∷ names))
    ((name ++ pick_text p) ++ flat_map (λ p. p.0 ++ pick_text p.1) (zip names ps)) (omega arith)
    (fits_both 50 (50 * length names) (name ++ pick_text p) (flat_map (λ p. p.0 ++ pick_text p.1) (zip names ps)) own
    more)

changes_fit : (changes : List (Option Refusal)) → Fits (22 * length changes) (flat_map change_text changes)
changes_fit [] = record { clean = refl; size = omega arith }
changes_fit (w ∷ ws) =
    let own = fits_both 1 21 (codes " ") (done_text w) (record { clean = refl; size = omega arith }) (done_fits w) in
    fits_more (22 + 22 * length ws) (22 * length (w ∷ ws)) (change_text w ++ flat_map change_text ws) (omega arith)
    (fits_both 22 (22 * length ws) (change_text w) (flat_map change_text ws) own (changes_fit ws))

three_fit : (xs ys zs : List ℕ) → Fits 31 xs → Fits 31 ys → Fits 31 zs → Fits 93 (xs ++ ys ++ zs)
three_fit xs ys zs p q r = fits_both 62 31 (xs ++ ys) zs (fits_both 31 31 xs ys p q) r

report_fits : (r : Report) → IsReply (reply.Report r) → Fits 279 (report_text r)
report_fits r h = fits_both 186 93 (entries_text r ++ booked_text r) (sums_text r)
    (fits_both 93 93 (entries_text r) (booked_text r) entries booked) sums
  where
    at : (n : ℕ) → n < 9 → slice_index (r.cars ∷ r.flights ∷ r.rooms ∷ r.customers ∷ r.bookings ∷ r.used ∷ r.free ∷
        r.total ∷ r.billed ∷ []) n < 2 ^ 64
    at n l = h n 0 l

    entries : Fits 93 (entries_text r)
    entries = three_fit (field_text (codes "cars=") r.cars) (field_text (codes " flights=") r.flights)
        (field_text (codes " rooms=") r.rooms)
        (field_fits (codes "cars=") r.cars (record { clean = refl; size = omega arith }) (at 0 (omega arith)))
        (field_fits (codes " flights=") r.flights (record { clean = refl; size = omega arith }) (at 1 (omega arith)))
        (field_fits (codes " rooms=") r.rooms (record { clean = refl; size = omega arith }) (at 2 (omega arith)))

    booked : Fits 93 (booked_text r)
    booked = three_fit (field_text (codes " customers=") r.customers) (field_text (codes " bookings=") r.bookings)
        (field_text (codes " used=") r.used)
        (field_fits (codes " customers=") r.customers (record { clean = refl; size = omega arith })
        (at 3 (omega arith)))
        (field_fits (codes " bookings=") r.bookings (record { clean = refl; size = omega arith }) (at 4 (omega arith)))
        (field_fits (codes " used=") r.used (record { clean = refl; size = omega arith }) (at 5 (omega arith)))

    sums : Fits 93 (sums_text r)
    sums = three_fit (field_text (codes " free=") r.free) (field_text (codes " total=") r.total)
        (field_text (codes " billed=") r.billed)
        (field_fits (codes " free=") r.free (record { clean = refl; size = omega arith }) (at 6 (omega arith)))
        (field_fits (codes " total=") r.total (record { clean = refl; size = omega arith }) (at 7 (omega arith)))
        (field_fits (codes " billed=") r.billed (record { clean = refl; size = omega arith }) (at 8 (omega arith)))

update_fits : (len : ℕ) (refused : List (Option Refusal)) → length refused ≤ 32 →
    Fits 800 (codes "update" ++ flat_map change_text (take len refused))
update_fits len refused few =
    let changes = take len refused in
    fits_more (6 + 22 * length changes) 800 (codes "update" ++ flat_map change_text changes)
    (omega (arith, few, length-take len refused))
    (fits_both 6 (22 * length changes) (codes "update") (flat_map change_text changes)
    (record { clean = refl; size = omega arith }) (changes_fit changes))

-- the text of a reply
reply_fits : (r : Reply) → IsReply r → Fits 800 (reply_text r)
reply_fits reply.Done h = record { clean = refl; size = omega arith }
reply_fits (reply.Number None) h = record { clean = refl; size = omega arith }
reply_fits (reply.Number (Some n)) h = fits_more 20 800 (decimal n) (omega arith) (number_fits n h)
reply_fits (reply.Report r) h = fits_more 279 800 (report_text r) (omega arith) (report_fits r h)
reply_fits (reply.No w) h =
    fits_more 27 800 (codes "false " ++ why_name w) (omega arith)
    (fits_both 6 21 (codes "false ") (why_name w) (record { clean = refl; size = omega arith }) (why_fits w))
reply_fits (reply.Trip t) h =
    let names = codes " car=" ∷ codes " flight=" ∷ codes " room=" ∷ [] in
    let picks = picks_fit names t.picks (
      record { clean = refl; size = omega arith },
      (record { clean = refl; size = omega arith }, (record { clean = refl; size = omega arith }, tt)),
    ) h in
    fits_more 181 800 (trip_text t) (omega arith)
    (fits_both 31 150 (codes "trip cust=" ++ joined_text t.joined) (picks_text t.picks)
    (fits_both 10 21 (codes "trip cust=") (joined_text t.joined) (record { clean = refl; size = omega arith })
    (joined_fits t.joined)) picks)
reply_fits (reply.Update u) h = update_fits u.len u.refused h

-- the line of a task
task_fits : (t : Task) → is_task t ≡ true → length (task_text t) ≤ 1024 → Fits 1024 (task_text t)
task_fits t h few = record { clean = words_clean (task_words t) (words_plain t h); size = few }

-- one more word behind a space
fits_spaced : (a b : ℕ) (xs ys : List ℕ) → Fits a xs → Fits b ys → Fits (a + 1 + b) (xs ++ codes " " ++ ys)
fits_spaced a b xs ys p q = fits_both (a + 1) b (xs ++ codes " ") ys
    (fits_both a 1 xs (codes " ") p (record { clean = refl; size = omega arith })) q

-- the text of an END, and what reading it gives
record IsEnd (end : ℕ) (text : List ℕ) : Type 0 where
  pub fits : Fits 20 text
  pub plain : IsPlain text
  pub other : IsOther text
  pub read : at_end text ≡ Ok end

-- END and REPLY of a call as they are written, and what reading them gives
record IsGiven (c : Call) : Type 0 where
  pub client : c.client ≤ MOST_CLIENT
  pub begin : c.begin < 2 ^ 64
  pub task : is_task c.op ≡ true
  pub line : length (task_text c.op) ≤ LINE_BYTES
  pub end : IsEnd c.end (end_text c.end)
  pub reply_fits : Fits 800 (answer_text c.reply)
  pub reply_read : reply_at (answer_text c.reply) ≡ c.reply
  pub whole : lacks_reply (end_text c.end) (answer_text c.reply) ≡ false

digits_no_end : (digits : List ℕ) → list_all is_ascii_digit digits ≡ true → is_no_end digits ≡ false
digits_no_end [] e = refl
digits_no_end (d ∷ ds) e = let h = and_left (is_ascii_digit d) (list_all is_ascii_digit ds) e in
    grind (arith, nat_tests, h)

digits_no_reply : (digits : List ℕ) → list_all is_ascii_digit digits ≡ true → is_no_reply digits ≡ false
digits_no_reply [] e = refl
digits_no_reply (d ∷ ds) e = let h = and_left (is_ascii_digit d) (list_all is_ascii_digit ds) e in
    grind (arith, nat_tests, h)

-- no reply has the text that stands for none
reply_other : (r : Reply) → IsReply r → is_no_reply (reply_text r) ≡ false
reply_other reply.Done h = refl
reply_other (reply.Number None) h = refl
reply_other (reply.Number (Some n)) h = digits_no_reply (decimal n) (all_digits n h)
reply_other (reply.Report r) h = refl
reply_other (reply.No w) h = refl
reply_other (reply.Trip t) h = refl
reply_other (reply.Update u) h = refl

-- the END of a completed call
pub end_is : (n : ℕ) → n < 2 ^ 64 → end_text n ≡ decimal n
end_is n small =
    let ends : nat_lt n NEVER ≡ true = grind (arith, nat_tests, small) in
    ap (λ b. cond b (decimal n) (codes "-")) ends

end_some : (n : ℕ) → n < 2 ^ 64 → IsEnd n (end_text n)
end_some n small =
    let digits = digits_no_end (decimal n) (all_digits n small) in
    subst (IsEnd n) (sym (end_is n small)) (record {
      fits = number_fits n small;
      plain = number_in_word n small;
      other = number_other n small;
      read = ap (λ b. cond b (Ok NEVER) (at_time (decimal n))) digits ∙ time_read n small;
    })

-- the END of a pending call
pub no_end_is : (n : ℕ) → n ≡ NEVER → end_text n ≡ codes "-"
no_end_is n never =
    let ends : nat_lt n NEVER ≡ false = grind (arith, nat_tests, never) in
    ap (λ b. cond b (decimal n) (codes "-")) ends

end_none : (n : ℕ) → n ≡ NEVER → IsEnd n (end_text n)
end_none n never = subst (IsEnd n) (sym (no_end_is n never)) (record {
  fits = record { clean = refl; size = omega arith };
  plain = refl;
  other = refl;
  read = ap Ok (sym never);
})

-- no reply of a pending call is lacking
pending_whole : (n : ℕ) (reply : List ℕ) → n ≡ NEVER → lacks_reply (end_text n) reply ≡ false
pending_whole n reply never = subst (λ t. lacks_reply t reply ≡ false) (sym (no_end_is n never)) refl

-- and none that is another text than that of an unknown one
reply_whole : (end reply : List ℕ) → is_no_reply reply ≡ false → lacks_reply end reply ≡ false
reply_whole end reply e = go (is_no_end end)
  where
    go : (b : Bool) → (not b && is_no_reply reply) ≡ false
    go true = refl
    go false = e

reply_kept : (text : List ℕ) → is_no_reply text ≡ false → reply_at text ≡ Some text
reply_kept text other = ap (λ b. cond b None (Some text)) other

-- the facts of a completed call with this reply
given_some : (c : Call) (r : Reply) → IsAnsweredCall c r → IsGiven c
given_some c r h =
    let e = h.reply in
    let other = reply_other r h.numbers in
    record {
      client = h.client;
      begin = h.begin;
      task = h.task;
      line = h.line;
      end = end_some c.end h.end;
      reply_fits = subst (λ o. Fits 800 (answer_text o)) (sym e) (reply_fits r h.numbers);
      reply_read = subst (λ o. reply_at (answer_text o) ≡ o) (sym e) (reply_kept (reply_text r) other);
      whole = subst (λ o. lacks_reply (end_text c.end) (answer_text o) ≡ false) (sym e)
          (reply_whole (end_text c.end) (reply_text r) other);
    }

-- the facts of an undetermined call with this reply
given_perhaps : (c : Call) (r : Reply) → IsUndetermined c r → IsGiven c
given_perhaps c r h =
    let e = h.reply in
    record {
      client = h.client;
      begin = h.begin;
      task = h.task;
      line = h.line;
      end = end_none c.end h.end;
      reply_fits = subst (λ o. Fits 800 (answer_text o)) (sym e) (reply_fits r h.numbers);
      reply_read = subst (λ o. reply_at (answer_text o) ≡ o) (sym e)
          (reply_kept (reply_text r) (reply_other r h.numbers));
      whole = pending_whole c.end (answer_text c.reply) h.end;
    }

-- the facts of a pending call without a reply
given_none : (c : Call) → IsUnanswered c → IsGiven c
given_none c h = record {
  client = h.client;
  begin = h.begin;
  task = h.task;
  line = h.line;
  end = end_none c.end h.end;
  reply_fits = subst (λ o. Fits 800 (answer_text o)) (sym h.reply) (record { clean = refl; size = omega arith });
  reply_read = subst (λ o. reply_at (answer_text o) ≡ o) (sym h.reply) refl;
  whole = pending_whole c.end (answer_text c.reply) h.end;
}

given_of : (c : Call) → IsWritten c → IsGiven c
given_of c (inl h) = given_some c h.0 h.1
given_of c (inr (inl h)) = given_perhaps c h.0 h.1
given_of c (inr (inr h)) = given_none c h

-- what stands before the arrow
abbrev front : Call → List ℕ
front c = decimal c.client ++ codes " " ++ decimal c.begin ++ codes " " ++ end_text c.end ++ codes " " ++
    task_text c.op

call_fits : (c : Call) → IsGiven c → Fits 4096 (call_text c)
call_fits c h =
    let last = end_text c.end in
    let client : Fits 20 (decimal c.client) = number_fits c.client (let small = h.client in omega (arith, small)) in
    let begin : Fits 41 (decimal c.client ++ codes " " ++ decimal c.begin) =
    fits_spaced 20 20 (decimal c.client) (decimal c.begin) client (number_fits c.begin h.begin) in
    let end : Fits 62 (decimal c.client ++ codes " " ++ decimal c.begin ++ codes " " ++ last) =
    fits_spaced 41 20 (decimal c.client ++ codes " " ++ decimal c.begin) last begin h.end.fits in
    let line : Fits 1087 (front c) =
    fits_spaced 62 1024 (decimal c.client ++ codes " " ++ decimal c.begin ++ codes " " ++ last) (task_text c.op) end
    (task_fits c.op h.task h.line) in
    fits_more 1891 4096 (call_text c) (omega arith)
    (fits_both 1091 800 (front c ++ codes " -> ") (answer_text c.reply)
    (fits_both 1087 4 (front c) (codes " -> ") line (record { clean = refl; size = omega arith })) h.reply_fits)

-- the words before the arrow
abbrev head_words : Call → List (List ℕ)
head_words c = decimal c.client ∷ decimal c.begin ∷ end_text c.end ∷ task_words c.op

spaced_text : (ws : List (List ℕ)) → 0 < length ws → spaced ws ≡ 32 ∷ words_text ws
spaced_text [] h = absurd (omega arith)
spaced_text (w ∷ ws) h = refl

from_left : (a b c d : List ℕ) → a ++ 32 ∷ [] ++ b ++ 32 ∷ [] ++ c ++ 32 ∷ [] ++ d ≡ a ++ 32 ∷ (b ++ 32 ∷ (c ++ 32 ∷ d))
from_left a b c d = simp append_assoc

front_is : (c : Call) → front c ≡ words_text (head_words c)
front_is c =
    let last = end_text c.end in
    from_left (decimal c.client) (decimal c.begin) last (task_text c.op)
    ∙ ap (λ s. decimal c.client ++ 32 ∷ (decimal c.begin ++ 32 ∷ (last ++ s)))
    (sym (spaced_text (task_words c.op) (task_some c.op)))

front_words : (c : Call) → IsGiven c → words_of (front c) ≡ head_words c
front_words c h =
    ap words_of (front_is c)
    ∙ words_cut (head_words c) (omega arith) (
      number_in_word c.client (let small = h.client in omega (arith, small)),
      (number_in_word c.begin h.begin, (h.end.plain, words_plain c.op h.task)),
    )

call_cut : (c : Call) → IsGiven c → IsCutAtArrow (call_text c) (front c) (answer_text c.reply)
call_cut c h = record {
  words = ap words_of (append_assoc (front c) (codes " -> ") (answer_text c.reply)) ∙ words_between (front c)
      (codes "-> " ++ answer_text c.reply);
  first =
      ap (list_any is_arrow) (front_words c h)
      ∙ no_arrow (head_words c) (
        number_other c.client (let small = h.client in omega (arith, small)),
        (number_other c.begin h.begin, (h.end.other, task_other c.op h.task)),
      );
}

-- the parts of the line
abbrev written : Call → CallTexts
written c = record {
  client = decimal c.client;
  begin = decimal c.begin;
  end = end_text c.end;
  line = task_text c.op;
  reply = answer_text c.reply;
}

call_cut_parts : (c : Call) → IsGiven c → call_parts (call_text c) ≡ Some (written c)
call_cut_parts c h =
    let last = end_text c.end in
    let task : words_of (task_text c.op) ≡ task_words c.op =
    words_cut (task_words c.op) (task_some c.op) (words_plain c.op h.task) in
    cut_gives (call_text c) (front c) (answer_text c.reply) (call_cut c h)
    ∙ ap (λ t. parts_of t (words_of (answer_text c.reply))) (front_words c h ∙
    ap (λ t. decimal c.client ∷ decimal c.begin ∷ last ∷ t) (sym task))
    ∙ all_parts (decimal c.client) (decimal c.begin) last (task_text c.op) (answer_text c.reply)

parts_read : TaskTextsAreRead → (c : Call) → IsGiven c → parts_call (written c) ≡ Ok c
parts_read read c h =
    rw (
      h.whole,
      client_read c.client h.client,
      time_read c.begin h.begin,
      h.end.read,
      h.reply_read,
      read c.op h.task h.line,
    ) refl

line_read : (line : List ℕ) (parts : CallTexts) (c : Call) → Fits 4096 line → call_parts line ≡ Some parts →
    parts_call parts ≡ Ok c → line_call line ≡ Ok c
line_read line parts c f p r = rw (le-ltb 4096 (length line) f.size, f.clean, p) r

-- the line of a call is read as that call
pub texts_read : TaskTextsAreRead → CallTextsAreRead
texts_read read = λ c h.
    let given = given_of c h in
    let fits = call_fits c given in
    record {
      fits = fits.size;
      read = line_read (call_text c) (written c) c fits (call_cut_parts c given) (parts_read read c given);
    }

-- no byte of it is a bad one
pub call_clean : (c : Call) → IsWritten c → list_any is_bad_byte (call_text c) ≡ false
call_clean c h = (call_fits c (given_of c h)).clean
