-- Lines of drawn items that are sent.
use Rattle.std.proofs.Common.{◌≡◌, ◌∙◌, ◌<◌, ◌-◌, refl, sym, ap, subst, arith, ℕ, zero, suc, ◌+◌, ◌*◌, List, [], ◌∷◌}
use Rattle.std.proofs.Common.{◌++◌, Option, Result, Ok, IfOk, append-nil, flat_map}
use Rattle.std.proofs.lemmas.Grind.{flat_map-append}
use Rattle.rand_pcg.specs.Lcg.{Lcg}
use Rattle.vac_model.specs.declared.commands.Command.{Command}
use Rattle.vac_model.specs.declared.commands.Command.TheVariants as command
use Rattle.vac_model.specs.declared.tasks.Task.{Task}
use Rattle.load_tasks.specs.declared.settings.Settings.{Settings}
use Rattle.load_tasks.specs.Draws.{Reader, joined, one, for_each, times_over, Drawn}
use Rattle.load_tasks.specs.Streams.{gives, stream_of}
use Rattle.load_tasks.specs.Tasks.{task_of, stocks, customers, opening, DrawnTask}
use Rattle.load_tasks.proofs.Drawing.{drawn_always, drawn_then_always, drawn_joined, drawn_one, plus_one}
use Rattle.vac_lines.specs.Writing.{AppendsPrefix}
use Rattle.load_tasks.specs.Worklist.{task_line, opening_line, DrawnLines, IsTextOf, WroteTasksPrefix}
use Rattle.vac_lines.specs.Sent.{Sent}
use Rattle.load_tasks.specs.Sending.{SentLines, SentInPart, SentTasks}
use Rattle.vac_lines.proofs.Texts.{sent_nothing, sent_both, part_second, part_first, prefix_is, prefix_longer}
use Rattle.vac_lines.proofs.Texts.{none_written, sent_end_in_part}
use Rattle.load_tasks.proofs.Totals.{IsTotal, task_total, times_total, opening_total}

module _ {X : Type 0} (line : X → List ℕ) where
  lines_joined : (first second : Reader (List X)) (a b c : Lcg) (x y : List ℕ) → DrawnLines first line a b x →
      DrawnLines second line b c y → DrawnLines (joined first second) line a c (x ++ y)
  lines_joined first second a b c x y p q = record {
    items = p.items ++ q.items;
    drawn = drawn_joined gives first second a p.items b q.items c p.drawn q.drawn;
    text_is = ap (λ t. t ++ y) p.text_is ∙ ap (λ t. flat_map line p.items ++ t) q.text_is ∙
        sym (flat_map-append line p.items q.items);
  }

  pub sent_joined : (first second : Reader (List X)) (a b c : Lcg) (held holds grown : Option (List ℕ))
      (hand hand' hand'' : List ℕ)
      → SentLines first line a b held holds hand hand' → SentLines second line b c holds grown hand' hand'' →
      SentLines (joined first second) line a c held grown hand hand''
  sent_joined first second a b c held holds grown hand hand' hand'' p q = record {
    text = p.text ++ q.text;
    lines = lines_joined first second a b c p.text q.text p.lines q.lines;
    sent = sent_both held holds grown hand hand' hand'' p.text q.text p.sent q.sent;
  }

  pub part_joined : (first second : Reader (List X)) (a b : Lcg) (held holds grown : Option (List ℕ))
      (hand hand' : List ℕ)
      → SentLines first line a b held holds hand hand' → SentInPart second line b holds grown hand' →
      SentInPart (joined first second) line a held grown hand
  part_joined first second a b held holds grown hand hand' p q = record {
    text = p.text ++ q.text;
    last = q.last;
    lines = lines_joined first second a b q.last p.text q.text p.lines q.lines;
    written = part_second held holds grown hand hand' p.text q.text p.sent q.written;
  }

  -- the lines that would have followed
  pub part_before : (first second : Reader (List X)) (a : Lcg) (held holds : Option (List ℕ)) (hand : List ℕ)
      → IsTotal second → SentInPart first line a held holds hand →
      SentInPart (joined first second) line a held holds hand
  part_before first second a held holds hand total p =
      let more = total p.last in
      record {
        text = p.text ++ flat_map line more.0;
        last = more.1;
        lines = lines_joined first second a p.last more.1 p.text (flat_map line more.0) p.lines
            (record { items = more.0; drawn = more.2; text_is = refl });
        written = part_first held holds hand p.text (flat_map line more.0) p.written;
      }

  pub sent_none : (f : ℕ → Reader (List X)) (a : Lcg) (held : Option (List ℕ)) (hand : List ℕ) →
      SentLines (for_each 0 f) line a a held held hand hand
  sent_none f a held hand = record {
    text = [];
    lines = record { items = []; drawn = drawn_always gives a []; text_is = refl };
    sent = sent_nothing held hand;
  }

  pub sent_more : (n : ℕ) (f : ℕ → Reader (List X)) (a b c : Lcg) (held holds grown : Option (List ℕ))
      (hand hand' hand'' : List ℕ)
      → SentLines (for_each n f) line a b held holds hand hand' →
      SentLines (f (n + 1)) line b c holds grown hand' hand'' →
      SentLines (for_each (n + 1) f) line a c held grown hand hand''
  sent_more n f a b c held holds grown hand hand' hand'' =
      rw (plus_one n) (λ p q. sent_joined (for_each n f) (f (suc n)) a b c held holds grown hand hand' hand'' p q)

  longer : (f : ℕ → Reader (List X)) → ((k : ℕ) → IsTotal (f k)) →
      (m n : ℕ) (a : Lcg) (held holds : Option (List ℕ)) (hand : List ℕ)
      → SentInPart (for_each n f) line a held holds hand → SentInPart (for_each (n + m) f) line a held holds hand
  longer f total zero n a held holds hand p =
      let e : n ≡ n + 0 = omega arith in
      subst (λ (k : ℕ). SentInPart (for_each k f) line a held holds hand) e p
  longer f total (suc m) n a held holds hand p =
      let e : suc (n + m) ≡ n + suc m = omega arith in
      subst (λ (k : ℕ). SentInPart (for_each k f) line a held holds hand) e
      (part_before (for_each (n + m) f) (f (suc (n + m))) a held holds hand (total (suc (n + m)))
      (longer f total m n a held holds hand p))

  -- one of the lines was sent in part
  pub part_more : (f : ℕ → Reader (List X)) → ((k : ℕ) → IsTotal (f k)) → (n all : ℕ) → n < all →
      (a b : Lcg) (held holds grown : Option (List ℕ)) (hand hand' : List ℕ)
      → SentLines (for_each n f) line a b held holds hand hand' → SentInPart (f (n + 1)) line b holds grown hand' →
      SentInPart (for_each all f) line a held grown hand
  part_more f total n all less a b held holds grown hand hand' p q =
      let e : suc n + (all - suc n) ≡ all = omega (arith, less) in
      let q' : SentInPart (f (suc n)) line b holds grown hand' =
      subst (λ (k : ℕ). SentInPart (f k) line b holds grown hand') (plus_one n) q in
      subst (λ (k : ℕ). SentInPart (for_each k f) line a held grown hand) e
      (longer f total (all - suc n) (suc n) a held grown hand
      (part_joined (for_each n f) (f (suc n)) a b held holds grown hand hand' p q'))

-- the text of one task
pub sent_task : {E : Type 0} (s : Settings) (client : ℕ) (a b : Lcg) (result : Result Task E) (t : Task)
    (held holds : Option (List ℕ)) (hand hand' : List ℕ)
    → result ≡ Ok t → DrawnTask gives (task_of s) a result b → Sent held holds hand hand' (task_line client t) →
    SentLines (one (task_of s)) (task_line client) a b held holds hand hand'
sent_task s client a b result t held holds hand hand' is d w =
    let built : t ≡ d.task = subst (λ (r : Result Task _). IfOk r (λ x. x ≡ d.task)) is d.built in
    record {
      text = task_line client t;
      lines = record {
        items = d.task ∷ [];
        drawn = drawn_one gives (task_of s) a d.task b d.drawn;
        text_is = ap (task_line client) built ∙ sym (append-nil (task_line client d.task));
      };
      sent = w;
    }

pub part_task : {E : Type 0} (s : Settings) (client : ℕ) (a b : Lcg) (result : Result Task E) (t : Task)
    (held holds : Option (List ℕ)) (hand : List ℕ)
    → result ≡ Ok t → DrawnTask gives (task_of s) a result b → AppendsPrefix held holds (hand ++ task_line client t) →
    SentInPart (one (task_of s)) (task_line client) a held holds hand
part_task s client a b result t held holds hand is d w =
    let built : t ≡ d.task = subst (λ (r : Result Task _). IfOk r (λ x. x ≡ d.task)) is d.built in
    record {
      text = task_line client t;
      last = b;
      lines = record {
        items = d.task ∷ [];
        drawn = drawn_one gives (task_of s) a d.task b d.drawn;
        text_is = ap (task_line client) built ∙ sym (append-nil (task_line client d.task));
      };
      written = w;
    }

-- a task that was drawn, but not built for lack of memory
pub unbuilt_task : {E : Type 0} (s : Settings) (client : ℕ) (a b : Lcg) (result : Result Task E)
    (held : Option (List ℕ)) (hand : List ℕ)
    → DrawnTask gives (task_of s) a result b → SentInPart (one (task_of s)) (task_line client) a held held hand
unbuilt_task s client a b result held hand d = record {
  text = task_line client d.task ++ [];
  last = b;
  lines = record { items = d.task ∷ []; drawn = drawn_one gives (task_of s) a d.task b d.drawn; text_is = refl };
  written = none_written held (hand ++ (task_line client d.task ++ []));
}

-- the command of an item
pub sent_command : (reader : Reader (List Command)) (c : Command) (a b : Lcg) (held holds : Option (List ℕ))
    (hand hand' : List ℕ)
    → Drawn gives reader a (c ∷ []) b → Sent held holds hand hand' (opening_line c) →
    SentLines reader opening_line a b held holds hand hand'
sent_command reader c a b held holds hand hand' d w = record {
  text = opening_line c;
  lines = record { items = c ∷ []; drawn = d; text_is = sym (append-nil (opening_line c)) };
  sent = w;
}

pub part_command : (reader : Reader (List Command)) (c : Command) (a b : Lcg) (held holds : Option (List ℕ))
    (hand : List ℕ)
    → Drawn gives reader a (c ∷ []) b → AppendsPrefix held holds (hand ++ opening_line c) →
    SentInPart reader opening_line a held holds hand
part_command reader c a b held holds hand d w = record {
  text = opening_line c;
  last = b;
  lines = record { items = c ∷ []; drawn = d; text_is = sym (append-nil (opening_line c)) };
  written = w;
}

-- the lines of the first n customers
abbrev pub made : ℕ → List ℕ
made n = flat_map opening_line (customers n)

made_more : (n : ℕ) → made (n + 1) ≡ made n ++ opening_line (command.NewCustomer (n + 1))
made_more n = rw (plus_one n) (flat_map-append opening_line (customers n) (command.NewCustomer (suc n) ∷ [])
    ∙ ap (λ t. made n ++ t) (append-nil (opening_line (command.NewCustomer (suc n)))))

pub customer_sent : (n : ℕ) (held holds grown : Option (List ℕ)) (hand hand' hand'' : List ℕ)
    → Sent held holds hand hand' (made n) → Sent holds grown hand' hand'' (opening_line (command.NewCustomer (n + 1))) →
    Sent held grown hand hand'' (made (n + 1))
customer_sent n held holds grown hand hand' hand'' p q =
    rw (made_more n) (sent_both held holds grown hand hand' hand'' (made n)
    (opening_line (command.NewCustomer (n + 1))) p q)

-- more customers
made_longer : (held holds : Option (List ℕ)) (hand : List ℕ) (m n : ℕ) → AppendsPrefix held holds (hand ++ made n) →
    AppendsPrefix held holds (hand ++ made (n + m))
made_longer held holds hand zero n p =
    let e : n ≡ n + 0 = omega arith in
    subst (λ (k : ℕ). AppendsPrefix held holds (hand ++ made k)) e p
made_longer held holds hand (suc m) n p =
    let e : (n + m) + 1 ≡ n + suc m = omega arith in
    let line = opening_line (command.NewCustomer ((n + m) + 1)) in
    subst (λ (k : ℕ). AppendsPrefix held holds (hand ++ made k)) e
    (prefix_is held holds (hand ++ (made (n + m) ++ line)) (hand ++ made ((n + m) + 1))
    (ap (λ t. hand ++ t) (sym (made_more (n + m))))
    (part_first held holds hand (made (n + m)) line (made_longer held holds hand m n p)))

pub customer_in_part : (n all : ℕ) → n < all → (held holds grown : Option (List ℕ)) (hand hand' : List ℕ)
    → Sent held holds hand hand' (made n) → AppendsPrefix holds grown
    (hand' ++ opening_line (command.NewCustomer (n + 1))) → AppendsPrefix held grown (hand ++ made all)
customer_in_part n all less held holds grown hand hand' p q =
    let line = opening_line (command.NewCustomer (n + 1)) in
    let e : (n + 1) + (all - (n + 1)) ≡ all = omega (arith, less) in
    subst (λ (k : ℕ). AppendsPrefix held grown (hand ++ made k)) e
    (made_longer held grown hand (all - (n + 1)) (n + 1)
    (prefix_is held grown (hand ++ (made n ++ line)) (hand ++ made (n + 1)) (ap (λ t. hand ++ t) (sym (made_more n)))
    (part_second held holds grown hand hand' (made n) line p q)))

-- the lines of the setup phase
lines_opening : (s : Settings) (a b : Lcg) (x : List ℕ) → DrawnLines (for_each s.items stocks) opening_line a b x →
    DrawnLines (opening s) opening_line a b (x ++ made s.items)
lines_opening s a b x p = record {
  items = p.items ++ customers s.items;
  drawn = drawn_then_always gives (for_each s.items stocks) (λ items. items ++ customers s.items) a p.items b p.drawn;
  text_is = ap (λ t. t ++ made s.items) p.text_is ∙ sym (flat_map-append opening_line p.items (customers s.items));
}

pub sent_opening : (s : Settings) (a b : Lcg) (held holds grown : Option (List ℕ)) (hand hand' hand'' : List ℕ)
    → SentLines (for_each s.items stocks) opening_line a b held holds hand hand' →
    Sent holds grown hand' hand'' (made s.items) → SentLines (opening s) opening_line a b held grown hand hand''
sent_opening s a b held holds grown hand hand' hand'' p q = record {
  text = p.text ++ made s.items;
  lines = lines_opening s a b p.text p.lines;
  sent = sent_both held holds grown hand hand' hand'' p.text (made s.items) p.sent q;
}

pub part_items : (s : Settings) (a : Lcg) (held holds : Option (List ℕ)) (hand : List ℕ)
    → SentInPart (for_each s.items stocks) opening_line a held holds hand →
    SentInPart (opening s) opening_line a held holds hand
part_items s a held holds hand p = record {
  text = p.text ++ made s.items;
  last = p.last;
  lines = lines_opening s a p.last p.text p.lines;
  written = part_first held holds hand p.text (made s.items) p.written;
}

pub part_customers : (s : Settings) (a b : Lcg) (held holds grown : Option (List ℕ)) (hand hand' : List ℕ)
    → SentLines (for_each s.items stocks) opening_line a b held holds hand hand' →
    AppendsPrefix holds grown (hand' ++ made s.items) → SentInPart (opening s) opening_line a held grown hand
part_customers s a b held holds grown hand hand' p q = record {
  text = p.text ++ made s.items;
  last = b;
  lines = lines_opening s a b p.text p.lines;
  written = part_second held holds grown hand hand' p.text (made s.items) p.sent q;
}

-- all clients
pub sent_client : (s : Settings) (n : ℕ) (a b : Lcg) (held holds grown : Option (List ℕ)) (hand hand' : List ℕ) →
    a ≡ stream_of s.seed (n + 1) → SentTasks s n held holds hand
    → SentLines (times_over (s.rounds * s.tasks) (task_of s)) (task_line (n + 1)) a b holds grown hand hand' →
    SentTasks s (n + 1) held grown hand'
sent_client s n a b held holds grown hand hand' = rw (plus_one n) (λ e p q. record {
  text = p.text ++ q.text;
  is = (
    p.text,
    q.text,
    p.is,
    (
      b,
      subst (λ (c : Lcg). DrawnLines (times_over (s.rounds * s.tasks) (task_of s))
          (task_line (suc n)) c b q.text) e q.lines,
    ),
    refl,
  );
  sent = sent_both held holds grown [] hand hand' p.text q.text p.sent q.sent;
})

-- a prefix of the text of the clients from 1 to n was written
record PartOf (s : Settings) (n : ℕ) (held holds : Option (List ℕ)) : Type 0 where
  pub text : List ℕ
  pub is : IsTextOf s n text
  pub written : AppendsPrefix held holds text

clients_longer : (s : Settings) (m n : ℕ) (held holds : Option (List ℕ)) → PartOf s n held holds →
    PartOf s (n + m) held holds
clients_longer s zero n held holds p = let e : n ≡ n + 0 = omega arith in subst (λ (k : ℕ). PartOf s k held holds) e p
clients_longer s (suc m) n held holds p =
    let e : suc (n + m) ≡ n + suc m = omega arith in
    let client = suc (n + m) in
    let q = clients_longer s m n held holds p in
    let more = times_total (s.rounds * s.tasks) (task_of s) (task_total s) (stream_of s.seed client) in
    let own = flat_map (task_line client) more.0 in
    subst (λ (k : ℕ). PartOf s k held holds) e (record {
      text = q.text ++ own;
      is = (q.text, own, q.is, (more.1, record { items = more.0; drawn = more.2; text_is = refl }), refl);
      written = prefix_longer held holds q.text own q.written;
    })

pub part_first_all : (s : Settings) (a : Lcg) (held holds : Option (List ℕ)) (hand : List ℕ)
    → a ≡ stream_of s.seed 0 → hand ≡ [] → SentInPart (opening s) opening_line a held holds hand →
    WroteTasksPrefix s held holds
part_first_all s a held holds hand e none p =
    let q = clients_longer s s.clients 0 held holds (record {
      text = p.text;
      is = (p.last, subst (λ (c : Lcg). DrawnLines (opening s) opening_line c p.last p.text) e p.lines);
      written = subst (λ (h : List ℕ). AppendsPrefix held holds (h ++ p.text)) none p.written;
    }) in
    let same : 0 + s.clients ≡ s.clients = omega arith in
    record { text = q.text; is = subst (λ (k : ℕ). IsTextOf s k q.text) same q.is; written = q.written }

pub part_client : (s : Settings) (n : ℕ) → n < s.clients → (a : Lcg) (held holds grown : Option (List ℕ))
    (hand : List ℕ) → a ≡ stream_of s.seed (n + 1) → SentTasks s n held holds hand
    → SentInPart (times_over (s.rounds * s.tasks) (task_of s)) (task_line (n + 1)) a holds grown hand →
    WroteTasksPrefix s held grown
part_client s n less a held holds grown hand = rw (plus_one n) (λ e p q.
    let r = clients_longer s (s.clients - suc n) (suc n) held grown (record {
      text = p.text ++ q.text;
      is = (
        p.text,
        q.text,
        p.is,
        (
          q.last,
          subst (λ (c : Lcg). DrawnLines (times_over (s.rounds * s.tasks) (task_of s))
              (task_line (suc n)) c q.last q.text) e q.lines,
        ),
        refl,
      );
      written = part_second held holds grown [] hand p.text q.text p.sent q.written;
    }) in
    let same : suc n + (s.clients - suc n) ≡ s.clients = omega (arith, less) in
    record { text = r.text; is = subst (λ (k : ℕ). IsTextOf s k r.text) same r.is; written = r.written })

-- the lines that were sent were written in part
pub part_rest : (s : Settings) (held holds grown : Option (List ℕ)) (hand : List ℕ) →
    SentTasks s s.clients held holds hand → AppendsPrefix holds grown hand → WroteTasksPrefix s held grown
part_rest s held holds grown hand p w = record {
  text = p.text;
  is = p.is;
  written = sent_end_in_part held holds grown hand p.text p.sent w;
}

-- nothing was written
pub none_of_tasks : (s : Settings) (held : Option (List ℕ)) → WroteTasksPrefix s held held
none_of_tasks s held =
    let first = opening_total s (stream_of s.seed 0) in
    let text = flat_map opening_line first.0 in
    part_first_all s (stream_of s.seed 0) held held [] refl refl (record {
      text = text;
      last = first.1;
      lines = record { items = first.0; drawn = first.2; text_is = refl };
      written = none_written held ([] ++ text);
    })
