-- From what a command does to the memory under one image to what it does under all of them.
use Rattle.std.proofs.Common.{◌≡◌, ℕ, ◌<◌, List, [], length, refl, sym, ap, ◌∙◌, subst, arith, true}
use Rattle.tx_memory.specs.View.{View, Sees, Words, memory}
use Rattle.vac_model.specs.declared.items.Kind.{Kind}
use Rattle.vac_model.specs.declared.commands.Command.{Command}
use Rattle.vac_model.specs.declared.replies.Reply.{Reply}
use Rattle.vac_model.specs.Ranges.{is_command}
use Rattle.vac_model.specs.State.{State, kind_number}
use Rattle.vac_model.specs.Step.{step}
use Rattle.tx_alloc.specs.Rows.{Rows, block_at}
use Rattle.vac_records.specs.Items.{mem}
use Rattle.vac_records.specs.Represents.{Represents, IsState}
use Rattle.vac_records.specs.InMemory.{OnlyRead}
use Rattle.vac_records.specs.Laws.{Stays}
use Rattle.vac_records.specs.Steps.{kept_both}
use Rattle.vac_records.proofs.Shifts.{kind_small}
use Rattle.vac_records.proofs.Single.{one_shape}
use Rattle.vac_tasks.specs.Entries.{item_block, customer_block, ItemsStay, CustomersStay}
use Rattle.vac_tasks.specs.BookingSteps.{Lands, ServesCommand}
use Rattle.vac_tasks.specs.Ran.{IsOutcome, Ran}
use Rattle.vac_tasks.proofs.Held.{outcome_of, untouched_reads, untouched_after, idle_reads, idle_after}

-- a command that ran under all images, with items and customers in the same blocks as before
pub record RanInPlace (s s' : View) (c : Command) (r : Reply) : Type 0 where
  pub ran : Ran s s' c r
  pub items : ItemsStay s s'
  pub customers : CustomersStay s s'

-- the tables in which the state after the command stands
tables_stay : (m m' : ℕ → ℕ) (n : ℕ) (s t : State) (c : Command) (r : Reply) (h : IsState m n s) (h' : IsState m' n t) →
    Lands h m' c r →
    (i : ℕ) → i < 4 → h'.represents.parts.tables i ≡ h.represents.parts.tables i
tables_stay m m' n s t c r h h' l i less = one_shape m' n [] [] l.state t l.stays.after h'.represents i less ∙
    l.stays.tables i less

-- where what landed is known of one state, so are the blocks
pub item_lands : (m m' : ℕ → ℕ) (n : ℕ) (s t : State) (c : Command) (r : Reply) (h : IsState m n s)
    (h' : IsState m' n t) → Lands h m' c r → (kind : Kind) (id : ℕ) → item_block h' kind id ≡ item_block h kind id
item_lands m m' n s t c r h h' l kind id =
    let small = kind_small kind in
    let four : kind_number kind < 4 = omega (arith, small) in
    ap (λ (rs : Rows). block_at rs id) (tables_stay m m' n s t c r h h' l (kind_number kind) four)

pub customer_lands : (m m' : ℕ → ℕ) (n : ℕ) (s t : State) (c : Command) (r : Reply) (h : IsState m n s)
    (h' : IsState m' n t) → Lands h m' c r → (id : ℕ) → customer_block h' id ≡ customer_block h id
customer_lands m m' n s t c r h h' l id =
    let four : 3 < 4 = omega arith in
    ap (λ (rs : Rows). block_at rs id) (tables_stay m m' n s t c r h h' l 3 four)

pub outcome_lands : (m m' : ℕ → ℕ) (n : ℕ) (s : State) (c : Command) (r : Reply) (h : IsState m n s) →
    is_command c ≡ true → Lands h m' c r → IsOutcome m' n (step s c) r
outcome_lands m m' n s c r h range l = outcome_of m m' n s l.state c r h range l.is l.stays.after

-- P holds under every image
pub in_place : (s s' : View) (c : Command) (r : Reply) (P : (m : ℕ → ℕ) (n : ℕ) (state : State) → IsState m n state →
    Type 0) → is_command c ≡ true → ServesCommand s s' c r P →
    ((image : List ℕ) (state : State) → Sees s' image → (h : IsState (mem s image) (length image) state) →
    P (mem s image) (length image) state h) → RanInPlace s s' c r
in_place s s' c r P range v all = record {
  ran = record {
    kept = v.kept;
    untouched = v.untouched;
    idle = v.idle;
    outcome = λ image state i h. outcome_lands (mem s image) (mem s' image) (length image) state c r h range
        (v.lands image state i h (all image state i h));
  };
  items = record {
    stay = λ image state state' i h h' kind id. item_lands (mem s image) (mem s' image)
        (length image) state state' c r h h' (v.lands image state i h (all image state i h)) kind id;
  };
  customers = record {
    stay = λ image state state' i h h' id. customer_lands (mem s image) (mem s' image)
        (length image) state state' c r h h' (v.lands image state i h (all image state i h)) id;
  };
}

-- a command that only reads
read_stays : (s s' : View) (image : List ℕ) (n : ℕ) (state : State) (h : Represents (mem s image) n [] state) →
    s'.writes ≡ s.writes → Stays h (mem s' image) [] state
read_stays s s' image n state h w =
    subst (λ (z : Words). Stays h (memory image z) [] state) (sym w) (record { after = h; tables = λ i l. refl })

pub reads_serve : (s s' : View) (c : Command) (r : Reply) (P : (m : ℕ → ℕ) (n : ℕ) (state : State) → IsState m n state →
    Type 0) → OnlyRead s s' →
    ((image : List ℕ) (state : State) → Sees s' image → (h : IsState (mem s image) (length image) state) →
    P (mem s image) (length image) state h → step state c ≡ (state, r)) → ServesCommand s s' c r P
reads_serve s s' c r P k e = record {
  kept = k.kept;
  untouched = untouched_reads s s' r k.writes;
  idle = idle_reads s s' c k.writes;
  lands = λ image state i h p. record {
    state = state;
    is = e image state i h p;
    stays = read_stays s s' image (length image) state h.represents k.writes;
  };
}

-- a command that runs after reads
pub serves_after : (s s1 s' : View) (c : Command) (r : Reply) (P : (m : ℕ → ℕ) (n : ℕ) (state : State) →
    IsState m n state → Type 0) → OnlyRead s s1 → ServesCommand s1 s' c r P → ServesCommand s s' c r P
serves_after s s1 s' c r P k v = record {
  kept = kept_both s s1 s' k.kept v.kept;
  untouched = untouched_after s s1 s' r k.writes v.untouched;
  idle = idle_after s s1 s' c k.writes v.idle;
  lands = λ image state i. subst (λ (z : Words). (h : IsState (memory image z) (length image) state) →
      P (memory image z) (length image) state h → Lands h (mem s' image) c r) k.writes (v.lands image state i);
}

-- less is asked where more follows
pub serves_where : (s s' : View) (c : Command) (r : Reply) (P Q : (m : ℕ → ℕ) (n : ℕ) (state : State) →
    IsState m n state → Type 0) → ServesCommand s s' c r Q →
    ((image : List ℕ) (state : State) → Sees s' image → (h : IsState (mem s image) (length image) state) →
    P (mem s image) (length image) state h → Q (mem s image) (length image) state h) → ServesCommand s s' c r P
serves_where s s' c r P Q v more = record {
  kept = v.kept;
  untouched = v.untouched;
  idle = v.idle;
  lands = λ image state i h p. v.lands image state i h (more image state i h p);
}
