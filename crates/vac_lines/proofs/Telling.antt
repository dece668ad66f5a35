-- The messages that a sink heard, one after the other.
use Rattle.std.proofs.Common.{◌≡◌, ℕ, true, false, cond, List, [], ◌∷◌, ◌++◌, Result, Ok, Err, refl, ap, sym, ◌∙◌}
use Rattle.std.proofs.Common.{subst, append-nil, append_assoc, length, take, ◌+◌, ◌<◌, nat_lt, Option, Some, None}
use Rattle.std.proofs.Common.{IfSome, inl, inr, ◌≢◌, IsErrAnd}
use Rattle.std.specs.Io.KnownBytes.{Consumes, IsAtEnd, Keeps}
use Rattle.std.proofs.KnownBytes.{Consumes-nil, Consumes-trans, Consumes-kept}
use Rattle.vac_lines.specs.declared.stream_fault.StreamFault.{StreamFault}
use Rattle.vac_lines.specs.declared.stream_fault.StreamFault.TheVariants.{Read, Write, Memory, Bound}
use Rattle.vac_lines.specs.declared.next.Next.{Next}
use Rattle.vac_lines.specs.declared.next.Next.TheVariants.{GoOn, Stop}
use Rattle.vac_lines.specs.Told.{Message, Line, LongLine, Pause, message_of, line_messages, lines_in}
use Rattle.vac_lines.specs.Heard.{ReceivedAll, ReceivedLast, AreFirst, AreFirstOf, HeardAll, HeardLast, HeardFirst}
use Rattle.vac_lines.specs.Heard.{Heard}
use Rattle.vac_lines.specs.Feeding.{HasBegun, FedAll, FedLast, Fed, EndedAll, EndedLast, Ended}
use Rattle.vac_lines.proofs.LineCuts.{HasNoEnd, told_cut, told_moved, told_last, told_none}

-- the lines of two lists of messages
pub lines_both : (a b : List Message) → lines_in (a ++ b) ≡ lines_in a ++ lines_in b
lines_both [] b = refl
lines_both (Line text ∷ a) b = ap (λ t. Line text ∷ t) (lines_both a b)
lines_both (LongLine ∷ a) b = ap (λ t. LongLine ∷ t) (lines_both a b)
lines_both (Pause ∷ a) b = lines_both a b

-- the message of a line is no pause
one_line : (longest : ℕ) (line : List ℕ) → lines_in (message_of longest line ∷ []) ≡ message_of longest line ∷ []
one_line longest line =
    elim (nat_lt longest (length line)) as (λ v. lines_in (cond v LongLine (Line line) ∷ []) ≡ cond v LongLine
    (Line line) ∷ []) [ true ↦ refl | false ↦ refl ]

-- one more line
lines_more : (longest : ℕ) (told : List Message) (line : List ℕ)
    → lines_in (told ++ message_of longest line ∷ []) ≡ lines_in told ++ message_of longest line ∷ []
lines_more longest told line = lines_both told (message_of longest line ∷ [])
    ∙ ap (λ t. lines_in told ++ t) (one_line longest line)

-- one more pause
lines_paused : (told : List Message) → lines_in (told ++ Pause ∷ []) ≡ lines_in told
lines_paused told = lines_both told (Pause ∷ []) ∙ append-nil (lines_in told)

module _ {S O : Type 0} (hears : S → O → Message → Result Next StreamFault → S → O → Type 0) where
  pub told_nothing : (s : S) (o : O) → ReceivedAll hears s o [] s o
  told_nothing s o = (refl, refl)

  -- the sink heard one more message
  pub told_more : (s : S) (o : O) (told : List Message) (x : Message) (t : S) (p : O) (u : S) (q : O)
      → ReceivedAll hears s o told t p → hears t p x (Ok GoOn) u q
      → ReceivedAll hears s o (told ++ x ∷ []) u q
  told_more s o [] x t p u q h k = (
    u,
    q,
    subst (λ z. hears z o x (Ok GoOn) u q) h.0
        (subst (λ z. hears t z x (Ok GoOn) u q) h.1 k),
    (refl, refl),
  )
  told_more s o (y ∷ told) x t p u q h k = (h.0, h.1, h.2, told_more h.0 h.1 told x t p u q h.3 k)

  -- two parts
  pub told_both : (s : S) (o : O) (a b : List Message) (t : S) (p : O) (u : S) (q : O) → ReceivedAll hears s o a t p
      → ReceivedAll hears t p b u q → ReceivedAll hears s o (a ++ b) u q
  told_both s o [] b t p u q h k = subst (λ z. ReceivedAll hears z o b u q) h.0
      (subst (λ z. ReceivedAll hears t z b u q) h.1 k)
  told_both s o (y ∷ a) b t p u q h k = (h.0, h.1, h.2, told_both h.0 h.1 a b t p u q h.3 k)

  told_then_last : (s : S) (o : O) (a b : List Message) (r : Result Next StreamFault) (t : S) (p : O) (u : S) (q : O)
      → ReceivedAll hears s o a t p → ReceivedLast hears t p b r u q → ReceivedLast hears s o (a ++ b) r u q
  told_then_last s o a b r t p u q h k = record {
    before = a ++ k.before;
    last = k.last;
    all = ap (λ z. a ++ z) k.all ∙ sym (append_assoc a k.before (k.last ∷ []));
    sink = k.sink;
    output = k.output;
    first = told_both s o a k.before t p k.sink k.output h k.first;
    then = k.then;
  }

  ended_by : (s : S) (o : O) (told : List Message) (x : Message) (r : Result Next StreamFault) (t : S) (p : O) (u : S)
      (q : O) → ReceivedAll hears s o told t p → hears t p x r u q → ReceivedLast hears s o (told ++ x ∷ []) r u q
  ended_by s o told x r t p u q h k = record {
    before = told;
    last = x;
    all = refl;
    sink = t;
    output = p;
    first = h;
    then = k;
  }

  -- the part of a chunk that was passed so far: whatever follows the chunk follows the rest
  pub record FedTo (longest : ℕ) (line0 line chunk rest : List ℕ) (s : S) (o : O) (t : S) (p : O) : Type 0 where
    pub told : List Message
    pub only : lines_in told ≡ told
    pub heard : ReceivedAll hears s o told t p
    pub same : (x : List ℕ) → line_messages longest (line0 ++ (chunk ++ x)) ≡ lines_in told ++ line_messages longest
        (line ++ (rest ++ x))

  pub fed_first : (longest : ℕ) (line chunk : List ℕ) (s : S) (o : O) → FedTo longest line line chunk chunk s o s o
  fed_first longest line chunk s o = record { told = []; only = refl; heard = told_nothing s o; same = λ x. refl }

  -- one more line
  pub fed_line : (longest : ℕ) (line0 start chunk rest line behind after : List ℕ) (s : S) (o : O) (t : S) (p : O)
      (u : S) (q : O) → FedTo longest line0 start chunk rest s o t p
      → HasNoEnd start → HasNoEnd line → rest ≡ line ++ 10 ∷ behind
      → hears t p (message_of longest (start ++ line)) (Ok GoOn) u q → after ≡ []
      → FedTo longest line0 after chunk behind s o u q
  fed_line longest line0 start chunk rest line behind after s o t p u q f h g e k z =
      let x = message_of longest (start ++ line) in
      record {
        told = f.told ++ x ∷ [];
        only = lines_more longest f.told (start ++ line) ∙ ap (λ l. l ++ x ∷ []) f.only;
        heard = told_more s o f.told x t p u q f.heard k;
        same = λ y. f.same y ∙ ap (λ l. lines_in f.told ++ l) (told_cut longest start line behind rest y h g e)
            ∙ sym (append_assoc (lines_in f.told) (x ∷ []) (line_messages longest (behind ++ y)))
            ∙ ap (λ l. l ++ line_messages longest (behind ++ y)) (sym (lines_more longest f.told (start ++ line)))
            ∙ ap (λ l. lines_in (f.told ++ x ∷ []) ++ line_messages longest (l ++ (behind ++ y))) (sym z);
      }

  -- the sink's answer to a line ended the reading
  pub fed_last : (longest : ℕ) (line0 start chunk rest line behind : List ℕ) (r : Result Next StreamFault) (s : S)
      (o : O) (t : S) (p : O) (u : S) (q : O) → FedTo longest line0 start chunk rest s o t p
      → HasNoEnd start → HasNoEnd line → rest ≡ line ++ 10 ∷ behind
      → hears t p (message_of longest (start ++ line)) r u q → FedLast hears longest r line0 chunk s o u q
  fed_last longest line0 start chunk rest line behind r s o t p u q f h g e k =
      let x = message_of longest (start ++ line) in
      record {
        told = f.told ++ x ∷ [];
        heard = ended_by s o f.told x r t p u q f.heard k;
        first = λ y. (
          line_messages longest (behind ++ y),
          f.same y ∙ ap (λ l. lines_in f.told ++ l) (told_cut longest start line behind rest y h g e)
              ∙ sym (append_assoc (lines_in f.told) (x ∷ []) (line_messages longest (behind ++ y)))
              ∙ ap (λ l. l ++ line_messages longest (behind ++ y)) (sym (lines_more longest f.told (start ++ line))),
        );
      }

  -- the rest is kept
  pub fed_rest : (longest : ℕ) (line0 start chunk rest after : List ℕ) (s : S) (o : O) (t : S) (p : O)
      → FedTo longest line0 start chunk rest s o t p
      → HasNoEnd start → HasNoEnd rest → after ≡ take (longest + 1) (start ++ rest)
      → FedTo longest line0 after chunk [] s o t p
  fed_rest longest line0 start chunk rest after s o t p f h g e = record {
    told = f.told;
    only = f.only;
    heard = f.heard;
    same = λ x. f.same x ∙ ap (λ l. lines_in f.told ++ l) (told_moved longest start rest after x h g e);
  }

  -- the sink heard a pause, and wants more
  paused_on : (longest : ℕ) (line0 line chunk : List ℕ) (s : S) (o : O) (t : S) (p : O) (u : S) (q : O)
      → FedTo longest line0 line chunk [] s o t p
      → HasBegun longest line → hears t p Pause (Ok GoOn) u q → FedAll hears longest line0 line chunk s o u q
  paused_on longest line0 line chunk s o t p u q f b k = record {
    begun = b;
    lines = f.told;
    only = f.only;
    told = f.told ++ Pause ∷ [];
    paused = refl;
    heard = told_more s o f.told Pause t p u q f.heard k;
    same = λ x. f.same x ∙ ap (λ l. l ++ line_messages longest (line ++ x)) (sym (lines_paused f.told));
  }

  -- the sink's answer to a pause ended the reading
  paused_last : (longest : ℕ) (line0 line chunk : List ℕ) (r : Result Next StreamFault) (s : S) (o : O) (t : S)
      (p : O) (u : S) (q : O) → FedTo longest line0 line chunk [] s o t p
      → hears t p Pause r u q → FedLast hears longest r line0 chunk s o u q
  paused_last longest line0 line chunk r s o t p u q f k = record {
    told = f.told ++ Pause ∷ [];
    heard = ended_by s o f.told Pause r t p u q f.heard k;
    first = λ x. (
      line_messages longest (line ++ x),
      f.same x
          ∙ ap (λ l. l ++ line_messages longest (line ++ x)) (sym (lines_paused f.told)),
    );
  }

  pub fed_paused : (longest : ℕ) (line0 line chunk : List ℕ) (r : Result Next StreamFault) (s : S) (o : O) (t : S)
      (p : O) (u : S) (q : O) → FedTo longest line0 line chunk [] s o t p
      → HasBegun longest line → hears t p Pause r u q → Fed hears longest r line0 line chunk s o u q
  fed_paused longest line0 line chunk (Ok GoOn) s o t p u q f b k = paused_on longest line0 line chunk s o t p u q f b k
  fed_paused longest line0 line chunk (Ok Stop) s o t p u q f b k = paused_last longest line0 line chunk (Ok Stop) s o
      t p u q f k
  fed_paused longest line0 line chunk (Err fault) s o t p u q f b k = paused_last longest line0 line chunk (Err fault)
      s o t p u q f k

  -- the last line
  pub ended_nothing : (longest : ℕ) (line : List ℕ) (s : S) (o : O) → line ≡ []
      → Ended hears longest (Ok GoOn) line s o s o
  ended_nothing longest line s o e = record {
    told = [];
    heard = told_nothing s o;
    same = sym
        (told_none longest line e);
  }

  last_all : (longest : ℕ) (line : List ℕ) (s : S) (o : O) (t : S) (p : O) → HasNoEnd line → 0 < length line
      → hears s o (message_of longest line) (Ok GoOn) t p → EndedAll hears longest line s o t p
  last_all longest line s o t p h n k = record {
    told = message_of longest line ∷ [];
    heard = (t, p, k, (refl, refl));
    same = one_line longest line ∙ sym (told_last longest line h n);
  }

  last_last : (longest : ℕ) (line : List ℕ) (r : Result Next StreamFault) (s : S) (o : O) (t : S) (p : O)
      → HasNoEnd line → 0 < length line → hears s o (message_of longest line) r t p
      → EndedLast hears longest r line s o t p
  last_last longest line r s o t p h n k = record {
    told = message_of longest line ∷ [];
    heard = ended_by s o [] (message_of longest line) r s o t p (told_nothing s o) k;
    first = (
      [],
      told_last longest line h n ∙ sym (append-nil (lines_in (message_of longest line ∷ []))
          ∙ one_line longest line),
    );
  }

  pub ended_line : (longest : ℕ) (line : List ℕ) (r : Result Next StreamFault) (s : S) (o : O) (t : S) (p : O)
      → HasNoEnd line → 0 < length line
      → hears s o (message_of longest (line ++ [])) r t p → Ended hears longest r line s o t p
  ended_line longest line (Ok GoOn) s o t p h n k = last_all longest line s o t p h n
      (subst (λ l. hears s o (message_of longest l) (Ok GoOn) t p) (append-nil line) k)
  ended_line longest line (Ok Stop) s o t p h n k = last_last longest line (Ok Stop) s o t p h n
      (subst (λ l. hears s o (message_of longest l) (Ok Stop) t p) (append-nil line) k)
  ended_line longest line (Err fault) s o t p h n k = last_last longest line (Err fault) s o t p h n
      (subst (λ l. hears s o (message_of longest l) (Err fault) t p) (append-nil line) k)

  -- the part of the input that was read so far: whatever follows, the lines are those passed and
  -- those of the line that has begun
  pub record HeardTo (longest : ℕ) (unread left : Option (List ℕ)) (line : List ℕ) (s : S) (o : O) (t : S)
      (p : O) : Type 0 where
    pub bytes : List ℕ
    pub consumed : Consumes unread left bytes
    pub told : List Message
    pub heard : ReceivedAll hears s o told t p
    pub same : (x : List ℕ) → line_messages longest (bytes ++ x) ≡ lines_in told ++ line_messages longest (line ++ x)

  pub heard_nothing : (longest : ℕ) (unread : Option (List ℕ)) (line : List ℕ) (s : S) (o : O) → line ≡ []
      → HeardTo longest unread unread line s o s o
  heard_nothing longest unread line s o e = record {
    bytes = [];
    consumed = Consumes-nil unread;
    told = [];
    heard = told_nothing s o;
    same = λ x. ap (λ l. line_messages longest (l ++ x)) (sym e);
  }

  -- nothing was read
  pub heard_kept : (longest : ℕ) (unread left now : Option (List ℕ)) (line : List ℕ) (s : S) (o : O) (t : S) (p : O)
      → HeardTo longest unread left line s o t p → Keeps left now → HeardTo longest unread now line s o t p
  heard_kept longest unread left now line s o t p h k = record {
    bytes = h.bytes;
    consumed = Consumes-kept unread left now h.bytes h.consumed k;
    told = h.told;
    heard = h.heard;
    same = h.same;
  }

  -- a chunk was read, and its lines were passed
  pub heard_on : (longest : ℕ) (unread left now : Option (List ℕ)) (line line' chunk : List ℕ) (s : S) (o : O) (t : S)
      (p : O) (u : S) (q : O) → HeardTo longest unread left line s o t p
      → Consumes left now chunk → FedAll hears longest line line' chunk t p u q
      → HeardTo longest unread now line' s o u q
  heard_on longest unread left now line line' chunk s o t p u q h c f = record {
    bytes = h.bytes ++ chunk;
    consumed = Consumes-trans unread left now h.bytes chunk h.consumed c;
    told = h.told ++ f.told;
    heard = told_both s o h.told f.told t p u q h.heard f.heard;
    same = λ x. ap (line_messages longest) (append_assoc h.bytes chunk x) ∙ h.same (chunk ++ x)
        ∙ ap (λ l. lines_in h.told ++ l) (f.same x)
        ∙ sym (append_assoc (lines_in h.told) (lines_in f.told) (line_messages longest (line' ++ x)))
        ∙ ap (λ l. l ++ line_messages longest (line' ++ x)) (sym (lines_both h.told f.told));
  }

  -- first lines of the following text, after the lines passed, are first lines of the whole text
  first_both : (longest : ℕ) (a b : List Message) (text rest : List ℕ)
      → line_messages longest text ≡ lines_in a ++ line_messages longest rest → AreFirst longest (lines_in b) rest
      → AreFirst longest (lines_in (a ++ b)) text
  first_both longest a b text rest e f = (
    f.0,
    e ∙ ap (λ l. lines_in a ++ l) f.1 ∙ sym (append_assoc (lines_in a) (lines_in b) f.0)
        ∙ ap (λ l. l ++ f.0) (sym (lines_both a b)),
  )

  -- a chunk was read, and the sink ended the reading
  pub heard_last : (longest : ℕ) (r : Result Next StreamFault) (unread left now : Option (List ℕ))
      (line chunk : List ℕ) (s : S) (o : O) (t : S) (p : O) (u : S) (q : O) → HeardTo longest unread left line s o t p
      → Consumes left now chunk → FedLast hears longest r line chunk t p u q
      → HeardLast hears longest r unread now s o u q
  heard_last longest r unread left now line chunk s o t p u q h c f = record {
    bytes = h.bytes ++ chunk;
    consumed = Consumes-trans unread left now h.bytes chunk h.consumed c;
    told = h.told ++ f.told;
    heard = told_then_last s o h.told f.told r t p u q h.heard f.heard;
    first = inr (λ x. first_both longest h.told f.told ((h.bytes ++ chunk) ++ x) (line ++ (chunk ++ x))
        (ap (line_messages longest) (append_assoc h.bytes chunk x) ∙ h.same (chunk ++ x)) (f.first x));
  }

  -- all lines so far are first lines of the whole
  pub heard_first : (longest : ℕ) (unread left : Option (List ℕ)) (line : List ℕ) (s : S) (o : O) (t : S) (p : O)
      → HeardTo longest unread left line s o t p → HeardFirst hears longest unread left s o t p
  heard_first longest unread left line s o t p h = record {
    bytes = h.bytes;
    consumed = h.consumed;
    told = h.told;
    heard = h.heard;
    first = λ x. (line_messages longest (line ++ x), h.same x);
  }

  -- the lines of the whole
  whole : (longest : ℕ) (unread left : Option (List ℕ)) (line : List ℕ) (s : S) (o : O) (t : S) (p : O)
      (h : HeardTo longest unread left line s o t p)
      → line_messages longest h.bytes ≡ lines_in h.told ++ line_messages longest line
  whole longest unread left line s o t p h = ap (line_messages longest) (sym (append-nil h.bytes)) ∙ h.same []
      ∙ ap (λ l. lines_in h.told ++ line_messages longest l) (append-nil line)

  same_bytes : (unread left now : Option (List ℕ)) (bytes : List ℕ) → Consumes unread left bytes
      → Consumes left now [] → Consumes unread now bytes
  same_bytes unread left now bytes h c = subst (Consumes unread now) (append-nil bytes)
      (Consumes-trans unread left now bytes [] h c)

  end_all : (longest : ℕ) (unread left now : Option (List ℕ)) (line : List ℕ) (s : S) (o : O) (t : S) (p : O) (u : S)
      (q : O) → HeardTo longest unread left line s o t p
      → Consumes left now [] → IsAtEnd now → EndedAll hears longest line t p u q
      → HeardAll hears longest unread now s o u q
  end_all longest unread left now line s o t p u q h c e f = record {
    bytes = h.bytes;
    consumed = same_bytes unread left now h.bytes h.consumed c;
    ended = e;
    told = h.told ++ f.told;
    heard = told_both s o h.told f.told t p u q h.heard f.heard;
    lines = lines_both h.told f.told ∙ ap (λ l. lines_in h.told ++ l) f.same
        ∙ sym (whole longest unread left line s o t p h);
  }

  end_last : (longest : ℕ) (r : Result Next StreamFault) (unread left now : Option (List ℕ)) (line : List ℕ) (s : S)
      (o : O) (t : S) (p : O) (u : S) (q : O) → HeardTo longest unread left line s o t p
      → Consumes left now [] → IsAtEnd now → EndedLast hears longest r line t p u q
      → HeardLast hears longest r unread now s o u q
  end_last longest r unread left now line s o t p u q h c e f = record {
    bytes = h.bytes;
    consumed = same_bytes unread left now h.bytes h.consumed c;
    told = h.told ++ f.told;
    heard = told_then_last s o h.told f.told r t p u q h.heard f.heard;
    first = inl (e, first_both longest h.told f.told h.bytes line (whole longest unread left line s o t p h) f.first);
  }

  -- the end of the input was read
  pub heard_end : (longest : ℕ) (r : Result Next StreamFault) (unread left now : Option (List ℕ)) (line : List ℕ)
      (s : S) (o : O) (t : S) (p : O) (u : S) (q : O) → HeardTo longest unread left line s o t p
      → Consumes left now [] → IsAtEnd now → Ended hears longest r line t p u q
      → Heard hears longest r unread now s o u q
  heard_end longest (Ok GoOn) unread left now line s o t p u q h c e f = end_all longest unread left now line s o t p
      u q h c e f
  heard_end longest (Ok Stop) unread left now line s o t p u q h c e f = end_last longest (Ok Stop) unread left now
      line s o t p u q h c e f
  heard_end longest (Err fault) unread left now line s o t p u q h c e f = inl
      (end_last longest (Err fault) unread left now line s o t p u q h c e f)

  -- the fault of the sink is passed on
  pub fed_err : (longest : ℕ) (r : Result Next StreamFault) (fault : StreamFault) (line0 line chunk : List ℕ) (s : S)
      (o : O) (t : S) (p : O) → IsErrAnd r (λ e. e ≡ fault)
      → FedLast hears longest (Err fault) line0 chunk s o t p → Fed hears longest r line0 line chunk s o t p
  fed_err longest (Ok next) fault line0 line chunk s o t p e f = absurd e
  fed_err longest (Err other) fault line0 line chunk s o t p e f = subst
      (λ x. FedLast hears longest (Err x) line0 chunk s o t p) (sym e) f

  pub heard_err : (longest : ℕ) (r : Result Next StreamFault) (fault : StreamFault) (unread left : Option (List ℕ))
      (s : S) (o : O) (t : S) (p : O) → IsErrAnd r (λ e. e ≡ fault)
      → HeardLast hears longest (Err fault) unread left s o t p → Heard hears longest r unread left s o t p
  heard_err longest (Ok next) fault unread left s o t p e h = absurd e
  heard_err longest (Err other) fault unread left s o t p e h = inl
      (subst (λ x. HeardLast hears longest (Err x) unread left s o t p) (sym e) h)

  -- a fault of the reading itself
  pub heard_stopped : (longest : ℕ) (r : Result Next StreamFault) (fault : StreamFault)
      (unread left : Option (List ℕ)) (line : List ℕ) (s : S) (o : O) (t : S) (p : O) → IsErrAnd r (λ e. e ≡ fault)
      → fault ≢ Write
      → HeardTo longest unread left line s o t p → Heard hears longest r unread left s o t p
  heard_stopped longest (Ok next) fault unread left line s o t p e n h = absurd e
  heard_stopped longest (Err other) fault unread left line s o t p e n h =
      inr (subst (λ x. x ≢ Write) (sym e) n, heard_first longest unread left line s o t p h)

  -- memory was refused before anything was read
  pub heard_none : (longest : ℕ) (r : Result Next StreamFault) (unread : Option (List ℕ)) (s : S) (o : O)
      → IsErrAnd r (λ e. e ≡ Memory) → Heard hears longest r unread unread s o s o
  heard_none longest r unread s o e = heard_stopped longest r Memory unread unread [] s o s o e
      (λ w. let q : Memory ≡ Write = w in cc) (heard_nothing longest unread [] s o refl)

  -- a read failed
  pub heard_failed : (longest : ℕ) (unread left : Option (List ℕ)) (line : List ℕ) (s : S) (o : O) (t : S) (p : O)
      → HeardTo longest unread left line s o t p → Heard hears longest (Err Read) unread left s o t p
  heard_failed longest unread left line s o t p h = inr
      (λ w. let q : Read ≡ Write = w in cc, heard_first longest unread left line s o t p h)

  -- there were too many reads
  pub heard_bound : (longest : ℕ) (unread left : Option (List ℕ)) (line : List ℕ) (s : S) (o : O) (t : S) (p : O)
      → HeardTo longest unread left line s o t p → Heard hears longest (Err Bound) unread left s o t p
  heard_bound longest unread left line s o t p h = inr
      (λ w. let q : Bound ≡ Write = w in cc, heard_first longest unread left line s o t p h)

  -- the effect of a chunk, by the sink's answer
  pub fed_more : (longest same : ℕ) (next : Next) (line0 line chunk : List ℕ) (s : S) (o : O) (t : S) (p : O)
      → same ≡ longest → next ≡ GoOn → Fed hears same (Ok next) line0 line chunk s o t p
      → FedAll hears longest line0 line chunk s o t p
  fed_more longest same next line0 line chunk s o t p l e f = subst
      (λ m. Fed hears m (Ok GoOn) line0 line chunk s o t p) l
      (subst (λ n. Fed hears same (Ok n) line0 line chunk s o t p) e f)

  pub fed_enough : (longest same : ℕ) (next : Next) (line0 line chunk : List ℕ) (s : S) (o : O) (t : S) (p : O)
      → same ≡ longest → next ≡ Stop → Fed hears same (Ok next) line0 line chunk s o t p
      → FedLast hears longest (Ok Stop) line0 chunk s o t p
  fed_enough longest same next line0 line chunk s o t p l e f = subst
      (λ m. Fed hears m (Ok Stop) line0 line chunk s o t p) l
      (subst (λ n. Fed hears same (Ok n) line0 line chunk s o t p) e f)

-- lines that are first whatever follows are first lines of the bytes read
pub first_of_read : (longest : ℕ) (lines : List Message) (bytes : List ℕ) (left : Option (List ℕ))
    → AreFirstOf longest lines bytes left → AreFirst longest lines bytes
first_of_read longest lines bytes left (inl f) = f.1
first_of_read longest lines bytes left (inr f) = subst (AreFirst longest lines) (append-nil bytes) (f [])

-- they are first lines of the whole input
pub first_of_input : (longest : ℕ) (lines : List Message) (bytes : List ℕ) (unread left : Option (List ℕ))
    → Consumes unread left bytes → AreFirstOf longest lines bytes left
    → IfSome unread (λ input. AreFirst longest lines input)
first_of_input longest lines bytes None left c f = tt
first_of_input longest lines bytes (Some input) None c f = absurd c
first_of_input longest lines bytes (Some input) (Some rest) c (inl f) =
    subst (AreFirst longest lines) (sym (c ∙ ap (λ l. bytes ++ l) f.0 ∙ append-nil bytes)) f.1
first_of_input longest lines bytes (Some input) (Some rest) c (inr f) = subst (AreFirst longest lines) (sym c) (f rest)

-- the lines of an input that was read to its end are those of the whole input
pub all_of_input : (unread left : Option (List ℕ)) (bytes : List ℕ) → Consumes unread left bytes → IsAtEnd left
    → IfSome unread (λ input. input ≡ bytes)
all_of_input None left bytes c e = tt
all_of_input (Some input) None bytes c e = absurd c
all_of_input (Some input) (Some rest) bytes c e = c ∙ ap (λ l. bytes ++ l) e ∙ append-nil bytes
