-- The order of calls is one of three numbers, one after the other.
use Rattle.std.proofs.Common.{◌≡◌, ◌&&◌, ◌||◌, arith, Bool, true, false, eqb, ltb, ℕ}
use Rattle.std.proofs.lemmas.Bool.Decides.{nat_tests}
use Rattle.vac_manager.specs.declared.note.CompletedCall.{CompletedCall}
use Rattle.stm_object.specs.Places.{rank_of}
use Rattle.load_record.specs.Order.{precedes}

-- by the first numbers, then by the second ones, then by the third ones
abbrev below : ℕ → ℕ → ℕ → ℕ → ℕ → ℕ → Bool
below a b c x y z = ltb a x || (eqb a x && (ltb b y || (eqb b y && ltb c z)))

below_chain : (a b c k l m x y z : ℕ) → below a b c k l m ≡ false → below k l m x y z ≡ false →
    below a b c x y z ≡ false
below_chain a b c k l m x y z p q = grind (arith, nat_tests, p, q)

below_turns : (a b c x y z : ℕ) → below a b c x y z ≡ true → below x y z a b c ≡ false
below_turns a b c x y z p = grind (arith, nat_tests, p)

below_self : (a b c : ℕ) → below a b c a b c ≡ false
below_self a b c = grind (arith, nat_tests)

pub precedes_chain : (a b c : CompletedCall) → precedes a b ≡ false → precedes b c ≡ false → precedes a c ≡ false
precedes_chain a b c p q =
    below_chain a.place.renewal (rank_of a.place) a.begin b.place.renewal (rank_of b.place) b.begin c.place.renewal
    (rank_of c.place) c.begin p q

pub precedes_turns : (a b : CompletedCall) → precedes a b ≡ true → precedes b a ≡ false
precedes_turns a b p = below_turns a.place.renewal (rank_of a.place) a.begin b.place.renewal (rank_of b.place) b.begin p

pub precedes_self : (a : CompletedCall) → precedes a a ≡ false
precedes_self a = below_self a.place.renewal (rank_of a.place) a.begin
