-- The verdict on a text of attempts of which only the committed writers have places.
use Rattle.std.specs.Prelude.{◌≡◌, ◌↔◌, ℕ, Bool, true, false, Option, List, [], codes}
use Rattle.std.specs.Io.KnownBytes.{Appends, Consumes, IsAtEnd}
use Rattle.vac_lines.specs.Script.{as_line}
use Rattle.vac_lines.specs.Writing.{AppendsPrefix}
use Rattle.vac_lines.specs.declared.stream_fault.StreamFault.{StreamFault}
use Rattle.vac_lines.specs.declared.stream_fault.StreamFault.TheVariants as fault
use Rattle.judge_opacity.specs.declared.placed.Placed.{Placed}
use Rattle.judge_opacity.specs.declared.placed.Placed.TheVariants as placed
use Rattle.judge_opacity.specs.declared.finding.Counts.{Counts}
use Rattle.judge_opacity.specs.declared.finding.Finding.TheVariants.{Opaque, Fault}
use Rattle.judge_opacity.specs.Attempt.{Attempt}
use Rattle.judge_opacity.specs.Verdict.{verdict_text}
use Rattle.judge_opacity.specs.Laws.{ListsAttempts}
use Rattle.judge_opacity.specs.Placing.{IsPlaceable, IsPlaceableText}
use Rattle.judge_opacity.specs.Logs.{HasFirstFault, IsPlacedAs}

-- each line is an attempt, and the attempts have places, with these counts
pub record HasPlaces (words : ℕ) (bytes : List ℕ) (counts : Counts) : Type 0 where
  pub attempts : List Attempt
  pub listed : ListsAttempts words bytes attempts
  pub placed : IsPlacedAs attempts counts

-- each line is an attempt, and the attempts have no places
pub record HasNoPlaces (words : ℕ) (bytes : List ℕ) : Type 0 where
  pub attempts : List Attempt
  pub listed : ListsAttempts words bytes attempts
  pub none : IsPlaceable attempts → ⊥

-- the verdict holds of the text
abbrev pub IsPlacedText : ℕ → List ℕ → Placed → Type 0
IsPlacedText words bytes (placed.Opaque counts) = HasPlaces words bytes counts
IsPlacedText words bytes (placed.Fault line fault) = HasFirstFault words bytes line fault
IsPlacedText words bytes placed.NoPlaces = HasNoPlaces words bytes

-- the text of a verdict, without a line end
abbrev pub placed_verdict_text : Placed → List ℕ
placed_verdict_text (placed.Opaque counts) = verdict_text (Opaque counts)
placed_verdict_text (placed.Fault line fault) = verdict_text (Fault line fault)
placed_verdict_text placed.NoPlaces = codes "illegal places"

-- the output for a verdict
abbrev pub placed_text : Placed → List ℕ
placed_text verdict = as_line (placed_verdict_text verdict)

-- true if the verdict is that the attempts are opaque in some order
abbrev pub is_placed : Placed → Bool
is_placed (placed.Opaque counts) = true
is_placed (placed.Fault line fault) = false
is_placed placed.NoPlaces = false

-- a verdict that holds of a text is opaque if and only if each line of the text is an attempt and
-- some places make an order that shows that the attempts are opaque
abbrev pub PlacedIsOpacity : Type 0
PlacedIsOpacity = (words : ℕ) (bytes : List ℕ) (verdict : Placed) →
    IsPlacedText words bytes verdict →
    (is_placed verdict ≡ true) ↔ IsPlaceableText words bytes

-- an input was read to its end, and its bytes are these
-- Not said: anything of the bytes of a stream that no contract describes.
pub record IsReadWhole (unread left : Option (List ℕ)) (bytes : List ℕ) : Type 0 where
  pub consumed : Consumes unread left bytes
  pub at_end : IsAtEnd left

-- the input was read to its end, exactly the text of a verdict that holds of its bytes was written,
-- and the returned value is true if that verdict is opaque
pub record HasPlaced (words : ℕ) (opaque : Bool) (unread left held holds : Option (List ℕ)) :
    Type 0 where
  pub bytes : List ℕ
  pub read : IsReadWhole unread left bytes
  pub verdict : Placed
  pub is : IsPlacedText words bytes verdict
  pub answered : opaque ≡ is_placed verdict
  pub written : Appends held holds (placed_text verdict)

-- the input was read to its end, and a prefix of the text of a verdict that holds of its bytes was
-- written
pub record HasPlacedInPart (words : ℕ) (unread left held holds : Option (List ℕ)) : Type 0 where
  pub bytes : List ℕ
  pub read : IsReadWhole unread left bytes
  pub verdict : Placed
  pub is : IsPlacedText words bytes verdict
  pub written : AppendsPrefix held holds (placed_text verdict)

-- a fault ended the judging. After a fault of the output a prefix of the verdict was written, after
-- any other fault nothing
-- Not said: which of Read, Memory and Bound ends the judging before anything is written; that the
-- output failed if Write is returned, since no contract describes the results of a reader or a
-- writer.
abbrev pub HasStoppedPlacing : ℕ → StreamFault → Option (List ℕ) → Option (List ℕ)
    → Option (List ℕ) → Option (List ℕ) → Type 0
HasStoppedPlacing words fault.Write unread left held holds =
    HasPlacedInPart words unread left held holds
HasStoppedPlacing words fault unread left held holds = Appends held holds []
