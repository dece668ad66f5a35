-- Readings of a clock.
use Rattle.std.specs.Prelude.{◌≡◌, ℕ, max}

-- the clock was read once, and the stamp is the reading or the last stamp, whichever is later
pub record IsStamp {W : Type 0} (shows : W → ℕ → W → Type 0) (before after : W) (last stamp : ℕ)
    : Type 0 where
  pub reading : ℕ
  pub shown : shows before reading after
  pub stamp_is : stamp ≡ max reading last
