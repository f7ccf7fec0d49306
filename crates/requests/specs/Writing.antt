-- Writing piece by piece.
use Rattle.std.specs.Prelude.{◌≡◌, ℕ, ◌+◌, ◌≤◌, List, ◌++◌, length, drop}
use Rattle.requests.specs.declared.writer.Writer.{Writer}

-- a buffer that held e now begins with the bytes w, up to the place `at`; the rest is as it was
pub record Begun (out w : List ℕ) (at : ℕ) (e : List ℕ) : Type 0 where
  pub len : length w ≡ at
  pub is : out ≡ w ++ drop at e

-- the step from one buffer to the next wrote a piece at the place `at`, and ended at the place `end`
abbrev pub Puts : List ℕ → List ℕ → ℕ → ℕ → List ℕ → Type 0
Puts before after at end piece = (w e : List ℕ) → Begun before w at e → Begun after (w ++ piece) end e

-- there is room for n bytes more
abbrev pub Room : Writer → ℕ → Type 0
Room w n = w.at + n ≤ length w.out.now

-- a writer put a piece of n bytes behind what it had written, into the same buffer
pub record Wrote (before after : Writer) (n : ℕ) (piece : List ℕ) : Type 0 where
  pub same : after.out.ghost_name ≡ before.out.ghost_name
  pub room : length after.out.now ≡ length before.out.now
  pub end : after.at ≡ before.at + n
  pub puts : Puts before.out.now after.out.now before.at after.at piece
