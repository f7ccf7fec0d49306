-- Bytes that hold one piece after another: laid out, and read.
use Rattle.std.specs.Prelude.{◌≡◌, ℕ, zero, suc, List, [], ◌∷◌, length, Some, None, Ok, Err, Option, Result}
use Rattle.records.specs.Layouts.{Chain}

-- bytes that begin with these pieces and have the bytes t left at the end; `One b x r` says that b is the piece x and then r
module _ {X : Type 0} (One : List ℕ → X → List ℕ → Type 0) where
  pub data Upto : List ℕ → List X → List ℕ → Type 0 where
    here : {t : List ℕ} → Upto t [] t
    on : {b r t : List ℕ} {x : X} {xs : List X} → One b x r → Upto r xs t → Upto b (x ∷ xs) t

-- what a reader finds at the front: nothing is left, a fault, or a piece and what follows it
pub data Step (X F : Type 0) : Type 0 where
  end : Step X F
  fault : F → Step X F
  item : X → List ℕ → Step X F

pub data Stop (F : Type 0) : Type 0 where
  clean : Stop F
  broken : F → Stop F

-- the pieces that were read, and how the reading stopped
pub record Reading (X F : Type 0) : Type 0 where
  pub found : List X
  pub stop : Stop F

module _ {X F : Type 0} where
  abbrev pub whole : List X → Reading X F
  whole xs = record { found = xs; stop = clean }

  abbrev pub after : X → Reading X F → Reading X F
  after x r = record { found = x ∷ r.found; stop = r.stop }

  abbrev pub on_step : (List ℕ → Reading X F) → Step X F → Reading X F
  on_step rest end = whole []
  on_step rest (fault e) = record { found = []; stop = broken e }
  on_step rest (item x r) = after x (rest r)

module _ {X F : Type 0} (step : List ℕ → Step X F) where
  -- in at most this many steps
  unfoldable pub read_by : ℕ → List ℕ → Reading X F
  read_by zero b = whole []
  read_by (suc f) b = on_step (read_by f) (step b)

  -- each step takes at least one byte, so the length is enough
  unfoldable pub reading : List ℕ → Reading X F
  reading b = read_by (length b) b

  -- reading without a fault gives xs exactly where the bytes are laid out as xs
  abbrev pub Reads : (List ℕ → X → List ℕ → Type 0) → Type 0
  Reads One = (b : List ℕ) (xs : List X) → (Chain One b xs → reading b ≡ whole xs) × (reading b ≡ whole xs → Chain One b xs)

  -- reading stops at the fault f after xs exactly where the bytes begin with xs, and what is left is at that fault
  abbrev pub Stops : (List ℕ → X → List ℕ → Type 0) → Type 0
  Stops One =
      (b : List ℕ) (xs : List X) (f : F) →
      (((t : List ℕ) × Upto One b xs t × (step t ≡ fault f)) → reading b ≡ record { found = xs; stop = broken f })
      × (reading b ≡ record { found = xs; stop = broken f } → (t : List ℕ) × Upto One b xs t × (step t ≡ fault f))

-- the step that an answer of a reader says, where it leaves the bytes `rest`
abbrev pub seen : {R X F : Type 0} → (R → X) → Option (Result R F) → List ℕ → Step X F
seen show None rest = end
seen show (Some (Err e)) rest = fault e
seen show (Some (Ok x)) rest = item (show x) rest

-- what is left after that step: at the end and at a fault nothing was taken
abbrev pub remaining : {X F : Type 0} → List ℕ → Step X F → List ℕ
remaining b end = b
remaining b (fault e) = b
remaining b (item x r) = r

-- what is left where a fault is the last that is handed out
abbrev pub beyond : {X F : Type 0} → List ℕ → Step X F → List ℕ
beyond b end = b
beyond b (fault e) = []
beyond b (item x r) = r

-- `next` at the bytes b gives r and leaves the bytes c
pub record Next {R X F : Type 0} (show : R → X) (front : List ℕ → Step X F) (b : List ℕ) (r : Option (Result R F)) (c : List ℕ) : Type 0 where
  pub step : front b ≡ seen show r c
  pub left : c ≡ beyond b (front b)
