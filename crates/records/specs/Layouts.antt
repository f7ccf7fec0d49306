-- The layouts of netlink(7) and rtnetlink(7): which bytes are an attribute, a row of attributes, a message, a datagram.
use Rattle.std.specs.Prelude.{◌≡◌, ℕ, ◌+◌, ◌≤◌, ◌⊎◌, List, [], ◌∷◌, ◌++◌, length, replicate}
use Rattle.records.specs.Words.{le2, le4}
use Rattle.records.specs.Align.{fill}

-- bytes laid out as these pieces, one after the other; `One b x r` says that b is the piece x and then the bytes r
module _ {X : Type 0} (One : List ℕ → X → List ℕ → Type 0) where
  pub data Chain : List ℕ → List X → Type 0 where
    none : Chain [] []
    more : {b r : List ℕ} {x : X} {xs : List X} → One b x r → Chain r xs → Chain b (x ∷ xs)

pub record Attribute : Type 0 where
  pub kind : ℕ
  pub payload : List ℕ

-- b is one attribute, padded to a multiple of 4, and then r: its length field counts header and payload, and no padding
pub record AttributeAt (b : List ℕ) (a : Attribute) (r : List ℕ) : Type 0 where
  pub header : List ℕ
  pub padding : List ℕ
  pub bytes : b ≡ header ++ (a.payload ++ (padding ++ r))
  pub four : length header ≡ 4
  pub len : le2 header 0 ≡ 4 + length a.payload
  pub kind : le2 header 2 ≡ a.kind
  pub pads : length padding ≡ fill (4 + length a.payload)

-- a row of attributes
abbrev pub Row : List ℕ → List Attribute → Type 0
Row = Chain AttributeAt

-- the same, where all padding is zero
pub record ZeroPaddedAt (b : List ℕ) (a : Attribute) (r : List ℕ) : Type 0 where
  pub stands : AttributeAt b a r
  pub zeros : stands.padding ≡ replicate (fill (4 + length a.payload)) 0

abbrev pub ZeroPaddedRow : List ℕ → List Attribute → Type 0
ZeroPaddedRow = Chain ZeroPaddedAt

pub record Message : Type 0 where
  pub kind : ℕ
  pub flags : ℕ
  pub seq : ℕ
  pub port : ℕ
  pub payload : List ℕ

-- b is one message, padded to a multiple of 4 unless nothing follows, and then r: its length field counts header and payload
pub record MessageAt (b : List ℕ) (m : Message) (r : List ℕ) : Type 0 where
  pub header : List ℕ
  pub padding : List ℕ
  pub bytes : b ≡ header ++ (m.payload ++ (padding ++ r))
  pub sixteen : length header ≡ 16
  pub len : le4 header 0 ≡ 16 + length m.payload
  pub kind : le2 header 4 ≡ m.kind
  pub flags : le2 header 6 ≡ m.flags
  pub seq : le4 header 8 ≡ m.seq
  pub port : le4 header 12 ≡ m.port
  pub few : length padding ≤ fill (16 + length m.payload)
  pub pads : (length padding ≡ fill (16 + length m.payload)) ⊎ (r ≡ [])

-- the messages of a datagram
abbrev pub Messages : List ℕ → List Message → Type 0
Messages = Chain MessageAt
