-- That a request is laid out as netlink(7) and rtnetlink(7) have it.
use Rattle.std.specs.Prelude.{ℕ, ◌+◌, List, [], ◌∷◌, ◌++◌}
use Rattle.records.specs.Layouts.{Attribute, ZeroPaddedRow, MessageAt}
use Rattle.requests.specs.Asks.{Ask}
use Rattle.requests.specs.Table.{Item, value, nest, type_of, flags_of, family_of, items_of}

-- an attribute in bytes is the item of the table: its value, or a row of attributes under a type with 0x8000 in it
pub data Is : Attribute → Item → Type 0 where
  plain : {kind : ℕ} {payload : List ℕ} → Is (record { kind = kind; payload = payload }) (value kind payload)
  nested : {kind : ℕ} {payload : List ℕ} {row : List Attribute} → ZeroPaddedRow payload row → Is (record { kind = 0x8000 + kind; payload = payload }) (nest kind row)

pub data Are : List Attribute → List Item → Type 0 where
  none : Are [] []
  more : {a : Attribute} {i : Item} {rest : List Attribute} {items : List Item} → Is a i → Are rest items → Are (a ∷ rest) (i ∷ items)

-- b is one message of this type and these flags, with sequence number 1 and port 0, and nothing behind it:
-- the family header and then a row of the attributes that the table has
pub record Stands (b : List ℕ) (x : Ask) : Type 0 where
  pub row : List ℕ
  pub attributes : List Attribute
  pub message : MessageAt b (record { kind = type_of x; flags = flags_of x; seq = 1; port = 0; payload = family_of x ++ row }) []
  pub laid : ZeroPaddedRow row attributes
  pub items : Are attributes (items_of x)
