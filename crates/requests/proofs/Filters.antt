-- A filter with a program: the pieces that are written are its message. Assumes nothing.
use Rattle.std.proofs.Common.{◌≡◌, ℕ, ◌+◌, List, [], ◌∷◌, ◌++◌, map, length, Some, None, Option, sym, refl, ap, ◌∙◌, arith}
use Rattle.std.specs.Option.{option_map}
use Rattle.std.proofs.lemmas.List.{length-append, append-nil}
use Rattle.records.specs.Words.{bytes2, bytes4}
use Rattle.records.specs.Align.{padded}
use Rattle.records.specs.Fields.{tcmsg_bytes}
use Rattle.records.specs.Layouts.{Attribute}
use Rattle.records.specs.declared.tcmsg.Tcmsg.{Tcmsg}
use Rattle.requests.specs.Table.{optional, bpf_items, nest}
use Rattle.requests.specs.Bytes.{attribute_bytes, row_bytes, attribute_of, optional_length}
use Rattle.requests.specs.Builders.{tc_bytes}
use Rattle.requests.specs.Writing.{Puts}
use Rattle.requests.proofs.Putting.{puts_both, puts_same}
use Rattle.requests.proofs.Rows.{attribute_length, nested_bytes_lem}
use Rattle.requests.proofs.Messages.{header_bytes, with_payload, message_length, message_puts}

-- the attributes of a filter
abbrev kind_attribute : Attribute
kind_attribute = record { kind = 1; payload = 98 ∷ 112 ∷ 102 ∷ 0 ∷ [] }

abbrev word : ℕ → ℕ → Attribute
word k x = record { kind = k; payload = bytes4 x }

abbrev name_attribute : List ℕ → Attribute
name_attribute n = record { kind = 7; payload = n ++ (0 ∷ []) }

module _ (class : Option ℕ) (fd : ℕ) (name : List ℕ) (bf : ℕ) where
  abbrev options : List Attribute
  options = optional 3 (option_map bytes4 class) ++ (word 6 fd ∷ name_attribute name ∷ word 8 bf ∷ [])

  abbrev option_pieces : List ℕ
  option_pieces = row_bytes (optional 3 (option_map bytes4 class)) ++ (attribute_bytes (word 6 fd) ++ (attribute_bytes (name_attribute name) ++ attribute_bytes (word 8 bf)))

options_row : (class : Option ℕ) (fd : ℕ) (name : List ℕ) (bf : ℕ) → option_pieces class fd name bf ≡ row_bytes (options class fd name bf)
options_row None fd name bf = refl
options_row (Some c) fd name bf = refl

optional_length_lem : (class : Option ℕ) → length (row_bytes (optional 3 (option_map bytes4 class))) ≡ optional_length class
optional_length_lem None = refl
optional_length_lem (Some c) = refl

-- the options take so many bytes
pub options_length : (class : Option ℕ) (fd : ℕ) (name : List ℕ) (bf : ℕ) → 4 + length (row_bytes (options class fd name bf)) ≡ 24 + optional_length class + padded (length name + 1)
options_length class fd name bf =
    let e = ap length (options_row class fd name bf) in
    let o = optional_length_lem class in
    let a = attribute_length (name_attribute name) in
    let n = length-append name (0 ∷ []) in
    let p = length-append (row_bytes (optional 3 (option_map bytes4 class))) (attribute_bytes (word 6 fd) ++ (attribute_bytes (name_attribute name) ++ attribute_bytes (word 8 bf))) in
    let q = length-append (attribute_bytes (name_attribute name)) (attribute_bytes (word 8 bf)) in
    omega arith

-- the items of a filter in bytes
abbrev rest_pieces : ℕ → Option ℕ → ℕ → List ℕ → ℕ → List ℕ
rest_pieces nested class fd name bf = attribute_bytes kind_attribute ++ ((bytes2 nested ++ bytes2 32770) ++ option_pieces class fd name bf)

module _ (class : Option ℕ) (fd : ℕ) (name : List ℕ) (bf : ℕ) where
  abbrev item_bytes : List ℕ
  item_bytes = row_bytes (map attribute_of (bpf_items class fd name bf))

  abbrev nested_bytes : List ℕ
  nested_bytes = attribute_bytes (attribute_of (nest 2 (options class fd name bf)))

  rest_is : (nested : ℕ) → nested ≡ 24 + optional_length class + padded (length name + 1) → rest_pieces nested class fd name bf ≡ item_bytes
  rest_is nested e =
      let l = options_length class fd name bf in
      let n : nested ≡ 4 + length (row_bytes (options class fd name bf)) = omega arith in
      ap (λ (k : ℕ). rest_pieces k class fd name bf) n
      ∙ ap (λ (y : List ℕ). attribute_bytes kind_attribute ++ ((bytes2 (4 + length (row_bytes (options class fd name bf))) ++ bytes2 32770) ++ y)) (options_row class fd name bf)
      ∙ ap (λ (y : List ℕ). attribute_bytes kind_attribute ++ y) (sym (nested_bytes_lem 2 (options class fd name bf)))
      ∙ ap (λ (y : List ℕ). attribute_bytes kind_attribute ++ y) (sym (append-nil nested_bytes))

  items_length : length item_bytes ≡ 8 + (24 + optional_length class + padded (length name + 1))
  items_length =
      let l = options_length class fd name bf in
      let n = ap length (nested_bytes_lem 2 (options class fd name bf)) in
      let a = ap length (append-nil nested_bytes) in
      omega arith

  pub filter_length : (flags : ℕ) (family : Tcmsg) → length (tc_bytes 44 flags family (bpf_items class fd name bf)) ≡ 68 + optional_length class + padded (length name + 1)
  unfolding tc_bytes
  filter_length flags family =
      omega (arith, message_length (with_payload 44 flags (tcmsg_bytes family ++ item_bytes)), items_length, length-append (tcmsg_bytes family) item_bytes)

  pub filter_puts : (o0 o1 o2 o3 o4 o5 o6 o7 : List ℕ) (i1 i2 i3 i4 i5 i6 i7 : ℕ) (flags : ℕ) (family : Tcmsg) (len nested : ℕ) (w : Option ℕ) → w ≡ class →
      nested ≡ 24 + optional_length class + padded (length name + 1) → len ≡ 44 + nested →
      Puts o0 o1 0 i1 (header_bytes len 44 flags ++ tcmsg_bytes family) → Puts o1 o2 i1 i2 (attribute_bytes kind_attribute) → Puts o2 o3 i2 i3 (bytes2 nested ++ bytes2 32770) →
      Puts o3 o4 i3 i4 (row_bytes (optional 3 (option_map bytes4 w))) → Puts o4 o5 i4 i5 (attribute_bytes (word 6 fd)) → Puts o5 o6 i5 i6 (attribute_bytes (name_attribute name)) →
      Puts o6 o7 i6 i7 (attribute_bytes (word 8 bf)) →
      Puts o0 o7 0 i7 (tc_bytes 44 flags family (bpf_items class fd name bf))
  unfolding tc_bytes
  filter_puts o0 o1 o2 o3 o4 o5 o6 o7 i1 i2 i3 i4 i5 i6 i7 flags family len nested w c n l p1 p2 p3 p4 p5 p6 p7 =
      let q4 = puts_same o3 o4 _ _ i3 i4 (ap (λ (x : Option ℕ). row_bytes (optional 3 (option_map bytes4 x))) c) p4 in
      let rest = puts_both o1 o2 o7 _ _ i1 i2 i7 p2
      (puts_both o2 o3 o7 _ _ i2 i3 i7 p3 (puts_both o3 o4 o7 _ _ i3 i4 i7 q4 (puts_both o4 o5 o7 _ _ i4 i5 i7 p5 (puts_both o5 o6 o7 _ _ i5 i6 i7 p6 p7)))) in
      message_puts o0 o1 o7 i1 i7 44 flags len (tcmsg_bytes family) (rest_pieces nested class fd name bf) item_bytes (rest_is nested n)
      (omega (arith, items_length, length-append (tcmsg_bytes family) item_bytes)) p1 rest
